-- Document 02, No. 5, "The radio link cuts segments anywhere": a machine over bytes. A reading goes on with each byte (`step`), and a lump is
-- the fold of it (`run`), so that it makes no difference where a segment is cut (`run-append`). What it tells after all bytes is what the
-- whole segment says (`whole_told_lem`). The body of the one movie fragment is kept; every other body is counted and not kept.
use Rattle.std.specs.Prelude.{Bool, true, false, cond, List, [], ◌∷◌, ◌++◌, ℕ, zero, suc, ◌-◌, length, drop, ltb, eqb, Result, Ok}
use Rattle.boxes.specs.Boxes.{be4, be8, refused}
use Rattle.boxes.specs.declared.Malformed.{Malformed}
use Rattle.segments.specs.Listings.{moof_kind}
use Rattle.lumps.specs.declared.Begun.{Begun}
use Rattle.lumps.specs.declared.Begun.TheVariants.{More, Stuck, Large, Opens}

-- "lumps of up to 65,536 bytes", "the first 65,536 of a lent buffer", "at most 65,536 bytes"
abbrev pub most : ℕ
most = 65536

-- where a reading stands: in a header, with these bytes of it met, none between two boxes; in the body of a box that is passed over or kept,
-- with so many bytes still to come; past a size under its header, where no box can be told any more; past the header of a movie fragment box
-- that is too large
pub data Doing : Type 0 where
  heading : List ℕ → Doing
  passing : ℕ → Doing
  keeping : ℕ → Doing
  stuck : Doing
  large : Doing

-- with it, how many movie fragments were met (two stand for more), and the bytes of the first one's body so far
pub record Reading : Type 0 where
  pub doing : Doing
  pub fragments : ℕ
  pub kept : List ℕ

abbrev pub fresh : Reading
fresh = record { doing = heading []; fragments = 0; kept = [] }

-- ---- a header

-- a box of this header length and size: stuck under its header; "a larger movie fragment box is refused 14 as soon as its size is read"
abbrev pub opens_of : List ℕ → ℕ → ℕ → Begun
opens_of l header size =
    cond (ltb size header) Stuck
    (cond (eqb (be4 (drop 4 l)) moof_kind)
    (cond (ltb most size) Large (Opens (be4 (drop 4 l)) (size - header)))
    (Opens (be4 (drop 4 l)) (size - header)))

-- what the header bytes met so far begin: 8 of them, or 16 where the first 4 are the number 1, say the size and the type
abbrev pub begun_of : List ℕ → Begun
begun_of l =
    cond (eqb (length l) 8)
    (cond (eqb (be4 l) 1) More (opens_of l 8 (be4 l)))
    (cond (eqb (length l) 16) (opens_of l 16 (be8 (drop 8 l))) More)

-- ---- one byte

-- in a body with so many bytes still to come: between two boxes if none
abbrev pub going : (ℕ → Doing) → ℕ → Doing
going f zero = heading []
going f (suc k) = f (suc k)

-- a movie fragment's body: the first one is kept
abbrev pub fragment_opens : ℕ → List ℕ → ℕ → Reading
fragment_opens zero kept left = record { doing = going keeping left; fragments = 1; kept = [] }
fragment_opens (suc n) kept left = record { doing = going passing left; fragments = 2; kept = kept }

abbrev pub begins : Begun → List ℕ → ℕ → List ℕ → Reading
begins More l n kept = record { doing = heading l; fragments = n; kept = kept }
begins Stuck l n kept = record { doing = stuck; fragments = n; kept = kept }
begins Large l n kept = record { doing = large; fragments = n; kept = kept }
begins (Opens kind left) l n kept = cond (eqb kind moof_kind) (fragment_opens n kept left) (record { doing = going passing left; fragments = n; kept = kept })

abbrev pub stepping : Doing → ℕ → List ℕ → ℕ → Reading
stepping (heading l) n kept b = begins (begun_of (l ++ (b ∷ []))) (l ++ (b ∷ [])) n kept
stepping (passing k) n kept b = record { doing = going passing (k - 1); fragments = n; kept = kept }
stepping (keeping k) n kept b = record { doing = going keeping (k - 1); fragments = n; kept = kept ++ (b ∷ []) }
stepping stuck n kept b = record { doing = stuck; fragments = n; kept = kept }
stepping large n kept b = record { doing = large; fragments = n; kept = kept }

abbrev pub step : Reading → ℕ → Reading
step r b = stepping r.doing r.fragments r.kept b

-- ---- a lump of bytes

abbrev pub run : Reading → List ℕ → Reading
run r [] = r
run r (b ∷ s) = run (step r b) s

-- ---- what is told when no more comes

-- that a movie fragment box is too large; or the body of the one movie fragment, none where it is missing or doubled or the bytes are not made
-- of boxes
pub data Told : Type 0 where
  too_large : Told
  framed : Result (List ℕ) Malformed → Told

abbrev pub verdict : ℕ → List ℕ → Result (List ℕ) Malformed
verdict zero kept = refused
verdict (suc zero) kept = Ok kept
verdict (suc (suc n)) kept = refused

-- only between two boxes is a segment whole
abbrev pub telling : Doing → ℕ → List ℕ → Told
telling (heading []) n kept = framed (verdict n kept)
telling (heading (b ∷ l)) n kept = framed refused
telling (passing k) n kept = framed refused
telling (keeping k) n kept = framed refused
telling stuck n kept = framed refused
telling large n kept = too_large

abbrev pub tell : Reading → Told
tell r = telling r.doing r.fragments r.kept

-- whether it is past a movie fragment box that is too large
abbrev pub is_large : Doing → Bool
is_large (heading l) = false
is_large (passing k) = false
is_large (keeping k) = false
is_large stuck = false
is_large large = true
