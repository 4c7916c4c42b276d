-- A header with one byte more: what it begins, and the reader that holds it. Assumes nothing.
use mathlib.Core.Path.{◌≡◌, refl, sym, ap, ◌∙◌}
use mathlib.Core.List.{List, [], ◌∷◌, ◌++◌}
use Prim.Native.Nat.{ℕ, suc, ◌+◌, ◌-◌, ◌≤◌, ◌<◌}
use native.Mathlib.Omega.{arith}
use native.Mathlib.Decide.{dec_le}
use native.Mathlib.Numerals.{add-one}
use borrow.Author.Tests.{eqb-true, eqb-false}
use lib.ListN.{length, take, drop, set, replicate, length-set, take-append-drop}
use lib.Seq.{take-suc-set, length-take-le, drop-set-lt, get_or-set_other, drop-append-add}
use lib.Dec.{ltb, eqb}
use Rattle.laws.proofs.BoolLaws.{by-test}
use Rattle.boxes.specs.Boxes.{be4, be8}
use Rattle.segments.specs.Listings.{moof_kind}
use Rattle.lumps.specs.Readings.{most, heading, opens_of, begun_of, begins, stepping}
use Rattle.lumps.specs.Scans.{FitsIn, Fits, Shows}
use Rattle.lumps.specs.declared.Begun.{Begun}
use Rattle.lumps.specs.declared.Begun.TheVariants as begun
use Rattle.lumps.specs.declared.LumpReader.{LumpReader}
use Rattle.lumps.specs.declared.Phase.TheVariants.{Heading}
use Rattle.lumps.proofs.WholeLaws.{be4-append}

-- while more of a header is to come it is short, and 8 bytes of it announce a 64-bit size
abbrev Waits : List ℕ → Begun → Type 0
Waits l begun.More = (length l < 16) × (length l ≡ 8 → be4 l ≡ 1)
Waits l begun.Stuck = Unit {0}
Waits l begun.Large = Unit {0}
Waits l (begun.Opens kind left) = Unit {0}

opens-waits : (l : List ℕ) (h size : ℕ) → Waits l (opens_of l h size)
opens-waits l h size =
    by-test (Waits l) (ltb size h) (λ _. tt)
    (λ _. by-test (Waits l) (eqb (be4 (drop 4 l)) moof_kind) (λ _. by-test (Waits l) (ltb most size) (λ _. tt) (λ _. tt)) (λ _. tt))

begun-waits : (l : List ℕ) → length l ≤ 16 → Waits l (begun_of l)
begun-waits l h =
    by-test (Waits l) (eqb (length l) 8)
    (λ e. by-test (Waits l) (eqb (be4 l) 1) (λ o. (omega (arith, eqb-true (length l) 8 e), λ _. eqb-true (be4 l) 1 o)) (λ _. opens-waits l 8 (be4 l)))
    (λ n. by-test (Waits l) (eqb (length l) 16) (λ _. opens-waits l 16 (be8 (drop 8 l))) (λ m. (omega (arith, eqb-false (length l) 16 m), λ e. absurd (eqb-false (length l) 8 n e))))

-- a byte past the first four leaves their number
be4-set : (l : List ℕ) (i b : ℕ) → 4 ≤ i → be4 (set l i b) ≡ be4 l
unfolding be4
be4-set l i b h =
    let e₀ = get_or-set_other l i 0 b 0 (λ e. absurd (omega arith)) in
    let e₁ = get_or-set_other l i 1 b 0 (λ e. absurd (omega arith)) in
    let e₂ = get_or-set_other l i 2 b 0 (λ e. absurd (omega arith)) in
    let e₃ = get_or-set_other l i 3 b 0 (λ e. absurd (omega arith)) in
    simp (e₀, e₁, e₂, e₃)

module _ (r : LumpReader) (b : ℕ) (f : Fits r) (g : FitsIn Heading r) where
  abbrev longer : List ℕ
  longer = take (r.seen + 1) (set r.head r.seen b)

  pub longer-length : length longer ≡ r.seen + 1
  longer-length = length-take-le (r.seen + 1) (set r.head r.seen b) (rw (length-set r.head r.seen b) (omega (arith, f.bytes, g.0)))

  longer-is : longer ≡ take r.seen r.head ++ (b ∷ [])
  longer-is = rw add-one (take-suc-set r.head r.seen b (omega (arith, f.bytes, g.0)))

  -- what the definition makes of the byte, from what the longer header begins
  pub header-begins : (x : Begun) (kept : List ℕ) → x ≡ begun_of longer → begins x longer r.fragments kept ≡ stepping (heading (take r.seen r.head)) r.fragments kept b
  header-begins x kept e =
      ap (λ (y : Begun). begins y longer r.fragments kept) e
      ∙ ap (λ (l : List ℕ). begins (begun_of l) l r.fragments kept) longer-is

  -- the rest of the header's places are zeros still
  zeros-after : drop (r.seen + 1) (set r.head r.seen b) ≡ replicate (16 - (r.seen + 1)) 0
  zeros-after =
      let n : length (take r.seen r.head) ≡ r.seen = length-take-le r.seen r.head (omega (arith, f.bytes, g.0)) in
      let k : 16 - r.seen ≡ suc (16 - (r.seen + 1)) = omega (arith, g.0) in
      drop-set-lt (r.seen + 1) r.head r.seen b (omega arith)
      ∙ ap (λ (x : List ℕ). drop (r.seen + 1) x) f.head
      ∙ ap (λ (i : ℕ). drop (i + 1) (take r.seen r.head ++ replicate (16 - r.seen) 0)) (sym n)
      ∙ drop-append-add (take r.seen r.head) (replicate (16 - r.seen) 0) 1
      ∙ ap (λ (i : ℕ). drop 1 (replicate i 0)) k

  module _ (e : begun.More ≡ begun_of longer) where
    waits : (r.seen + 1 < 16) × (r.seen + 1 ≡ 8 → be4 longer ≡ 1)
    waits = rw longer-length at (rw (sym e) at (begun-waits longer (rw longer-length (omega (arith, g.0)))))

    announced : 8 ≤ r.seen + 1 → be4 (set r.head r.seen b) ≡ 1
    announced h = go (dec_le 8 r.seen)
      where
        go : Dec (8 ≤ r.seen) → be4 (set r.head r.seen b) ≡ 1
        go (yes k) = be4-set r.head r.seen b (omega arith) ∙ g.2 k
        go (no k) =
            ap be4 (sym (take-append-drop (r.seen + 1) (set r.head r.seen b)))
            ∙ be4-append longer (drop (r.seen + 1) (set r.head r.seen b)) (rw longer-length (omega arith))
            ∙ waits.1 (omega arith)

    -- the reader with the longer header
    pub more-shows : Shows (record { phase = Heading; head = set r.head r.seen b; seen = r.seen + 1; left = 0; fragments = r.fragments; kept = r.kept }) r.kept
        (λ k. stepping (heading (take r.seen r.head)) r.fragments k b)
    more-shows = record {
      reads = λ kept _. header-begins begun.More kept e;
      fits = record {
        phase = (waits.0, refl, announced);
        bytes = length-set r.head r.seen b ∙ f.bytes;
        head = sym (take-append-drop (r.seen + 1) (set r.head r.seen b)) ∙ ap (λ (x : List ℕ). longer ++ x) zeros-after;
        fragments = f.fragments;
        kept = f.kept;
        none = f.none;
      };
      kept = refl;
    }
