-- What holds of every reading that bytes lead to from a fresh one: each byte keeps it (`fair-run`). Laid out, such a reading is a reader that
-- meets the condition, and it is read back as it was. Assumes nothing.
use mathlib.Core.Path.{◌≡◌, refl, sym, ap, ◌∙◌}
use mathlib.Core.Bool.{Bool, true, false}
use mathlib.Core.List.{List, [], ◌∷◌, ◌++◌}
use Prim.Native.Nat.{ℕ, zero, suc, ◌+◌, ◌-◌, ◌≤◌, ◌<◌}
use native.Mathlib.Omega.{arith}
use native.Mathlib.Decide.{dec_le}
use borrow.Author.Tests.{ltb-false, eqb-true, eqb-false}
use lib.ListN.{length, take, drop, replicate, length-append, length-replicate}
use lib.Seq.{take_at}
use lib.Dec.{ltb, eqb}
use Rattle.laws.proofs.BoolLaws.{by-test, both_ways}
use Rattle.boxes.specs.Boxes.{be4, be8}
use Rattle.segments.specs.Listings.{moof_kind}
use Rattle.lumps.specs.Cuts.{IsBytes}
use Rattle.lumps.specs.Readers.{doing_of, reading_of, laid_out, reader_of, kept_in, most_kept, most_left, good_reader}
use Rattle.lumps.specs.Readings.{most, Doing, heading, passing, keeping, stuck, large, Reading, fresh, opens_of, begun_of, going, fragment_opens, begins, stepping, step, run, is_large}
use Rattle.lumps.specs.Scans.{Fits}
use Rattle.lumps.specs.declared.Begun.{Begun}
use Rattle.lumps.specs.declared.Begun.TheVariants as begun
use Rattle.lumps.specs.declared.Phase.{Phase}
use Rattle.lumps.specs.declared.Phase.TheVariants.{Heading, Passing, Keeping, Stuck, Large}
use Rattle.lumps.proofs.ByteLaws.{bytes-append, be4-bound, be8-bound}
use Rattle.lumps.proofs.ReaderLaws.{fits-good}
use Rattle.lumps.proofs.WholeLaws.{be4-append}

-- ---- what holds of a reading

abbrev IsFairIn : Doing → ℕ → ℕ → Type 0
IsFairIn (heading l) n k = (length l < 16) × (8 ≤ length l → be4 l ≡ 1) × IsBytes l
IsFairIn (passing j) n k = (0 < j) × (j ≤ most_left)
IsFairIn (keeping j) n k = (0 < j) × (k + j ≤ most_kept) × (n ≡ 1)
IsFairIn stuck n k = Unit {0}
IsFairIn large n k = Unit {0}

pub record IsFair (x : Reading) : Type 0 where
  pub doing : IsFairIn x.doing x.fragments (length x.kept)
  pub fragments : x.fragments ≤ 2
  pub kept : length x.kept ≤ most_kept
  pub none : x.fragments ≡ 0 → length x.kept ≡ 0

no_header : (n k : ℕ) → IsFairIn (heading []) n k
no_header n k = (omega arith, λ h. absurd (omega arith), tt)

pub fair-fresh : IsFair fresh
fair-fresh = record { doing = no_header 0 0; fragments = omega arith; kept = omega arith; none = λ _. refl }

-- ---- a header

-- what its bytes begin
abbrev IsSound : List ℕ → Begun → Type 0
IsSound l begun.More = (length l < 16) × (length l ≡ 8 → be4 l ≡ 1)
IsSound l begun.Stuck = Unit {0}
IsSound l begun.Large = Unit {0}
IsSound l (begun.Opens kind left) = (left ≤ most_left) × (kind ≡ moof_kind → left ≤ most_kept)

opens-sound : (l : List ℕ) (h size : ℕ) → 8 ≤ h → size ≤ most_left + h → IsSound l (opens_of l h size)
opens-sound l h size a b =
    by-test (IsSound l) (ltb size h) (λ _. tt)
    (λ u. by-test (IsSound l) (eqb (be4 (drop 4 l)) moof_kind)
    (λ m. by-test (IsSound l) (ltb most size) (λ _. tt) (λ o. (omega arith, λ _. omega (arith, ltb-false most size o))))
    (λ m. (omega arith, λ e. absurd (eqb-false (be4 (drop 4 l)) moof_kind m e))))

begun-sound : (l : List ℕ) → length l ≤ 16 → IsBytes l → IsSound l (begun_of l)
begun-sound l h b =
    by-test (IsSound l) (eqb (length l) 8)
    (λ e. by-test (IsSound l) (eqb (be4 l) 1) (λ o. (omega (arith, eqb-true (length l) 8 e), λ _. eqb-true (be4 l) 1 o)) (λ _. opens-sound l 8 (be4 l) (omega arith) (omega (arith, be4-bound l 0 b))))
    (λ n. by-test (IsSound l) (eqb (length l) 16) (λ _. opens-sound l 16 (be8 (drop 8 l)) (omega arith) (omega (arith, be8-bound l 8 b)))
    (λ m. (omega (arith, eqb-false (length l) 16 m), λ e. absurd (eqb-false (length l) 8 n e))))

-- ---- one byte

going-passing : (j n k : ℕ) → j ≤ most_left → IsFairIn (going passing j) n k
going-passing zero n k h = no_header n k
going-passing (suc j) n k h = (omega arith, h)

going-keeping : (j n k : ℕ) → k + j ≤ most_kept → n ≡ 1 → IsFairIn (going keeping j) n k
going-keeping zero n k h e = no_header n k
going-keeping (suc j) n k h e = (omega arith, h, e)

module _ (n : ℕ) (kept : List ℕ) (a : n ≤ 2) (b : length kept ≤ most_kept) (c : n ≡ 0 → length kept ≡ 0) where
  movie-fair : (m left : ℕ) → m ≤ 2 → (m ≡ 0 → length kept ≡ 0) → left ≤ most_kept → IsFair (fragment_opens m kept left)
  movie-fair zero left d e h = record { doing = going-keeping left 1 0 (omega arith) refl; fragments = omega arith; kept = omega arith; none = λ _. refl }
  movie-fair (suc m) left d e h = record { doing = going-passing left 2 (length kept) (omega arith); fragments = omega arith; kept = b; none = λ f. absurd (omega arith) }

  begins-fair : (l : List ℕ) (g : Begun) → IsSound l g → (9 ≤ length l → be4 l ≡ 1) → IsBytes l → IsFair (begins g l n kept)
  begins-fair l begun.More s o y = record { doing = (s.0, λ h. go (dec_le 9 (length l)) h, y); fragments = a; kept = b; none = c }
    where
      go : Dec (9 ≤ length l) → 8 ≤ length l → be4 l ≡ 1
      go (yes k) h = o k
      go (no k) h = s.1 (omega arith)
  begins-fair l begun.Stuck s o y = record { doing = tt; fragments = a; kept = b; none = c }
  begins-fair l begun.Large s o y = record { doing = tt; fragments = a; kept = b; none = c }
  begins-fair l (begun.Opens kind left) s o y =
      by-test IsFair (eqb kind moof_kind)
      (λ e. movie-fair n left a c (s.1 (eqb-true kind moof_kind e)))
      (λ e. record { doing = going-passing left n (length kept) s.0; fragments = a; kept = b; none = c })

module _ (n : ℕ) (kept : List ℕ) (v : ℕ) (a : n ≤ 2) (b : length kept ≤ most_kept) (c : n ≡ 0 → length kept ≡ 0) (w : v < 256) where
  fair-stepping : (d : Doing) → IsFairIn d n (length kept) → IsFair (stepping d n kept v)
  fair-stepping (heading l) f =
      let m : length (l ++ (v ∷ [])) ≡ length l + 1 = length-append l (v ∷ []) in
      let y = bytes-append l (v ∷ []) f.2 (w, tt) in
      begins-fair n kept a b c (l ++ (v ∷ [])) (begun_of (l ++ (v ∷ []))) (begun-sound (l ++ (v ∷ [])) (omega (arith, f.0, m)) y)
      (λ h. be4-append l (v ∷ []) (omega (arith, m)) ∙ f.1 (omega (arith, m))) y
  fair-stepping (passing j) f = record { doing = going-passing (j - 1) n (length kept) (omega (arith, f.1)); fragments = a; kept = b; none = c }
  fair-stepping (keeping j) f =
      let m : length (kept ++ (v ∷ [])) ≡ length kept + 1 = length-append kept (v ∷ []) in
      record {
        doing = going-keeping (j - 1) n (length (kept ++ (v ∷ []))) (omega (arith, m, f.0, f.1)) f.2;
        fragments = a;
        kept = omega (arith, m, f.0, f.1);
        none = λ e. absurd (omega (arith, f.2));
      }
  fair-stepping stuck f = record { doing = tt; fragments = a; kept = b; none = c }
  fair-stepping large f = record { doing = tt; fragments = a; kept = b; none = c }

pub fair-run : (x : Reading) (s : List ℕ) → IsFair x → IsBytes s → IsFair (run x s)
fair-run x [] f h = f
fair-run x (b ∷ s) f h = fair-run (step x b) s (fair-stepping x.fragments x.kept b f.fragments f.kept f.none h.0 x.doing f.doing) h.1

-- ---- laid out

module _ (n k : ℕ) (a : n ≤ 2) (b : k ≤ most_kept) (c : n ≡ 0 → k ≡ 0) where
  laid-fits : (d : Doing) → IsFairIn d n k → Fits (laid_out d n k)
  laid-fits (heading l) f =
      let z : List ℕ = replicate (16 - length l) 0 in
      record {
        phase = (f.0, refl, λ h. be4-append l z (omega arith) ∙ f.1 h);
        bytes = length-append l z ∙ rw (length-replicate {A = ℕ} (16 - length l) 0) (omega (arith, f.0));
        head = ap (λ (x : List ℕ). x ++ z) (sym (take_at l z (length l) refl));
        fragments = a;
        kept = b;
        none = c;
      }
  laid-fits (passing j) f = record { phase = (refl, f.0, f.1); bytes = refl; head = refl; fragments = a; kept = b; none = c }
  laid-fits (keeping j) f = record { phase = (refl, f.0, f.1, f.2); bytes = refl; head = refl; fragments = a; kept = b; none = c }
  laid-fits stuck f = record { phase = (refl, refl); bytes = refl; head = refl; fragments = a; kept = b; none = c }
  laid-fits large f = record { phase = (refl, refl); bytes = refl; head = refl; fragments = a; kept = b; none = c }

-- it is past a movie fragment that is too large exactly where the reading is
laid-large : (d : Doing) (n k : ℕ) → is_large d ≡ false → (laid_out d n k).phase ≡ Large → ⊥
laid-large d n k e p = both_ways (ap is_last p) (go d e)
  where
    is_last : Phase → Bool
    is_last Heading = false
    is_last Passing = false
    is_last Keeping = false
    is_last Stuck = false
    is_last Large = true

    go : (d : Doing) → is_large d ≡ false → is_last (laid_out d n k).phase ≡ false
    go (heading l) e = refl
    go (passing j) e = refl
    go (keeping j) e = refl
    go stuck e = refl
    go large e = e

pub fair-good : (x : Reading) → IsFair x → is_large x.doing ≡ false → good_reader (reader_of x) ≡ true
fair-good x f e = fits-good (reader_of x) (laid-fits x.fragments (length x.kept) f.fragments f.kept f.none x.doing f.doing) (laid-large x.doing x.fragments (length x.kept) e)

-- ---- and read back

doing-back : (d : Doing) (n k : ℕ) → doing_of (laid_out d n k).phase (laid_out d n k) ≡ d
doing-back (heading l) n k = ap heading (take_at l (replicate (16 - length l) 0) (length l) refl)
doing-back (passing j) n k = refl
doing-back (keeping j) n k = refl
doing-back stuck n k = refl
doing-back large n k = refl

laid-fragments : (d : Doing) (n k : ℕ) → (laid_out d n k).fragments ≡ n
laid-fragments (heading l) n k = refl
laid-fragments (passing j) n k = refl
laid-fragments (keeping j) n k = refl
laid-fragments stuck n k = refl
laid-fragments large n k = refl

laid_kept : (d : Doing) (n k : ℕ) → (laid_out d n k).kept ≡ k
laid_kept (heading l) n k = refl
laid_kept (passing j) n k = refl
laid_kept (keeping j) n k = refl
laid_kept stuck n k = refl
laid_kept large n k = refl

pub reading-back : (x : Reading) (buffer : List ℕ) → reading_of (reader_of x) (kept_in x buffer) ≡ x
reading-back x buffer =
    let k : take (reader_of x).kept (kept_in x buffer) ≡ x.kept =
    ap (λ (m : ℕ). take m (kept_in x buffer)) (laid_kept x.doing x.fragments (length x.kept)) ∙ take_at x.kept (drop (length x.kept) buffer) (length x.kept) refl in
    λ j. record { doing = doing-back x.doing x.fragments (length x.kept) j; fragments = laid-fragments x.doing x.fragments (length x.kept) j; kept = k j }
