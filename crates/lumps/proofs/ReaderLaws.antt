-- The condition on readers as facts and back; a reader that meets it is its own reading laid out. Assumes nothing.
use mathlib.Core.Path.{◌≡◌, refl, sym, ap, ◌∙◌}
use mathlib.Core.Bool.{Bool, true, false, ◌&&◌, ◌||◌}
use mathlib.Core.List.{List, [], ◌∷◌, ◌++◌}
use Prim.Native.Nat.{ℕ, zero, suc, ◌+◌, ◌-◌, ◌≤◌}
use native.Mathlib.Omega.{arith}
use native.Mathlib.Decide.{dec_le}
use borrow.Author.Tests.{ltb-true, leb-true, eqb-true, le-leb, lt-ltb, eq-eqb}
use lib.ListN.{length, take, drop, replicate, length-drop, take-append-drop}
use lib.Seq.{length-take-le, drop_at}
use lib.Dec.{ltb, leb, eqb}
use Rattle.laws.proofs.BoolLaws.{both_ways, and_left, and_right, and_both, or_cases, or_left, or_right}
use Rattle.boxes.specs.Boxes.{be4}
use Rattle.std.specs.List.{list_all}
use Rattle.lumps.specs.Readers.{reading_with, doing_of, laid_out, reader_of, most_kept, most_left, good_in, good_counts, good_reader}
use Rattle.lumps.specs.Scans.{FitsIn, Fits}
use Rattle.lumps.specs.declared.LumpReader.{LumpReader}
use Rattle.lumps.specs.declared.Phase.{Phase}
use Rattle.lumps.specs.declared.Phase.TheVariants.{Heading, Passing, Keeping, Stuck, Large}

-- ---- zeros

abbrev zeros : List ℕ → Bool
zeros = list_all (λ b. eqb b 0)

zeros-are : (l : List ℕ) → zeros l ≡ true → l ≡ replicate (length l) 0
zeros-are [] h = refl
zeros-are (b ∷ l) h =
    let e = eqb-true b 0 (and_left (eqb b 0) (zeros l) h) in
    let t = zeros-are l (and_right (eqb b 0) (zeros l) h) in
    ap (λ (x : ℕ). x ∷ l) e ∙ ap (λ (x : List ℕ). 0 ∷ x) t

are-zeros : (n : ℕ) → zeros (replicate n 0) ≡ true
are-zeros zero = refl
are-zeros (suc n) = are-zeros n

-- ---- what is asked in a phase

module _ (r : LumpReader) where
  in-fits : (p : Phase) → good_in p r ≡ true → FitsIn p r
  in-fits Heading h =
      let a = and_right (ltb r.seen 16) _ h in
      let b = and_right (eqb r.left 0) (ltb r.seen 8 || eqb (be4 r.head) 1) a in (
        ltb-true r.seen 16 (and_left (ltb r.seen 16) _ h),
        eqb-true r.left 0 (and_left (eqb r.left 0) _ a),
        λ k. or_cases (ltb r.seen 8) (eqb (be4 r.head) 1) b (λ u. let v = ltb-true r.seen 8 u in absurd (omega arith)) (eqb-true (be4 r.head) 1),
      )
  in-fits Passing h =
      let a = and_right (eqb r.seen 0) _ h in (
        eqb-true r.seen 0 (and_left (eqb r.seen 0) _ h),
        ltb-true 0 r.left (and_left (ltb 0 r.left) _ a),
        leb-true r.left most_left (and_right (ltb 0 r.left) _ a),
      )
  in-fits Keeping h =
      let a = and_right (eqb r.seen 0) _ h in
      let b = and_right (ltb 0 r.left) _ a in (
        eqb-true r.seen 0 (and_left (eqb r.seen 0) _ h),
        ltb-true 0 r.left (and_left (ltb 0 r.left) _ a),
        leb-true (r.kept + r.left) most_kept (and_left (leb (r.kept + r.left) most_kept) _ b),
        eqb-true r.fragments 1 (and_right (leb (r.kept + r.left) most_kept) _ b),
      )
  in-fits Stuck h = (eqb-true r.seen 0 (and_left (eqb r.seen 0) _ h), eqb-true r.left 0 (and_right (eqb r.seen 0) _ h))
  in-fits Large h = let z : ◌≡◌ {A = ℕ} 0 1 = cc in absurd (omega arith)

  fits_in : (p : Phase) → (p ≡ Large → ⊥) → FitsIn p r → good_in p r ≡ true
  fits_in Heading n f = and_both (lt-ltb r.seen 16 f.0) (and_both (eq-eqb r.left 0 f.1) (go (dec_le 8 r.seen)))
    where
      go : Dec (8 ≤ r.seen) → (ltb r.seen 8 || eqb (be4 r.head) 1) ≡ true
      go (yes k) = or_right (ltb r.seen 8) (eqb (be4 r.head) 1) (eq-eqb (be4 r.head) 1 (f.2 k))
      go (no k) = or_left (ltb r.seen 8) (eqb (be4 r.head) 1) (lt-ltb r.seen 8 (omega arith))
  fits_in Passing n f = and_both (eq-eqb r.seen 0 f.0) (and_both (lt-ltb 0 r.left f.1) (le-leb r.left most_left f.2))
  fits_in Keeping n f =
      and_both (eq-eqb r.seen 0 f.0) (and_both (lt-ltb 0 r.left f.1) (and_both (le-leb (r.kept + r.left) most_kept f.2) (eq-eqb r.fragments 1 f.3)))
  fits_in Stuck n f = and_both (eq-eqb r.seen 0 f.0) (eq-eqb r.left 0 f.1)
  fits_in Large n f = absurd (n refl)

  seen_few : (p : Phase) → FitsIn p r → r.seen ≤ 16
  seen_few Heading f = omega (arith, f.0)
  seen_few Passing f = omega (arith, f.0)
  seen_few Keeping f = omega (arith, f.0)
  seen_few Stuck f = omega (arith, f.0)
  seen_few Large f = omega (arith, f.0)

  -- ---- the whole condition

  pub good-fits : length r.head ≡ 16 → good_reader r ≡ true → Fits r
  unfolding good_reader
  good-fits b h =
      let counts = and_left (good_counts r) (good_in r.phase r) h in
      let l = leb r.fragments 2 && (leb r.kept most_kept && (ltb 0 r.fragments || eqb r.kept 0)) in
      let z = zeros-are (drop r.seen r.head) (and_left (zeros (drop r.seen r.head)) l counts) in
      let few = and_right (zeros (drop r.seen r.head)) l counts in
      let most = and_right (leb r.fragments 2) _ few in
      let n : length (drop r.seen r.head) ≡ 16 - r.seen = length-drop r.seen r.head ∙ ap (λ (k : ℕ). k - r.seen) b in
      record {
        phase = in-fits r.phase (and_right (good_counts r) (good_in r.phase r) h);
        bytes = b;
        head = sym (take-append-drop r.seen r.head) ∙ ap (λ (x : List ℕ). take r.seen r.head ++ x) (z ∙ ap (λ (k : ℕ). replicate k 0) n);
        fragments = leb-true r.fragments 2 (and_left (leb r.fragments 2) _ few);
        kept = leb-true r.kept most_kept (and_left (leb r.kept most_kept) _ most);
        none = λ e. or_cases (ltb 0 r.fragments) (eqb r.kept 0) (and_right (leb r.kept most_kept) _ most) (λ u. let v = ltb-true 0 r.fragments u in absurd (omega arith)) (eqb-true r.kept 0);
      }

  -- it is not past a movie fragment that is too large
  pub good-small : good_reader r ≡ true → r.phase ≡ Large → ⊥
  unfolding good_reader
  good-small h e = both_ways (and_right (good_counts r) (good_in r.phase r) h) (ap (λ (x : Phase). good_in x r) e)

  pub large-ill : r.phase ≡ Large → good_reader r ≡ false
  unfolding good_reader
  large-ill e = ap (λ (x : Phase). good_counts r && good_in x r) e ∙ none (good_counts r)
    where
      none : (b : Bool) → (b && false) ≡ false
      none true = refl
      none false = refl

  pub fits-good : Fits r → (r.phase ≡ Large → ⊥) → good_reader r ≡ true
  unfolding good_reader
  fits-good f n =
      let e : drop r.seen r.head ≡ replicate (16 - r.seen) 0 =
      ap (drop r.seen) f.head ∙ drop_at (take r.seen r.head) (replicate (16 - r.seen) 0) r.seen (length-take-le r.seen r.head (omega (arith, f.bytes, seen_few r.phase f.phase))) in
      and_both
      (and_both (ap zeros e ∙ are-zeros (16 - r.seen)) (and_both (le-leb r.fragments 2 f.fragments) (and_both (le-leb r.kept most_kept f.kept) (go (dec_le 1 r.fragments)))))
      (fits_in r.phase n f.phase)
    where
      go : Dec (1 ≤ r.fragments) → (ltb 0 r.fragments || eqb r.kept 0) ≡ true
      go (yes k) = or_left (ltb 0 r.fragments) (eqb r.kept 0) (lt-ltb 0 r.fragments (omega arith))
      go (no k) = or_right (ltb 0 r.fragments) (eqb r.kept 0) (eq-eqb r.kept 0 (f.none (omega arith)))

  -- ---- laid out again

  pub reader-back : Fits r → (kept : List ℕ) → length kept ≡ r.kept → reader_of (reading_with r kept) ≡ r
  reader-back f kept e = go r.phase refl f.phase
    where
      bare : r.seen ≡ 0 → replicate 16 0 ≡ r.head
      bare s = sym (f.head ∙ rw s)

      go : (p : Phase) → r.phase ≡ p → FitsIn p r → laid_out (doing_of p r) r.fragments (length kept) ≡ r
      go Heading q g =
          let n : length (take r.seen r.head) ≡ r.seen = length-take-le r.seen r.head (omega (arith, f.bytes, g.0)) in
          let h : take r.seen r.head ++ replicate (16 - length (take r.seen r.head)) 0 ≡ r.head = rw n (sym f.head) in
          λ j. record { phase = sym q j; head = h j; seen = n j; left = sym g.1 j; fragments = r.fragments; kept = e j }
      go Passing q g = let h = bare g.0 in λ j. record { phase = sym q j; head = h j; seen = sym g.0 j; left = r.left; fragments = r.fragments; kept = e j }
      go Keeping q g = let h = bare g.0 in λ j. record { phase = sym q j; head = h j; seen = sym g.0 j; left = r.left; fragments = r.fragments; kept = e j }
      go Stuck q g = let h = bare g.0 in λ j. record { phase = sym q j; head = h j; seen = sym g.0 j; left = sym g.1 j; fragments = r.fragments; kept = e j }
      go Large q g = let h = bare g.0 in λ j. record { phase = sym q j; head = h j; seen = sym g.0 j; left = sym g.1 j; fragments = r.fragments; kept = e j }
