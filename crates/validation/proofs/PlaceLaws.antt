-- `is_placed` over what is left of an array, for a loop that counts up; and what it says of the two parts.
use mathlib.Core.Path.{◌≡◌, refl, sym, ap, ◌∙◌}
use mathlib.Core.Bool.{Bool, true, false, cond, ◌&&◌, and_assoc}
use mathlib.Core.List.{List, [], ◌∷◌}
use Prim.Native.Nat.{ℕ, zero, suc, ◌+◌, ◌-◌, ◌≤◌, ◌<◌}
use native.Mathlib.Numerals.{add-one}
use native.Mathlib.Omega.{arith}
use lib.Dec.{ltb}
use lib.ListN.{length, take, drop, get_or, drop_of_length-le}
use lib.Seq.{drop-cons}
use borrow.Author.Tests.{ltb-true, ltb-false, lt-ltb, le-ltb}
use Rattle.laws.proofs.BoolLaws.{split}
use Rattle.buffer_state.specs.WellFormed.{all_of}
use Rattle.validation.specs.Tests.{is_placed}

module _ {A : Type 0} (used past : A → Bool) where
  -- the parts of an array
  pub placed-parts : (n : ℕ) (l : List A) → is_placed used past n l ≡ (all_of used (take n l) && all_of past (drop n l))
  unfolding is_placed all_of
  placed-parts zero [] = refl
  placed-parts (suc n) [] = refl
  placed-parts zero (x ∷ xs) = ap (λ (b : Bool). past x && b) (placed-parts zero xs)
  placed-parts (suc n) (x ∷ xs) = ap (λ (b : Bool). used x && b) (placed-parts n xs) ∙ sym (and_assoc (used x) (all_of used (take n xs)) (all_of past (drop n xs)))

  placed_first : (k : ℕ) (b : Bool) → ltb 0 k ≡ b → (x : A) (xs : List A) → is_placed used past k (x ∷ xs) ≡ (cond b (used x) (past x) && is_placed used past (k - 1) xs)
  unfolding is_placed
  placed_first zero b e x xs = rw (← e)
  placed_first (suc k) b e x xs = let d : suc k - 1 ≡ k = omega arith in rw (d, ← e, lt-ltb 0 (suc k) (omega arith))

  -- one turn of a loop over all places
  module _ (n : ℕ) (l : List A) (i : ℕ) (z : A) where
    pub placed-next : i < length l → is_placed used past (n - i) (drop i l)
        ≡ (cond (ltb i n) (used (get_or l i z)) (past (get_or l i z)) && is_placed used past (n - (i + 1)) (drop (i + 1) l))
    placed-next h =
        let left : ltb 0 (n - i) ≡ ltb i n = split (ltb i n)
        (λ e. lt-ltb 0 (n - i) (omega (arith, ltb-true i n e)) ∙ sym e)
        (λ e. le-ltb 0 (n - i) (omega (arith, ltb-false i n e)) ∙ sym e) in
        let count : n - (i + 1) ≡ n - i - 1 = omega arith in
        rw (count, add-one, drop-cons l i z h) (placed_first (n - i) (ltb i n) left (get_or l i z) (drop (suc i) l))

    pub placed-step : i < length l → cond (ltb i n) (used (get_or l i z)) (past (get_or l i z)) ≡ true
        → is_placed used past (n - i) (drop i l) ≡ is_placed used past (n - (i + 1)) (drop (i + 1) l)
    placed-step h e = placed-next h ∙ rw e

    pub placed-stop : i < length l → cond (ltb i n) (used (get_or l i z)) (past (get_or l i z)) ≡ false → is_placed used past (n - i) (drop i l) ≡ false
    placed-stop h e = placed-next h ∙ rw e

    pub placed_end : length l ≤ i → is_placed used past (n - i) (drop i l) ≡ true
    unfolding is_placed
    placed_end h = rw (drop_of_length-le l {i = i} h)
