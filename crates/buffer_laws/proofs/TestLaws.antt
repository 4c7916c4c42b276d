-- `all_of` and `pairwise` through `map`, `set`, `get_or`, `replicate`, `++` and a change of the test, by induction on the list.
use mathlib.Core.Path.{◌≡◌, refl}
use mathlib.Core.Bool.{Bool, true, false}
use mathlib.Core.List.{List, [], ◌∷◌, ◌++◌, map}
use Prim.Native.Nat.{ℕ, zero, suc, ◌+◌, ◌≤◌, ◌<◌}
use native.Mathlib.Omega.{arith}
use lib.ListN.{length, take, drop, get_or, set, replicate}
use Rattle.laws.proofs.BoolLaws.{and_left, and_right, and_both}
use Rattle.laws.proofs.ListLaws.{first_next, first-end}
use Rattle.buffer_state.specs.WellFormed.{all_of, pairwise}

module _ {A : Type 0} (p : A → Bool) where
  pub all_first : (x : A) (xs : List A) → all_of p (x ∷ xs) ≡ true → p x ≡ true
  unfolding all_of
  all_first x xs e = and_left _ _ e

  pub all_rest : (x : A) (xs : List A) → all_of p (x ∷ xs) ≡ true → all_of p xs ≡ true
  unfolding all_of
  all_rest x xs e = and_right (p x) _ e

  pub all_more : (x : A) (xs : List A) → p x ≡ true → all_of p xs ≡ true → all_of p (x ∷ xs) ≡ true
  unfolding all_of
  all_more x xs h e = and_both h e

  -- any place of a list that passes, the default past its end too
  pub all_get_d : (l : List A) (i : ℕ) (z : A) → p z ≡ true → all_of p l ≡ true → p (get_or l i z) ≡ true
  all_get_d [] i z h e = h
  all_get_d (x ∷ xs) zero z h e = all_first x xs e
  all_get_d (x ∷ xs) (suc i) z h e = all_get_d xs i z h (all_rest x xs e)

  -- any place inside the list
  pub all-place : (l : List A) (i : ℕ) (z : A) → i < length l → all_of p l ≡ true → p (get_or l i z) ≡ true
  all-place [] i z h e = absurd (omega arith)
  all-place (x ∷ xs) zero z h e = all_first x xs e
  all-place (x ∷ xs) (suc i) z h e = all-place xs i z (omega arith) (all_rest x xs e)

  pub all_set : (l : List A) (i : ℕ) (y : A) → p y ≡ true → all_of p l ≡ true → all_of p (set l i y) ≡ true
  all_set [] i y h e = e
  all_set (x ∷ xs) zero y h e = all_more y xs h (all_rest x xs e)
  all_set (x ∷ xs) (suc i) y h e = all_more x (set xs i y) (all_first x xs e) (all_set xs i y h (all_rest x xs e))

  -- one element that passes, any number of times
  pub all_replicate : (z : A) → p z ≡ true → (n : ℕ) → all_of p (replicate n z) ≡ true
  unfolding all_of
  all_replicate z h zero = refl
  all_replicate z h (suc n) = and_both h (all_replicate z h n)

  -- where only z passes, a list that passes is z, repeated
  pub all-only : (z : A) → ((x : A) → p x ≡ true → x ≡ z) → (l : List A) → all_of p l ≡ true → l ≡ replicate (length l) z
  all-only z only [] h = refl
  all-only z only (x ∷ xs) h =
      let head : x ≡ z = only x (all_first x xs h) in
      let rest : xs ≡ replicate (length xs) z = all-only z only xs (all_rest x xs h) in
      λ i. head i ∷ rest i

-- a loop over the first n elements: what is left decides
module _ {A : Type 0} (p : A → Bool) (l : List A) (n : ℕ) (k : n ≤ length l) (i : ℕ) (z : A) where
  pub all-step : i < n → p (get_or l i z) ≡ true → all_of p (drop i (take n l)) ≡ all_of p (drop (i + 1) (take n l))
  unfolding all_of
  all-step h e = rw (first_next l n k i z h, e)

  pub all-stop : i < n → p (get_or l i z) ≡ false → all_of p (drop i (take n l)) ≡ false
  unfolding all_of
  all-stop h e = rw (first_next l n k i z h, e)

  pub all_end : n ≤ i → all_of p (drop i (take n l)) ≡ true
  unfolding all_of
  all_end h = rw (first-end l n k i h)

module _ {A B : Type 0} (p : A → Bool) (q : B → Bool) (f : A → B) (h : (x : A) → p x ≡ true → q (f x) ≡ true) where
  -- what passes one test passes another once it is mapped
  pub all_map : (l : List A) → all_of p l ≡ true → all_of q (map f l) ≡ true
  unfolding all_of
  all_map [] e = refl
  all_map (x ∷ xs) e = all_more q (f x) (map f xs) (h x (all_first p x xs e)) (all_map xs (all_rest p x xs e))

-- what is mapped passes, whatever it was
pub map-all : {A B : Type 0} (q : B → Bool) (f : A → B) → ((x : A) → q (f x) ≡ true) → (l : List A) → all_of q (map f l) ≡ true
unfolding all_of
map-all q f h [] = refl
map-all q f h (x ∷ xs) = all_more q (f x) (map f xs) (h x) (map-all q f h xs)

module _ {A : Type 0} (p q : A → Bool) (h : (x : A) → p x ≡ true → q x ≡ true) where
  -- a weaker test
  pub all_weaker : (l : List A) → all_of p l ≡ true → all_of q l ≡ true
  unfolding all_of
  all_weaker [] e = refl
  all_weaker (x ∷ xs) e = all_more q x xs (h x (all_first p x xs e)) (all_weaker xs (all_rest p x xs e))

module _ {A : Type 0} (p q r : A → Bool) (h : (x : A) → p x ≡ true → q x ≡ true → r x ≡ true) where
  -- a test that two others imply
  pub all-from-both : (l : List A) → all_of p l ≡ true → all_of q l ≡ true → all_of r l ≡ true
  unfolding all_of
  all-from-both [] e d = refl
  all-from-both (x ∷ xs) e d =
      all_more r x xs (h x (all_first p x xs e) (all_first q x xs d)) (all-from-both xs (all_rest p x xs e) (all_rest q x xs d))

-- two lists that pass, one after the other
pub all_append : {A : Type 0} (p : A → Bool) (xs ys : List A) → all_of p xs ≡ true → all_of p ys ≡ true → all_of p (xs ++ ys) ≡ true
all_append p [] ys e d = d
all_append p (x ∷ xs) ys e d = all_more p x (xs ++ ys) (all_first p x xs e) (all_append p xs ys (all_rest p x xs e) d)

module _ {A : Type 0} (r : A → A → Bool) where
  pub pairs_first : (x : A) (xs : List A) → pairwise r (x ∷ xs) ≡ true → all_of (r x) xs ≡ true
  unfolding pairwise
  pairs_first x xs e = and_left _ _ e

  pub pairs-rest : (x : A) (xs : List A) → pairwise r (x ∷ xs) ≡ true → pairwise r xs ≡ true
  unfolding pairwise
  pairs-rest x xs e = and_right (all_of (r x) xs) _ e

  pub pairs-more : (x : A) (xs : List A) → all_of (r x) xs ≡ true → pairwise r xs ≡ true → pairwise r (x ∷ xs) ≡ true
  unfolding pairwise
  pairs-more x xs h e = and_both h e

  pub pairs-none : pairwise r [] ≡ true
  unfolding pairwise
  pairs-none = refl

pub all_none : {A : Type 0} (p : A → Bool) → all_of p [] ≡ true
unfolding all_of
all_none p = refl
