-- The elements of a list, one by one: what all of them pass, what some of them pass, and the list of those that pass a test.
use mathlib.Core.Path.{◌≡◌, refl, sym, ap, subst, ◌∙◌}
use mathlib.Core.Bool.{Bool, true, false, cond, not, ◌&&◌}
use mathlib.Core.List.{List, [], ◌∷◌, ◌++◌}
use borrow.Author.Tests.{not-true}
use Rattle.laws.proofs.BoolLaws.{clash, by-test, or_cases, or_left, or_right}
use Rattle.buffer_state.specs.Seek.{some_of}
use Rattle.buffer_state.specs.WellFormed.{all_of, pairwise}
use Rattle.buffer_laws.proofs.TestLaws.{all_first, all_rest, all_more, all_none, pairs_first, pairs-rest, pairs-more}

-- x is an element of the list
pub data In {A : Type 0} (x : A) : List A → Type 0 where
  here : {y : A} {ys : List A} → x ≡ y → In x (y ∷ ys)
  there : {y : A} {ys : List A} → In x ys → In x (y ∷ ys)

pub none_in : {A : Type 0} {x : A} → In x [] → ⊥
none_in h = elim h [ ]

module _ {A : Type 0} (p : A → Bool) where
  -- what all pass, each passes, and the other way round
  pub all_in : {x : A} (xs : List A) → all_of p xs ≡ true → In x xs → p x ≡ true
  all_in [] e x3 = elim x3 [ ]
  all_in (y ∷ ys) e (here q) = ap p q ∙ all_first p y ys e
  all_in (y ∷ ys) e (there i) = all_in ys (all_rest p y ys e) i

  pub in_all : (xs : List A) → ((x : A) → In x xs → p x ≡ true) → all_of p xs ≡ true
  in_all [] h = all_none p
  in_all (x ∷ xs) h = all_more p x xs (h x (here refl)) (in_all xs (λ y i. h y (there i)))

  pub in_some : {x : A} (xs : List A) → In x xs → p x ≡ true → some_of p xs ≡ true
  unfolding some_of
  in_some [] x3 e = elim x3 [ ]
  in_some (y ∷ ys) (here q) e = or_left (p y) _ (ap p (sym q) ∙ e)
  in_some (y ∷ ys) (there i) e = or_right (p y) _ (in_some ys i e)

  -- one that passes
  pub record Passing (xs : List A) : Type 0 where
    pub element : A
    pub among : In element xs
    pub passes : p element ≡ true

  pub some-passing : (xs : List A) → some_of p xs ≡ true → Passing xs
  unfolding some_of
  some-passing [] e = clash (sym e)
  some-passing (x ∷ xs) e =
      or_cases (p x) (some_of p xs) e (λ h. record { element = x; among = here refl; passes = h })
      (λ h. let found = some-passing xs h in record { element = found.element; among = there found.among; passes = found.passes })

-- ---- one list after another

pub in-behind : {A : Type 0} {x : A} (xs ys : List A) → In x ys → In x (xs ++ ys)
in-behind [] ys i = i
in-behind (x ∷ xs) ys i = there (in-behind xs ys i)

-- ---- the elements that pass

-- those that pass, in their order
unfoldable pub only : {A : Type 0} → (A → Bool) → List A → List A
only p [] = []
only p (x ∷ xs) = let rest = only p xs in cond (p x) (x ∷ rest) rest

module _ {A : Type 0} (p : A → Bool) where
  -- an element that passes
  pub record Among (xs : List A) (x : A) : Type 0 where
    pub among : In x xs
    pub passes : p x ≡ true

  pub only-in : {x : A} (xs : List A) → In x (only p xs) → Among xs x
  unfolding only
  only-in [] i = absurd (none_in i)
  only-in {x} (y ∷ ys) i = go (p y) refl (λ j. only-in ys j) i
    where
      go : (b : Bool) → p y ≡ b → (In x (only p ys) → Among ys x) → In x (cond b (y ∷ only p ys) (only p ys)) → Among (y ∷ ys) x
      go true e rest (here q) = record { among = here q; passes = ap p q ∙ e }
      go true e rest (there i) = let found = rest i in record { among = there found.among; passes = found.passes }
      go false e rest i = let found = rest i in record { among = there found.among; passes = found.passes }

  pub in-only : {x : A} (xs : List A) → In x xs → p x ≡ true → In x (only p xs)
  unfolding only
  in-only {x = x} [] x3 e = elim x3 [ ]
  in-only {x} (y ∷ ys) (here q) e = subst (λ (b : Bool). In x (cond b (y ∷ only p ys) (only p ys))) (sym e ∙ ap p q) (here q)
  in-only {x} (y ∷ ys) (there i) e = by-test (In x) (p y) (λ _. there (in-only ys i e)) (λ _. in-only ys i e)

  pub only-pairs : (r : A → A → Bool) (xs : List A) → pairwise r xs ≡ true → pairwise r (only p xs) ≡ true
  unfolding only
  only-pairs r [] e = e
  only-pairs r (x ∷ xs) e =
      let rest = only-pairs r xs (pairs-rest r x xs e) in
      by-test (λ (l : List A). pairwise r l ≡ true) (p x)
      (λ _. pairs-more r x (only p xs) (in_all (r x) (only p xs) (λ y i. all_in (r x) xs (pairs_first r x xs e) (only-in xs i).among)) rest)
      (λ _. rest)

  -- where all pass, or none does
  pub only-whole : (xs : List A) → all_of p xs ≡ true → only p xs ≡ xs
  unfolding only
  only-whole [] e = refl
  only-whole (x ∷ xs) e = rw (all_first p x xs e) (ap (λ (l : List A). x ∷ l) (only-whole xs (all_rest p x xs e)))

  pub only-nothing : (xs : List A) → all_of (λ (x : A). not (p x)) xs ≡ true → only p xs ≡ []
  unfolding only
  only-nothing [] e = refl
  only-nothing (x ∷ xs) e =
      rw (not-true (p x) (all_first (λ (x : A). not (p x)) x xs e)) (only-nothing xs (all_rest (λ (x : A). not (p x)) x xs e))

-- one test after another
pub only-both : {A : Type 0} (p q : A → Bool) (xs : List A) → only q (only p xs) ≡ only (λ (x : A). p x && q x) xs
unfolding only
only-both p q [] = refl
only-both {A} p q (x ∷ xs) = go (p x) (only-both p q xs)
  where
    go : (b : Bool) → only q (only p xs) ≡ only (λ (x : A). p x && q x) xs
        → only q (cond b (x ∷ only p xs) (only p xs)) ≡ cond (b && q x) (x ∷ only (λ (x : A). p x && q x) xs) (only (λ (x : A). p x && q x) xs)
    go true rest = ap (λ (l : List A). cond (q x) (x ∷ l) l) rest
    go false rest = rest
