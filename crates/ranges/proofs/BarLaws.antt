-- Arrays read and filled from the left: the next of the first n, and one element more behind the first k. And ranges as rows.
use mathlib.Core.Path.{◌≡◌, refl, sym, ap, ◌∙◌}
use mathlib.Core.Bool.{Bool, true}
use mathlib.Core.List.{List, [], ◌∷◌, ◌++◌}
use Prim.Native.Nat.{ℕ, zero, suc, ◌+◌, ◌≤◌, ◌<◌}
use native.Mathlib.Numerals.{add-one}
use native.Mathlib.Omega.{arith}
use lib.IntN.{ℤ}
use lib.ListN.{length, take, get_or, set, length-map, length-take, drop_of_length-le}
use lib.Seq.{slice, slice-cons, take-suc-set, append_snoc, get_or-take, length-take-le}
use Rattle.buffer_state.specs.Answers.{laid_ranges}
use Rattle.buffer_state.specs.Limits.{places}
use Rattle.buffer_state.specs.Ranges.{Range}
use Rattle.buffer_state.specs.WellFormed.{all_of}
use Rattle.buffer_laws.proofs.TestLaws.{all_first, all_rest, all_more, all_none}
use Rattle.ranges.specs.Bars.{Shows}
use Rattle.ranges.specs.Read.{ranges_in}

-- what all elements pass, each passes
pub all-at : {A : Type 0} (p : A → Bool) (l : List A) (i : ℕ) (z : A) → i < length l → all_of p l ≡ true → p (get_or l i z) ≡ true
all-at p [] i z h e = absurd (omega arith)
all-at p (x ∷ l) zero z h e = all_first p x l e
all-at p (x ∷ l) (suc i) z h e = all-at p l i z (omega arith) (all_rest p x l e)

-- and what each passes, all do
pub every : {A : Type 0} (p : A → Bool) (l : List A) (z : A) → ((i : ℕ) → i < length l → p (get_or l i z) ≡ true) → all_of p l ≡ true
every p [] z each = all_none p
every p (x ∷ l) z each = all_more p x l (each 0 (omega arith)) (every p l z (λ i h. each (suc i) (omega arith)))

module _ {A : Type 0} (l : List A) where
  pub next : (i n : ℕ) (z : A) → i < n → n ≤ length l → slice i n l ≡ get_or l i z ∷ slice (i + 1) n l
  next i n z h k = rw add-one (slice-cons i n l z h k)

  pub done : (i n : ℕ) → n ≤ i → slice i n l ≡ []
  done i n h = drop_of_length-le (take n l) {i = i} (rw length-take (omega arith))

  pub each : (p : A → Bool) (i n : ℕ) (z : A) → i < n → n ≤ length l → all_of p (take n l) ≡ true → p (get_or l i z) ≡ true
  each p i n z h k e = rw (← get_or-take n l i z h) (all-at p (take n l) i z (rw (length-take-le n l k) h) e)

  pub more : (k : ℕ) (x : A) (rest : List A) → k < length l → take (k + 1) (set l k x) ++ rest ≡ take k l ++ x ∷ rest
  more k x rest h = rw (add-one k, take-suc-set l k x h) (append_snoc (take k l) x rest)

-- ---- bars

-- rows as ranges again
pub laid-read : (rs : List Range) → ranges_in (laid_ranges rs) ≡ rs
laid-read [] = refl
laid-read (r ∷ rs) = ap (λ (l : List Range). r ∷ l) (laid-read rs)

pub shows : (spans : List (List ℤ)) (n : ℕ) (rs : List Range) → take n spans ≡ laid_ranges rs → n ≤ length spans → n ≤ places → Shows spans n rs
shows spans n rs e full few = record { rows = e; count = sym (length-take-le n spans full) ∙ ap length e ∙ length-map rs _; few = few }

pub shown : {spans : List (List ℤ)} {n : ℕ} {rs : List Range} → Shows spans n rs → ranges_in (take n spans) ≡ rs
shown {rs = rs} s = ap ranges_in s.rows ∙ laid-read rs
