-- Reading the fields of a full box from left to right: a value and the bytes after it, or that too few are left.
use Rattle.std.specs.Prelude.{◌≡◌, Bool, cond, List, ℕ, length, drop, ltb, Result, Ok, Err}
use Rattle.boxes.specs.Boxes.{be4, be8, refused}
use Rattle.boxes.specs.declared.Malformed.{Malformed}

infixl 10 ◌>>=◌
abbrev pub ◌>>=◌ : {A B : Type 0} → Result A Malformed → (A → Result B Malformed) → Result B Malformed
(Ok x) >>= f = f x
(Err e) >>= f = Err e

-- a number in 4 bytes, and in 8
abbrev pub number_at : List ℕ → Result (ℕ × List ℕ) Malformed
number_at s = cond (ltb (length s) 4) refused (Ok (be4 s, drop 4 s))

abbrev pub large_at : List ℕ → Result (ℕ × List ℕ) Malformed
large_at s = cond (ltb (length s) 8) refused (Ok (be8 s, drop 8 s))

-- a number in 4 bytes where it is there, else its default
abbrev pub optional_at : Bool → ℕ → List ℕ → Result (ℕ × List ℕ) Malformed
optional_at there default s = cond there (number_at s) (Ok (default, s))

-- past so many bytes
abbrev pub after : ℕ → List ℕ → Result (List ℕ) Malformed
after n s = cond (ltb (length s) n) refused (Ok (drop n s))

-- a call took this reading's value and left the bytes after it, or gave its fault and left all
abbrev pub TakesField : {A : Type 0} → Result A Malformed → Result (A × List ℕ) Malformed → List ℕ → List ℕ → Type 0
TakesField (Ok x) reading old new = reading ≡ Ok (x, new)
TakesField (Err e) reading old new = (reading ≡ Err e) × (new ≡ old)

abbrev pub Skips : Result (Unit {0}) Malformed → Result (List ℕ) Malformed → List ℕ → List ℕ → Type 0
Skips (Ok x) reading old new = reading ≡ Ok new
Skips (Err e) reading old new = (reading ≡ Err e) × (new ≡ old)
