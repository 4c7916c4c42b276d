-- How a word's digits are read one by one.
use Rattle.std.proofs.Common.{◌≡◌, ℕ, ◌+◌, ◌≤◌, ◌<◌, List, length, drop, get_or, ap, ◌∙◌, sym, add-one, drop-cons, option_and_then, Some, Option}
use Rattle.std.proofs.Math.ListN.{drop_of_length-le}
use Rattle.text.specs.Reading.{digit_of, with_digit, digits_from}

-- the digit at a place, and those after it
pub digits_at : (base m i : ℕ) (w : List ℕ) → i < length w
    → digits_from base m (drop i w) ≡ option_and_then (λ k. digits_from base k (drop (i + 1) w)) (option_and_then (with_digit base m) (digit_of (get_or w i 0)))
unfolding digits_from
digits_at base m i w h = rw (add-one, drop-cons w i 0)

-- nothing is left to read
pub digits_end : (base m i : ℕ) (w : List ℕ) → length w ≤ i → digits_from base m (drop i w) ≡ Some m
unfolding digits_from
digits_end base m i w h = ap (digits_from base m) (drop_of_length-le w h)
