-- What a word of text stands for, as a list of its bytes.
use Rattle.std.specs.Prelude.{Bool, true, false, cond, List, [], ◌∷◌, ℕ, zero, suc, ◌+◌, ◌-◌, ◌*◌, ◌^◌, ltb, leb, eqb, ◌==◌, length, take, drop, ℤ, pos, negsuc, Float, Option, None, Some, Result, Ok, Err, option_and_then}
use Rattle.std.specs.Float.{binary64}
use Rattle.std.specs.Float.Ieee.{of_int, div}
use Rattle.std.specs.List.{position_or_len}
use Rattle.text.specs.declared.read.NoNumber.{NoNumber}
use Rattle.text.specs.declared.read.NoNumber.TheVariants as N

-- what a digit is worth: 0 to 9, a to f in either case; no other byte is one
abbrev pub digit_of : ℕ → Option ℕ
digit_of b =
    cond (ltb b 48) None
    (cond (ltb b 58) (Some (b - 48))
    (cond (ltb b 65) None
    (cond (ltb b 71) (Some (b - 55))
    (cond (ltb b 97) None
    (cond (ltb b 103) (Some (b - 87)) None)))))

-- one digit more in a base up to 16; what may leave 64 bits is the largest number of them
abbrev pub longer_by : ℕ → ℕ → ℕ → ℕ
longer_by base n d = cond (ltb n (2 ^ 60)) (n * base + d) (2 ^ 64 - 1)

-- the number n with a digit of the base after it
abbrev pub with_digit : ℕ → ℕ → ℕ → Option ℕ
with_digit base n d = cond (leb base d) None (Some (longer_by base n d))

-- the digits of a word, written after the number n
unfoldable pub digits_from : ℕ → ℕ → List ℕ → Option ℕ
digits_from base n [] = Some n
digits_from base n (b ∷ w) =
    option_and_then (λ m. digits_from base m w) (option_and_then (with_digit base n) (digit_of b))

-- one decimal digit or more
abbrev pub natural_of : List ℕ → Option ℕ
natural_of w = cond (eqb (length w) 0) None (digits_from 10 0 w)

-- a number without a sign, and one after a minus, in 64 bits with a sign
abbrev pub positive_of : ℕ → Result ℤ NoNumber
positive_of n = cond (ltb n (2 ^ 63)) (Ok (pos n)) (Err N.Above)

abbrev pub negative_of : ℕ → Result ℤ NoNumber
negative_of zero = Ok (pos 0)
negative_of (suc n) = cond (ltb n (2 ^ 63)) (Ok (negsuc n)) (Err N.Below)

-- the digits that were read as a number by f, if they were
abbrev pub whole_in : (ℕ → Result ℤ NoNumber) → Option ℕ → Result ℤ NoNumber
whole_in f (Some n) = f n
whole_in f None = Err N.NotWhole

-- a whole number: an optional minus, then digits
abbrev pub whole_of : List ℕ → Result ℤ NoNumber
whole_of [] = Err N.NotWhole
whole_of (b ∷ w) = cond (eqb b 45) (whole_in negative_of (natural_of w)) (whole_in positive_of (natural_of (b ∷ w)))

-- 10 ^ k as a double
unfoldable pub power_of : ℕ → Float
power_of k = of_int binary64 (pos (10 ^ k))

-- n / 10 ^ places: both exact as doubles, divided once; of more than 15 digits, or 22 places, nothing is said
abbrev pub quotient_of : ℕ → ℕ → Option Float
quotient_of n places =
    cond (ltb 999999999999999 n) None
    (cond (ltb 22 places) None
    (Some (div binary64 (of_int binary64 (pos n)) (power_of places))))

-- the number n, the point, and one digit or more
abbrev pub fraction_of : ℕ → List ℕ → Option Float
fraction_of n f =
    cond (eqb (length f) 0) None (option_and_then (λ m. quotient_of m (length f)) (digits_from 10 n f))

-- the place of the first byte b of a word, its length where there is none
abbrev pub index_of : ℕ → List ℕ → ℕ
index_of b w = position_or_len (λ x. x == b) w

-- the number n, and after it nothing, or the point and digits
abbrev pub decimal_from : List ℕ → ℕ → Option Float
decimal_from [] n = quotient_of n 0
decimal_from (point ∷ f) n = fraction_of n f

-- a decimal without a sign: all its digits as one number, over a ten for each of those after the point, 46
abbrev pub decimal_of : List ℕ → Option Float
decimal_of w = option_and_then (decimal_from (drop (index_of 46 w) w)) (natural_of (take (index_of 46 w) w))
