-- Document 01, "Times and numbers": a double in seconds as whole microseconds, and back; halves as document 02, No. 7, has them.
-- A finite double is the exact fraction m * up e / down e of its bits, negative where s is true.
use Prim.Native.Nat.{ℕ, suc, ◌+◌, ◌*◌, ◌/◌, ◌%◌, compare, Ordering}
use Rattle.std.specs.Prelude.{Bool, true, false, cond, ◌&&◌, ◌||◌, not, leb, eqb, ℤ, pos, negsuc, neg_ℤ, Float, Option, Some, None, Result, Ok, Err}
use Rattle.std.specs.Bool.{beq}
use Rattle.std.specs.Float.{nan, inf, fin, binary64}
use Rattle.std.specs.Float.Ieee.{up, down, of_int, div}
use Rattle.seconds.specs.declared.OutOfRange.{OutOfRange}

-- Document 02, No. 7, the tie rule alone: half a microsecond goes towards plus infinity. So a magnitude half way between q and q + 1
-- becomes q where the number is negative, and else q + 1.
unfoldable pub tie_of : Bool → ℕ → ℕ
tie_of true q = q
tie_of false q = q + 1

-- q or the next number up, by how twice the remainder compares with the divisor
unfoldable pub round_of : Bool → ℕ → Ordering → ℕ
round_of s q Ordering.lt = q
round_of s q Ordering.eq = tie_of s q
round_of s q Ordering.gt = suc q

-- the whole number nearest to the magnitude a / b
unfoldable pub nearest_of : Bool → ℕ → ℕ → ℕ
nearest_of s a b = round_of s (a / b) (compare (a % b * 2) b)

abbrev pub signed : Bool → ℕ → ℤ
signed true n = neg_ℤ (pos n)
signed false n = pos n

-- a finite double from -1,000,000 to 1,000,000, both included
unfoldable pub is_convertible : Float → Bool
is_convertible nan = false
is_convertible (inf s) = false
is_convertible (fin s m e) = leb (m * up e) (1000000 * down e)

-- the microsecond nearest to a finite double; what is not finite is never asked and gives 0
unfoldable pub micros_of : Float → ℤ
micros_of nan = pos 0
micros_of (inf s) = pos 0
micros_of (fin s m e) = signed s (nearest_of s (m * up e * 1000000) (down e))

-- the answer to a time in seconds: its microseconds, or a refusal
abbrev pub micros_answer : Float → Result ℤ OutOfRange
micros_answer x = cond (is_convertible x) (Ok (micros_of x)) (Err (record {}))

-- the whole number z, exact as a double, divided once by 1,000,000 (which is 15625 * 2 ^ 6)
unfoldable pub seconds_of : ℤ → Float
seconds_of z = div binary64 (of_int binary64 z) (fin false 15625 (pos 6))

-- Plus infinity, which only a window end or a removal end may be.
abbrev pub is_plus_infinity : Float → Bool
is_plus_infinity nan = false
is_plus_infinity (inf s) = not s
is_plus_infinity (fin s m e) = false

unfoldable pub is_convertible_end : Float → Bool
is_convertible_end x = is_plus_infinity x || is_convertible x

-- an end in microseconds: at an instant, or nowhere
pub data Bound : Type 0 where
  unbounded : Bound
  at : ℤ → Bound

unfoldable pub bound_of : Float → Bound
bound_of x = cond (is_plus_infinity x) unbounded (at (micros_of x))

-- the answer to an end in seconds: its place, none where it is unbounded, or a refusal
abbrev pub end_place : Bound → Option ℤ
end_place unbounded = None
end_place (at z) = Some z

abbrev pub end_answer : Float → Result (Option ℤ) OutOfRange
end_answer x = cond (is_convertible_end x) (Ok (end_place (bound_of x))) (Err (record {}))

-- plus zero, as a double
abbrev pub zero_seconds : Float
zero_seconds = fin false 0 (pos 0)

-- the same integer
unfoldable pub same_int : ℤ → ℤ → Bool
same_int (pos a) (pos b) = eqb a b
same_int (pos a) (negsuc b) = false
same_int (negsuc a) (pos b) = false
same_int (negsuc a) (negsuc b) = eqb a b

-- the same double, bit for bit: plus zero and minus zero differ
unfoldable pub same_double : Float → Float → Bool
same_double nan nan = true
same_double nan (inf t) = false
same_double nan (fin t n d) = false
same_double (inf s) nan = false
same_double (inf s) (inf t) = beq s t
same_double (inf s) (fin t n d) = false
same_double (fin s m e) nan = false
same_double (fin s m e) (inf t) = false
same_double (fin s m e) (fin t n d) = beq s t && (eqb m n && same_int e d)
