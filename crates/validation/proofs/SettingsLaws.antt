-- What a conversion's answer says of a kept double.
use mathlib.Core.Path.{◌≡◌, refl}
use mathlib.Core.Bool.{Bool, true, false, cond, ◌&&◌}
use Prim.Native.Nat.{◌^◌, ◌≤◌}
use native.Mathlib.Omega.{arith}
use lib.IntN.{ℤ, pos, negsuc, nat_abs}
use lib.Ieee.{Float}
use Rattle.std.specs.Prelude.{Ok, Err}
use Rattle.std.specs.Result.{result_eq}
use Rattle.std.specs.Ordering.{int_eq}
use Rattle.std.specs.Cmp.{signed_Decides}
use Rattle.std.specs.Bool.{one_answer}
use Rattle.seconds.proofs.SecondsLaws.{int_same, same_int_lem}
use Rattle.seconds.specs.Seconds.{is_convertible, micros_of, micros_answer, same_int}
use Rattle.seconds.specs.declared.OutOfRange.{OutOfRange}
use Rattle.buffer_state.specs.Limits.{result_time}
use Rattle.buffer_state.specs.WellFormed.{converts}
use Rattle.limits.proofs.LimitLaws.{time-mag}

int_eq-same : (a b : ℤ) → int_eq a b ≡ same_int a b
int_eq-same a b = one_answer (int_eq a b) (same_int a b) (signed_Decides a b) (same_int_lem a b, λ e. rw e (int_same b))

-- an answer that is these microseconds
pub answer-converts : (E : OutOfRange → OutOfRange → Bool) (x : Float) (z : ℤ) → result_eq int_eq E (micros_answer x) (Ok z) ≡ converts x z
answer-converts E x z = go (is_convertible x)
  where
    go : (t : Bool) → result_eq int_eq E (cond t (Ok (micros_of x)) (Err (record {}))) (Ok z) ≡ (t && same_int (micros_of x) z)
    go true = int_eq-same (micros_of x) z
    go false = refl

-- a time inside the limits is exact as a double
pub time-exact : (z : ℤ) → result_time z ≡ true → nat_abs z ≤ 2 ^ 53
time-exact (pos n) e = omega (arith, time-mag (pos n) e)
time-exact (negsuc n) e = omega (arith, time-mag (negsuc n) e)
