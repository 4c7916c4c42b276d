-- A time inside the result limits leaves room in 64 bits for a duration.
use mathlib.Core.Path.{◌≡◌}
use mathlib.Core.Bool.{true, ◌&&◌}
use Prim.Native.Nat.{ℕ, ◌^◌, ◌≤◌, ◌<◌}
use native.Mathlib.Omega.{arith}
use lib.IntN.{ℤ, pos, negsuc, ◌+ℤ◌}
use lib.Signed.{le_z, mag}
use mir.Syntax.{w64}
use mir.Val.{SFits}
use borrow.Author.Tests.{leb-true}
use Rattle.laws.proofs.BoolLaws.{and_left, and_right, and_both, same_test}
use Rattle.laws.proofs.IntLaws.{mag-add, test-le, le_test, le_refl, le_antisym}
use Rattle.seconds.specs.Seconds.{same_int}
use Rattle.seconds.proofs.SecondsLaws.{int_same, same_int_lem}
use Rattle.buffer_state.specs.Limits.{result_time}

pub time-mag : (z : ℤ) → result_time z ≡ true → mag z ≤ 4000000000000
unfolding result_time
time-mag (pos n) e = leb-true n 4000000000000 e
time-mag (negsuc n) e = omega (arith, leb-true n 3999999999999 (and_left _ _ e))

pub end_fits : (p : ℤ) (d : ℕ) → result_time p ≡ true → d < 2 ^ 32 → SFits w64 (p +ℤ pos d)
end_fits p d e h = record { sfits = omega (arith, time-mag p e, mag-add p (pos d)) }

-- the same integer: neither is greater
pub same-both : (a b : ℤ) → (le_z a b && le_z b a) ≡ same_int a b
same-both a b =
    same_test _ _
    (λ e. rw (le_antisym {a = a} {b = b} (test-le (and_left _ _ e)) (test-le (and_right (le_z a b) _ e))) (int_same b))
    (λ e. rw (same_int_lem a b e) (and_both (le_test (le_refl b)) (le_test (le_refl b))))
