-- A number of a row as a field of 32 bits.
use mathlib.Core.Path.{◌≡◌, refl}
use mathlib.Core.Bool.{true, false, ◌||◌}
use Prim.Native.Nat.{◌≤◌, ◌<◌}
use native.Mathlib.Omega.{arith}
use lib.Dec.{T, ltb}
use lib.IntN.{ℤ, pos, negsuc, nat_abs}
use lib.Signed.{lt_z, non_neg}
use borrow.Author.Tests.{ltb-true, ltb-false, le-leb, lt-leb}
use mir.Syntax.{w32}
use mir.Val.{Fits}
use Rattle.laws.proofs.BoolLaws.{clash, or_cases, or-none-right}
use Rattle.buffer_state.specs.Batch.{field_in}

pub field-none : (z : ℤ) → (lt_z z (pos 0) || lt_z (pos 4294967295) z) ≡ true → 0 ≡ field_in z
field-none (pos n) e =
    or_cases (ltb n 0) (ltb 4294967295 n) e (λ t. absurd (omega (arith, ltb-true n 0 t)))
    (λ t. let h : 4294967295 < n = ltb-true 4294967295 n t in rw (le-leb 0 n (omega arith), lt-leb n 4294967295 h))
field-none (negsuc n) e = refl

module _ (n : ℤ) (e : (lt_z n (pos 0) || lt_z (pos 4294967295) n) ≡ false) where
  pub field-not-negative : T (non_neg n)
  field-not-negative = go n e
    where
      go : (z : ℤ) → (lt_z z (pos 0) || lt_z (pos 4294967295) z) ≡ false → T (non_neg z)
      go (pos n) e = tt
      go (negsuc n) e = clash e

  pub field_fits : Fits w32 (nat_abs n)
  field_fits = go n e
    where
      go : (z : ℤ) → (lt_z z (pos 0) || lt_z (pos 4294967295) z) ≡ false → Fits w32 (nat_abs z)
      go (pos n) e = let h : n ≤ 4294967295 = ltb-false 4294967295 n (or-none-right (ltb n 0) _ e) in record { fits = omega arith }
      go (negsuc n) e = clash e

  pub field-some : nat_abs n ≡ field_in n
  field-some = go n e
    where
      go : (z : ℤ) → (lt_z z (pos 0) || lt_z (pos 4294967295) z) ≡ false → nat_abs z ≡ field_in z
      go (pos n) e = let h : n ≤ 4294967295 = ltb-false 4294967295 n (or-none-right (ltb n 0) _ e) in rw (le-leb 0 n (omega arith), le-leb n 4294967295 h)
      go (negsuc n) e = clash e
