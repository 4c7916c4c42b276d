-- Bounds of what is multiplied and divided on the way to microseconds.
use mathlib.Core.Path.{◌≡◌}
use Prim.Native.Nat.{ℕ, zero, suc, ◌+◌, ◌*◌, ◌≤◌, ◌<◌}
use native.Mathlib.Nat.{div-le_self}
use native.Mathlib.Omega.{arith}
use lib.IntN.{ℤ, pos, negsuc, neg_ℤ, ◌*ℤ◌}
use lib.Signed.{mag}
use mir.Syntax.{w64}
use mir.Val.{SFits, to_z, of_z}
use mir.ValLaws.{to_z-of_z}
use Rattle.media_times.specs.MediaTimes.{down_by, micros_of}

-- ---- magnitudes

pub mag-neg : (r a : ℕ) → r ≤ suc a → mag (neg_ℤ (pos r)) ≤ a
mag-neg zero a h = omega arith
mag-neg (suc r) a h = omega arith

pub mag-negated : (z : ℤ) → mag (neg_ℤ z) ≤ suc (mag z)
mag-negated (pos n) = mag-neg n (suc n) (omega arith)
mag-negated (negsuc n) = omega arith

pub mag-product : (t : ℤ) → mag (t *ℤ pos 1000000) ≤ 999999 + mag t * 1000000
mag-product (pos n) = omega arith
mag-product (negsuc n) = mag-neg (suc n * 1000000) (999999 + n * 1000000) (omega arith)

pub mag_down : (p : ℤ) (d : ℕ) → mag (down_by p d) ≤ mag p
mag_down (pos n) d = div-le_self n d
mag_down (negsuc n) d = div-le_self n d

pub mag-micros : (t : ℤ) (d : ℕ) → mag (micros_of t d) ≤ 999999 + mag t * 1000000
unfolding micros_of
mag-micros t d = omega (arith, mag_down (t *ℤ pos 1000000) d, mag-product t)

-- a number of so small a magnitude fits, and is its bits read back
pub fits : (z : ℤ) → mag z < 9223372036854775808 → SFits w64 z
fits z h = record { sfits = h }

pub kept : (z : ℤ) → mag z < 9223372036854775808 → to_z w64 (of_z w64 z) ≡ z
kept z h = to_z-of_z w64 z (fits z h)

pub product-fits : (t : ℤ) → mag t < 4000000000000 → SFits w64 (t *ℤ pos 1000000)
product-fits t h = fits (t *ℤ pos 1000000) (omega (arith, mag-product t))
