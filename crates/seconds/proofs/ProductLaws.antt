-- m * 15625 / 2 ^ j to the nearest whole number: it fits a word, and the order of twice the rest and the divisor says which way it goes.
use mathlib.Core.Path.{◌≡◌, sym, ap, ◌∙◌}
use mathlib.Core.Bool.{Bool}
use Prim.Native.Nat.{ℕ, ◌+◌, ◌*◌, ◌/◌, ◌%◌, ◌^◌, ◌≤◌, ◌<◌}
use native.Mathlib.Nat.{div-add-mod', mod-lt}
use native.Mathlib.Omega.{arith}
use lib.Pow.{pow_pos, pow_mono}
use Rattle.seconds.specs.Seconds.{tie_of, nearest_of}
use Rattle.seconds.proofs.SecondsLaws.{at_most, nearest-near, nearest-down, nearest-up, nearest-half}

module _ (m j : ℕ) (h : m < 2 ^ 53) (lo : 27 ≤ j) where
  unit-large : 134217728 ≤ 2 ^ j
  unit-large = pow_mono lo

  pub whole-limit : m * 15625 / 2 ^ j ≤ 1048576000000
  whole-limit = at_most _ _ (2 ^ j) (omega (arith, unit-large, div-add-mod' (m * 15625) (2 ^ j)))

  pub nearest-limit : (s : Bool) → nearest_of s (m * 15625) (2 ^ j) ≤ 1048576000000
  nearest-limit s =
      let near = nearest-near s (m * 15625) (2 ^ j) (pow_pos j) in
      at_most _ _ (2 ^ j) (omega (arith, unit-large, near.0))

-- by the order of twice the rest and what the code divides by
module _ (s : Bool) (a j p : ℕ) (is : p ≡ 2 ^ j) where
  some : 0 < p
  some = rw is (pow_pos j)

  parts : a ≡ a / p * p + a % p
  parts = sym (div-add-mod' a p)

  by-unit : {n : ℕ} → nearest_of s a p ≡ n → n ≡ nearest_of s a (2 ^ j)
  by-unit e = sym e ∙ ap (nearest_of s a) is

  pub product-down : a % p * 2 < p → a / p ≡ nearest_of s a (2 ^ j)
  product-down h = by-unit (nearest-down s a p _ _ parts h)

  pub product-half : a % p * 2 ≡ p → tie_of s (a / p) ≡ nearest_of s a (2 ^ j)
  product-half h = by-unit (nearest-half s a p _ _ parts some h)

  pub product-up : p < a % p * 2 → a / p + 1 ≡ nearest_of s a (2 ^ j)
  product-up h = omega (arith, by-unit (nearest-up s a p _ _ parts (mod-lt a some) h))
