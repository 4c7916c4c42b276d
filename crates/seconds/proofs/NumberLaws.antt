-- Doubles that a program can hold and that are numbers: of the format, and no NaN. Their 64 bits say all of them; plus zero, what converts
-- and every quotient of a whole number of microseconds are such.
use mathlib.Core.Path.{◌≡◌, refl, sym, ap, ◌∙◌, subst}
use mathlib.Core.Bool.{Bool, true, false, not}
use Prim.Native.Nat.{ℕ, zero, suc, ◌+◌, ◌*◌, ◌^◌, ◌<◌}
use lib.Dec.{T, ltb}
use lib.IntN.{ℤ, pos, negsuc}
use lib.Ieee.{Float, nan, inf, fin, Format, prec, emax, low, binary64, fits, is_nan, unlike, up, down, odd, units, round, div, of_int, top, of_bits, to_bits, nan_bits}
use lib.Ieee.Bits.{of_bits-to_bits, to_bits-of_bits, nan_bits_is}
use lib.Ieee.Fits.{div-fits, round_is}
use Rattle.laws.proofs.BoolLaws.{clash, by-test}
use Rattle.seconds.specs.Seconds.{is_convertible, is_convertible_end, seconds_of, zero_seconds}

pub record IsNumber (x : Float) : Type 0 where
  pub held : T (fits binary64 x)
  pub some : is_nan x ≡ false

-- ---- its bits

module _ (x : Float) (n : IsNumber x) where
  pub bits_back : of_bits binary64 (to_bits binary64 x) ≡ x
  bits_back = of_bits-to_bits binary64 x n.held

  pub bits-number : not (nan_bits binary64 (to_bits binary64 x)) ≡ true
  bits-number = ap not (nan_bits_is binary64 (to_bits binary64 x) ∙ ap is_nan bits_back ∙ n.some)

-- 64 bits that are not a NaN's are those of the double that they give
pub bits-kept : (n : ℕ) → n < 2 * top binary64 → not (nan_bits binary64 n) ≡ true → to_bits binary64 (of_bits binary64 n) ≡ n
bits-kept n few h = to_bits-of_bits binary64 n few (subst T (sym (sym (ap not (nan_bits_is binary64 n)) ∙ h)) tt)

-- ---- which are numbers

pub zero_number : IsNumber zero_seconds
unfolding fits is_nan
zero_number = record { held = tt; some = refl }

-- of the format, and such that it converts
pub converts-number : (x : Float) → T (fits binary64 x) → is_convertible x ≡ true → IsNumber x
unfolding is_convertible is_nan
converts-number nan f h = clash (sym h)
converts-number (inf s) f h = record { held = f; some = refl }
converts-number (fin s m e) f h = record { held = f; some = refl }

pub end-number : (x : Float) → T (fits binary64 x) → is_convertible_end x ≡ true → IsNumber x
unfolding is_convertible is_convertible_end is_nan
end-number nan f h = clash (sym h)
end-number (inf s) f h = record { held = f; some = refl }
end-number (fin s m e) f h = record { held = f; some = refl }

-- what is rounded is a number, or too large and an infinity
odd-some : (d : ℕ) (s : Bool) (q k l : ℕ) → is_nan (odd d s q k l) ≡ false
unfolding odd is_nan
odd-some d s zero k l = refl
odd-some d s (suc q) k l = refl

units-some : (f : Format) (s : Bool) (q k : ℕ) → is_nan (units f s q k) ≡ false
unfolding units is_nan
units-some f s q k =
    by-test (λ (x : Float). is_nan x ≡ false) (ltb (q * 2 ^ k) (2 ^ (low f + suc (emax f)))) {x = odd (suc (prec f)) s q k (low f)} {y = inf s}
    (λ _. odd-some (suc (prec f)) s q k (low f)) (λ _. refl)

round-some : (f : Format) (s : Bool) (num den : ℕ) → is_nan (round f s num den) ≡ false
round-some f s num den = ap is_nan (round_is f s num den) ∙ units-some f s _ _

int-some : (z : ℤ) → is_nan (of_int binary64 z) ≡ false
unfolding of_int
int-some (pos n) = round-some binary64 false n 1
int-some (negsuc n) = round-some binary64 true (suc n) 1

-- divided by 1,000,000
over-some : (x : Float) → is_nan x ≡ false → is_nan (div binary64 x (fin false 15625 (pos 6))) ≡ false
unfolding div is_nan
over-some nan h = clash h
over-some (inf s) h = refl
over-some (fin s m e) h = round-some binary64 (unlike s false) (m * up e * down (pos 6)) (15625 * up (pos 6) * down e)

pub quotient-number : (z : ℤ) → IsNumber (seconds_of z)
unfolding seconds_of
quotient-number z = record { held = div-fits binary64 _ _; some = over-some (of_int binary64 z) (int-some z) }
