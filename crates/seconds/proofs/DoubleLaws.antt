-- A double by the code's tests and by its bits: the exact fraction that the fields stand for, and what it is in microseconds.
use mathlib.Core.Path.{◌≡◌, refl, sym, ap, ◌∙◌, subst}
use mathlib.Core.Bool.{Bool, true, false, not, cond, ◌&&◌, ◌||◌}
use Prim.Native.Nat.{ℕ, zero, suc, ◌+◌, ◌-◌, ◌*◌, ◌/◌, ◌%◌, ◌^◌, ◌≤◌, ◌<◌}
use native.Mathlib.Nat.{le_trans, le_of_eq, lt_of_lt_of_le, not-le_of_lt, lt_of_not-le, mul-one, mul_assoc, mul_right_comm, mul-le-mul_right, mul-le-mul_left, le_of_mul-le-mul_right, mul-lt-mul_of_pos_right, mod-lt}
use native.Mathlib.Omega.{arith}
use lib.Dec.{T, leb, ltb, eqb, lit<, lit≤}
use lib.Pow.{pow-add, pow_pos, pow_mono}
use lib.IntN.{ℤ, pos}
use lib.Ieee.{Float, nan, inf, fin, binary64, up, down, odd, is_nan, fits, lt, le, eq, of_fields, of_bits, to_bits}
use lib.Ieee.Fits.{down_pos}
use lib.Ieee.Bits.{of_bits-to_bits}
use lib.Ieee.Exact.{HasValue, odd_sign}
use borrow.Author.Tests.{ltb-true, ltb-false, leb-true, eqb-true, lt-ltb, le-leb, eq-eqb}
use Rattle.laws.proofs.BoolLaws.{clash, both_ways, split, and_left, and_both, or_cases, or_left, or_right, same_test}
use Rattle.seconds.specs.Seconds.{signed, nearest_of, is_convertible, micros_of, is_plus_infinity, same_double}
use Rattle.seconds.proofs.SecondsLaws.{double-same, same_double_lem, nearest-down, nearest-same}

-- ---- the tests

-- 1,000,000 is 15625 * 2 ^ 6
abbrev pub million : Bool → Float
million s = fin s 15625 (pos 6)

-- a ≤ b, as a double's test has it
le_test : (a b : ℕ) → (ltb a b || (eqb a b && true)) ≡ leb a b
le_test a b =
    same_test (ltb a b || (eqb a b && true)) (leb a b)
    (λ e. or_cases (ltb a b) (eqb a b && true) e (λ l. le-leb a b (omega (arith, ltb-true a b l))) (λ q. le-leb a b (le_of_eq (eqb-true a b (and_left _ _ q)))))
    (λ e. split (ltb a b) (or_left (ltb a b) (eqb a b && true)) (λ n. or_right (ltb a b) _ (and_both (eq-eqb a b (omega (arith, leb-true a b e, ltb-false a b n))) refl)))

eqb-turned : (a b : ℕ) → eqb b a ≡ eqb a b
eqb-turned a b = same_test (eqb b a) (eqb a b) (λ e. eq-eqb a b (sym (eqb-true b a e))) (λ e. eq-eqb b a (sym (eqb-true a b e)))

-- the lower limit, for a double that is negative
le-low : (m : ℕ) (e : ℤ) → le (million true) (fin true m e) ≡ is_convertible (fin true m e)
unfolding lt le eq is_convertible
le-low m e =
    ap (λ (q : Bool). ltb (m * up e * 1) (1000000 * down e) || (q && true)) (eqb-turned (m * up e * 1) (1000000 * down e))
    ∙ le_test (m * up e * 1) (1000000 * down e)
    ∙ ap (λ (z : ℕ). leb z (1000000 * down e)) (mul-one (m * up e))

pub range-low : (x : Float) → le (million true) x ≡ false → le (million true) x ≡ is_convertible x
unfolding lt le eq is_convertible
range-low nan h = refl
range-low (inf true) h = refl
range-low (inf false) h = clash h
range-low (fin true m e) h = le-low m e
range-low (fin false m e) h = both_ways (or_left _ _ (lt-ltb 0 (1000000 * down e + m * up e * 1) (omega (arith, down_pos e)))) h

pub range-high : (x : Float) → le (million true) x ≡ true → le x (million false) ≡ is_convertible x
unfolding lt le eq is_convertible
range-high nan h = refl
range-high (inf true) h = clash (sym h)
range-high (inf false) h = refl
range-high (fin true m e) h =
    or_left _ _ (lt-ltb 0 (m * up e * 1 + 1000000 * down e) (omega (arith, down_pos e)))
    ∙ sym h ∙ le-low m e
range-high (fin false m e) h = le_test (m * up e * 1) (1000000 * down e) ∙ ap (λ (z : ℕ). leb z (1000000 * down e)) (mul-one (m * up e))

pub infinity-test : (x : Float) → eq x (inf false) ≡ is_plus_infinity x
unfolding eq
infinity-test nan = refl
infinity-test (inf true) = refl
infinity-test (inf false) = refl
infinity-test (fin s m e) = refl

-- a convertible double has bits of its own
pub convertible-number : (x : Float) → is_convertible x ≡ true → T (not (is_nan x))
unfolding is_convertible is_nan
convertible-number nan h = clash (sym h)
convertible-number (inf s) h = tt
convertible-number (fin s m e) h = tt

-- ---- a value, by any fraction that it equals

value-limit : (x : Float) (s : Bool) (a c : ℕ) → HasValue x s a c → is_convertible x ≡ true → a ≤ 1000000 * c
unfolding is_convertible
value-limit nan s a c v h = absurd v
value-limit (inf t) s a c v h = absurd v
value-limit (fin t m e) s a c v h =
    let within : m * up e * c ≤ 1000000 * down e * c = mul-le-mul_right c (leb-true (m * up e) (1000000 * down e) h) in
    le_of_mul-le-mul_right (omega (arith, v.1, mul_right_comm 1000000 (down e) c)) (down_pos e)

value-micros : (x : Float) (s : Bool) (a c : ℕ) → 0 < c → HasValue x s a c → micros_of x ≡ signed s (nearest_of s (a * 1000000) c)
unfolding micros_of
value-micros nan s a c C v = absurd v
value-micros (inf t) s a c C v = absurd v
value-micros (fin t m e) s a c C v =
    ap (signed t) (nearest-same t (m * up e * 1000000) (down e) (a * 1000000) c (down_pos e) C (mul_right_comm (m * up e) 1000000 c ∙ ap (λ (z : ℕ). z * 1000000) v.1 ∙ mul_right_comm a (down e) 1000000))
    ∙ ap (λ (u : Bool). signed u (nearest_of u (a * 1000000) c)) v.0

-- ---- the value of the fields: that of an exponent x and digits t is magnitude x t / 2 ^ 1074

abbrev magnitude : ℕ → ℕ → ℕ
magnitude zero t = t * 2 ^ 0
magnitude (suc k) t = (2 ^ 52 + t) * 2 ^ k

fields_value : (s : Bool) (x t : ℕ) → is_convertible (of_fields binary64 s x t) ≡ true → HasValue (of_fields binary64 s x t) s (magnitude x t) (2 ^ 1074)
unfolding of_fields is_convertible
fields_value s zero t h = odd_sign 53 s t 0 1074
fields_value s (suc k) t h = finite (eqb (suc k) 2047) (eqb t 0) h
  where
    number : Float
    number = odd 53 s (2 ^ 52 + t) k 1074

    finite : (a b : Bool) → is_convertible (cond a (cond b (inf s) nan) number) ≡ true → HasValue (cond a (cond b (inf s) nan) number) s ((2 ^ 52 + t) * 2 ^ k) (2 ^ 1074)
    finite true true h = clash (sym h)
    finite true false h = clash (sym h)
    finite false b h = odd_sign 53 s (2 ^ 52 + t) k 1074

-- below 2 ^ -21 seconds
magnitude-small : (x t : ℕ) → x < 1002 → t < 2 ^ 52 → magnitude x t < 2 ^ 1053
magnitude-small zero t h k = lt_of_lt_of_le (omega arith) (lit≤ {m = 2 ^ 52} tt)
magnitude-small (suc k) t h d =
    let q : ℕ = 2 ^ 52 + t in
    let low : q < 2 ^ 53 = omega arith in
    let most : k ≤ 1000 = omega arith in
    lt_of_lt_of_le (mul-lt-mul_of_pos_right low (pow_pos k)) (mul-le-mul_left (2 ^ 53) (pow_mono most))

tiny : (s : Bool) (a b d : ℕ) → a < d → d * 2000000 ≤ b → nearest_of s (a * 1000000) b ≡ 0
tiny s a b d h k = nearest-down s (a * 1000000) b 0 (a * 1000000) (omega arith) (omega arith)

zero-sign : (s : Bool) → signed s 0 ≡ pos 0
zero-sign true = refl
zero-sign false = refl

small-fields : (s : Bool) (x t : ℕ) → x < 1002 → t < 2 ^ 52 → is_convertible (of_fields binary64 s x t) ≡ true → micros_of (of_fields binary64 s x t) ≡ pos 0
small-fields s x t h d w =
    value-micros (of_fields binary64 s x t) s (magnitude x t) (2 ^ 1074) (pow_pos 1074) (fields_value s x t w)
    ∙ ap (signed s) (tiny s (magnitude x t) (2 ^ 1074) (2 ^ 1053) (magnitude-small x t h d) (lit≤ tt))
    ∙ zero-sign s

-- a larger exponent is beyond 1,000,000 seconds
exponent-limit : (s : Bool) (x t : ℕ) → is_convertible (of_fields binary64 s x t) ≡ true → x ≤ 1042
exponent-limit s zero t w = lit≤ tt
exponent-limit s (suc k) t w =
    let q : ℕ = 2 ^ 52 + t in
    let within : q * 2 ^ k ≤ 1000000 * 2 ^ 1074 = value-limit (of_fields binary64 s (suc k) t) s (q * 2 ^ k) (2 ^ 1074) (fields_value s (suc k) t w) w in
    let least : 2 ^ 52 ≤ q = omega arith in
    let beyond : 1042 ≤ k → ⊥ = λ h. not-le_of_lt (lit< tt) (le_trans (mul-le-mul_left (2 ^ 52) (pow_mono h)) (le_trans (mul-le-mul_right (2 ^ k) least) within)) in
    lt_of_not-le beyond

scale : (q P Q N : ℕ) → P * Q ≡ N → q * P * 1000000 * Q ≡ q * 15625 * (N * 64)
scale q P Q N e =
    let whole : q * P * Q ≡ q * N = mul_assoc q P Q ∙ ap (λ (z : ℕ). q * z) e in
    omega (arith, whole, mul_right_comm (q * P) 1000000 Q, mul_assoc (q * 15625) N 64, mul_right_comm q 15625 N)

large-fields : (s : Bool) (x t : ℕ) → 1002 ≤ x → is_convertible (of_fields binary64 s x t) ≡ true
    → micros_of (of_fields binary64 s x t) ≡ signed s (nearest_of s ((2 ^ 52 + t) * 15625) (2 ^ (1069 - x)))
large-fields s zero t h w = absurd (omega arith)
large-fields s (suc k) t h w =
    let q : ℕ = 2 ^ 52 + t in
    let j : ℕ = 1069 - suc k in
    let most : suc k ≤ 1042 = exponent-limit s (suc k) t w in
    let n : k + j ≡ 1068 = omega arith in
    let e : 2 ^ k * 2 ^ j ≡ 2 ^ 1068 = sym (pow-add 2 k j) ∙ ap (λ (z : ℕ). 2 ^ z) n in
    value-micros (of_fields binary64 s (suc k) t) s (q * 2 ^ k) (2 ^ 1074) (pow_pos 1074) (fields_value s (suc k) t w)
    ∙ ap (signed s) (nearest-same s (q * 2 ^ k * 1000000) (2 ^ 1074) (q * 15625) (2 ^ j) (pow_pos 1074) (pow_pos j) (scale q (2 ^ k) (2 ^ j) (2 ^ 1068) e))

-- ---- the same of a double, by its bits

abbrev pub sign_of : Float → Bool
sign_of x = leb (2 ^ 63) (to_bits binary64 x)

abbrev pub exponent_of : Float → ℕ
exponent_of x = to_bits binary64 x % 2 ^ 63 / 2 ^ 52

abbrev pub digits_of : Float → ℕ
digits_of x = to_bits binary64 x % 2 ^ 52

module _ (x : Float) (F : T (fits binary64 x)) (w : is_convertible x ≡ true) where
  by-fields : of_fields binary64 (sign_of x) (exponent_of x) (digits_of x) ≡ x
  unfolding of_bits
  by-fields = of_bits-to_bits binary64 x F

  there : is_convertible (of_fields binary64 (sign_of x) (exponent_of x) (digits_of x)) ≡ true
  there = ap is_convertible by-fields ∙ w

  pub exponent-in : exponent_of x ≤ 1042
  exponent-in = exponent-limit _ _ _ there

  pub small-double : exponent_of x < 1002 → micros_of x ≡ pos 0
  small-double h = ap micros_of (sym by-fields) ∙ small-fields _ _ _ h (mod-lt (to_bits binary64 x) (lit< tt)) there

  pub large-double : 1002 ≤ exponent_of x → micros_of x ≡ signed (sign_of x) (nearest_of (sign_of x) ((2 ^ 52 + digits_of x) * 15625) (2 ^ (1069 - exponent_of x)))
  large-double h = ap micros_of (sym by-fields) ∙ large-fields _ _ _ h there

-- ---- sameness

-- a test that passes exactly for equal doubles
pub same_by : (a b : Float) (t : Bool) → (t ≡ true → a ≡ b) → (a ≡ b → t ≡ true) → t ≡ same_double a b
same_by a b t h k = same_test t (same_double a b) (λ e. subst (λ (z : Float). same_double a z ≡ true) (h e) (double-same a)) (λ e. k (same_double_lem a b e))
