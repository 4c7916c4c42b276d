-- What the tests of sameness and the rounding to microseconds are worth. The rounding errs by at most half a unit; what else is said of it follows.
-- Only tie-between and tie_up look into the tie rule.
use mathlib.Core.Path.{◌≡◌, refl, sym, ap, ap₂, ◌∙◌, subst}
use mathlib.Core.Bool.{Bool, true, false, cond, beq, ◌&&◌}
use Prim.Native.Nat.{ℕ, zero, suc, ◌+◌, ◌*◌, ◌/◌, ◌%◌, ◌≤◌, ◌<◌, compare, Ordering}
use native.Mathlib.Nat.{add-mul, suc-mul, mul_comm, mul_assoc, mul_right_comm, mul-le-mul_right, mul-lt-mul_of_pos_right, le_of_mul-le-mul_right, lt_of_mul-lt-mul_right, eq_of_mul-eq-mul_right, div-add-mod', mod-lt}
use native.Mathlib.Omega.{arith}
use lib.Arith.{digits_div, digits_mod}
use lib.Dec.{leb, eqb, is_le, compare_is_eq}
use lib.IntN.{ℤ, pos, negsuc, neg_ℤ, ◌+ℤ◌, ◌*ℤ◌, neg_ℤ-+ℤ, -ℤ-+ℤ_cancel}
use lib.Signed.{le_z}
use lib.Ieee.{Float, nan, inf, fin, up, down}
use lib.Ieee.Fits.{down_pos}
use borrow.Author.Tests.{leb-true, leb-false, eqb-true, le-leb, eq-eqb}
use Rattle.laws.proofs.BoolLaws.{clash, and_left, and_right, and_both, same_test}
use Rattle.seconds.specs.Seconds.{tie_of, round_of, nearest_of, signed, is_convertible, micros_of, zero_seconds, same_int, same_double}

-- ---- sameness

-- an integer is the same as itself
pub int_same : (a : ℤ) → same_int a a ≡ true
unfolding same_int
int_same (pos a) = eq-eqb a a refl
int_same (negsuc a) = eq-eqb a a refl

-- integers that the test calls the same are equal
pub same_int_lem : (a b : ℤ) → same_int a b ≡ true → a ≡ b
unfolding same_int
same_int_lem (pos a) (pos b) e = ap pos (eqb-true a b e)
same_int_lem (pos a) (negsuc b) e = clash (sym e)
same_int_lem (negsuc a) (pos b) e = clash (sym e)
same_int_lem (negsuc a) (negsuc b) e = ap negsuc (eqb-true a b e)

sign_same : (s : Bool) → beq s s ≡ true
sign_same true = refl
sign_same false = refl

same_sign : (s t : Bool) → beq s t ≡ true → s ≡ t
same_sign true true e = refl
same_sign true false e = sym e
same_sign false true e = e
same_sign false false e = refl

-- a double is the same as itself, bit for bit
pub double-same : (x : Float) → same_double x x ≡ true
unfolding same_double
double-same nan = refl
double-same (inf s) = sign_same s
double-same (fin s m e) = and_both (sign_same s) (and_both (eq-eqb m m refl) (int_same e))

-- doubles that the test calls the same are equal
pub same_double_lem : (x y : Float) → same_double x y ≡ true → x ≡ y
unfolding same_double
same_double_lem nan nan h = refl
same_double_lem nan (inf t) h = clash (sym h)
same_double_lem nan (fin t n d) h = clash (sym h)
same_double_lem (inf s) nan h = clash (sym h)
same_double_lem (inf s) (inf t) h = ap inf (same_sign s t h)
same_double_lem (inf s) (fin t n d) h = clash (sym h)
same_double_lem (fin s m e) nan h = clash (sym h)
same_double_lem (fin s m e) (inf t) h = clash (sym h)
same_double_lem (fin s m e) (fin t n d) h =
    let p : s ≡ t = same_sign s t (and_left _ _ h) in
    let k = and_right (beq s t) _ h in
    let q : m ≡ n = eqb-true m n (and_left _ _ k) in
    let r : e ≡ d = same_int_lem e d (and_right (eqb m n) _ k) in
    λ i. fin (p i) (q i) (r i)

-- ---- the rounding

-- q is at most half a unit from a / b
abbrev IsNear : ℕ → ℕ → ℕ → Type 0
IsNear q a b = (q * b * 2 ≤ a * 2 + b) × (a * 2 ≤ q * b * 2 + b)

-- the tie rule picks q or the next number up
tie-between : (s : Bool) (q : ℕ) → (q ≤ tie_of s q) × (tie_of s q ≤ suc q)
unfolding tie_of
tie-between true q = omega arith
tie-between false q = omega arith

round-near : (s : Bool) (q b r : ℕ) (o : Ordering) → r < b → compare (r * 2) b ≡ o → IsNear (round_of s q o) (q * b + r) b
unfolding round_of
round-near s q b r Ordering.lt h e = omega (arith, leb-true (r * 2) b (ap is_le e))
round-near s q b r Ordering.eq h e =
    omega (arith, eqb-true (r * 2) b (ap compare_is_eq e), mul-le-mul_right b (tie-between s q).0, mul-le-mul_right b (tie-between s q).1, suc-mul q b)
round-near s q b r Ordering.gt h e = omega (arith, suc-mul q b, leb-false (r * 2) b (ap is_le e))

-- the rounding is never further than half a unit from a / b
pub nearest-near : (s : Bool) (a b : ℕ) → 0 < b → (nearest_of s a b * b * 2 ≤ a * 2 + b) × (a * 2 ≤ nearest_of s a b * b * 2 + b)
unfolding nearest_of
nearest-near s a b h = subst (λ (z : ℕ). IsNear (nearest_of s a b) z b) (div-add-mod' a b) (round-near s (a / b) b (a % b) _ (mod-lt a h) refl)

-- multiples of b less than b apart
pub at_most : (q n b : ℕ) → q * b < n * b + b → q ≤ n
at_most q n b h = omega (arith, lt_of_mul-lt-mul_right b (subst (λ (z : ℕ). q * b < z) (sym (suc-mul n b)) h))

-- a number closer to a / b than half a unit is the rounding
pub nearest-only : (s : Bool) (a b n : ℕ) → 0 < b → a * 2 < n * b * 2 + b → n * b * 2 < a * 2 + b → nearest_of s a b ≡ n
nearest-only s a b n h over under =
    let r = nearest_of s a b in
    let near = nearest-near s a b h in
    omega (arith, at_most r n b (omega arith), at_most n r b (omega arith))

-- a quotient and a remainder decide the rounding
nearest-by : (s : Bool) (a b q r : ℕ) → a ≡ q * b + r → r < b → nearest_of s a b ≡ round_of s q (compare (r * 2) b)
unfolding nearest_of
nearest-by s a b q r e h =
    ap (λ (z : ℕ). nearest_of s z b) e ∙ ap₂ (λ (x y : ℕ). round_of s x (compare (y * 2) b)) (digits_div q h) (digits_mod q h)

-- less than half a unit left: down
pub nearest-down : (s : Bool) (a b q r : ℕ) → a ≡ q * b + r → r * 2 < b → nearest_of s a b ≡ q
nearest-down s a b q r e h = nearest-only s a b q (omega arith) (omega arith) (omega arith)

-- more than half a unit left: up
pub nearest-up : (s : Bool) (a b q r : ℕ) → a ≡ q * b + r → r < b → b < r * 2 → nearest_of s a b ≡ suc q
nearest-up s a b q r e h k = nearest-only s a b (suc q) (omega arith) (omega (arith, suc-mul q b)) (omega (arith, suc-mul q b))

round-half : (s : Bool) (q : ℕ) (o : Ordering) → compare_is_eq o ≡ true → round_of s q o ≡ tie_of s q
unfolding round_of
round-half s q Ordering.lt e = clash (sym e)
round-half s q Ordering.eq e = refl
round-half s q Ordering.gt e = clash (sym e)

-- half a unit left: by the tie rule
pub nearest-half : (s : Bool) (a b q r : ℕ) → a ≡ q * b + r → 0 < b → r * 2 ≡ b → nearest_of s a b ≡ tie_of s q
nearest-half s a b q r e some h = nearest-by s a b q r e (omega arith) ∙ round-half s q (compare (r * 2) b) (eq-eqb (r * 2) b h)

signed_product : (s : Bool) (n k : ℕ) → signed s n *ℤ pos k ≡ signed s (n * k)
signed_product false n k = refl
signed_product true zero k = let none : 0 * k ≡ 0 = omega arith in rw none
signed_product true (suc n) k = refl

-- the tie rule gives the number half a unit above
tie_up : (s : Bool) (q b : ℕ) → signed s (tie_of s q * (b * 2)) ≡ signed s (q * (b * 2) + b) +ℤ pos b
unfolding tie_of
tie_up false q b = ap pos (omega (arith, add-mul q 1 (b * 2)))
tie_up true q b =
    let whole = pos (q * (b * 2)) in
    sym (ap (λ (z : ℤ). z +ℤ pos b) (neg_ℤ-+ℤ whole (pos b)) ∙ -ℤ-+ℤ_cancel (neg_ℤ whole) (pos b))

-- a half goes towards plus infinity: on either side of zero it becomes the number half a unit above it
pub half_up : (s : Bool) (a b : ℕ) → a % b * 2 ≡ b → signed s (nearest_of s a b) *ℤ pos (b * 2) ≡ signed s (a * 2) +ℤ pos b
unfolding nearest_of
half_up s a b h =
    let q : ℕ = a / b in
    let tie : nearest_of s a b ≡ tie_of s q = round-half s q (compare (a % b * 2) b) (eq-eqb (a % b * 2) b h) in
    let twice : q * (b * 2) + b ≡ a * 2 = omega (arith, div-add-mod' a b, mul_assoc q b 2) in
    signed_product s (nearest_of s a b) (b * 2) ∙ ap (λ (n : ℕ). signed s (n * (b * 2))) tie ∙ tie_up s q b ∙ ap (λ (n : ℕ). signed s n +ℤ pos b) twice

-- an answer of `compare`, by its two tests
abbrev order_of : Bool → Bool → Ordering
order_of le eq = cond eq Ordering.eq (cond le Ordering.lt Ordering.gt)

order-of : (o : Ordering) → order_of (is_le o) (compare_is_eq o) ≡ o
order-of Ordering.lt = refl
order-of Ordering.eq = refl
order-of Ordering.gt = refl

compare-scale : (a b k : ℕ) → 0 < k → compare (a * k) (b * k) ≡ compare a b
compare-scale a b k h =
    let le : leb (a * k) (b * k) ≡ leb a b =
    same_test (leb (a * k) (b * k)) (leb a b)
    (λ e. le-leb a b (le_of_mul-le-mul_right (leb-true (a * k) (b * k) e) h))
    (λ e. le-leb (a * k) (b * k) (mul-le-mul_right k (leb-true a b e))) in
    let eq : eqb (a * k) (b * k) ≡ eqb a b =
    same_test (eqb (a * k) (b * k)) (eqb a b)
    (λ e. eq-eqb a b (eq_of_mul-eq-mul_right k h a b (eqb-true (a * k) (b * k) e)))
    (λ e. eq-eqb (a * k) (b * k) (ap (λ (z : ℕ). z * k) (eqb-true a b e))) in
    sym (order-of (compare (a * k) (b * k))) ∙ ap₂ order_of le eq ∙ order-of (compare a b)

-- a fraction that is not in its lowest terms
nearest-scale : (s : Bool) (a b k : ℕ) → 0 < b → 0 < k → nearest_of s (a * k) (b * k) ≡ nearest_of s a b
nearest-scale s a b k B K =
    let q : ℕ = a / b in
    let r : ℕ = a % b in
    let parts : a ≡ q * b + r = sym (div-add-mod' a b) in
    let scaled : a * k ≡ q * (b * k) + r * k = ap (λ (z : ℕ). z * k) parts ∙ add-mul (q * b) r k ∙ ap (λ (z : ℕ). z + r * k) (mul_assoc q b k) in
    let below : r < b = mod-lt a B in
    nearest-by s (a * k) (b * k) q (r * k) scaled (mul-lt-mul_of_pos_right below K)
    ∙ ap (round_of s q) (ap (λ (z : ℕ). compare z (b * k)) (mul_right_comm r k 2) ∙ compare-scale (r * 2) b k K)
    ∙ sym (nearest-by s a b q r parts below)

-- equal fractions round alike
pub nearest-same : (s : Bool) (a b c d : ℕ) → 0 < b → 0 < d → a * d ≡ c * b → nearest_of s a b ≡ nearest_of s c d
nearest-same s a b c d B D e =
    sym (nearest-scale s a b d B D) ∙ ap₂ (nearest_of s) e (mul_comm b d) ∙ nearest-scale s c d b D B

-- ---- microseconds

signed-limit : (s : Bool) (n : ℕ) → n ≤ 1000000000000 → (le_z (neg_ℤ (pos 1000000000000)) (signed s n) && le_z (signed s n) (pos 1000000000000)) ≡ true
signed-limit false n h = le-leb n 1000000000000 h
signed-limit true zero h = refl
signed-limit true (suc n) h = and_both (le-leb n 999999999999 (omega arith)) refl

-- a convertible double is at most 10 ^ 12 microseconds, either way
pub micros-limit : (x : Float) → is_convertible x ≡ true → (le_z (neg_ℤ (pos 1000000000000)) (micros_of x) && le_z (micros_of x) (pos 1000000000000)) ≡ true
unfolding is_convertible micros_of
micros-limit nan h = refl
micros-limit (inf s) h = refl
micros-limit (fin s m e) h =
    let a : ℕ = m * up e in
    let b : ℕ = down e in
    let r : ℕ = nearest_of s (a * 1000000) b in
    let le : a ≤ 1000000 * b = leb-true a (1000000 * b) h in
    let some : 0 < b = down_pos e in
    let near : r * b * 2 ≤ a * 1000000 * 2 + b = (nearest-near s (a * 1000000) b some).0 in
    signed-limit s r (at_most r 1000000000000 b (omega arith))

-- plus zero is convertible, and is 0 microseconds
pub zero-converts : (is_convertible zero_seconds ≡ true) × (micros_of zero_seconds ≡ pos 0)
unfolding is_convertible micros_of nearest_of round_of
zero-converts = (refl, refl)
