-- What a reader may cite of the conversion: it is rounded down, also below zero. Assumes nothing.
use mathlib.Core.Path.{◌≡◌, refl, ap, ◌∙◌}
use mathlib.Core.Bool.{true}
use Prim.Native.Nat.{ℕ, zero, suc, ◌+◌, ◌*◌, ◌-◌, ◌/◌, ◌≤◌, ◌<◌}
use native.Mathlib.Omega.{arith}
use native.Mathlib.Nat.{suc-mul, div-mul-le_self, lt-div-mul-add}
use borrow.Author.Tests.{le-leb, lt-ltb}
use lib.IntN.{ℤ, pos, negsuc, neg_ℤ, ◌+ℤ◌, ◌*ℤ◌}
use lib.Signed.{le_z, lt_z}
use Rattle.media_times.specs.MediaTimes.{down_by, micros_of}

-- among numbers below zero the order turns round
not-above : (k a : ℕ) → a < k → le_z (neg_ℤ (pos k)) (negsuc a) ≡ true
not-above zero a h = absurd (omega arith)
not-above (suc k) a h = le-leb a k (omega arith)

below : (k a : ℕ) → k ≤ a → lt_z (negsuc a) (neg_ℤ (pos k)) ≡ true
below zero a h = refl
below (suc k) a h = lt-ltb k a (omega arith)

one_more : (q d : ℕ) → (negsuc q +ℤ pos 1) *ℤ pos d ≡ neg_ℤ (pos (q * d))
one_more zero d = let e : 0 * d ≡ 0 = omega arith in rw e
one_more (suc q) d =
    let e : suc (suc q) - 2 ≡ q = omega arith in
    let f : 2 ≤ suc (suc q) = omega arith in
    rw (le-leb 2 (suc (suc q)) f, e)

down_is : (p : ℤ) (d : ℕ) → 1 ≤ d → (le_z (down_by p d *ℤ pos d) p ≡ true) × (lt_z p ((down_by p d +ℤ pos 1) *ℤ pos d) ≡ true)
down_is (pos n) d some =
    let q : n < n / d * d + d = lt-div-mul-add some in
    let e : (n / d + 1) * d ≡ n / d * d + d = (let f : n / d + 1 ≡ suc (n / d) = omega arith in ap (λ k. k * d) f ∙ suc-mul (n / d) d) in
    (le-leb (n / d * d) n (div-mul-le_self n d), lt-ltb n ((n / d + 1) * d) (omega (arith, q, e)))
down_is (negsuc a) d some =
    let q : a < a / d * d + d = lt-div-mul-add some in
    let e : suc (a / d) * d ≡ a / d * d + d = suc-mul (a / d) d in
    (not-above (suc (a / d) * d) a (omega (arith, q, e)), rw (one_more (a / d) d) (below (a / d * d) a (div-mul-le_self a d)))

-- of the whole microseconds, the greatest that is not above t times 1,000,000 over the timescale
pub rounded-down : (t : ℤ) (scale : ℕ) → 1 ≤ scale
    → (le_z (micros_of t scale *ℤ pos scale) (t *ℤ pos 1000000) ≡ true) × (lt_z (t *ℤ pos 1000000) ((micros_of t scale +ℤ pos 1) *ℤ pos scale) ≡ true)
unfolding micros_of
rounded-down t scale some = down_is (t *ℤ pos 1000000) scale some
