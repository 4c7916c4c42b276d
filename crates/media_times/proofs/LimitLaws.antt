-- Limits by products: a converted time is inside its limits, and a frame lasts 1 to 10,000,000 microseconds, exactly where a product is
-- (`offered-is`, `lasts-is`). Moved up by a multiple of the scale, a time below zero is converted as one above.
use mathlib.Core.Path.{◌≡◌, refl, sym, ap, ◌∙◌}
use mathlib.Core.Bool.{true, false, ◌&&◌}
use mathlib.Core.Logic.{◌↔◌}
use Prim.Native.Nat.{ℕ, zero, suc, ◌+◌, ◌*◌, ◌-◌, ◌/◌, ◌%◌, ◌≤◌, ◌<◌}
use native.Mathlib.Nat.{suc-mul, add-mul, mul-le-mul_left, mul_right_comm, div-add-mod', mod-lt, div-mul-le_self, lt-div-mul-add, le-div_iff_mul-le, div-lt_iff_lt-mul}
use native.Mathlib.Omega.{arith}
use lib.Arith.{digits_div}
use lib.Dec.{leb, ltb}
use lib.IntN.{ℤ, pos, negsuc, neg_ℤ, ◌+ℤ◌, ◌-ℤ◌, ◌*ℤ◌, +ℤ-neg_ℤ_cancel}
use lib.Signed.{mag, lt_z, le_z}
use borrow.Author.Tests.{leb-true, leb-false, ltb-true, le-leb, lt-leb, lt-ltb}
use Rattle.laws.proofs.BoolLaws.{split, and_left, and_right, and_both, same_test}
use Rattle.laws.proofs.IntLaws.{lift, lift-eq, lift-add, mag-add}
use Rattle.buffer_state.specs.Limits.{is_within, offered_time}
use Rattle.media_times.specs.declared.Sample.{Sample}
use Rattle.media_times.specs.MediaTimes.{down_by, micros_of, dts_of, pts_of, end_of, duration_of, good_scale, in_limits}
use Rattle.media_times.proofs.RoundLaws.{mag-negated, mag-product, mag-micros}

-- ---- a scale

pub scale-some : (n : ℕ) → good_scale n ≡ true → 1 ≤ n
unfolding good_scale
scale-some n e = leb-true 1 n (and_left _ _ e)

pub scale-most : (n : ℕ) → good_scale n ≡ true → n ≤ 1000000
unfolding good_scale
scale-most n e = leb-true n 1000000 (and_right (leb 1 n) _ e)

-- ---- a time

-- below zero, the product as a constructor
product-below : (n : ℕ) → negsuc n *ℤ pos 1000000 ≡ negsuc (999999 + n * 1000000)
product-below n = let e : suc n * 1000000 ≡ suc (999999 + n * 1000000) = omega arith in ap (λ (m : ℕ). neg_ℤ (pos m)) e

no-later : (m n : ℕ) → le_z (neg_ℤ (pos m)) (pos n) ≡ true
no-later zero n = le-leb 0 n (omega arith)
no-later (suc m) n = refl

no-later-below : (m n : ℕ) → le_z (neg_ℤ (pos m)) (negsuc n) ≡ leb (suc n) m
no-later-below zero n = sym (lt-leb (suc n) 0 (omega arith))
no-later-below (suc m) n = same_test _ _ (λ e. le-leb (suc n) (suc m) (omega (arith, leb-true n m e))) (λ e. le-leb n m (omega (arith, leb-true (suc n) (suc m) e)))

module _ (scale : ℕ) (good : good_scale scale ≡ true) where
  -- inside the limits, by its products
  pub offered-is : (t : ℤ)
      → (le_z (negsuc 999999 *ℤ pos scale) t && lt_z (t *ℤ pos 1000000) (pos 1000000000001 *ℤ pos scale)) ≡ offered_time (micros_of t scale)
  unfolding offered_time micros_of
  offered-is (pos n) =
      let q = n * 1000000 / scale in
      let by : (q < 1000000000001) ↔ (n * 1000000 < 1000000000001 * scale) = div-lt_iff_lt-mul (scale-some scale good) in
      rw (no-later (1000000 * scale) n)
      (same_test _ _
      (λ e. le-leb q 1000000000000 (omega (arith, by.1 (ltb-true (n * 1000000) (1000000000001 * scale) e))))
      (λ e. lt-ltb (n * 1000000) (1000000000001 * scale) (by.0 (omega (arith, leb-true q 1000000000000 e)))))
  offered-is (negsuc n) =
      let q = (999999 + n * 1000000) / scale in
      let by : (q < 1000000000000) ↔ (999999 + n * 1000000 < 1000000000000 * scale) = div-lt_iff_lt-mul (scale-some scale good) in
      rw (no-later-below (1000000 * scale) n, product-below n)
      (ap (λ b. b && true)
      (same_test _ _
      (λ e. le-leb q 999999999999 (omega (arith, by.1 (omega (arith, leb-true (suc n) (1000000 * scale) e)))))
      (λ e. le-leb (suc n) (1000000 * scale) (omega (arith, by.0 (omega (arith, leb-true q 999999999999 e)))))))

  -- a media time that is not negative, and the latest of them
  pub offered-by : (n : ℕ) → ltb (n * 1000000) (1000000000001 * scale) ≡ offered_time (micros_of (pos n) scale)
  offered-by n = ap (λ b. b && ltb (n * 1000000) (1000000000001 * scale)) (sym (no-later (1000000 * scale) n)) ∙ offered-is (pos n)

  pub offered-most : (n : ℕ) → offered_time (micros_of (pos n) scale) ≡ true → n ≤ 1000000000000
  offered-most n e = omega (arith, ltb-true (n * 1000000) (1000000000001 * scale) (offered-by n ∙ e), scale-most scale good)

  pub offered-sooner : (m n : ℕ) → m ≤ n → offered_time (micros_of (pos n) scale) ≡ true → offered_time (micros_of (pos m) scale) ≡ true
  offered-sooner m n h e =
      let k = ltb-true (n * 1000000) (1000000000001 * scale) (offered-by n ∙ e) in
      sym (offered-by m) ∙ lt-ltb (m * 1000000) (1000000000001 * scale) (omega arith)

-- ---- a time moved up

lift-neg : (k m : ℕ) → lift k (neg_ℤ (pos m)) ≡ k - m
lift-neg k zero = omega arith
lift-neg k (suc m) = refl

lift-millions : (k : ℕ) (t : ℤ) → mag t < k → lift (k * 1000000) (t *ℤ pos 1000000) ≡ lift k t * 1000000
lift-millions k (pos n) h = omega arith
lift-millions k (negsuc n) h = omega (arith, lift-neg (k * 1000000) (suc n * 1000000))

module _ (k d : ℕ) (some : 1 ≤ d) where
  lift-down : (t : ℤ) → mag t < k * d → lift k (down_by t d) ≡ lift (k * d) t / d
  lift-down (pos n) h =
      let e : n / d * d + n % d ≡ n = div-add-mod' n d in
      let f : (k + n / d) * d ≡ k * d + n / d * d = add-mul k (n / d) d in
      let g : k * d + n ≡ (k + n / d) * d + n % d = omega arith in
      sym (ap (λ (x : ℕ). x / d) g ∙ digits_div (k + n / d) (mod-lt n some))
  lift-down (negsuc n) h =
      let q = n / d in
      let r = n % d in
      let l : r < d = mod-lt n some in
      let e : q * d + r ≡ n = div-add-mod' n d in
      let s : q < k = (div-lt_iff_lt-mul some).1 h in
      let w : (k - suc q) + suc q ≡ k = omega arith in
      let f : ((k - suc q) + suc q) * d ≡ (k - suc q) * d + suc q * d = add-mul (k - suc q) (suc q) d in
      let f' : k * d ≡ (k - suc q) * d + suc q * d = ap (λ (x : ℕ). x * d) (sym w) ∙ f in
      let m : suc q * d ≡ q * d + d = suc-mul q d in
      let g : k * d - suc n ≡ (k - suc q) * d + (d - suc r) = omega (arith, f', m, e) in
      sym (ap (λ (x : ℕ). x / d) g ∙ digits_div (k - suc q) (omega arith))

-- moved up by a multiple of the scale, a media time is converted as one that is not negative
lift-micros : (k d : ℕ) → 1 ≤ d → (t : ℤ) → mag t < k * d → lift (k * 1000000) (micros_of t d) ≡ lift (k * d) t * 1000000 / d
unfolding micros_of
lift-micros k d some t h =
    let e : k * 1000000 * d ≡ k * d * 1000000 = mul_right_comm k 1000000 d in
    let m : mag (t *ℤ pos 1000000) < k * 1000000 * d = omega (arith, mag-product t, e) in
    lift-down (k * 1000000) d some (t *ℤ pos 1000000) m
    ∙ ap (λ (x : ℕ). lift x (t *ℤ pos 1000000) / d) e
    ∙ ap (λ (x : ℕ). x / d) (lift-millions (k * d) t h)

-- ---- a duration

-- one time above another by w, both moved up
difference : (k : ℕ) (a b : ℤ) (w : ℕ) → mag b < k → suc (suc (mag a + w)) < k → lift k b ≡ lift k a + w → b -ℤ a ≡ pos w
difference k a b w h l e =
    let m : mag (pos w +ℤ a) < k = omega (arith, mag-add (pos w) a) in
    let f : b ≡ pos w +ℤ a = lift-eq k b (pos w +ℤ a) h m (omega (arith, lift-add k (pos w) a (omega arith))) in
    ap (λ (z : ℤ). z -ℤ a) f ∙ +ℤ-neg_ℤ_cancel (pos w) a

module _ (scale : ℕ) (good : good_scale scale ≡ true) where
  -- d more units: at least c microseconds more, or at most
  at_least : (t d c : ℕ) → c * scale ≤ d * 1000000 → t * 1000000 / scale + c ≤ (t + d) * 1000000 / scale
  at_least t d c h =
      let x = t * 1000000 / scale in
      let q : x * scale ≤ t * 1000000 = div-mul-le_self (t * 1000000) scale in
      let g : (x + c) * scale ≤ (t + d) * 1000000 = omega (arith, add-mul x c scale, q, h) in
      (le-div_iff_mul-le (scale-some scale good)).1 g

  at_most : (t d c : ℕ) → d * 1000000 ≤ c * scale → (t + d) * 1000000 / scale ≤ t * 1000000 / scale + c
  at_most t d c h =
      let x = t * 1000000 / scale in
      let q : t * 1000000 < x * scale + scale = lt-div-mul-add (scale-some scale good) in
      let g : (t + d) * 1000000 < suc (x + c) * scale = omega (arith, suc-mul (x + c) scale, add-mul x c scale, q, h) in
      omega (arith, (div-lt_iff_lt-mul {y = suc (x + c)} (scale-some scale good)).1 g)

  -- what d units take from a media time t that is not negative
  abbrev taken : ℕ → ℕ → ℕ
  taken t d = (t + d) * 1000000 / scale - t * 1000000 / scale

  -- a unit is a microsecond at least, and a unit more than ten seconds is one too many
  taken-limits : (t d : ℕ) → (leb 1 d && leb d (10 * scale)) ≡ (leb 1 (taken t d) && leb (taken t d) 10000000)
  taken-limits t d =
      let s = scale-most scale good in
      let wide : t * 1000000 / scale + d ≤ (t + d) * 1000000 / scale = at_least t d d (mul-le-mul_left d s) in
      same_test _ _
      (λ e.
      let m = leb-true d (10 * scale) (and_right (leb 1 d) _ e) in
      and_both
      (le-leb 1 (taken t d) (omega (arith, wide, leb-true 1 d (and_left _ _ e))))
      (le-leb (taken t d) 10000000 (omega (arith, at_most t d 10000000 (omega arith)))))
      (λ e.
      let some = leb-true 1 (taken t d) (and_left _ _ e) in
      let most = leb-true (taken t d) 10000000 (and_right (leb 1 (taken t d)) _ e) in
      and_both
      (split (leb 1 d) (λ q. q) (λ q. absurd (omega (arith, at_most t d 0 (omega (arith, leb-false 1 d q)), some))))
      (split (leb d (10 * scale)) (λ q. q) (λ q. absurd (omega (arith, at_least t d 10000001 (omega (arith, leb-false d (10 * scale) q)), most)))))

  module _ (t : ℤ) (d : ℕ) where
    -- moved up far enough
    abbrev far : ℕ
    far = 3 + mag t + d

    difference-is : micros_of (t +ℤ pos d) scale -ℤ micros_of t scale ≡ pos (taken (lift (far * scale) t) d)
    difference-is =
        let k = far * scale in
        let P = micros_of t scale in
        let E = micros_of (t +ℤ pos d) scale in
        let s = scale-some scale good in
        let wide : far * 1 ≤ k = mul-le-mul_left far s in
        let u = mag-add t (pos d) in
        let sum : lift k (t +ℤ pos d) ≡ lift k t + d = omega (arith, lift-add k t (pos d) (omega (arith, wide))) in
        let p : lift (far * 1000000) P ≡ lift k t * 1000000 / scale = lift-micros far scale s t (omega (arith, wide)) in
        let e : lift (far * 1000000) E ≡ (lift k t + d) * 1000000 / scale =
        lift-micros far scale s (t +ℤ pos d) (omega (arith, wide, u)) ∙ ap (λ (x : ℕ). x * 1000000 / scale) sum in
        let low = at_least (lift k t) d 0 (omega arith) in
        let high = at_most (lift k t) d (d * 1000000) (let h : d * 1000000 * 1 ≤ d * 1000000 * scale = mul-le-mul_left (d * 1000000) s in omega (arith, h)) in
        difference (far * 1000000) P E (taken (lift k t) d)
        (omega (arith, mag-micros (t +ℤ pos d) scale, u))
        (omega (arith, mag-micros t scale, high))
        (omega (arith, p, e, low))

    pub lasts-is : (leb 1 d && leb d (10 * scale)) ≡ is_within (pos 1) (pos 10000000) (micros_of (t +ℤ pos d) scale -ℤ micros_of t scale)
    lasts-is = rw difference-is (taken-limits (lift (far * scale) t) d)

-- ---- a sample

-- its limits depend on its times alone
pub limits-by-times : (scale : ℕ) (a b : Sample) → a.time ≡ b.time → a.offset ≡ b.offset → a.duration ≡ b.duration → in_limits scale a ≡ in_limits scale b
unfolding in_limits
limits-by-times scale a b t o d = rw (t, o, d)

-- small enough to be multiplied
module _ (s : Sample) (early : s.time ≤ 1000000000000) (near : mag s.offset < 4294967296) where
  pub presented-small : mag (pos s.time +ℤ s.offset) ≤ 1004294967296
  presented-small = omega (arith, mag-add (pos s.time) s.offset)

  module _ (short : s.duration < 4294967296) where
    pub end-small : mag (pos s.time +ℤ s.offset +ℤ pos s.duration) ≤ 1008589934592
    end-small = omega (arith, presented-small, mag-add (pos s.time +ℤ s.offset) (pos s.duration))

    pub duration-small : (scale : ℕ) → mag (duration_of scale s) < 9223372036854775808
    duration-small scale =
        omega (
          arith,
          mag-add (end_of scale s) (neg_ℤ (pts_of scale s)),
          mag-negated (pts_of scale s),
          mag-micros (pos s.time +ℤ s.offset) scale,
          mag-micros (pos s.time +ℤ s.offset +ℤ pos s.duration) scale,
          presented-small,
          end-small,
        )

module _ (scale : ℕ) (good : good_scale scale ≡ true) (s : Sample) where
  pub duration-ends : is_within (pos 1) (pos 10000000) (duration_of scale s) ≡ true → (1 ≤ s.duration) × (s.duration ≤ 10000000)
  duration-ends e =
      let l = lasts-is scale good (pos s.time +ℤ s.offset) s.duration ∙ e in
      let m = leb-true s.duration (10 * scale) (and_right (leb 1 s.duration) _ l) in
      (leb-true 1 s.duration (and_left _ _ l), omega (arith, m, scale-most scale good))

  -- what a sample inside its limits has
  pub in_limits-ends : in_limits scale s ≡ true → (s.time ≤ 1000000000000) × ((1 ≤ s.duration) × (s.duration ≤ 10000000))
  unfolding in_limits
  in_limits-ends e =
      let e₁ = and_right (offered_time (pts_of scale s)) _ e in
      (offered-most scale good s.time (and_left _ _ e₁), duration-ends (and_right (offered_time (dts_of scale s)) _ e₁))

  -- no time in microseconds is below the media time
  pub too-late : 1000000000000 < s.time → in_limits scale s ≡ false
  too-late h = split (in_limits scale s) (λ e. absurd (omega (arith, (in_limits-ends e).0))) (λ e. e)
