-- A run of samples like one another is inside its limits exactly where the first lasts as it should and the last starts in time
-- (`evenly-is`): all last alike to the limits, and none is later than the last.
use mathlib.Core.Path.{◌≡◌, refl, sym, ap, ap₂, ◌∙◌}
use mathlib.Core.Bool.{Bool, true, false, ◌&&◌, and-true, and_comm, and_self_left}
use Prim.Native.Nat.{ℕ, zero, suc, ◌+◌, ◌*◌, ◌-◌, ◌≤◌, ◌<◌}
use native.Mathlib.Nat.{suc-mul}
use native.Mathlib.Omega.{arith}
use lib.IntN.{pos, ◌+ℤ◌, +ℤ_idr}
use Rattle.laws.proofs.BoolLaws.{split, clash, and_left, and_right}
use Rattle.buffer_state.specs.Limits.{is_within, offered_time}
use Rattle.buffer_state.specs.WellFormed.{all_of}
use Rattle.media_times.specs.declared.Sample.{Sample}
use Rattle.media_times.specs.MediaTimes.{micros_of, duration_of, good_scale, in_limits, next, evenly}
use Rattle.media_times.proofs.LimitLaws.{offered-most, offered-sooner, lasts-is, duration-ends}

-- the later of two implies the sooner
later : (l a b : Bool) → (b ≡ true → a ≡ true) → ((l && a) && (l && b)) ≡ (l && b)
later false a b h = refl
later true true b h = refl
later true false true h = clash (sym (h refl))
later true false false h = refl

module _ (scale : ℕ) (good : good_scale scale ≡ true) where
  abbrev pub lasting : Sample → Bool
  lasting s = is_within (pos 1) (pos 10000000) (duration_of scale s)

  abbrev pub in_time : ℕ → Bool
  in_time n = offered_time (micros_of (pos n) scale)

  -- without an offset a sample is presented when it is decoded
  one_time : (s : Sample) → s.offset ≡ pos 0 → in_limits scale s ≡ (lasting s && in_time s.time)
  unfolding in_limits
  one_time s o =
      let e : pos s.time +ℤ s.offset ≡ pos s.time = ap (λ z. pos s.time +ℤ z) o ∙ +ℤ_idr (pos s.time) in
      ap (λ z. offered_time (micros_of z scale) && (in_time s.time && lasting s)) e ∙ and_self_left (in_time s.time) (lasting s) ∙ and_comm (in_time s.time) (lasting s)

  next-lasting : (s : Sample) → lasting (next s) ≡ lasting s
  next-lasting s =
      sym (lasts-is scale good (pos (s.time + s.duration) +ℤ s.offset) s.duration)
      ∙ lasts-is scale good (pos s.time +ℤ s.offset) s.duration

  pub evenly-is : (n : ℕ) (s : Sample) → s.offset ≡ pos 0
      → all_of (in_limits scale) (evenly (suc n) s) ≡ (lasting s && in_time (s.time + n * s.duration))
  unfolding all_of evenly
  evenly-is zero s o =
      let e : s.time + 0 * s.duration ≡ s.time = omega arith in
      and-true (in_limits scale s) ∙ one_time s o ∙ ap (λ x. lasting s && in_time x) (sym e)
  evenly-is (suc n) s o =
      let m : suc n * s.duration ≡ n * s.duration + s.duration = suc-mul n s.duration in
      let e : s.time + s.duration + n * s.duration ≡ s.time + suc n * s.duration = omega (arith, m) in
      let rest : all_of (in_limits scale) (evenly (suc n) (next s)) ≡ (lasting s && in_time (s.time + suc n * s.duration)) =
      evenly-is n (next s) o ∙ ap₂ (λ l x. l && in_time x) (next-lasting s) e in
      ap₂ ◌&&◌ (one_time s o) rest
      ∙ later (lasting s) (in_time s.time) (in_time (s.time + suc n * s.duration)) (offered-sooner scale good s.time (s.time + suc n * s.duration) (omega arith))

  -- ---- what each branch of the code says, and what a caller needs

  module _ (n : ℕ) (s : Sample) (o : s.offset ≡ pos 0) (some : 1 ≤ n) where
    -- a run that is not empty, by its first and its last
    pub evenly-by-ends : all_of (in_limits scale) (evenly n s) ≡ (lasting s && in_time (s.time + (n - 1) * s.duration))
    evenly-by-ends =
        let e : suc (n - 1) ≡ n = omega arith in
        ap (λ k. all_of (in_limits scale) (evenly k s)) (sym e) ∙ evenly-is (n - 1) s o

    module _ (e : all_of (in_limits scale) (evenly n s) ≡ true) where
      -- the last starts in time
      last-in-time : s.time + (n - 1) * s.duration ≤ 1000000000000
      last-in-time =
          offered-most scale good (s.time + (n - 1) * s.duration) (and_right (lasting s) _ (sym evenly-by-ends ∙ e))

      -- where the run ends
      pub evenly-ends : s.time + n * s.duration ≤ 1000010000000
      evenly-ends =
          let k : suc (n - 1) ≡ n = omega arith in
          let m : suc (n - 1) * s.duration ≡ (n - 1) * s.duration + s.duration = suc-mul (n - 1) s.duration in
          let m' : n * s.duration ≡ (n - 1) * s.duration + s.duration = ap (λ x. x * s.duration) (sym k) ∙ m in
          omega (arith, m', last-in-time, (duration-ends scale good s (and_left _ _ (sym evenly-by-ends ∙ e))).1)

    -- no time in microseconds is below the media time
    pub run-too-late : 1000000000000 < s.time + (n - 1) * s.duration → all_of (in_limits scale) (evenly n s) ≡ false
    run-too-late h = split (all_of (in_limits scale) (evenly n s)) (λ e. absurd (omega (arith, last-in-time e))) (λ e. e)

pub no-samples : (scale n : ℕ) (s : Sample) → n ≡ 0 → all_of (in_limits scale) (evenly n s) ≡ true
unfolding all_of evenly
no-samples scale n s z = rw z
