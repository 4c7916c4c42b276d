-- Worked examples, computed by the checker, and a run that is too long to walk.
use mathlib.Core.Path.{◌≡◌, refl, ◌∙◌}
use mathlib.Core.Bool.{true, false}
use mathlib.Core.List.{[], ◌∷◌}
use Prim.Native.Nat.{ℕ}
use native.Mathlib.Omega.{arith}
use lib.IntN.{ℤ, pos, neg_ℤ}
use Rattle.buffer_state.specs.Limits.{offered_time}
use Rattle.buffer_state.specs.WellFormed.{all_of}
use Rattle.media_times.specs.declared.Sample.{Sample}
use Rattle.media_times.specs.MediaTimes.{micros_of, duration_of, good_scale, in_limits, row_of, evenly}
use Rattle.media_times.proofs.EvenLaws.{evenly-by-ends}

abbrev sample : ℕ → ℤ → ℕ → Sample
sample t o d = record { time = t; offset = o; duration = d; size = 7; flags = 65536 }

-- a third of a second, and two thirds, rounded down
thirds : (micros_of (pos 1) 3 ≡ pos 333333) × (micros_of (pos 2) 3 ≡ pos 666666)
unfolding micros_of
thirds = (refl, refl)

-- also below zero
below-zero : (micros_of (neg_ℤ (pos 1)) 3 ≡ neg_ℤ (pos 333334)) × (micros_of (neg_ℤ (pos 3)) 3 ≡ neg_ℤ (pos 1000000))
unfolding micros_of
below-zero = (refl, refl)

-- a duration is the difference of two rounded ends, and varies by one
varies : (duration_of 3 (sample 0 (pos 0) 1) ≡ pos 333333) × (duration_of 3 (sample 2 (pos 0) 1) ≡ pos 333334)
unfolding micros_of
varies = (refl, refl)

-- presented before zero, not a random access point
row : row_of 2 3 (sample 1 (neg_ℤ (pos 2)) 1) ≡ pos 2 ∷ neg_ℤ (pos 333334) ∷ pos 333333 ∷ pos 333334 ∷ pos 0 ∷ pos 7 ∷ []
unfolding micros_of row_of
row = refl

-- ten seconds, and a unit more
ten-seconds : (in_limits 3 (sample 0 (pos 0) 30) ≡ true) × (in_limits 3 (sample 0 (pos 0) 31) ≡ false)
unfolding micros_of offered_time in_limits
ten-seconds = (refl, refl)

-- the last time of all, and a unit more
last-time : (in_limits 1000000 (sample 1000000000000 (pos 0) 1) ≡ true) × (in_limits 1000000 (sample 1000000000001 (pos 0) 1) ≡ false)
unfolding micros_of offered_time in_limits
last-time = (refl, refl)

-- 4,294,967,295 samples from time 0 at a scale of 90,000: of 20 units, in time; of 30, too late
many : (all_of (in_limits 90000) (evenly 4294967295 (sample 0 (pos 0) 20)) ≡ true) × (all_of (in_limits 90000) (evenly 4294967295 (sample 0 (pos 0) 30)) ≡ false)
unfolding good_scale micros_of offered_time
many = (
  evenly-by-ends 90000 refl 4294967295 (sample 0 (pos 0) 20) refl (omega arith) ∙ refl,
  evenly-by-ends 90000 refl 4294967295 (sample 0 (pos 0) 30) refl (omega arith) ∙ refl,
)
