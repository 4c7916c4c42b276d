-- The sums of an append fit 64 bits, and its offset is exact as a double: offered times are within 10^12, results within 4 * 10^12.
use mathlib.Core.Path.{◌≡◌}
use mathlib.Core.Bool.{Bool, true, cond}
use Prim.Native.Nat.{zero, suc, ◌*◌, ◌^◌, ◌≤◌, ◌<◌}
use native.Mathlib.Omega.{arith}
use lib.IntN.{ℤ, pos, negsuc, neg_ℤ, nat_abs, ◌+ℤ◌, ◌-ℤ◌}
use lib.Signed.{lt_z, mag, nat_abs-le}
use mir.Syntax.{w64}
use mir.Val.{SFits}
use borrow.Author.Tests.{leb-true}
use Rattle.laws.proofs.BoolLaws.{split, by-test, and_left, and_right}
use Rattle.laws.proofs.IntLaws.{mag-add}
use Rattle.seconds.proofs.SecondsLaws.{same_int_lem}
use Rattle.buffer_state.specs.declared.Offered.{Offered}
use Rattle.buffer_state.specs.declared.Track.{Track}
use Rattle.buffer_state.specs.Append.{raised, is_offerable}
use Rattle.buffer_state.specs.Limits.{offered_time, result_time, known_kind}
use Rattle.buffer_state.specs.WellFormed.{good_track}
use Rattle.limits.proofs.LimitLaws.{time-mag}

offered-mag : (z : ℤ) → offered_time z ≡ true → mag z ≤ 1000000000000
unfolding offered_time
offered-mag (pos n) e = leb-true n 1000000000000 e
offered-mag (negsuc n) e = omega (arith, leb-true n 999999999999 (and_left _ _ e))

neg-mag : (z : ℤ) → mag (neg_ℤ z) ≤ suc (mag z)
neg-mag (pos zero) = omega arith
neg-mag (pos (suc n)) = omega arith
neg-mag (negsuc n) = omega arith

-- the offset that step 1 sets
module _ (start pts : ℤ) (s : result_time start ≡ true) (p : offered_time pts ≡ true) where
  pub offset-mag : mag (start -ℤ pts) ≤ 6000000000000
  offset-mag = omega (arith, mag-add start (neg_ℤ pts), neg-mag pts, time-mag start s, offered-mag pts p)

  pub offset-fits : SFits w64 (start -ℤ pts)
  offset-fits = record { sfits = omega (arith, offset-mag) }

  pub offset-exact : nat_abs (start -ℤ pts) ≤ 2 ^ 53
  offset-exact = nat_abs-le (start -ℤ pts) (omega (arith, offset-mag))

-- a time with the offset added
pub plus-fits : (z o : ℤ) → offered_time z ≡ true → mag o ≤ 6000000000000 → SFits w64 (z +ℤ o)
plus-fits z o e h = record { sfits = omega (arith, mag-add z o, offered-mag z e) }

-- what refusal 4 leaves of the offered times
pub offered-pts : (f : Offered) → is_offerable f ≡ true → offered_time f.pts ≡ true
unfolding is_offerable
offered-pts f e = and_left _ _ e

pub offered-dts : (f : Offered) → is_offerable f ≡ true → offered_time f.dts ≡ true
unfolding is_offerable
offered-dts f e = and_left _ _ (and_right (offered_time f.pts) _ e)

-- a last decode time is inside the limits, or unset and zero
track-dts : (t : Track) → good_track t ≡ true → result_time t.dts ≡ true
unfolding good_track result_time
track-dts t g =
    let e = and_right (known_kind t.kind) _ g in
    split t.known (λ k. and_left _ _ (rw k at e)) (λ k. let z : t.dts ≡ pos 0 = same_int_lem t.dts (pos 0) (and_left _ _ (rw k at e)) in rw z)

-- step 3's sum
pub latest-fits : (t : Track) → good_track t ≡ true → t.duration < 2 ^ 32 → SFits w64 (t.dts +ℤ pos (2 * t.duration))
latest-fits t g h = record { sfits = omega (arith, mag-add t.dts (pos (2 * t.duration)), time-mag t.dts (track-dts t g)) }

-- the greater of two
pub raised-fits : (a b : ℤ) → SFits w64 a → SFits w64 b → SFits w64 (raised a b)
raised-fits a b f g = by-test (SFits w64) (lt_z a b) (λ _. g) (λ _. f)

-- the highest end, raised or set
pub highest-fits : (known : Bool) (a b : ℤ) → SFits w64 a → SFits w64 b → SFits w64 (cond known (raised a b) b)
highest-fits known a b f g = by-test (SFits w64) known (λ _. raised-fits a b f g) (λ _. g)
