-- Frames that are presented from 0 up to the limit: their times are natural numbers and their ends fit a word. And times that a function
-- chooses by a test or puts into a span, which it holds as bits.
use mathlib.Core.Path.{◌≡◌, refl, sym, ◌∙◌}
use mathlib.Core.Bool.{Bool, true, false, cond}
use Prim.Native.Nat.{ℕ, ◌^◌, ◌≤◌, ◌<◌}
use native.Mathlib.Omega.{arith}
use lib.Dec.{T, leb}
use lib.IntN.{ℤ, pos, negsuc, neg_ℤ, nat_abs}
use lib.Signed.{le_z, non_neg, mag}
use mir.Syntax.{w64}
use mir.Val.{SFits, of_z, to_z}
use mir.ValLaws.{to_z-of_z}
use borrow.Author.Tests.{leb-true}
use Rattle.laws.proofs.BoolLaws.{clash, and_left, and_right, and_both}
use Rattle.laws.proofs.IntLaws.{mag-add}
use Rattle.buffer_state.specs.declared.Frame.{Frame}
use Rattle.buffer_state.specs.Buffer.{end_of}
use Rattle.buffer_state.specs.Limits.{is_within, result_time, good_duration}
use Rattle.buffer_state.specs.Ranges.{Range}
use Rattle.buffer_state.specs.WellFormed.{good_frame}
use Rattle.buffer_laws.proofs.GoodLaws.{frame-facts}
use Rattle.buffer_laws.proofs.RangeLaws.{lasts}
use Rattle.ranges.specs.Bars.{range_of}
use Rattle.ranges.specs.Sweep.{is_timely}

-- ---- a time from 0 up to a limit

record IsCounted (most : ℕ) (z : ℤ) : Type 0 where
  natural : z ≡ pos (nat_abs z)
  not_negative : T (non_neg z)
  at_most : nat_abs z ≤ most

counted : (most : ℕ) (z : ℤ) → is_within (pos 0) (pos most) z ≡ true → IsCounted most z
counted most (pos n) e = record { natural = refl; not_negative = tt; at_most = leb-true n most (and_right (leb 0 n) _ e) }
counted most (negsuc n) e = clash (sym e)

mag-nat_abs : (z : ℤ) → mag z ≤ nat_abs z
mag-nat_abs (pos n) = omega arith
mag-nat_abs (negsuc n) = omega arith

-- ---- a frame

pub good-timely : (tracks last group : ℕ) (f : Frame) → good_frame tracks last group f ≡ true → is_timely f ≡ true
unfolding result_time
good-timely tracks last group f e = let g = frame-facts tracks last group f e in and_both g.not_early (and_right (le_z (neg_ℤ (pos 4000000000000)) f.pts) _ g.pts)

pub good-lasts : (tracks last group : ℕ) (f : Frame) → good_frame tracks last group f ≡ true → lasts f ≡ true
unfolding good_duration
good-lasts tracks last group f e = and_left (leb 1 f.duration) _ (frame-facts tracks last group f e).duration

module _ (f : Frame) (e : is_timely f ≡ true) where
  pub timely-natural : f.pts ≡ pos (nat_abs f.pts)
  timely-natural = (counted 4000000000000 f.pts e).natural

  pub timely-not-negative : T (non_neg f.pts)
  timely-not-negative = (counted 4000000000000 f.pts e).not_negative

  pub timely-at-most : nat_abs f.pts ≤ 4000000000000
  timely-at-most = (counted 4000000000000 f.pts e).at_most

  pub end_fits : f.duration < 2 ^ 32 → SFits w64 (end_of f)
  end_fits h = record { sfits = omega (arith, timely-at-most, mag-nat_abs f.pts, mag-add f.pts (pos f.duration)) }

-- ---- one of two times, by a test that was told

module _ (x y : ℤ) (told test : Bool) (e : told ≡ test) where
  pub first-time : told ≡ true → SFits w64 x → to_z w64 (of_z w64 x) ≡ cond test x y
  first-time t f = rw (sym e ∙ t) (to_z-of_z w64 x f)

  pub second-time : told ≡ false → SFits w64 y → to_z w64 (of_z w64 y) ≡ cond test x y
  second-time t f = rw (sym e ∙ t) (to_z-of_z w64 y f)

-- a span made of two times
pub spanned : (p e : ℤ) (r : Range) → SFits w64 p → SFits w64 e → p ≡ r.start → e ≡ r.end
    → range_of (record { start = to_z w64 (of_z w64 p); end = to_z w64 (of_z w64 e) }) ≡ r
spanned p e r f g h k = λ j. record { start = (to_z-of_z w64 p f ∙ h) j; end = (to_z-of_z w64 e g ∙ k) j }
