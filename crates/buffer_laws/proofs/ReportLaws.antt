-- The reports on a good buffer: the ranges rise, and no other rising list holds exactly the instants that are covered.
use mathlib.Core.Path.{◌≡◌, ◌∙◌, sym}
use mathlib.Core.Bool.{true}
use mathlib.Core.List.{List}
use Prim.Native.Nat.{ℕ, suc}
use lib.Dec.{leb}
use lib.IntN.{ℤ}
use lib.ListN.{length}
use Rattle.laws.proofs.BoolLaws.{and_left}
use Rattle.buffer_state.specs.Buffer.{Buffer}
use Rattle.buffer_state.specs.Limits.{good_duration}
use Rattle.buffer_state.specs.Ranges.{Range, in_ranges, is_rising, covered_on, covered_on_all, ranges_of, common_ranges_of}
use Rattle.buffer_state.specs.WellFormed.{all_of, good_frame}
use Rattle.buffer_laws.proofs.TestLaws.{all_weaker}
use Rattle.buffer_laws.proofs.RisingLaws.{unique}
use Rattle.buffer_laws.proofs.RangeLaws.{lasts, ranges-cover, ranges-rise}
use Rattle.buffer_laws.proofs.CommonLaws.{common-cover, common-rise}
use Rattle.buffer_laws.proofs.GoodLaws.{frame-facts, IsGood}

good-lasts : (b : Buffer) → IsGood b → all_of lasts b.frames ≡ true
unfolding good_duration
good-lasts b g =
    all_weaker (good_frame (length b.tracks) b.last b.group.number) lasts
    (λ f e. and_left (leb 1 f.duration) _ (frame-facts (length b.tracks) b.last b.group.number f e).duration) b.frames g.frames.each

module _ (b : Buffer) (g : IsGood b) where
  -- A track's ranges rise, each ending strictly before the next starts.
  pub report-rises : (track : ℕ) → is_rising (ranges_of track b.frames) ≡ true
  report-rises track = ranges-rise track b.frames (good-lasts b g)

  -- Nothing else could be reported: a rising list that holds an instant exactly when a stored frame of the track covers it is
  -- the track's ranges.
  pub report-only : (track : ℕ) (rs : List Range) → is_rising rs ≡ true → ((t : ℤ) → in_ranges t rs ≡ covered_on track t b.frames)
      → rs ≡ ranges_of track b.frames
  report-only track rs e h = unique rs (ranges_of track b.frames) e (report-rises track) (λ t. h t ∙ sym (ranges-cover track t b.frames))

  -- The common ranges rise too.
  pub common-report-rises : (n : ℕ) → is_rising (common_ranges_of n b.frames) ≡ true
  common-report-rises n = common-rise n b.frames (good-lasts b g)

  -- And nothing else could be reported: "covered on every track" settles them.
  pub common-report-only : (n : ℕ) (rs : List Range) → is_rising rs ≡ true → ((t : ℤ) → in_ranges t rs ≡ covered_on_all (suc n) t b.frames)
      → rs ≡ common_ranges_of (suc n) b.frames
  common-report-only n rs e h =
      unique rs (common_ranges_of (suc n) b.frames) e (common-report-rises (suc n)) (λ t. h t ∙ sym (common-cover n t b.frames))
