use Rattle.std.proofs.Common.{refl, sym, ap, ap₂, ◌∙◌, List, ◌+◌, arith}
use Rattle.laws.proofs.BoolLaws.{and_right}
use Rattle.buffer_state.specs.declared.Frame.{Frame}
use Rattle.buffer_state.specs.Ranges.{is_rising, common_of}
use Rattle.buffer_laws.proofs.TestLaws.{all_weaker}
use Rattle.buffer_laws.proofs.RangeLaws.{lasts, ranges-rise}
use Rattle.buffer_laws.proofs.CommonLaws.{common-rise}
use Rattle.ranges.specs.Bars.{stored}
use Rattle.ranges.specs.Sweep.{is_timely, is_sound}
use Rattle.ranges.proofs.BarLaws.{shown}
use Rattle.ranges.proofs.StoredLaws.{stored-length}
use Rattle.ranges.proofs.CountLaws.{up-all, first-few, next-few, common-next, none-shown, one-common}
use Rattle.ranges.proofs.TrackLaws.{shown-bars}
use Rattle.ranges.proofs.common_bars.Goals as goal
use Rattle.ranges.proofs.common_bars.Goals.{Start, At-loop-t}

-- where the function begins, and the stored frames
abbrev start : At-loop-t → Start
start d = (goal.at.At-loop-t d).Start

abbrev held : Start → List Frame
held s = stored s.args.times.now s.args.tags.now s.args.n

pub returns-then-tracks-eq1 : goal.returns-then-tracks-eq1
returns-then-tracks-eq1 c = rw (one-common c.args.tracks (held (goal.at.returns-then-tracks-eq1 c).Start) c.if-tracks-eq1.true) c.track_walk.ensures.bars

pub returns-then-count-eq0 : goal.returns-then-count-eq0
returns-then-count-eq0 c = shown-bars c.args.room (none-shown _ c.args.tracks (held (goal.at.returns-then-count-eq0 c).Start) c.requires.1 (sym c.if-count-eq0.true ∙ c.track_bars-count.ensures.count))

pub loop-t-init : goal.loop-t-init
loop-t-init c =
    let shows = c.track_bars-count.ensures in (
      omega arith,
      c.track_bars-count.auto.spans ∙ c.requires.3,
      refl,
      rw (one-common 1 (held (goal.at.loop-t-init c).Start) refl) shows,
      omega (arith, shows.count, first-few (held (goal.at.loop-t-init c).Start)),
    )

pub both_bars-count-requires : goal.both_bars-count-requires
both_bars-count-requires c =
    let s = start (goal.at.both_bars-count-requires c).At-loop-t in
    let l = all_weaker is_sound lasts (λ (f : Frame) e. and_right (is_timely f) _ e) (held s) s.requires.0.each in
    let other = c.track_bars-m.ensures in (
      record {
        right_full = omega (arith, other.few, c.loop-t.invariant.2, c.track_bars-m.auto.spans);
        left = ap is_rising (shown c.loop-t.invariant.3) ∙ common-rise c.loop-t.t (held s) l;
        right = ap is_rising (shown other) ∙ ranges-rise (c.loop-t.t + 1) (held s) l;
        few =
            omega (
              arith,
              c.loop-t.invariant.4,
              other.count,
              next-few c.loop-t.t (held s),
              up-all (c.loop-t.t + 1) (held s),
              stored-length s.requires.0,
              s.requires.0.few,
            );
      },
      c.loop-t.invariant.1,
    )

pub loop-t-preserved : goal.loop-t-preserved
loop-t-preserved c =
    let s = start (goal.at.loop-t-preserved c).At-loop-t in
    let same = ap₂ common_of (shown c.loop-t.invariant.3) (shown c.track_bars-m.ensures) ∙ sym (common-next c.loop-t.t (held s) c.loop-t.invariant.0) in (
      omega arith,
      c.both_bars-count.auto.spans ∙ c.loop-t.invariant.1,
      c.track_bars-m.auto.spans ∙ c.loop-t.invariant.2,
      rw same at c.both_bars-count.ensures.0,
      omega (arith, c.both_bars-count.ensures.1, c.loop-t.invariant.4, c.track_bars-m.ensures.count, next-few c.loop-t.t (held s)),
    )
