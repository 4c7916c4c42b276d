use Rattle.std.proofs.Common.{◌≡◌, sym, ◌∙◌, true, arith, length, rules}
use Rattle.buffer_state.specs.declared.Refusal.TheVariants.{NoTrack, ShortList}
use Rattle.buffer_state.specs.Answers.{track_ranges_result}
use Rattle.buffer_state.specs.Lent.{well_formed_at}
use Rattle.buffer_state.specs.Ranges.{track_ranges}
use Rattle.validation.proofs.CheckLaws.{passed, refused_by, handed_on}
use Rattle.ranges.proofs.StoresLaws.{well_formed-stores, few-tracks}
use Rattle.ranges.proofs.CallLaws.{refused-reported, done-reported, track-unknown, track-short, track-reported}
use Rattle.ranges.proofs.track_ranges.Goals as goal
use Rattle.ranges.proofs.track_ranges.Goals.{In_ok-check}

well : (e : In_ok-check) → let a = e.args in well_formed_at a.h a.times.now a.tags.now ≡ true
well e = passed _ (sym e.check.ensures ∙ e.in_ok-check.was)

pub returns-in_err-check : goal.returns-in_err-check
unfolding track_ranges_result
returns-in_err-check c =
    let a = c.args in
    rw (handed_on _ c.from_residual.ensures.1)
    (refused-reported c.in_err-check.field-0.0 a.list.now
    (refused_by (track_ranges (length a.list.now) a.track) a.h a.times.now a.tags.now (sym c.check.ensures ∙ c.in_err-check.was)))

pub returns-then-not-has_track : goal.returns-then-not-has_track
returns-then-not-has_track c =
    let a = c.args in
    refused-reported NoTrack a.list.now
    (track-unknown (length a.list.now) a.track a.h a.times.now a.tags.now (well (goal.at.returns-then-not-has_track c).In_ok-check) _ c.has_track.ensures (c.if-not-has_track.true))

pub track_walk-w-requires : goal.track_walk-w-requires
track_walk-w-requires c =
    let a = c.args in (
      well_formed-stores a.h a.times.now a.tags.now (well (goal.at.track_walk-w-requires c).In_ok-check),
      omega (arith, few-tracks a.h a.times.now a.tags.now (well (goal.at.track_walk-w-requires c).In_ok-check) a.track (sym c.has_track.ensures ∙ c.if-not-has_track.false)),
      search rules,
    )

pub returns-then-list-w : goal.returns-then-list-w
returns-then-list-w c =
    let a = c.args in
    refused-reported ShortList a.list.now
    (track-short (length a.list.now) a.track a.h a.times.now a.tags.now (well (goal.at.returns-then-list-w c).In_ok-check) _ c.has_track.ensures (c.if-not-has_track.false)
    (c.track_walk-w.ensures.bars.over c.if-list-w.true))

pub returns : goal.returns
returns c =
    let a = c.args in
    let shows = c.track_walk-w.ensures.bars.shows c.if-list-w.false in
    done-reported _ a.list.now
    (track-reported (length a.list.now) a.track a.h a.times.now a.tags.now (well (goal.at.returns c).In_ok-check) _ c.has_track.ensures (c.if-not-has_track.false)
    (rw shows.count at c.if-list-w.false)) shows c.copy_rows.ensures
