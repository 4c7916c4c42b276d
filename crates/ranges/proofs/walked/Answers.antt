use Rattle.std.proofs.Common.{◌≡◌, sym, ap, ◌∙◌, true, Ok, rules}
use Rattle.buffer_state.specs.Answers.{walked_result}
use Rattle.buffer_state.specs.Lent.{well_formed_at}
use Rattle.buffer_state.specs.Walked.{walked}
use Rattle.validation.proofs.CheckLaws.{passed, refused_by, handed_on}
use Rattle.ranges.proofs.StoresLaws.{well_formed-stores, few-tracks}
use Rattle.ranges.proofs.CallLaws.{walked-unknown, walked-done}
use Rattle.ranges.proofs.walked.Goals as goal
use Rattle.ranges.proofs.walked.Goals.{In_ok-check}

well : (e : In_ok-check) → let a = e.args in well_formed_at a.h a.times.now a.tags.now ≡ true
well e = passed _ (sym e.check.ensures ∙ e.in_ok-check.was)

pub returns-in_err-check : goal.returns-in_err-check
unfolding walked_result
returns-in_err-check c =
    let a = c.args in
    handed_on _ c.from_residual.ensures.1 ∙ sym (refused_by (walked a.room a.track) a.h a.times.now a.tags.now (sym c.check.ensures ∙ c.in_err-check.was))

pub returns-then-not-has_track : goal.returns-then-not-has_track
returns-then-not-has_track c =
    let a = c.args in
    sym (walked-unknown a.room a.track a.h a.times.now a.tags.now (well (goal.at.returns-then-not-has_track c).In_ok-check) _ c.has_track.ensures (c.if-not-has_track.true))

pub track_walk-requires : goal.track_walk-requires
track_walk-requires c =
    let a = c.args in (
      well_formed-stores a.h a.times.now a.tags.now (well (goal.at.track_walk-requires c).In_ok-check),
      few-tracks a.h a.times.now a.tags.now (well (goal.at.track_walk-requires c).In_ok-check) a.track (sym c.has_track.ensures ∙ c.if-not-has_track.false),
      search rules,
    )

pub returns : goal.returns
returns c =
    let a = c.args in
    ap Ok c.track_walk.ensures.taken_value
    ∙ sym (walked-done a.room a.track a.h a.times.now a.tags.now (well (goal.at.returns c).In_ok-check) _ c.has_track.ensures (c.if-not-has_track.false))
