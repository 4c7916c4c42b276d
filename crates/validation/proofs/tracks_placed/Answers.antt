use Rattle.std.proofs.Common.{◌≡◌, sym, ◌∙◌, length}
use Rattle.buffer_state.specs.WellFormed.{good_track}
use Rattle.buffer_state.specs.Buffer.{zero_track}
use Rattle.buffer_state.specs.Layout.{is_zero_track}
use Rattle.validation.proofs.PlaceLaws.{placed-step, placed-stop, placed_end}
use Rattle.validation.proofs.tracks_placed.Goals as goal
use Rattle.validation.proofs.tracks_placed.Goals.{At-loop-i}

full : (c : At-loop-i) → length c.args.h.tracks ≡ 4
full c = c.well_formed.0.1.1.0.1.0.1

pub returns-then-not-track_place : goal.returns-then-not-track_place
returns-then-not-track_place c =
    let s = c.args.h in
    sym (placed-stop good_track is_zero_track s.ntracks s.tracks c.loop-i.i zero_track
    (rw (full (goal.at.returns-then-not-track_place c).At-loop-i) c.loop-i-test.true) (sym c.track_place.ensures ∙ c.if-not-track_place.true))
    ∙ c.loop-i.invariant

pub loop-i-preserved : goal.loop-i-preserved
loop-i-preserved c =
    let s = c.args.h in
    sym (placed-step good_track is_zero_track s.ntracks s.tracks c.loop-i.i zero_track
    (rw (full (goal.at.loop-i-preserved c).At-loop-i) c.loop-i-test.true) (sym c.track_place.ensures ∙ c.if-not-track_place.false))
    ∙ c.loop-i.invariant

pub returns : goal.returns
returns c =
    let s = c.args.h in
    sym (placed_end good_track is_zero_track s.ntracks s.tracks c.loop-i.i zero_track (rw (full (goal.at.returns c).At-loop-i) c.loop-i-test.false)) ∙ c.loop-i.invariant
