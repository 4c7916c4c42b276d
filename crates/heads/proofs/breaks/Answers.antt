use Rattle.std.proofs.Common.{ap, ◌∙◌, ◌&&◌, ◌||◌, ◌*◌, rules, pos, ◌+ℤ◌, w64, SFits}
use lib.Signed.{lt_z}
use Rattle.laws.proofs.WordLaws.{told}
use Rattle.buffer_state.specs.declared.Track.{Track}
use Rattle.buffer_state.specs.Append.{breaks}
use Rattle.heads.proofs.HeadLaws.{head-track-good}
use Rattle.heads.proofs.breaks.Goals as goal
use Rattle.heads.proofs.breaks.Goals.{Start}

decoded : (c : Start) → SFits w64 c.args.g.dts
decoded c = search rules

pub is_break-requires : goal.is_break-requires
is_break-requires c = rw (c.track_of.ensures c.requires.0.held c.requires.0.laid) (head-track-good c.args.h c.requires.0 c.args.g.track)

pub returns : goal.returns
unfolding breaks
returns c =
    let d = c.args.g.dts in
    let x = c.track_of.result in
    λ b e.
    told d (decoded (goal.at.returns c).Start) (λ z. x.known && (lt_z z x.dts || lt_z (x.dts +ℤ pos (2 * x.duration)) z)) c.is_break.ensures
    ∙ ap (λ (y : Track). y.known && (lt_z d y.dts || lt_z (y.dts +ℤ pos (2 * y.duration)) d)) (c.track_of.ensures b e)
