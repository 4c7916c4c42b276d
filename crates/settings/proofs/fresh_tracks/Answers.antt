use Rattle.settings.proofs.CreateLaws.{track-more}
use Rattle.settings.proofs.fresh_tracks.Goals as goal

pub loop-i-preserved : goal.loop-i-preserved
loop-i-preserved c = track-more c.args.kinds.now _ c.loop-i.i _ c.loop-i-test.true c.requires c.loop-i.invariant c.fresh_track.ensures
