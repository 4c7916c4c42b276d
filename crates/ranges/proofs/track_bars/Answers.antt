use Rattle.std.proofs.Common.{arith}
use Rattle.ranges.specs.Bars.{stored}
use Rattle.ranges.proofs.CountLaws.{track-few}
use Rattle.ranges.proofs.StoredLaws.{stored-length}
use Rattle.ranges.proofs.TrackLaws.{all_shown}
use Rattle.ranges.proofs.track_bars.Goals as goal

pub returns : goal.returns
returns c =
    let fs = stored c.args.times.now c.args.tags.now c.args.n in
    all_shown c.track_walk.result.ranges c.track_walk.ensures.bars (omega (arith, track-few c.args.track fs, stored-length c.requires.0, c.requires.0.few))
