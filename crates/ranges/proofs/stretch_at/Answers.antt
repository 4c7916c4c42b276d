use Rattle.ranges.proofs.OrderLaws.{order-timely, order-next}
use Rattle.ranges.proofs.stretch_at.Goals as goal

pub of-requires : goal.of-requires
of-requires c = order-timely c.requires.0 c.args.i c.requires.1 _ c.place.ensures.0 _ c.frame_at.ensures

pub returns : goal.returns
returns c = order-next c.requires.0 c.args.i c.requires.1 _ c.place.ensures.0 _ c.frame_at.ensures _ c.of.ensures
