use Rattle.std.proofs.Common.{arith}
use Rattle.ranges.proofs.OrderLaws.{order-length}
use Rattle.ranges.proofs.TrackLaws.{standing-ordered}
use Rattle.ranges.proofs.walk_stored.Goals as goal

pub rise_from-requires : goal.rise_from-requires
rise_from-requires c =
    let told = c.in_ok-w.ensures in
    let e = told.early c.if-room-w.true in
    let o = standing-ordered c.requires.0 in
    (o, omega (arith, e.some, e.few, order-length o))
