use Rattle.ranges.proofs.OrderLaws.{place-stored}
use Rattle.ranges.proofs.Order.place.Goals as goal

pub returns-in-Stored : goal.returns-in-Stored
returns-in-Stored c = place-stored c.args.self c.in-Stored.first c.in-Stored.count c.args.i c.in-Stored.is c.requires.0 c.requires.1
