use lib.Ieee.{of_bits, neg}
use Rattle.seconds.proofs.DoubleLaws.{range-low, range-high}
use Rattle.seconds.proofs.in_range.Goals as goal

pub returns-then-x : goal.returns-then-x
unfolding of_bits neg
returns-then-x c = range-high c.args.x c.if-x.true

pub returns-else-x : goal.returns-else-x
unfolding of_bits neg
returns-else-x c = range-low c.args.x c.if-x.false
