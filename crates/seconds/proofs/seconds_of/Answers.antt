use Rattle.std.proofs.Common.{ap, w64}
use lib.Ieee.{of_bits}
use mir.ValLaws.{to_z-of_z}
use Rattle.seconds.specs.Seconds.{seconds_of}
use Rattle.seconds.proofs.seconds_of.Goals as goal

pub returns : goal.returns
unfolding seconds_of of_bits
returns c = ap seconds_of (to_z-of_z w64 c.args.n c.ranges.n)
