use Rattle.std.proofs.Common.{arith, to_z-of_z}
use Rattle.seek.proofs.TargetLaws.{over_lem}
use Rattle.seek.proofs.is_over.Goals as goal

pub returns : goal.returns
returns c = grind (arith, to_z-of_z, over_lem c.args.f c.args.g)
