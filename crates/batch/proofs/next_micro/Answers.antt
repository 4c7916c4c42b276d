use Rattle.std.proofs.Common.{pos, ◌+ℤ◌, w64}
use mir.ValLaws.{to_z-of_z}
use Rattle.batch.proofs.BoundLaws.{next_fits}
use Rattle.batch.proofs.next_micro.Goals as goal

pub overflow_add-result : goal.overflow_add-result
overflow_add-result c = rw (to_z-of_z w64 c.args.z c.ranges.z) (next_fits c.args.z c.requires)

pub returns : goal.returns
returns c = rw (to_z-of_z w64 c.args.z c.ranges.z) (to_z-of_z w64 (c.args.z +ℤ pos 1) (next_fits c.args.z c.requires))
