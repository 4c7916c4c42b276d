use Rattle.std.proofs.Common.{◌+ℤ◌, w64}
use mir.ValLaws.{to_z-of_z}
use Rattle.heads.proofs.FitLaws.{plus-fits}
use Rattle.heads.proofs.plus.Goals as goal

pub overflow_add-result : goal.overflow_add-result
overflow_add-result c =
    let a = c.args in
    rw (to_z-of_z w64 a.z c.ranges.z, to_z-of_z w64 a.offset c.ranges.offset) (plus-fits a.z a.offset c.requires.0 c.requires.1)

pub returns : goal.returns
returns c =
    let a = c.args in
    rw (to_z-of_z w64 a.z c.ranges.z, to_z-of_z w64 a.offset c.ranges.offset)
    (to_z-of_z w64 (a.z +ℤ a.offset) (plus-fits a.z a.offset c.requires.0 c.requires.1))
