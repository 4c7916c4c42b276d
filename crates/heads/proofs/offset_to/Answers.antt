use Rattle.std.proofs.Common.{◌-ℤ◌, w64}
use mir.ValLaws.{to_z-of_z}
use Rattle.heads.proofs.FitLaws.{offset-fits}
use Rattle.heads.proofs.offset_to.Goals as goal

pub overflow_sub-result : goal.overflow_sub-result
overflow_sub-result c =
    let a = c.args in
    rw (to_z-of_z w64 a.start c.ranges.start, to_z-of_z w64 a.pts c.ranges.pts) (offset-fits a.start a.pts c.requires.0 c.requires.1)

pub returns : goal.returns
returns c =
    let a = c.args in
    rw (to_z-of_z w64 a.start c.ranges.start, to_z-of_z w64 a.pts c.ranges.pts)
    (to_z-of_z w64 (a.start -ℤ a.pts) (offset-fits a.start a.pts c.requires.0 c.requires.1))
