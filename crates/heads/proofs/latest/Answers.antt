use Rattle.std.proofs.Common.{◌*◌, ◌<◌, ◌^◌, rules, pos, ◌+ℤ◌, w64, SFits}
use mir.ValLaws.{to_z-of_z, to_z_pos}
use Rattle.heads.proofs.FitLaws.{latest-fits}
use Rattle.heads.proofs.latest.Goals as goal

pub overflow_add-result : goal.overflow_add-result
overflow_add-result c =
    let t = c.args.t in
    let p : SFits w64 t.dts = search rules in
    let h : t.duration < 2 ^ 32 = search rules in
    let k : 2 * t.duration < 2 ^ 63 = search rules in
    rw (to_z-of_z w64 t.dts p, to_z_pos w64 (2 * t.duration) k) (latest-fits t c.requires h)

pub returns : goal.returns
returns c =
    let t = c.args.t in
    let p : SFits w64 t.dts = search rules in
    let h : t.duration < 2 ^ 32 = search rules in
    let k : 2 * t.duration < 2 ^ 63 = search rules in
    rw (to_z-of_z w64 t.dts p, to_z_pos w64 (2 * t.duration) k) (to_z-of_z w64 (t.dts +ℤ pos (2 * t.duration)) (latest-fits t c.requires h))
