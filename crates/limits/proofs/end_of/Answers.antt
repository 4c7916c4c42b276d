use Rattle.std.proofs.Common.{◌<◌, ◌^◌, rules, pos, ◌+ℤ◌, w64, SFits}
use mir.ValLaws.{to_z-of_z, to_z_pos}
use Rattle.limits.proofs.LimitLaws.{end_fits}
use Rattle.limits.proofs.end_of.Goals as goal

pub overflow_add-result : goal.overflow_add-result
overflow_add-result c =
    let f = c.args.f in
    let p : SFits w64 f.pts = search rules in
    let h : f.duration < 2 ^ 32 = search rules in
    let k : f.duration < 2 ^ 63 = search rules in
    rw (to_z-of_z w64 f.pts p, to_z_pos w64 f.duration k) (end_fits f.pts f.duration c.requires h)

pub returns : goal.returns
returns c =
    let f = c.args.f in
    let p : SFits w64 f.pts = search rules in
    let h : f.duration < 2 ^ 32 = search rules in
    let k : f.duration < 2 ^ 63 = search rules in
    rw (to_z-of_z w64 f.pts p, to_z_pos w64 f.duration k, to_z-of_z w64 (f.pts +ℤ pos f.duration) (end_fits f.pts f.duration c.requires h))
