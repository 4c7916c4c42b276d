use Rattle.std.proofs.Common.{◌≡◌}
use lib.Signed.{le_z}
use Rattle.laws.proofs.WordLaws.{told₂}
use Rattle.limits.proofs.LimitLaws.{same-both}
use Rattle.limits.proofs.same_int.Goals as goal

pub returns : goal.returns
returns c =
    let a = c.args.a in
    let b = c.args.b in
    let e : c.at_most.result ≡ le_z a b = told₂ a b c.ranges.a c.ranges.b le_z c.at_most.ensures in
    let d : c.at_most-2.result ≡ le_z b a = told₂ b a c.ranges.b c.ranges.a le_z c.at_most-2.ensures in
    rw (e, d) (same-both a b)
