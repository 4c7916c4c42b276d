use Rattle.std.proofs.Common.{◌≡◌, pos, negsuc}
use lib.Signed.{le_z}
use Rattle.laws.proofs.WordLaws.{told}
use Rattle.buffer_state.specs.Limits.{result_time}
use Rattle.limits.proofs.result_time.Goals as goal

pub returns : goal.returns
unfolding result_time
returns c =
    let z = c.args.z in
    let e : c.at_most.result ≡ le_z (negsuc 3999999999999) z = told z c.ranges.z (le_z (negsuc 3999999999999)) c.at_most.ensures in
    let d : c.at_most-2.result ≡ le_z z (pos 4000000000000) = told z c.ranges.z (λ y. le_z y (pos 4000000000000)) c.at_most-2.ensures in
    rw (e, d)
