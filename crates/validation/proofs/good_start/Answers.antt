use Rattle.std.proofs.Common.{◌≡◌, rules, pos}
use lib.Signed.{le_z}
use Rattle.laws.proofs.WordLaws.{told}
use Rattle.buffer_state.specs.WellFormed.{converts, good_start}
use Rattle.validation.proofs.good_start.Goals as goal

pub returns : goal.returns
unfolding good_start
returns c =
    let o = c.args.o in
    let e : c.at_most.result ≡ le_z (pos 0) o.micros = told o.micros (search rules) (le_z (pos 0)) c.at_most.ensures in
    let d : c.converts_to.result ≡ converts o.seconds o.micros = told o.micros (search rules) (converts o.seconds) c.converts_to.ensures in
    rw (e, d)
