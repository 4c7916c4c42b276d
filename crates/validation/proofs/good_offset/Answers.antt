use Rattle.std.proofs.Common.{◌≡◌, sym, ◌∙◌, true, false, rules, w64}
use mir.ValLaws.{to_z-of_z}
use Rattle.laws.proofs.WordLaws.{told}
use Rattle.seconds.specs.Seconds.{seconds_of}
use Rattle.buffer_state.specs.Limits.{result_time}
use Rattle.buffer_state.specs.WellFormed.{converts, good_offset}
use Rattle.validation.proofs.SettingsLaws.{time-exact}
use Rattle.validation.proofs.good_offset.Goals as goal
use Rattle.validation.proofs.good_offset.Goals.{After-result_time}

limits : (c : After-result_time) → c.result_time.result ≡ result_time c.args.o.micros
limits c = told c.args.o.micros (search rules) result_time c.result_time.ensures

pub returns-then-not-result_time : goal.returns-then-not-result_time
unfolding good_offset
returns-then-not-result_time c = let e : result_time c.args.o.micros ≡ false = sym (limits (goal.at.returns-then-not-result_time c).After-result_time) ∙ c.if-not-result_time.true in rw e

pub seconds_of-requires : goal.seconds_of-requires
seconds_of-requires c =
    let z = c.args.o.micros in
    let e : result_time z ≡ true = sym (limits (goal.at.seconds_of-requires c).After-result_time) ∙ c.if-not-result_time.false in
    rw (to_z-of_z w64 z (search rules)) (time-exact z e)

pub returns : goal.returns
unfolding good_offset
returns c =
    let o = c.args.o in
    let e : result_time o.micros ≡ true = sym (limits (goal.at.returns c).After-result_time) ∙ c.if-not-result_time.false in
    let d : c.converts_to.result ≡ converts o.seconds o.micros = told o.micros (search rules) (converts o.seconds) c.converts_to.ensures in
    let q : c.seconds_of.result ≡ seconds_of o.micros = told o.micros (search rules) seconds_of c.seconds_of.ensures in
    rw (e, d, c.same_double.ensures, q)
