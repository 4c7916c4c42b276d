use Rattle.std.proofs.Common.{◌≡◌, sym, ap, ◌∙◌, pos}
use lib.Signed.{lt_z}
use Rattle.laws.proofs.WordLaws.{told, told₂}
use Rattle.seconds.specs.Seconds.{same_int}
use Rattle.buffer_state.specs.declared.WindowEnd.{WindowEnd}
use Rattle.buffer_state.specs.declared.WindowEnd.TheVariants.{Unbounded, At}
use Rattle.buffer_state.specs.WellFormed.{converts, good_end}
use Rattle.validation.proofs.good_end.Goals as goal

pub returns-in-Unbounded : goal.returns-in-Unbounded
unfolding good_end
returns-in-Unbounded c =
    let a = c.args in
    let e : Unbounded ≡ a.end = cc in
    told a.limit c.ranges.limit (λ z. same_int z (pos 0)) c.same_int.ensures ∙ ap (λ (w : WindowEnd). good_end a.start w a.limit) e

pub returns-in-At : goal.returns-in-At
unfolding good_end
returns-in-At c =
    let a = c.args in
    let x = c.in-At.x in
    let e : At x ≡ a.end = sym c.in-At.is in
    let d : c.converts_to.result ≡ converts x a.limit = told a.limit c.ranges.limit (converts x) c.converts_to.ensures in
    let b : c.below.result ≡ lt_z a.start a.limit = told₂ a.start a.limit c.ranges.start c.ranges.limit lt_z c.below.ensures in
    rw (d, b) (ap (λ (w : WindowEnd). good_end a.start w a.limit) e)
