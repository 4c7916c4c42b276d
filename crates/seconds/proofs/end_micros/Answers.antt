use Rattle.std.proofs.Common.{sym, ap, ◌∙◌, ℤ, Ok, Some, rules, w64, SFits, to_z-of_z}
use lib.Ieee.{of_bits}
use Rattle.seconds.proofs.AnswerLaws.{as_end, end-unbounded, end-refused, end_answer_lem}
use Rattle.seconds.proofs.DoubleLaws.{infinity-test}
use Rattle.seconds.proofs.end_micros.Goals as goal

pub returns-then-x : goal.returns-then-x
unfolding of_bits
returns-then-x c = end-unbounded c.args.x (sym (infinity-test c.args.x) ∙ c.if-x.true)

pub returns-in_err-micros_of : goal.returns-in_err-micros_of
unfolding of_bits
returns-in_err-micros_of c =
    end-refused c.args.x (sym (infinity-test c.args.x) ∙ c.if-x.false) (sym c.micros_of.ensures ∙ c.in_err-micros_of.was) c.from_residual.result c.from_residual.ensures.0

pub returns : goal.returns
unfolding of_bits
returns c =
    let fits : SFits w64 c.in_ok-micros_of.field-0 = search rules in
    ap (λ (z : ℤ). Ok (Some z)) (to_z-of_z fits)
    ∙ ap as_end (sym c.in_ok-micros_of.was ∙ c.micros_of.ensures)
    ∙ end_answer_lem c.args.x (sym (infinity-test c.args.x) ∙ c.if-x.false)
