use Rattle.std.proofs.Common.{◌≡◌, sym, ◌∙◌, false, rules, w64, SFits, to_z-of_z}
use Rattle.buffer_state.specs.Answers.{offset_result}
use Rattle.buffer_state.specs.Settings.{offset_set}
use Rattle.seconds.specs.Seconds.{is_convertible}
use Rattle.validation.proofs.CheckLaws.{passed, refused_by, goes_on, handed_on}
use Rattle.settings.proofs.AnswerLaws.{not-set, setting-given, setting-refused, offset_taken}
use Rattle.settings.proofs.set_offset.Goals as goal

pub returns-in_err-check : goal.returns-in_err-check
unfolding offset_result
returns-in_err-check c =
    let a = c.args in
    let w = not-set _ a.h.now (refused_by (offset_set a.x) a.h.now a.times.now a.tags.now (sym c.check.ensures ∙ c.in_err-check.was)) (handed_on _ c.from_residual.ensures.1) in
    record { answer = w.0; head = w.1 }

pub returns-in_err-offset : goal.returns-in_err-offset
unfolding offset_result offset_set
returns-in_err-offset c =
    let a = c.args in
    let out : is_convertible a.x ≡ false = setting-refused a.x (sym c.given.ensures ∙ c.in_err-offset.was) in
    let w = not-set _ a.h.now (goes_on (offset_set a.x) a.h.now a.times.now a.tags.now (sym c.check.ensures ∙ c.in_ok-check.was) ∙ rw out) (handed_on _ c.from_residual-in_err-offset.ensures.1) in
    record { answer = w.0; head = w.1 }

pub returns : goal.returns
unfolding offset_result
returns c =
    let a = c.args in
    let e = sym c.check.ensures ∙ c.in_ok-check.was in
    let fits : SFits w64 c.in_ok-offset.offset.micros = search rules in
    let w = offset_taken a.h.now a.times.now a.tags.now (passed _ e) a.x (goes_on (offset_set a.x) a.h.now a.times.now a.tags.now e) (setting-given a.x (sym c.given.ensures ∙ c.in_ok-offset.was)) (rw (to_z-of_z fits) at c.group_from-h.ensures) in
    record { answer = w.0; head = rw c.with_offset-h.ensures w.1 }
