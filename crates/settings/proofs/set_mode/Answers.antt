use Rattle.std.proofs.Common.{sym, ◌∙◌, Ok}
use Rattle.buffer_state.specs.Answers.{mode_result}
use Rattle.buffer_state.specs.Buffer.{Buffer}
use Rattle.buffer_state.specs.Settings.{mode_set}
use Rattle.validation.proofs.CheckLaws.{passed, refused_by, goes_on, handed_on}
use Rattle.settings.proofs.AnswerLaws.{not-set, is-set, mode_set_lem}
use Rattle.settings.proofs.set_mode.Goals as goal

pub returns-in_err-check : goal.returns-in_err-check
unfolding mode_result
returns-in_err-check c =
    let a = c.args in
    let call = λ (b : Buffer). Ok (mode_set a.m b) in
    let w = not-set _ a.h.now (refused_by call a.h.now a.times.now a.tags.now (sym c.check.ensures ∙ c.in_err-check.was)) (handed_on _ c.from_residual.ensures.1) in
    record { answer = w.0; head = w.1 }

pub returns : goal.returns
unfolding mode_result
returns c =
    let a = c.args in
    let call = λ (b : Buffer). Ok (mode_set a.m b) in
    let e = sym c.check.ensures ∙ c.in_ok-check.was in
    let w = is-set _ a.h.now _ (goes_on call a.h.now a.times.now a.tags.now e) (mode_set_lem a.h.now a.times.now a.tags.now (passed _ e) a.m _ c.group_after-h.ensures) in
    record { answer = w.0; head = w.1 }
