use Rattle.std.proofs.Common.{◌≡◌, sym, ◌∙◌, false, rules, w64, SFits, to_z-of_z}
use Rattle.laws.proofs.IntLaws.{test-le, test-gt, ge-test, lt_test}
use Rattle.buffer_state.specs.Answers.{window_end_result}
use Rattle.buffer_state.specs.Settings.{window_end_set}
use Rattle.seconds.specs.Seconds.{is_convertible_end}
use Rattle.validation.proofs.CheckLaws.{passed, refused_by, goes_on, handed_on}
use Rattle.settings.proofs.AnswerLaws.{not-set, end-refused, end-nowhere, end-at, end_unset, end_taken, end_under}
use Rattle.settings.proofs.set_window_end.Goals as goal

pub returns-in_err-check : goal.returns-in_err-check
unfolding window_end_result
returns-in_err-check c =
    let a = c.args in
    let w = not-set _ a.h.now (refused_by (window_end_set a.x) a.h.now a.times.now a.tags.now (sym c.check.ensures ∙ c.in_err-check.was)) (handed_on _ c.from_residual.ensures.1) in
    record { answer = w.0; head = w.1 }

pub returns-in_err-end_micros : goal.returns-in_err-end_micros
unfolding window_end_result window_end_set
returns-in_err-end_micros c =
    let a = c.args in
    let out : is_convertible_end a.x ≡ false = end-refused a.x (sym c.end_micros.ensures ∙ c.in_err-end_micros.was) in
    let w = not-set _ a.h.now (goes_on (window_end_set a.x) a.h.now a.times.now a.tags.now (sym c.check.ensures ∙ c.in_ok-check.was) ∙ rw out) (handed_on _ c.from_residual-in_err-end_micros.ensures.1) in
    record { answer = w.0; head = w.1 }

pub returns-in-None : goal.returns-in-None
unfolding window_end_result
returns-in-None c =
    let a = c.args in
    let e = sym c.check.ensures ∙ c.in_ok-check.was in
    let w = end_unset a.h.now a.times.now a.tags.now (passed _ e) a.x (goes_on (window_end_set a.x) a.h.now a.times.now a.tags.now e)
    (end-nowhere a.x (sym c.end_micros.ensures ∙ c.in_ok-end_micros.was) c.in-None.is) in
    record { answer = w.0; head = rw c.with_end-h.ensures w.1 }

pub returns-then-limit-h : goal.returns-then-limit-h
unfolding window_end_result
returns-then-limit-h c =
    let a = c.args in
    let fits : SFits w64 c.in-Some.limit = search rules in
    let kept : SFits w64 a.h.now.settings.start.micros = search rules in
    let e = sym c.check.ensures ∙ c.in_ok-check.was in
    let w = end_under a.h.now a.times.now a.tags.now (passed _ e) a.x c.in-Some.limit (goes_on (window_end_set a.x) a.h.now a.times.now a.tags.now e)
    (end-at a.x _ (sym c.end_micros.ensures ∙ c.in_ok-end_micros.was) c.in-Some.is) (ge-test {a = a.h.now.settings.start.micros} {b = c.in-Some.limit} (test-le (rw (to_z-of_z fits, to_z-of_z kept) at c.if-limit-h.true))) in
    record { answer = w.0; head = w.1 }

pub returns-else-limit-h : goal.returns-else-limit-h
unfolding window_end_result
returns-else-limit-h c =
    let a = c.args in
    let fits : SFits w64 c.in-Some.limit = search rules in
    let kept : SFits w64 a.h.now.settings.start.micros = search rules in
    let e = sym c.check.ensures ∙ c.in_ok-check.was in
    let w = end_taken a.h.now a.times.now a.tags.now (passed _ e) a.x c.in-Some.limit (goes_on (window_end_set a.x) a.h.now a.times.now a.tags.now e)
    (end-at a.x _ (sym c.end_micros.ensures ∙ c.in_ok-end_micros.was) c.in-Some.is) (lt_test {a = a.h.now.settings.start.micros} {b = c.in-Some.limit} (test-gt (rw (to_z-of_z fits, to_z-of_z kept) at c.if-limit-h.false))) in
    record { answer = w.0; head = rw (c.with_end-h-in-Some.ensures, to_z-of_z fits) w.1 }
