use Rattle.std.proofs.Common.{◌≡◌, sym, ap, ◌∙◌, true, false, not, ◌||◌, pos, rules, w64, SFits, to_z-of_z}
use Rattle.laws.proofs.BoolLaws.{or_left, or_right}
use Rattle.std.specs.Int.Signed.{lt_z}
use Rattle.buffer_state.specs.Answers.{window_start_result}
use Rattle.buffer_state.specs.Remove.{before_bound}
use Rattle.buffer_state.specs.Settings.{window_end, window_start_set}
use Rattle.seconds.specs.Seconds.{is_convertible}
use Rattle.validation.proofs.CheckLaws.{passed, refused_by, goes_on, handed_on}
use Rattle.settings.proofs.AnswerLaws.{not-set, setting-given, setting-refused, start_taken, start_under}
use Rattle.settings.proofs.set_window_start.Goals as goal
use Rattle.settings.proofs.set_window_start.Goals.{Joined-then-start-lt0, then-start-lt0-via-then-start-lt0, then-start-lt0-via-else-start-lt0+then-not-before_end}

pub returns-in_err-check : goal.returns-in_err-check
unfolding window_start_result
returns-in_err-check c =
    let a = c.args in
    let w = not-set _ a.h.now (refused_by (window_start_set a.x) a.h.now a.times.now a.tags.now (sym c.check.ensures ∙ c.in_err-check.was)) (handed_on _ c.from_residual.ensures.1) in
    record { answer = w.0; head = w.1 }

pub returns-in_err-start : goal.returns-in_err-start
unfolding window_start_result window_start_set
returns-in_err-start c =
    let a = c.args in
    let out : is_convertible a.x ≡ false = setting-refused a.x (sym c.given.ensures ∙ c.in_err-start.was) in
    let w = not-set _ a.h.now (goes_on (window_start_set a.x) a.h.now a.times.now a.tags.now (sym c.check.ensures ∙ c.in_ok-check.was) ∙ rw out) (handed_on _ c.from_residual-in_err-start.ensures.1) in
    record { answer = w.0; head = w.1 }

-- under 0, or not below the window's end
out-of-order : (c : Joined-then-start-lt0) → let z = c.in_ok-start.start.micros in (lt_z z (pos 0) || not (before_bound z (window_end c.args.h.now.settings))) ≡ true
out-of-order c =
    let fits : SFits w64 c.in_ok-start.start.micros = search rules in
    elim c.then-start-lt0.branch [
      | then-start-lt0-via-then-start-lt0 w ↦ or_left _ _ (rw (to_z-of_z fits) at w.if-start-lt0.true)
      | then-start-lt0-via-else-start-lt0+then-not-before_end w ↦ or_right _ _ (ap not (sym (rw (to_z-of_z fits) at w.before_end.ensures) ∙ w.if-not-before_end.true))
    ]

pub returns-then-start-lt0 : goal.returns-then-start-lt0
unfolding window_start_result
returns-then-start-lt0 c =
    let a = c.args in
    let e = sym c.check.ensures ∙ c.in_ok-check.was in
    let w = start_under a.h.now a.times.now a.tags.now (passed _ e) a.x (goes_on (window_start_set a.x) a.h.now a.times.now a.tags.now e) (setting-given a.x (sym c.given.ensures ∙ c.in_ok-start.was)) (out-of-order c) in
    record { answer = w.0; head = w.1 }

pub returns : goal.returns
unfolding window_start_result
returns c =
    let a = c.args in
    let fits : SFits w64 c.in_ok-start.start.micros = search rules in
    let e = sym c.check.ensures ∙ c.in_ok-check.was in
    let w = start_taken a.h.now a.times.now a.tags.now (passed _ e) a.x (goes_on (window_start_set a.x) a.h.now a.times.now a.tags.now e) (setting-given a.x (sym c.given.ensures ∙ c.in_ok-start.was))
    (rw (to_z-of_z fits) at c.if-start-lt0.false) (sym (rw (to_z-of_z fits) at c.before_end.ensures) ∙ c.if-not-before_end.false) in
    record { answer = w.0; head = rw c.with_start-h.ensures w.1 }
