use Rattle.std.proofs.Common.{◌≡◌, sym, refl, ap, ◌∙◌, true, false, cond, eq-eqb, ne_eqb}
use Rattle.buffer_state.specs.Answers.{abort_result}
use Rattle.buffer_state.specs.declared.Group.{Group}
use Rattle.buffer_state.specs.Buffer.{is_sequence, start_at_end, in_last_group}
use Rattle.buffer_state.specs.Layout.{buffer_of}
use Rattle.buffer_state.specs.Lent.{state_at}
use Rattle.buffer_state.specs.Limits.{last_group}
use Rattle.buffer_state.specs.Settings.{abort}
use Rattle.validation.proofs.CheckLaws.{passed, refused_by, goes_on, handed_on}
use Rattle.settings.proofs.AnswerLaws.{not-set, is-set, few-tracks-in, aborted-head}
use Rattle.settings.proofs.abort.Goals as goal

pub returns-in_err-check : goal.returns-in_err-check
unfolding abort_result
returns-in_err-check c =
    let a = c.args in
    let w = not-set _ a.h.now (refused_by abort a.h.now a.times.now a.tags.now (sym c.check.ensures ∙ c.in_err-check.was)) (handed_on _ c.from_residual.ensures.1) in
    record { answer = w.0; head = w.1 }

pub returns-then-h : goal.returns-then-h
unfolding abort_result abort
returns-then-h c =
    let a = c.args in
    let last : in_last_group (buffer_of (state_at a.h.now a.times.now a.tags.now)) ≡ true = eq-eqb a.h.now.group.number last_group c.if-h.true in
    let w = not-set _ a.h.now (goes_on abort a.h.now a.times.now a.tags.now (sym c.check.ensures ∙ c.in_ok-check.was) ∙ rw last) refl in
    record { answer = w.0; head = w.1 }

pub restart_all-h-requires : goal.restart_all-h-requires
restart_all-h-requires c = let a = c.args in few-tracks-in a.h.now a.times.now a.tags.now (passed _ (sym c.check.ensures ∙ c.in_ok-check.was))

pub returns : goal.returns
unfolding abort_result abort
returns c =
    let a = c.args in
    let e = sym c.check.ensures ∙ c.in_ok-check.was in
    let next : in_last_group (buffer_of (state_at a.h.now a.times.now a.tags.now)) ≡ false = ne_eqb a.h.now.group.number last_group c.if-h.false in
    let started = c.group_after-h.ensures ∙ ap (λ (x : Group). cond (is_sequence a.h.now.mode) (start_at_end x) x) c.next_group.ensures in
    let w = is-set _ a.h.now _ (goes_on abort a.h.now a.times.now a.tags.now e ∙ rw next)
    (aborted-head a.h.now a.times.now a.tags.now (passed _ e) c.restart_all-h.result c.group_after-h.result c.open_window-h.result c.restart_all-h.ensures started c.open_window-h.ensures) in
    record { answer = w.0; head = w.1 }
