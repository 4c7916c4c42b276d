use Rattle.std.proofs.Common.{rules, ◌≡◌, refl, sym, ap, ◌∙◌, true, ℕ, ℤ, length, w64, SFits, Err}
use Rattle.laws.proofs.WordLaws.{told}
use Rattle.buffer_state.specs.Answers.{line_count, head_after, times_after, tags_after, list_after, remove_result}
use Rattle.buffer_state.specs.Append.{Outcome}
use Rattle.buffer_state.specs.Lent.{well_formed_at}
use Rattle.buffer_state.specs.Refusals.{CallResult}
use Rattle.buffer_state.specs.Remove.{remove}
use Rattle.buffer_laws.proofs.AnswerLaws.{answered}
use Rattle.validation.proofs.CheckLaws.{passed, refused_by, handed_on}
use Rattle.taking.specs.Loss.{bound_in}
use Rattle.remove.specs.Loss.{over_result}
use Rattle.remove.proofs.CallLaws.{over_stretch, short-list, by-stretch}
use Rattle.remove.proofs.PlaceLaws.{held}
use Rattle.remove.proofs.remove.Goals as goal
use Rattle.remove.proofs.remove.Goals.{In_ok-check, After-stretch_of}

-- past the first test the state is well-formed
whole : (c : In_ok-check) → let a = c.args in well_formed_at a.h.now a.times.now a.tags.now ≡ true
whole c = passed _ (sym c.check.ensures ∙ c.in_ok-check.was)

-- then the stretch decides
decided : (c : After-stretch_of) → let a = c.args in
    remove_result (length a.fates.now) a.start a.end a.h.now a.times.now a.tags.now ≡ over_stretch (held a.h.now a.times.now a.tags.now) c.stretch_of.result
decided c =
    let a = c.args in
    by-stretch _ a.start a.end a.h.now a.times.now a.tags.now (whole (goal.at.After-stretch_of c).In_ok-check) c.if-fates-lt-PLACES.false
    ∙ ap (over_stretch (held a.h.now a.times.now a.tags.now)) (sym c.stretch_of.ensures)

pub returns-in_err-check : goal.returns-in_err-check
unfolding remove_result
returns-in_err-check c =
    let a = c.args in
    let left = answered a.h.now a.times.now a.tags.now a.fates.now _
    (refused_by (remove (length a.fates.now) a.start a.end) a.h.now a.times.now a.tags.now (sym c.check.ensures ∙ c.in_err-check.was))
    (handed_on _ c.from_residual.ensures.1) refl refl refl refl in
    record { answer = left.0; head = left.1.0; times = left.1.1.0; tags = left.1.1.1.0; lines = left.1.1.1.1 }

pub returns-then-fates-lt-PLACES : goal.returns-then-fates-lt-PLACES
returns-then-fates-lt-PLACES c =
    let a = c.args in
    let left = answered a.h.now a.times.now a.tags.now a.fates.now _
    (short-list _ a.start a.end a.h.now a.times.now a.tags.now (whole (goal.at.returns-then-fates-lt-PLACES c).In_ok-check) c.if-fates-lt-PLACES.true)
    refl refl refl refl refl in
    record { answer = left.0; head = left.1.0; times = left.1.1.0; tags = left.1.1.1.0; lines = left.1.1.1.1 }

pub returns-in_err-from : goal.returns-in_err-from
returns-in_err-from c =
    let a = c.args in
    let refused : ◌≡◌ {A = CallResult ℕ} c.from_residual-in_err-from.result (Err c.in_err-from.field-0.0) = search rules in
    let left = answered a.h.now a.times.now a.tags.now a.fates.now _
    (decided (goal.at.returns-in_err-from c).After-stretch_of ∙ ap (over_stretch (held a.h.now a.times.now a.tags.now)) c.in_err-from.was)
    refused refl refl refl refl in
    record { answer = left.0; head = left.1.0; times = left.1.1.0; tags = left.1.1.1.0; lines = left.1.1.1.1 }

pub returns : goal.returns
returns c =
    let a = c.args in
    let from = c.in_ok-from.from in
    let outcome : ℤ → CallResult Outcome = λ z. over_result z (bound_in c.in_ok-from.to) (held a.h.now a.times.now a.tags.now) in
    let fits : SFits w64 from = search rules in
    let over = c.remove_over.ensures in
    let left = answered a.h.now a.times.now a.tags.now a.fates.now (outcome from)
    (decided (goal.at.returns c).After-stretch_of ∙ ap (over_stretch (held a.h.now a.times.now a.tags.now)) c.in_ok-from.was)
    (told from fits (λ z. line_count (outcome z)) over.answer)
    (told from fits (λ z. head_after (outcome z) a.h.now) over.head)
    (told from fits (λ z. times_after (outcome z) a.times.now) over.times)
    (told from fits (λ z. tags_after (outcome z) a.tags.now) over.tags)
    (told from fits (λ z. list_after (outcome z) a.fates.now) over.lines) in
    record { answer = left.0; head = left.1.0; times = left.1.1.0; tags = left.1.1.1.0; lines = left.1.1.1.1 }
