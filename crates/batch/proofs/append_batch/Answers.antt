use Rattle.std.proofs.Common.{refl, sym, ◌∙◌, arith, Err}
use Rattle.buffer_state.specs.declared.Refusal.TheVariants.{ShortFates, LentSize}
use Rattle.validation.proofs.CheckLaws.{passed, handed_on}
use Rattle.batch.proofs.AnswerLaws.{refused-one, refused-thirteen, refused-two, goes_on, answered}
use Rattle.batch.proofs.append_batch.Goals as goal

pub returns-in_err-check : goal.returns-in_err-check
returns-in_err-check c =
    let a = c.args in
    let told = answered a.h.now a.times.now a.tags.now a.fates.now (Err _)
    (refused-one _ a.frames.now a.h.now a.times.now a.tags.now (sym c.check.ensures ∙ c.in_err-check.was))
    (handed_on _ c.from_residual.ensures.1, (refl, (refl, (refl, refl)))) in
    record { answer = told.0; head = told.1.0; times = told.1.1.0; tags = told.1.1.1.0; lines = told.1.1.1.1 }

pub returns-then-frames-gt-MOST_FRAMES : goal.returns-then-frames-gt-MOST_FRAMES
returns-then-frames-gt-MOST_FRAMES c =
    let a = c.args in
    let told = answered a.h.now a.times.now a.tags.now a.fates.now (Err LentSize)
    (refused-thirteen _ a.frames.now a.h.now a.times.now a.tags.now (passed _ (sym c.check.ensures ∙ c.in_ok-check.was)) c.if-frames-gt-MOST_FRAMES.true)
    (refl, (refl, (refl, (refl, refl)))) in
    record { answer = told.0; head = told.1.0; times = told.1.1.0; tags = told.1.1.1.0; lines = told.1.1.1.1 }

pub returns-then-fates-lt-LINES : goal.returns-then-fates-lt-LINES
returns-then-fates-lt-LINES c =
    let a = c.args in
    let w = passed _ (sym c.check.ensures ∙ c.in_ok-check.was) in
    let told = answered a.h.now a.times.now a.tags.now a.fates.now (Err ShortFates)
    (refused-two _ a.frames.now a.h.now a.times.now a.tags.now w (omega (arith, c.if-frames-gt-MOST_FRAMES.false)) c.if-fates-lt-LINES.true)
    (refl, (refl, (refl, (refl, refl)))) in
    record { answer = told.0; head = told.1.0; times = told.1.1.0; tags = told.1.1.1.0; lines = told.1.1.1.1 }

pub returns : goal.returns
returns c =
    let a = c.args in
    let w = passed _ (sym c.check.ensures ∙ c.in_ok-check.was) in
    let told = answered a.h.now a.times.now a.tags.now a.fates.now _
    (goes_on _ a.frames.now a.h.now a.times.now a.tags.now w (omega (arith, c.if-frames-gt-MOST_FRAMES.false)) (omega (arith, c.if-fates-lt-LINES.false)))
    (c.append_each.ensures.answer, (c.append_each.ensures.head, (c.append_each.ensures.times, (c.append_each.ensures.tags, c.append_each.ensures.lines)))) in
    record { answer = told.0; head = told.1.0; times = told.1.1.0; tags = told.1.1.1.0; lines = told.1.1.1.1 }
