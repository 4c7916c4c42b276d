use Rattle.std.proofs.Common.{refl, sym, ◌∙◌, arith, Err}
use Rattle.buffer_state.specs.declared.Refusal.TheVariants.{ShortFates}
use Rattle.buffer_laws.proofs.AnswerLaws.{answered}
use Rattle.validation.proofs.CheckLaws.{passed, handed_on}
use Rattle.append.proofs.AnswerLaws.{refused-one, refused-two, enough}
use Rattle.append.proofs.StoredLaws.{held-store, past-limits}
use Rattle.append.proofs.append.Goals as goal

pub returns-in_err-check : goal.returns-in_err-check
returns-in_err-check c =
    let a = c.args in
    let told = answered a.h.now a.times.now a.tags.now a.fates.now (Err _)
    (refused-one _ a.f a.h.now a.times.now a.tags.now (sym c.check.ensures ∙ c.in_err-check.was))
    (handed_on _ c.from_residual.ensures.1) refl refl refl refl in
    record { answer = told.0; head = told.1.0; times = told.1.1.0; tags = told.1.1.1.0; lines = told.1.1.1.1 }

pub returns-then-fates-lt-PLACES : goal.returns-then-fates-lt-PLACES
returns-then-fates-lt-PLACES c =
    let a = c.args in
    let told = answered a.h.now a.times.now a.tags.now a.fates.now (Err ShortFates)
    (refused-two _ a.f a.h.now a.times.now a.tags.now (passed _ (sym c.check.ensures ∙ c.in_ok-check.was)) c.if-fates-lt-PLACES.true)
    refl refl refl refl refl in
    record { answer = told.0; head = told.1.0; times = told.1.1.0; tags = told.1.1.1.0; lines = told.1.1.1.1 }

pub append_tested-requires : goal.append_tested-requires
append_tested-requires c =
    let a = c.args in
    let w = passed _ (sym c.check.ensures ∙ c.in_ok-check.was) in
    let few = (held-store a.h.now a.times.now a.tags.now w).few in
    (w, past-limits a.h.now a.times.now a.tags.now w a.f.track, omega (arith, c.if-fates-lt-PLACES.false, few), omega (arith, c.if-fates-lt-PLACES.false))

pub returns : goal.returns
returns c =
    let a = c.args in
    let r = c.append_tested.ensures in
    let told = answered a.h.now a.times.now a.tags.now a.fates.now _
    (enough _ a.f a.h.now a.times.now a.tags.now (passed _ (sym c.check.ensures ∙ c.in_ok-check.was)) (omega (arith, c.if-fates-lt-PLACES.false)))
    r.answer r.head r.times r.tags r.lines in
    record { answer = told.0; head = told.1.0; times = told.1.1.0; tags = told.1.1.1.0; lines = told.1.1.1.1 }
