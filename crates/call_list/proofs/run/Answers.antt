use Rattle.std.proofs.Common.{◌≡◌, refl, sym, ◌∙◌, false, Ok, Err}
use Rattle.call_list.specs.Listed.{Lists, lists_of, encoded_calls, fits_in}
use Rattle.call_list.proofs.ClaimLaws.{Creation, begun, unfit, refused-run, completed}
use Rattle.call_list.proofs.run.Goals as goal
use Rattle.call_list.proofs.run.Goals.{Start}

-- what is lent, before the call
abbrev before : Start → Lists
before c = let a = c.args in lists_of a.answers.now a.lines.now a.list.now a.readings.now a.times.now a.tags.now

pub returns-then-not-fit : goal.returns-then-not-fit
returns-then-not-fit c =
    let a = c.args in
    let e = unfit a.kinds.now (encoded_calls a.calls.now a.stamps.now a.seconds.now a.frames.now) (before (goal.at.returns-then-not-fit c).Start) _ (sym c.fit.ensures ∙ c.if-not-fit.true) in
    record { ending = e.ending; claim = e.claim }

pub returns-in_err-h : goal.returns-in_err-h
returns-in_err-h c =
    let a = c.args in
    let s = c.in_err-h.ensures in
    let why = c.in_err-h.field-0.0 in
    let e = refused-run a.kinds.now (encoded_calls a.calls.now a.stamps.now a.seconds.now a.frames.now) (before (goal.at.returns-in_err-h c).Start) _
    (Err why) _ _ (record { answer = s.answer; times = s.times; tags = s.tags }) (sym c.fit.ensures ∙ c.if-not-fit.false) why refl c.from_residual.result c.from_residual.ensures.1 in
    record { ending = e.ending; claim = e.claim }

pub run_from-requires : goal.run_from-requires
run_from-requires c =
    let a = c.args in
    let s = c.in_ok-h.ensures in
    (begun a.kinds.now (Ok c.in_ok-h.h) _ _ _ _ (record { answer = s.answer; times = s.times; tags = s.tags }) c.in_ok-h.h refl, sym c.fit.ensures ∙ c.if-not-fit.false)

pub returns : goal.returns
returns c =
    let a = c.args in
    let s = c.in_ok-h.ensures in
    let e = completed a.kinds.now (encoded_calls a.calls.now a.stamps.now a.seconds.now a.frames.now) (before (goal.at.returns c).Start) _
    (Ok c.in_ok-h.h) _ _ (record { answer = s.answer; times = s.times; tags = s.tags }) (sym c.fit.ensures ∙ c.if-not-fit.false) c.in_ok-h.h refl c.run_from.result _ c.run_from.ensures in
    record { ending = e.ending; claim = e.claim }
