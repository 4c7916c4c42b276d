use Rattle.std.proofs.Common.{rules, ◌≡◌, sym, ap, subst, ◌∙◌, true, ℕ, ◌<◌, arith, ℤ, take, w64, Option, None, Some, IfSome, Err}
use Rattle.std.specs.Result.{result_ok}
use mir.ValLaws.{to_z-of_z}
use Rattle.buffer_state.specs.declared.Refusal.TheVariants.{NoStart}
use Rattle.buffer_state.specs.declared.Start.{Start}
use Rattle.buffer_state.specs.Answers.{seek_result}
use Rattle.buffer_state.specs.Refusals.{CallResult}
use Rattle.buffer_state.specs.Layout.{buffer_of}
use Rattle.buffer_state.specs.Lent.{frames_of, state_at, well_formed_at}
use Rattle.buffer_state.specs.Run.{stored_on}
use Rattle.buffer_state.specs.Seek.{target_of, seek}
use Rattle.validation.proofs.CheckLaws.{passed, refused_by, handed_on}
use Rattle.seek.specs.Places.{placed_target, Within}
use Rattle.seek.proofs.CallLaws.{seek-unknown, seek-uncovered, seek-walked, seek-within, well_formed-stands}
use Rattle.seek.proofs.seek.Goals as goal
use Rattle.seek.proofs.seek.Goals.{In_ok-check, After-target_at}

well : (e : In_ok-check) → let a = e.args in well_formed_at a.h a.times.now a.tags.now ≡ true
well e = passed _ (sym e.check.ensures ∙ e.in_ok-check.was)

-- what the target is, by its place
found : (c : After-target_at) → let a = c.args in
    let fs = frames_of a.times.now a.tags.now in
    target_of a.track a.instant (take a.h.nframes fs) ≡ placed_target fs c.target_at.result
found c =
    let a = c.args in
    ap (λ (t : ℤ). target_of a.track t (take a.h.nframes (frames_of a.times.now a.tags.now))) (sym (to_z-of_z w64 a.instant c.ranges.instant))
    ∙ c.target_at.ensures.target

pub returns-in_err-check-clause-answer : goal.returns-in_err-check-clause-answer
unfolding seek_result
returns-in_err-check-clause-answer c =
    let a = c.args in
    handed_on _ c.from_residual.ensures.1 ∙ sym (refused_by (seek a.track a.instant) a.h a.times.now a.tags.now (sym c.check.ensures ∙ c.in_err-check.was))

pub returns-then-not-has_track-clause-answer : goal.returns-then-not-has_track-clause-answer
returns-then-not-has_track-clause-answer c =
    let a = c.args in
    sym (seek-unknown a.track a.instant a.h a.times.now a.tags.now (well (goal.at.returns-then-not-has_track-clause-answer c).In_ok-check) _ c.has_track.ensures c.if-not-has_track.true)

pub target_at-requires : goal.target_at-requires
target_at-requires c =
    let a = c.args in
    well_formed-stands a.track a.instant a.h a.times.now a.tags.now (well (goal.at.target_at-requires c).In_ok-check)

pub returns-in_err-at-clause-answer : goal.returns-in_err-at-clause-answer
returns-in_err-at-clause-answer c =
    let a = c.args in
    let o = c.ok_or.ensures in
    let none : c.target_at.result ≡ None = o.ok_part ∙ ap result_ok c.in_err-at.was in
    let refused : ◌≡◌ {A = CallResult Start} c.from_residual-in_err-at.result (Err NoStart) = search rules in
    let target = found (goal.at.returns-in_err-at-clause-answer c).After-target_at ∙ ap (placed_target (frames_of a.times.now a.tags.now)) none in
    refused ∙ sym (seek-uncovered a.track a.instant a.h a.times.now a.tags.now (well (goal.at.returns-in_err-at-clause-answer c).In_ok-check) _ c.has_track.ensures c.if-not-has_track.false target)

pub walk_back-requires : goal.walk_back-requires
walk_back-requires c =
    let a = c.args in
    let s = well_formed-stands a.track a.instant a.h a.times.now a.tags.now (well (goal.at.walk_back-requires c).In_ok-check) in
    let some : c.target_at.result ≡ Some c.in_ok-at.at = c.ok_or.ensures.ok_part ∙ ap result_ok c.in_ok-at.was in
    let inside : c.in_ok-at.at < a.h.nframes = subst (λ (o : Option ℕ). IfSome o (λ (place : ℕ). place < a.h.nframes)) some c.target_at.ensures.within in
    (s.long, omega (arith, inside, s.few))

pub returns-clause-answer : goal.returns-clause-answer
returns-clause-answer c =
    let a = c.args in
    let fs = frames_of a.times.now a.tags.now in
    let some : c.target_at.result ≡ Some c.in_ok-at.at = c.ok_or.ensures.ok_part ∙ ap result_ok c.in_ok-at.was in
    let inside : c.in_ok-at.at < a.h.nframes = subst (λ (o : Option ℕ). IfSome o (λ (place : ℕ). place < a.h.nframes)) some c.target_at.ensures.within in
    let target = found (goal.at.returns-clause-answer c).After-target_at ∙ ap (placed_target fs) some in
    c.walk_back.ensures
    ∙ sym (seek-walked a.track a.instant a.h a.times.now a.tags.now (well (goal.at.returns-clause-answer c).In_ok-check) _ c.has_track.ensures c.if-not-has_track.false c.in_ok-at.at inside target)

pub returns-clause-within : goal.returns-clause-within
returns-clause-within c =
    let a = c.args in
    subst (Within (stored_on a.track (buffer_of (state_at a.h a.times.now a.tags.now)))) (sym (returns-clause-answer c)) (seek-within a.track a.instant a.h a.times.now a.tags.now)
