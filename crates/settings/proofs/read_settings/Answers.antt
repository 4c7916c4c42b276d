use Rattle.std.proofs.Common.{◌≡◌, sym, ap, ◌∙◌, Ok}
use Rattle.buffer_state.specs.Answers.{settings_result}
use Rattle.buffer_state.specs.Buffer.{Buffer}
use Rattle.buffer_state.specs.declared.Reading.{Reading}
use Rattle.buffer_state.specs.declared.Refusal.{Refusal}
use Rattle.buffer_state.specs.declared.WindowEnd.{WindowEnd}
use Rattle.buffer_state.specs.declared.WindowEnd.TheVariants.{Unbounded, At}
use Rattle.buffer_state.specs.Settings.{reading}
use Rattle.std.specs.Prelude.{Result}
use Rattle.validation.proofs.CheckLaws.{refused_by, goes_on, handed_on}
use Rattle.settings.proofs.read_settings.Goals as goal
use Rattle.settings.proofs.read_settings.Goals.{In_ok-check}

pub returns-in_err-check : goal.returns-in_err-check
unfolding settings_result
returns-in_err-check c =
    let a = c.args in
    handed_on _ c.from_residual.ensures.1 ∙ sym (refused_by (λ (b : Buffer). Ok (reading b)) a.h a.times.now a.tags.now (sym c.check.ensures ∙ c.in_err-check.was))

-- the reading with this end
abbrev reading_with : In_ok-check → WindowEnd → Result Reading Refusal
reading_with c e = Ok (record { offset = c.args.h.settings.offset.seconds; start = c.args.h.settings.start.seconds; end = e })

well_read : (c : In_ok-check) → reading_with c c.args.h.settings.end ≡ settings_result c.args.h c.args.times.now c.args.tags.now
unfolding settings_result
well_read c =
    let a = c.args in
    sym (goes_on (λ (b : Buffer). Ok (reading b)) a.h a.times.now a.tags.now (sym c.check.ensures ∙ c.in_ok-check.was))

pub returns-in-Unbounded : goal.returns-in-Unbounded
returns-in-Unbounded c =
    let q : Unbounded ≡ c.args.h.settings.end = cc in
    let d = (goal.at.returns-in-Unbounded c).In_ok-check in
    ap (reading_with d) q ∙ well_read d

pub returns-in-At : goal.returns-in-At
returns-in-At c =
    let q : At c.in-At.x ≡ c.args.h.settings.end = sym c.in-At.is in
    let d = (goal.at.returns-in-At c).In_ok-check in
    ap (reading_with d) q ∙ well_read d
