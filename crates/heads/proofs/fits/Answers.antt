use Rattle.std.proofs.Common.{◌≡◌, sym, ap, ◌∙◌, true, ◌&&◌, rules, ◌^◌, ◌<◌, w64, SFits}
use Rattle.laws.proofs.WordLaws.{told}
use Rattle.buffer_state.specs.Append.{end_offered}
use Rattle.buffer_state.specs.Limits.{result_time}
use Rattle.limits.proofs.LimitLaws.{end_fits}
use Rattle.buffer_state.specs.declared.Head.{Head}
use Rattle.heads.proofs.PassLaws.{fits_not, fits_all}
use Rattle.heads.proofs.fits.Goals as goal
use Rattle.heads.proofs.fits.Goals.{Start, After-result_time, Else-not-result_time}

shown : (c : After-result_time) → c.result_time.result ≡ result_time c.args.g.pts
shown c = told c.args.g.pts (search rules) result_time c.result_time.ensures

inside : (c : Else-not-result_time) → result_time c.args.g.pts ≡ true
inside c = sym (shown (goal.at.Else-not-result_time c).After-result_time) ∙ c.if-not-result_time.false

decoded : (c : Start) → SFits w64 c.args.g.dts
decoded c = search rules

lasting : (c : Start) → c.args.g.duration < 2 ^ 32
lasting c = search rules

moved : (c : Start) → SFits w64 c.args.h.settings.offset.micros
moved c = search rules

pub returns-then-not-result_time : goal.returns-then-not-result_time
returns-then-not-result_time c = λ b e. fits_not (record { buffer = b; frame = c.args.g }) (sym (shown (goal.at.returns-then-not-result_time c).After-result_time) ∙ c.if-not-result_time.true)

pub returns : goal.returns
returns c =
    let a = c.args in
    let g = c.args.g in
    let e₁ : c.result_time-2.result ≡ result_time a.h.settings.offset.micros = told a.h.settings.offset.micros (moved (goal.at.returns c).Start) result_time c.result_time-2.ensures in
    let e₂ : c.result_time-3.result ≡ result_time g.dts = told g.dts (decoded (goal.at.returns c).Start) result_time c.result_time-3.ensures in
    let e₃ : c.result_time-4.result ≡ result_time (end_offered g) =
    told c.end_offered.result (rw c.end_offered.ensures (end_fits g.pts g.duration (inside (goal.at.returns c).Else-not-result_time) (lasting (goal.at.returns c).Start))) result_time c.result_time-4.ensures
    ∙ ap result_time c.end_offered.ensures in
    rw (e₁, e₂, e₃)
    (λ b e.
    ap (λ (k : Head). (result_time k.settings.offset.micros && result_time g.dts) && result_time (end_offered g)) e
    ∙ fits_all (record { buffer = b; frame = g }) (inside (goal.at.returns c).Else-not-result_time))
