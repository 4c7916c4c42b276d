use Rattle.std.proofs.Common.{◌≡◌, sym, ap, ◌∙◌, true, ◌&&◌, rules, ◌-ℤ◌, w64, SFits}
use mir.ValLaws.{to_z-of_z}
use Rattle.laws.proofs.BoolLaws.{and_right}
use Rattle.laws.proofs.WordLaws.{told, told₂}
use Rattle.buffer_state.specs.Append.{with_offset}
use Rattle.buffer_state.specs.Buffer.{is_sequence}
use Rattle.buffer_state.specs.Limits.{result_time}
use Rattle.buffer_laws.proofs.GoodLaws.{group-start}
use Rattle.heads.proofs.FitLaws.{offset-fits, offset-exact, offered-pts}
use Rattle.heads.proofs.HeadLaws.{head-group, one-stays, one-begins}
use Rattle.heads.proofs.step_one.Goals as goal
use Rattle.heads.proofs.step_one.Goals.{Else-not-begins, After-offset_to}

-- group start is set
begun : (c : Else-not-begins) → let h = c.args.h in (is_sequence h.mode && h.group.begun) ≡ true
begun c = sym c.begins.ensures ∙ c.if-not-begins.false

-- and inside the limits
started : (c : Else-not-begins) → result_time c.args.h.group.start ≡ true
started c =
    let h = c.args.h in
    group-start h.group (head-group h c.requires.0) (and_right (is_sequence h.mode) _ (begun c))

-- where step 1 was found to begin
abbrev found : After-offset_to → Else-not-begins
found c = (goal.at.After-offset_to c).Else-not-begins

-- the offset is group start less P
moved : (c : After-offset_to) → let a = (found c).args in c.offset_to.result ≡ a.h.group.start -ℤ a.f.pts
moved c =
    let a = (found c).args in
    told₂ a.h.group.start a.f.pts (search rules) (search rules) (λ y z. y -ℤ z) c.offset_to.ensures

fitted : (c : After-offset_to) → SFits w64 c.offset_to.result
fitted c =
    let e = found c in
    rw (moved c) (offset-fits e.args.h.group.start e.args.f.pts (started e) (offered-pts e.args.f e.requires.1))

pub returns-then-not-begins : goal.returns-then-not-begins
returns-then-not-begins c =
    let a = c.args in
    λ b e. one-stays b a.h e a.f (sym c.begins.ensures ∙ c.if-not-begins.true)

pub offset_to-requires : goal.offset_to-requires
offset_to-requires c =
    let a = c.args in
    rw (to_z-of_z w64 a.h.group.start (search rules), to_z-of_z w64 a.f.pts (search rules)) (started (goal.at.offset_to-requires c).Else-not-begins, offered-pts a.f c.requires.1)

pub with_offset-settings-requires : goal.with_offset-settings-requires
with_offset-settings-requires c =
    let e = found c in
    rw (to_z-of_z w64 c.offset_to.result (fitted c), moved c)
    (offset-exact e.args.h.group.start e.args.f.pts (started e) (offered-pts e.args.f e.requires.1))

pub returns : goal.returns
returns c =
    let e = found (goal.at.returns c).After-offset_to in
    let a = e.args in
    let s = told c.offset_to.result (fitted (goal.at.returns c).After-offset_to) (with_offset a.h.settings) c.with_offset-settings.ensures ∙ ap (with_offset a.h.settings) (moved (goal.at.returns c).After-offset_to) in
    rw (to_z-of_z w64 a.h.group.start (search rules))
    (λ b e'. one-begins b a.h e' a.f (begun e) c.need_all-tracks.result c.with_offset-settings.result c.need_all-tracks.ensures s)
