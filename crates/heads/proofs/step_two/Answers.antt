use Rattle.std.proofs.Common.{◌≡◌, ap, rules, ℤ, ◌+ℤ◌, w64}
use mir.ValLaws.{to_z-of_z}
use Rattle.laws.proofs.WordLaws.{told₂}
use Rattle.buffer_state.specs.Append.{step_two}
use Rattle.buffer_state.specs.declared.Head.{Head}
use Rattle.heads.proofs.FitLaws.{plus-fits, offered-pts, offered-dts}
use Rattle.heads.proofs.step_two.Goals as goal

pub plus-requires : goal.plus-requires
plus-requires c = rw (to_z-of_z w64 c.args.f.pts (search rules), to_z-of_z w64 c.args.h.settings.offset.micros (search rules)) (offered-pts c.args.f c.requires.1, c.requires.0)

pub plus-requires-2 : goal.plus-requires-2
plus-requires-2 c = rw (to_z-of_z w64 c.args.f.dts (search rules), to_z-of_z w64 c.args.h.settings.offset.micros (search rules)) (offered-dts c.args.f c.requires.1, c.requires.0)

pub returns : goal.returns
unfolding step_two
returns c =
    let f = c.args.f in
    let o : ℤ = c.args.h.settings.offset.micros in
    let pts : c.plus.result ≡ f.pts +ℤ o = told₂ f.pts o (search rules) (search rules) (λ y z. y +ℤ z) c.plus.ensures in
    let dts : c.plus-2.result ≡ f.dts +ℤ o = told₂ f.dts o (search rules) (search rules) (λ y z. y +ℤ z) c.plus-2.ensures in
    rw (pts, dts, to_z-of_z w64 (f.pts +ℤ o) (plus-fits f.pts o (offered-pts f c.requires.1) c.requires.0), to_z-of_z w64 (f.dts +ℤ o) (plus-fits f.dts o (offered-dts f c.requires.1) c.requires.0))
    (λ b e.
    let q = ap (λ (k : Head). k.settings.offset.micros) e in
    λ j. record { track = f.track; flagged = f.flagged; duration = f.duration; pts = f.pts +ℤ q j; dts = f.dts +ℤ q j })
