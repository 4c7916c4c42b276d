use Rattle.std.proofs.Common.{◌≡◌, sym, ap, subst, ◌∙◌, false, ◌&&◌, ◌≤◌}
use lib.Signed.{mag}
use Rattle.buffer_state.specs.declared.Head.{Head}
use Rattle.buffer_state.specs.declared.Offered.{Offered}
use Rattle.buffer_state.specs.Append.{step_two, fits, breaks}
use Rattle.buffer_state.specs.Buffer.{Buffer, is_sequence}
use Rattle.buffer_state.specs.Lent.{head_of}
use Rattle.heads.specs.Heads.{HasTrack, IsCalm}
use Rattle.heads.proofs.FitLaws.{offered-pts}
use Rattle.heads.proofs.HeadLaws.{head-good, one-offset}
use Rattle.heads.proofs.PassLaws.{still, calm, some-same}
use Rattle.heads.proofs.steady_frame.Goals as goal
use Rattle.heads.proofs.steady_frame.Goals.{Else-begins}

-- step 1 has nothing to do
begun : (c : Else-begins) → let h = c.args.h in (is_sequence h.mode && h.group.begun) ≡ false
begun c = sym c.begins.ensures ∙ c.if-begins.false

begun-held : (c : Else-begins) (b : Buffer) → c.args.h ≡ head_of b → (is_sequence b.mode && b.group.begun) ≡ false
begun-held c b e = ap (λ (k : Head). is_sequence k.mode && k.group.begun) (sym e) ∙ begun c

pub step_two-g-requires : goal.step_two-g-requires
step_two-g-requires c =
    let f = c.args.f in
    let g = c.requires.0 in
    let b = c.requires.0.held in
    let offset = one-offset b f (head-good c.args.h g) (offered-pts f c.requires.1) in
    let held = subst (λ (x : Buffer). mag x.settings.offset.micros ≤ 6000000000000) (still b f (begun-held c b g.laid)) offset in
    (subst (λ (k : Head). mag k.settings.offset.micros ≤ 6000000000000) (sym g.laid) held, c.requires.1)

pub breaks-requires : goal.breaks-requires
unfolding step_two
breaks-requires c =
    let g = c.requires.0 in
    (g, subst (λ (x : Offered). HasTrack c.args.h x.track) (sym (c.step_two-g.ensures g.held g.laid)) c.requires.2)

pub returns : goal.returns
returns c =
    λ b e g some.
    let f = c.args.f in
    let two = c.step_two-g.ensures b e in
    let fit = ap (λ (x : Offered). fits (record { buffer = b; frame = x })) (sym two) ∙ sym (c.fits.ensures b e) ∙ c.if-not-fits.false in
    let unbroken = ap (λ (x : Offered). breaks (record { buffer = b; frame = x })) (sym two) ∙ sym (c.breaks.ensures b e) ∙ c.if-breaks.false in
    let same : g ≡ step_two b f = sym (some-same some) ∙ two in
    subst (IsCalm b f) (sym same) (calm b f (begun-held (goal.at.returns c).Else-begins b e) fit unbroken)
