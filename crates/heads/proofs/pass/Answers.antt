use Rattle.std.proofs.Common.{◌≡◌, sym, ap, ◌∙◌, Ok}
use Rattle.buffer_state.specs.declared.Offered.{Offered}
use Rattle.buffer_state.specs.Append.{step_one, step_two, pass_of, fits}
use Rattle.buffer_state.specs.Buffer.{Buffer}
use Rattle.buffer_state.specs.Lent.{head_of}
use Rattle.heads.specs.Heads.{decided}
use Rattle.heads.proofs.FitLaws.{offered-pts}
use Rattle.heads.proofs.HeadLaws.{head-good, one-offset}
use Rattle.heads.proofs.PassLaws.{first-out, first-in}
use Rattle.heads.proofs.pass.Goals as goal
use Rattle.heads.proofs.pass.Goals.{After-step_two-k, After-fits}

stepped : (c : After-step_two-k) (b : Buffer) → c.args.h ≡ head_of b → c.step_two-k.result ≡ step_two (step_one b c.args.f) c.args.f
stepped c b e = c.step_two-k.ensures (step_one b c.args.f) (c.step_one-g.ensures b e)

-- refusal 7's answer
fitting : (c : After-fits) (b : Buffer) → c.args.h ≡ head_of b → c.fits.result ≡ fits (pass_of b c.args.f)
unfolding pass_of
fitting c b e =
    let k = step_one b c.args.f in
    c.fits.ensures k (c.step_one-g.ensures b e) ∙ ap (λ (x : Offered). fits (record { buffer = k; frame = x })) (stepped (goal.at.After-fits c).After-step_two-k b e)

pub step_two-k-requires : goal.step_two-k-requires
step_two-k-requires c =
    let f = c.args.f in
    (rw (c.step_one-g.ensures c.requires.0.held c.requires.0.laid) (one-offset c.requires.0.held f (head-good c.args.h c.requires.0) (offered-pts f c.requires.1)), c.requires.1)

pub returns-then-not-fits : goal.returns-then-not-fits
returns-then-not-fits c = λ b e. ap decided (sym (first-out b c.args.f (sym (fitting (goal.at.returns-then-not-fits c).After-fits b e) ∙ c.if-not-fits.true)))

pub returns : goal.returns
unfolding pass_of
returns c =
    λ b e.
    let told = ap decided (first-in b c.args.f (sym (fitting (goal.at.returns c).After-fits b e) ∙ c.if-not-fits.false)) in
    let p = c.step_one-g.ensures b e in
    let q = stepped (goal.at.returns c).After-step_two-k b e in
    (λ j. Ok (record { head = p j; frame = q j })) ∙ sym told
