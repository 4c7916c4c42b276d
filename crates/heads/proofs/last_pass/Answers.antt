use Rattle.std.proofs.Common.{◌≡◌, sym, ap, subst, ◌∙◌, true, ℤ, rules, w64, SFits, to_z, of_z, Ok, Err}
use mir.ValLaws.{to_z-of_z}
use Rattle.buffer_state.specs.Append.{pass_of, breaks}
use Rattle.buffer_state.specs.Buffer.{Buffer}
use Rattle.buffer_state.specs.Lent.{head_of}
use Rattle.buffer_state.specs.Limits.{result_time}
use Rattle.heads.specs.declared.Passed.{Passed}
use Rattle.heads.specs.Heads.{IsGoodHead, HasTrack, decided, second_decision}
use Rattle.heads.proofs.PassLaws.{IsFirst, told-first, told-out, first_head, first-shown, first-track, decides-out, decides-first, decides-second}
use Rattle.heads.proofs.last_pass.Goals as goal
use Rattle.heads.proofs.last_pass.Goals.{In_ok-p, After-breaks}

-- the first pass is not refused
first : (c : In_ok-p) (b : Buffer) → c.args.h ≡ head_of b → IsFirst b c.args.f c.in_ok-p.p
first c b e = told-first b c.args.f _ (sym c.in_ok-p.was ∙ c.pass.ensures b e)

-- so its head is a good buffer's
good : (c : In_ok-p) → IsGoodHead c.in_ok-p.p.head
good c =
    let g = c.requires.0 in
    let d = first c g.held g.laid in
    subst (λ (q : Passed). IsGoodHead q.head) (sym d.told) (first_head c.args.h c.args.f g d.inside)

-- step 3's answer
broken : (c : After-breaks) (b : Buffer) → c.args.h ≡ head_of b → c.breaks.result ≡ breaks (pass_of b c.args.f)
broken c b e =
    let told = (first (goal.at.After-breaks c).In_ok-p b e).told in
    let q = pass_of b c.args.f in
    c.breaks.ensures q.buffer (ap (λ (x : Passed). x.head) told) ∙ ap (λ (x : Passed). breaks (record { buffer = q.buffer; frame = x.frame })) told

pub returns-in_err-p : goal.returns-in_err-p
returns-in_err-p c =
    λ b e.
    let out = told-out b c.args.f _ (sym c.in_err-p.was ∙ c.pass.ensures b e) in
    let why : c.from_residual.result ≡ Err c.in_err-p.field-0.0 = search rules in
    why ∙ ap Err out.1 ∙ ap decided (sym (decides-out b c.args.f out.0))

pub breaks-requires : goal.breaks-requires
breaks-requires c =
    let g = c.requires.0 in
    let d = (goal.at.breaks-requires c).In_ok-p in
    (good d, subst (λ (q : Passed). HasTrack q.head q.frame.track) (sym (first d g.held g.laid).told) (first-track c.args.h c.args.f g c.requires.2))

pub returns-then-not-breaks : goal.returns-then-not-breaks
returns-then-not-breaks c =
    λ b e.
    let d = first (goal.at.returns-then-not-breaks c).In_ok-p b e in
    let unbroken = sym (broken (goal.at.returns-then-not-breaks c).After-breaks b e) ∙ c.if-not-breaks.true in
    ap Ok d.told ∙ ap decided (sym (decides-first b c.args.f d.inside unbroken))

pub second_pass-requires : goal.second_pass-requires
second_pass-requires c =
    let g = c.requires.0 in
    let d = first (goal.at.second_pass-requires c).In_ok-p g.held g.laid in
    let shown : result_time c.in_ok-p.p.frame.pts ≡ true = subst (λ (q : Passed). result_time q.frame.pts ≡ true) (sym d.told) (first-shown c.args.h c.args.f g d.inside) in
    let timed : SFits w64 c.in_ok-p.p.frame.pts = search rules in
    (good (goal.at.second_pass-requires c).In_ok-p, c.requires.1, rw (to_z-of_z w64 c.in_ok-p.p.frame.pts timed) shown)

pub returns : goal.returns
returns c =
    λ b e.
    let f = c.args.f in
    let d = first (goal.at.returns c).In_ok-p b e in
    let q = pass_of b f in
    let timed : SFits w64 c.in_ok-p.p.frame.pts = search rules in
    let shown : to_z w64 (of_z w64 c.in_ok-p.p.frame.pts) ≡ q.frame.pts = to_z-of_z w64 c.in_ok-p.p.frame.pts timed ∙ ap (λ (x : Passed). x.frame.pts) d.told in
    let second = c.second_pass.ensures q.buffer (ap (λ (x : Passed). x.head) d.told) in
    let broke = sym (broken (goal.at.returns c).After-breaks b e) ∙ c.if-not-breaks.false in
    second ∙ ap (λ (z : ℤ). decided (second_decision q.buffer f z)) shown ∙ ap decided (sym (decides-second b f d.inside broke))
