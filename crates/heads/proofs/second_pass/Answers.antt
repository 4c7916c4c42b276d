use Rattle.std.proofs.Common.{◌≡◌, sym, ap, subst, ◌∙◌, true, false, ℕ, eqb, eq-eqb, ne_eqb, Ok, Err, rules}
use Rattle.laws.proofs.WordLaws.{told}
use Rattle.buffer_state.specs.Append.{Pass, moved, pass_of}
use Rattle.buffer_state.specs.Buffer.{Buffer, in_last_group}
use Rattle.buffer_state.specs.Lent.{head_of}
use Rattle.buffer_state.specs.Limits.{last_group}
use Rattle.heads.specs.declared.Passed.{Passed}
use Rattle.heads.specs.Heads.{first_decision, decided, IsGoodHead}
use Rattle.heads.proofs.PassLaws.{IsFirst, told-first, told-out, moved-head, second-number, second-out, second-last, second-done}
use Rattle.heads.proofs.second_pass.Goals as goal
use Rattle.heads.proofs.second_pass.Goals.{Start, After-moved, After-pass, In_ok-q}

-- the head that the pass begins with
again : (c : After-moved) (b : Buffer) → c.args.h ≡ head_of b → c.moved.result ≡ head_of (moved b c.args.p)
again c b e = told c.args.p c.ranges.p (λ z. head_of (moved b z)) (c.moved.ensures b e)

passed : (c : After-pass) (b : Buffer) → c.args.h ≡ head_of b → c.pass.result ≡ decided (first_decision (moved b c.args.p) c.args.f)
passed c b e = c.pass.ensures (moved b c.args.p) (again (goal.at.After-pass c).After-moved b e)

-- the pass, before its group number is given
abbrev second : Start → Buffer → Pass
second s b = pass_of (moved b s.args.p) s.args.f

fitting : (c : In_ok-q) (b : Buffer) → c.args.h ≡ head_of b → IsFirst (moved b c.args.p) c.args.f c.in_ok-q.q
fitting c b e = told-first _ _ _ (sym c.in_ok-q.was ∙ passed (goal.at.In_ok-q c).After-pass b e)

-- the group number that the head has still
number : (c : In_ok-q) (b : Buffer) → c.args.h ≡ head_of b → c.in_ok-q.q.head.group.number ≡ b.group.number
number c b e = ap (λ (p : Passed). p.head.group.number) (fitting c b e).told ∙ second-number b c.args.f c.args.p

pub pass-requires : goal.pass-requires
pass-requires c =
    let g = c.requires.0 in
    (subst IsGoodHead (sym (again c g.held g.laid)) (moved-head c.args.h g c.args.p c.requires.2), c.requires.1)

pub returns-in_err-q : goal.returns-in_err-q
returns-in_err-q c =
    λ b e.
    let out = told-out _ _ _ (sym c.in_err-q.was ∙ passed (goal.at.returns-in_err-q c).After-pass b e) in
    let why : c.from_residual.result ≡ Err c.in_err-q.field-0.0 = search rules in
    why ∙ ap Err out.1 ∙ ap decided (sym (second-out b c.args.f c.args.p out.0))

pub returns-then-k : goal.returns-then-k
returns-then-k c =
    λ b e.
    let d = (goal.at.returns-then-k c).In_ok-q in
    let last : in_last_group b ≡ true = ap (λ (n : ℕ). eqb n last_group) (sym (number d b e)) ∙ eq-eqb _ last_group c.if-k.true in
    ap decided (sym (second-last b c.args.f c.args.p (fitting d b e).inside last))

pub returns : goal.returns
returns c =
    λ b e.
    let d = (goal.at.returns c).In_ok-q in
    let first = fitting d b e in
    let more : in_last_group b ≡ false = ap (λ (n : ℕ). eqb n last_group) (sym (number d b e)) ∙ ne_eqb _ last_group c.if-k.false in
    let next = c.in_next_group.ensures (second (goal.at.returns c).Start b).buffer (ap (λ (x : Passed). x.head) first.told) in
    (λ j. Ok (record { head = next j; frame = (first.told j).frame })) ∙ ap decided (sym (second-done b c.args.f c.args.p first.inside more))
