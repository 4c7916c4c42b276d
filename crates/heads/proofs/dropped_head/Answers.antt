use Rattle.std.proofs.Common.{◌≡◌, ap, ◌∙◌, true, false, ◌+◌, eq-eqb, ne_eqb, eqb}
use Rattle.buffer_state.specs.Buffer.{with_last}
use Rattle.heads.specs.Heads.{next_head, drop_buffer}
use Rattle.heads.proofs.dropped_head.Goals as goal

pub returns-then-cause-eq3 : goal.returns-then-cause-eq3
unfolding drop_buffer
returns-then-cause-eq3 c =
    let three : eqb c.args.cause 3 ≡ true = eq-eqb _ _ c.if-cause-eq3.true in
    rw three (λ b e. c.numbered-k.ensures ∙ ap next_head e)

pub returns : goal.returns
unfolding drop_buffer
returns c =
    let other : eqb c.args.cause 3 ≡ false = ne_eqb _ _ c.if-cause-eq3.false in
    rw other (λ b e. c.need_track.ensures (with_last b (b.last + 1)) (c.numbered-k.ensures ∙ ap next_head e))
