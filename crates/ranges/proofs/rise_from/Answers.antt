use Rattle.std.proofs.Common.{rules, sym, ◌∙◌, arith}
use Rattle.ranges.proofs.OrderLaws.{order-length}
use Rattle.ranges.proofs.WalkLaws.{tested, rise-goes-on, rise-breaks, rise-ends}
use Rattle.ranges.proofs.rise_from.Goals as goal

pub returns-then-next-last : goal.returns-then-next-last
returns-then-next-last c =
    let sooner = tested c.stretch_at-next.result.start c.loop-i.last.start (search rules) (search rules) c.if-next-last.true in
    sym (rise-breaks c.stretch_at-next.ensures _ sooner) ∙ c.loop-i.invariant

pub loop-i-preserved : goal.loop-i-preserved
loop-i-preserved c =
    let later = tested c.stretch_at-next.result.start c.loop-i.last.start (search rules) (search rules) c.if-next-last.false in
    sym (rise-goes-on c.stretch_at-next.ensures _ later) ∙ c.loop-i.invariant

pub returns : goal.returns
returns c = sym (rise-ends _ _ c.loop-i.i (omega (arith, order-length c.requires.0))) ∙ c.loop-i.invariant
