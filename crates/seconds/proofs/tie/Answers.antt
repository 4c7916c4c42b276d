use Rattle.std.proofs.Common.{sym, ap, Bool}
use Rattle.seconds.specs.Seconds.{tie_of}
use Rattle.seconds.proofs.tie.Goals as goal

pub returns-then-negative : goal.returns-then-negative
unfolding tie_of
returns-then-negative c = sym (ap (λ (s : Bool). tie_of s c.args.whole) c.if-negative.true)

pub returns-else-negative : goal.returns-else-negative
unfolding tie_of
returns-else-negative c = sym (ap (λ (s : Bool). tie_of s c.args.whole) c.if-negative.false)
