use Rattle.std.proofs.Common.{sym, ◌∙◌, arith}
use Rattle.fragments.specs.FullBoxes.{optional}
use Rattle.fragments.proofs.optional.Goals as goal

pub returns-then-flag_in : goal.returns-then-flag_in
unfolding optional
returns-then-flag_in c = (rw (sym c.flag_in.ensures ∙ c.if-flag_in.true), omega arith)

pub returns : goal.returns
unfolding optional
returns c = (rw (sym c.flag_in.ensures ∙ c.if-flag_in.false), omega arith)
