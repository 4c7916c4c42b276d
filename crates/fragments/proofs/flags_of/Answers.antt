use Rattle.std.proofs.Common.{◌≡◌, sym, ◌∙◌, true, arith}
use Rattle.fragments.specs.FullBoxes.{flag_in}
use Rattle.fragments.proofs.FragmentLaws.{there}
use Rattle.fragments.proofs.flags_of.Goals as goal
use Rattle.fragments.proofs.flags_of.Goals.{Then-flag_in}

set : (c : Then-flag_in) → flag_in c.args.r.word 4 ≡ true
set c = sym c.flag_in.ensures ∙ c.if-flag_in.true

pub read4-requires : goal.read4-requires
read4-requires c = omega (arith, there c.args.r.word 4 4 (set (goal.at.read4-requires c).Then-flag_in))
