use Rattle.taking.specs.Taking.{in_spans}
use Rattle.taking.proofs.SlotLaws.{Marking}
use Rattle.taking.proofs.mark.Given as goal

abbrev pub invariant-loop-i : goal.invariant-loop-i
invariant-loop-i l = Marking l.times l.tags l.n l.first (in_spans l.spans) l.cause l.slots l.on l.causes l.i
