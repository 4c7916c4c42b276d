use Rattle.groups.proofs.TableLaws.{IsTabled}
use Rattle.groups.proofs.slots_by_table.Given as goal

abbrev pub invariant-loop-i : goal.invariant-loop-i
invariant-loop-i l = IsTabled l.tags l.first l.n l.slots l.seen l.i
