use Rattle.std.proofs.Common.{Some}
use Rattle.segments.specs.Walks.{known}
use Rattle.segments.proofs.RunLaws.{Along}
use Rattle.segments.proofs.walk_samples.Given as goal

abbrev pub invariant-loop-i : goal.invariant-loop-i
invariant-loop-i l = Along l.of l.d l.r l.b l.n l.write (known (Some l.initial.v)) l.initial.list l.i (known (Some l.v)) l.list
