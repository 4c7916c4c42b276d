use Rattle.std.proofs.Common.{◌≡◌, length}
use Rattle.sorting.specs.Sorting.{most}
use Rattle.groups.specs.Groups.{IsKeyed}
use Rattle.groups.proofs.keys_of.Given as goal

abbrev pub invariant-loop-i : goal.invariant-loop-i
invariant-loop-i l = (length l.keys ≡ most) × IsKeyed l.tags l.first l.i l.keys
