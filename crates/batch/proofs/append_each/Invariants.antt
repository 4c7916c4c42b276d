use Rattle.std.proofs.Common.{map}
use Rattle.buffer_state.specs.Batch.{offered_in}
use Rattle.buffer_state.specs.Layout.{buffer_of}
use Rattle.buffer_state.specs.Lent.{state_at}
use Rattle.batch.specs.Each.{Going}
use Rattle.batch.proofs.append_each.Given as goal

abbrev pub invariant-loop-i : goal.invariant-loop-i
invariant-loop-i l = Going (buffer_of (state_at l.initial.h l.initial.times l.initial.tags)) (map offered_in l.frames) l.initial.fates l.i l.h l.times l.tags l.bounds l.at l.fates
