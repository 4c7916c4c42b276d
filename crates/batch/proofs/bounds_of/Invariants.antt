use Rattle.std.proofs.Common.{take}
use Rattle.buffer_state.specs.Lent.{frames_of}
use Rattle.batch.specs.Bounds.{IsBounded}
use Rattle.batch.proofs.bounds_of.Given as goal

abbrev pub invariant-loop-i : goal.invariant-loop-i
invariant-loop-i l = IsBounded l.bounds (take l.i (frames_of l.times l.tags))
