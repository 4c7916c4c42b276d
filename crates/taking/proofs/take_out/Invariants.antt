use Rattle.std.proofs.Common.{take}
use Rattle.buffer_state.specs.Lent.{frames_of}
use Rattle.taking.specs.Marks.{marked_by}
use Rattle.taking.proofs.LoopLaws.{Taking}
use Rattle.taking.proofs.take_out.Given as goal

abbrev pub invariant-loop-i : goal.invariant-loop-i
invariant-loop-i l = Taking l.initial.times l.initial.tags l.initial.fates l.n (marked_by (take l.n (frames_of l.initial.times l.initial.tags)) l.causes) l.times l.tags l.fates l.k l.m l.i
