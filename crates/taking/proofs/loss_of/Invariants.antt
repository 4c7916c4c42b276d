use Rattle.std.proofs.Common.{◌≡◌, take, drop}
use Rattle.buffer_state.specs.Lent.{frames_of}
use Rattle.taking.specs.Loss.{loss_of}
use Rattle.taking.specs.Marks.{marked_by}
use Rattle.taking.proofs.loss_of.Given as goal

abbrev pub invariant-loop-i : goal.invariant-loop-i
invariant-loop-i l = loss_of l.tracks (drop l.i (marked_by (take l.n (frames_of l.times l.tags)) l.causes)) ≡ loss_of l.tracks (marked_by (take l.n (frames_of l.times l.tags)) l.causes)
