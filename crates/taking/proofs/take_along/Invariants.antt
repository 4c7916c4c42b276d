use Rattle.std.proofs.Common.{◌≡◌, take, drop}
use Rattle.buffer_state.specs.Lent.{frames_of}
use Rattle.taking.specs.Loss.{bound_in, earlier, loss_of}
use Rattle.taking.specs.Taking.{in_spans, taken_marks}
use Rattle.taking.proofs.LoopLaws.{Taking}
use Rattle.taking.proofs.AlongLaws.{Along}
use Rattle.taking.proofs.take_along.Given as goal

abbrev pub invariant-loop-i : goal.invariant-loop-i
invariant-loop-i l =
    let all = taken_marks l.spans l.cause (take l.n (frames_of l.initial.times l.initial.tags)) in
    Taking l.initial.times l.initial.tags l.initial.fates l.n all l.times l.tags l.fates l.k l.m l.i × Along l.initial.times l.initial.tags l.n l.first (in_spans l.spans) l.cause l.track l.follows l.i
    × (earlier (bound_in l.lost) (loss_of l.tracks (drop l.i all)) ≡ loss_of l.tracks all)
