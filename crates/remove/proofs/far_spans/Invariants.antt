use Rattle.std.proofs.Common.{◌≡◌, length, take, drop}
use Rattle.buffer_state.specs.Lent.{frames_of}
use Rattle.taking.specs.Loss.{bound_in}
use Rattle.remove.specs.Edges.{FarSpans}
use Rattle.remove.proofs.far_spans.Given as goal

-- the edges among the frames from i on
abbrev pub invariant-loop-i : goal.invariant-loop-i
invariant-loop-i l = (length l.spans ≡ 5) × FarSpans l.fn.whole.start (bound_in l.end) (drop l.i (take l.fn.h.nframes (frames_of l.times l.tags))) l.spans
