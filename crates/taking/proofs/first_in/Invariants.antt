use Rattle.std.proofs.Common.{◌≡◌, Bool, true, not, List, take, drop}
use Rattle.buffer_state.specs.declared.Frame.{Frame}
use Rattle.buffer_state.specs.WellFormed.{all_of}
use Rattle.buffer_state.specs.Lent.{frames_of}
use Rattle.taking.specs.Taking.{in_spans}
use Rattle.taking.specs.declared.Span.{Span}
use Rattle.taking.proofs.first_in.Given as goal

abbrev pub out : List Span → Frame → Bool
out spans g = not (in_spans spans g)

abbrev pub invariant-loop-i : goal.invariant-loop-i
invariant-loop-i l =
    (all_of (out l.spans) (drop l.i (take l.n (frames_of l.times l.tags))) ≡ all_of (out l.spans) (take l.n (frames_of l.times l.tags)))
    × (all_of (out l.spans) (take l.i (take l.n (frames_of l.times l.tags))) ≡ true)
