use Rattle.std.proofs.Common.{◌+◌, ◌-◌, ◌≤◌, take}
use Rattle.buffer_state.specs.Ranges.{common_of}
use Rattle.ranges.specs.Read.{ranges_in}
use Rattle.ranges.proofs.MeetLaws.{rest, Meeting}
use Rattle.buffer_state.specs.Limits.{places}
use Rattle.ranges.proofs.both_bars.Given as goal

abbrev pub invariant-loop-i : goal.invariant-loop-i
invariant-loop-i l = (l.i ≤ places) × (l.j ≤ l.n) × (l.k + places ≤ l.i + l.m + l.j) × Meeting l.spans l.k l.i l.more l.n l.j (common_of (rest (places - l.m) l.initial.spans) (ranges_in (take l.n l.more)))

abbrev pub decreases-loop-i : goal.decreases-loop-i
decreases-loop-i l = (places - l.i) + (l.n - l.j)
