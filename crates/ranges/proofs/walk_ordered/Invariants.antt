use Rattle.std.proofs.Common.{◌-◌, ◌≤◌, ◌<◌}
use Rattle.buffer_state.specs.Lent.{frames_of}
use Rattle.ranges.specs.Bars.{range_of}
use Rattle.ranges.specs.Walks.{count_in, stretches_in}
use Rattle.ranges.proofs.WalkLaws.{Between, Inside}
use Rattle.ranges.proofs.walk_ordered.Given as goal

abbrev pub invariant-loop-i : goal.invariant-loop-i
invariant-loop-i l = (l.initial.i ≤ l.i) × (l.i ≤ count_in l.order) × (l.k < l.i) × (l.k < l.room) × Inside l.room (stretches_in (frames_of l.times l.tags) l.order) l.spans (range_of l.range) l.k l.i

abbrev pub decreases-loop-i : goal.decreases-loop-i
decreases-loop-i l = count_in l.order - l.i

abbrev pub invariant-ranges-2 : goal.invariant-ranges-2
invariant-ranges-2 l = (l.i < count_in l.order) × (l.k ≤ l.i) × (l.k < l.room) × Between l.room (stretches_in (frames_of l.times l.tags) l.order) l.spans l.k l.i

abbrev pub decreases-ranges-2 : goal.decreases-ranges-2
decreases-ranges-2 l = count_in l.order - l.i
