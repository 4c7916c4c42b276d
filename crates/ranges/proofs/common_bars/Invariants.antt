use Rattle.std.proofs.Common.{◌≡◌, ◌≤◌, length}
use Rattle.buffer_state.specs.Limits.{places}
use Rattle.buffer_state.specs.Ranges.{common_ranges_of}
use Rattle.ranges.specs.Bars.{stored, Shows}
use Rattle.ranges.proofs.CountLaws.{up_to}
use Rattle.ranges.proofs.common_bars.Given as goal

-- what the first t tracks have in common
abbrev pub invariant-loop-t : goal.invariant-loop-t
invariant-loop-t l =
    (1 ≤ l.t) × (length l.spans ≡ places) × (length l.more ≡ places)
    × Shows l.spans l.count (common_ranges_of l.t (stored l.times l.tags l.n)) × (l.count ≤ up_to l.t (stored l.times l.tags l.n))
