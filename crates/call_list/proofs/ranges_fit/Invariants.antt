use Rattle.std.proofs.Common.{◌≡◌, ◌+◌, take}
use Rattle.buffer_state.specs.Run.{total}
use Rattle.call_list.specs.Listed.{ranges_of_row}
use Rattle.call_list.proofs.ranges_fit.Given as goal

abbrev pub invariant-loop-row : goal.invariant-loop-row
invariant-loop-row l = l.left + total ranges_of_row (take l.row-index l.calls) ≡ l.room
