use Rattle.std.proofs.Common.{◌≡◌, drop}
use Rattle.call_list.specs.Listed.{rows_fit}
use Rattle.call_list.proofs.rows_fit.Given as goal

abbrev pub invariant-loop-row : goal.invariant-loop-row
invariant-loop-row l = rows_fit l.frames l.room (drop l.row-index l.calls) ≡ rows_fit l.frames l.lines l.calls
