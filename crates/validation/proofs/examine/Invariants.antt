use Rattle.std.proofs.Common.{◌≡◌, ◌&&◌, [], ◌-◌, ltb, take, drop, get_or}
use Rattle.buffer_state.specs.Layout.{zero_frame}
use Rattle.sorting.specs.Sorting.{following}
use Rattle.buffer_state.specs.Lent.{frame_of}
use Rattle.numbers.specs.Numbers.{number_in, numbers_of}
use Rattle.validation.specs.Tests.{rows_from}
use Rattle.validation.proofs.examine.Given as goal

abbrev pub invariant-loop-i : goal.invariant-loop-i
invariant-loop-i l =
    (rows_from l.tracks l.last l.group (frame_of (get_or l.times (l.i - 1) []) (get_or l.tags (l.i - 1) [])) (drop l.i (take l.n l.times)) (drop l.i (take l.n l.tags)) ≡ rows_from l.tracks l.last l.group zero_frame (take l.n l.times) (take l.n l.tags))
    × ((l.rising && following ltb (number_in (get_or l.tags (l.i - 1) [])) (numbers_of (drop l.i (take l.n l.tags)))) ≡ following ltb 0 (numbers_of (take l.n l.tags)))
