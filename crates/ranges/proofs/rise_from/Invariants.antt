use Rattle.std.proofs.Common.{◌≡◌, drop}
use Rattle.buffer_state.specs.Lent.{frames_of}
use Rattle.ranges.specs.Bars.{range_of}
use Rattle.ranges.specs.Sweep.{starts_from, starts_rise}
use Rattle.ranges.specs.Walks.{stretches_in}
use Rattle.ranges.proofs.rise_from.Given as goal

abbrev pub invariant-loop-i : goal.invariant-loop-i
invariant-loop-i l =
    let all = stretches_in (frames_of l.times l.tags) l.order in
    starts_from (range_of l.last) (drop l.i all) ≡ starts_rise (drop l.at all)
