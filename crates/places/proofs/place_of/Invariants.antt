use Rattle.std.proofs.Common.{◌-◌, ◌≤◌, take}
use Rattle.buffer_state.specs.Lent.{frames_of}
use Rattle.places.proofs.PlaceLaws.{Past, InFront}
use Rattle.places.proofs.place_of.Given as goal

abbrev pub invariant-loop-low : goal.invariant-loop-low
invariant-loop-low l = (l.low ≤ l.high) × (l.high ≤ l.n) × Past l.f (take l.n (frames_of l.times l.tags)) l.low × InFront l.f (take l.n (frames_of l.times l.tags)) l.high

abbrev pub decreases-loop-low : goal.decreases-loop-low
decreases-loop-low l = l.high - l.low
