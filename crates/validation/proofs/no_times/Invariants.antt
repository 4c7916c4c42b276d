use Rattle.std.proofs.Common.{◌≡◌, ◌&&◌, eqb, drop, of_z, w64}
use Rattle.buffer_state.specs.WellFormed.{all_of}
use Rattle.validation.specs.Tests.{is_zero_time}
use Rattle.validation.proofs.no_times.Given as goal

abbrev pub invariant-loop-time : goal.invariant-loop-time
invariant-loop-time l = ((eqb (of_z w64 l.a) 0 && eqb (of_z w64 l.b) 0) && all_of is_zero_time (drop l.time-index l.time-items)) ≡ all_of is_zero_time l.time-items
