-- A seek's start counts no more frames than its track has stored.
use Rattle.std.proofs.Common.{ℕ, ◌≤◌, arith, Ok, Err}
use Rattle.buffer_state.specs.Refusals.{CallResult}
use Rattle.buffer_state.specs.declared.Start.{Start}
use Rattle.seek.specs.Places.{Within}
use Rattle.galumper.specs.Calls.{start_out}

-- a refusal counts nothing
pub start-few : (most : ℕ) (x : CallResult Start) → Within most x → (start_out x).count ≤ most
start-few most (Err why) h = omega arith
start-few most (Ok s) h = h
