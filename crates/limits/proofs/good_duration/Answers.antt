use Rattle.std.proofs.Common.{rules}
use Rattle.buffer_state.specs.Limits.{good_duration}
use Rattle.limits.proofs.good_duration.Goals as goal

pub returns : goal.returns
unfolding good_duration
returns c = search rules
