use Rattle.buffer_state.specs.Lent.{frames_of}
use Rattle.ranges.proofs.KeyLaws.{IsKeyed}
use Rattle.ranges.proofs.keys_of.Given as goal

abbrev pub invariant-loop-k : goal.invariant-loop-k
invariant-loop-k l = IsKeyed (frames_of l.times l.tags) l.first l.count l.keys l.k
