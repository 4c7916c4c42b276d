-- The digits still to come, written after m, give what all of them give after n.
use Rattle.std.proofs.Common.{◌≡◌, drop}
use Rattle.text.specs.Reading.{digits_from}
use Rattle.text.proofs.read.digits.Given as goal

abbrev pub invariant-loop-b : goal.invariant-loop-b
invariant-loop-b l = digits_from l.base l.m (drop l.b-index l.w) ≡ digits_from l.base l.n l.w
