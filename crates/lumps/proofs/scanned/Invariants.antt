use Rattle.std.proofs.Common.{◌≡◌, ◌-◌, length}
use Rattle.lumps.proofs.scanned.Given as goal

abbrev pub invariant-loop-scan : goal.invariant-loop-scan
invariant-loop-scan l = (l.scan.start ≡ l.fn.start) × (l.scan.lump.now ≡ l.lump)

abbrev pub decreases-loop-scan : goal.decreases-loop-scan
decreases-loop-scan l = length l.lump - l.scan.next
