use Rattle.std.proofs.Common.{◌≡◌, ◌<◌, take, drop, IfSome}
use Rattle.buffer_state.specs.Lent.{frames_of}
use Rattle.buffer_state.specs.Seek.{target_of}
use Rattle.seek.specs.Places.{placed_target}
use Rattle.seek.proofs.target_at.Given as goal

-- the target of the frames from i on
abbrev pub invariant-loop-i : goal.invariant-loop-i
invariant-loop-i l =
    let fs = frames_of l.times l.tags in
    IfSome l.best (λ place. place < l.n) × (target_of l.track l.instant (drop l.i (take l.n fs)) ≡ placed_target fs l.best)
