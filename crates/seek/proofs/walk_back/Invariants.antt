use Rattle.std.proofs.Common.{◌≡◌, ◌+◌, ◌≤◌, take}
use Rattle.buffer_state.specs.Lent.{frames_of}
use Rattle.buffer_state.specs.Seek.{from_flagged, start_by}
use Rattle.seek.specs.Places.{same_group}
use Rattle.seek.proofs.WalkLaws.{start_with}
use Rattle.seek.proofs.walk_back.Given as goal

-- what the frames before i come to, with those that were walked, is what all up to the place come to
abbrev pub invariant-loop-i : goal.invariant-loop-i
invariant-loop-i l =
    let fs = frames_of l.times l.tags in
    (l.count + l.i ≤ l.at + 1) × (start_by l.f (from_flagged (same_group l.f (take (l.at + 1) fs))) ≡ start_with l.count l.f (from_flagged (same_group l.f (take l.i fs))))
