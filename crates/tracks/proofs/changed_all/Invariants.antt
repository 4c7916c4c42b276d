use Rattle.std.proofs.Common.{◌≡◌, Bool, true, cond}
use Rattle.laws.proofs.ListLaws.{mapped_to}
use Rattle.buffer_state.specs.declared.Track.{Track}
use Rattle.buffer_state.specs.Buffer.{restarted_track, with_need}
use Rattle.tracks.proofs.changed_all.Given as goal

abbrev pub changed : Bool → Track → Track
changed unset t = cond unset (restarted_track t) (with_need true t)

abbrev pub invariant-loop-i : goal.invariant-loop-i
invariant-loop-i l = l.ts ≡ mapped_to (changed l.unset) l.initial.ts l.i
