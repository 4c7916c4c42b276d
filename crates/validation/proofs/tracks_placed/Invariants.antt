use Rattle.std.proofs.Common.{◌≡◌, ◌-◌, drop}
use Rattle.buffer_state.specs.WellFormed.{good_track}
use Rattle.buffer_state.specs.Layout.{is_zero_track}
use Rattle.validation.specs.Tests.{is_placed}
use Rattle.validation.proofs.tracks_placed.Given as goal

abbrev pub invariant-loop-i : goal.invariant-loop-i
invariant-loop-i l = let h = l.fn.h in is_placed good_track is_zero_track (h.ntracks - l.i) (drop l.i h.tracks) ≡ is_placed good_track is_zero_track h.ntracks h.tracks
