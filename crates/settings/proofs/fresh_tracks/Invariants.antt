use Rattle.std.proofs.Common.{◌≡◌, map, take}
use Rattle.buffer_state.specs.Buffer.{zero_track, fresh_track}
use Rattle.buffer_state.specs.Layout.{padded_list}
use Rattle.settings.proofs.fresh_tracks.Given as goal

abbrev pub invariant-loop-i : goal.invariant-loop-i
invariant-loop-i l = l.out ≡ padded_list 4 zero_track (map fresh_track (take l.i l.kinds))
