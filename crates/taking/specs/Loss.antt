-- The rule on the last decode time: where the first frame that goes and ends its track was shown.
use Rattle.std.specs.Prelude.{Bool, cond, ◌&&◌, List, [], ◌∷◌, get_or, ℤ, Option, None, Some}
use Rattle.seconds.specs.Seconds.{Bound, unbounded, at, same_int}
use Rattle.buffer_state.specs.declared.Frame.{Frame}
use Rattle.buffer_state.specs.declared.Track.{Track}
use Rattle.buffer_state.specs.Buffer.{zero_track}
use Rattle.buffer_state.specs.Store.{Marked, is_taken}

-- the bound that an instant is, which need not be there
abbrev pub bound_in : Option ℤ → Bound
bound_in None = unbounded
bound_in (Some z) = at z

-- the first of two, or the second where there is no first
abbrev pub earlier : Bound → Bound → Bound
earlier unbounded b = b
earlier (at z) b = at z

-- a frame has a track's last decode time
abbrev pub ends : Track → Frame → Bool
ends t g = t.known && same_int g.dts t.dts

-- where a frame that goes was shown, if it ends its track
abbrev pub loss_here : Track → Frame → Bound
loss_here t g = cond (ends t g) (at g.pts) unbounded

-- the first such among the frames taken; tracks by their numbers
unfoldable pub loss_of : List Track → List Marked → Bound
loss_of ts [] = unbounded
loss_of ts (m ∷ ms) = let rest = loss_of ts ms in cond (is_taken m && ends (get_or ts m.frame.track zero_track) m.frame) (at m.frame.pts) rest
