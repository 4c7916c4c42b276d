-- The rule on the last decode time in the words of the code: where the first frame that ends its track was shown, and the head after it.
use Rattle.std.specs.Prelude.{Bool, true, false, cond, ◌&&◌, List, [], ◌∷◌, ◌++◌, ℕ, ℤ, take, drop, Ok}
use Rattle.seconds.specs.Seconds.{Bound, unbounded, at, same_int}
use Rattle.buffer_state.specs.declared.Head.{Head}
use Rattle.buffer_state.specs.declared.Refusal.TheVariants.{LastNumber}
use Rattle.buffer_state.specs.declared.Track.{Track}
use Rattle.buffer_state.specs.Append.{Outcome}
use Rattle.buffer_state.specs.Buffer.{Buffer, track_of, restart_all, is_sequence, start_at_end, with_end, next_group}
use Rattle.buffer_state.specs.Refusals.{CallResult, refuse_if}
use Rattle.buffer_state.specs.Remove.{removal_lacks_group, removed_outcome}
use Rattle.buffer_state.specs.Store.{Marked, is_taken}

-- a frame that is taken, and has the track's last decode time
abbrev pub ends_on : Track → Marked → Bool
ends_on t m = is_taken m && (t.known && same_int m.frame.dts t.dts)

-- the presentation time of the first taken frame that ends its track, or none
unfoldable pub loss_of : Buffer → List Marked → Bound
loss_of b [] = unbounded
loss_of b (m ∷ ms) = let rest = loss_of b ms in cond (ends_on (track_of b m.frame.track) m) (at m.frame.pts) rest

-- whether there is one
abbrev pub is_loss : Bound → Bool
is_loss unbounded = false
is_loss (at p) = true

-- a removal from one instant to another, after refusal 9
unfoldable pub over_result : ℤ → Bound → Buffer → CallResult Outcome
over_result s e b = refuse_if (removal_lacks_group s e b) LastNumber (Ok (removed_outcome s e b))

-- the head after such a loss: regrouped there, every track begun again, in the next group
abbrev pub settled_by : Bound → ℕ → Head → Head
settled_by unbounded left h = record {
  tracks = h.tracks;
  ntracks = h.ntracks;
  nframes = left;
  mode = h.mode;
  group = h.group;
  last = h.last;
  settings = h.settings;
}
settled_by (at p) left h = record {
  tracks = restart_all (take h.ntracks h.tracks) ++ drop h.ntracks h.tracks;
  ntracks = h.ntracks;
  nframes = left;
  mode = h.mode;
  group = next_group (cond (is_sequence h.mode) (start_at_end h.group) (with_end h.group p));
  last = h.last;
  settings = h.settings;
}
