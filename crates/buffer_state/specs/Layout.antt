-- How a State holds a buffer: arrays with zeros past the counts.
use Rattle.std.specs.Prelude.{Bool, false, not, ◌&&◌, List, ◌++◌, ℕ, ◌-◌, leb, eqb, pos, length, take, drop, replicate}
use Rattle.buffer_state.specs.declared.Frame.{Frame}
use Rattle.buffer_state.specs.declared.Track.{Track}
use Rattle.buffer_state.specs.Buffer.{Buffer, zero_track}
use Rattle.buffer_state.specs.Limits.{places, most_tracks}
use Rattle.buffer_state.specs.State.{State}
use Rattle.buffer_state.specs.WellFormed.{all_of, zero_int, good_buffer}

abbrev pub zero_frame : Frame
zero_frame = record { track = 0; flagged = false; duration = 0; number = 0; group = 0; pts = pos 0; dts = pos 0 }

-- an array of n places that starts with these elements
abbrev pub padded_list : {A : Type 0} → ℕ → A → List A → List A
padded_list n z l = l ++ replicate (n - length l) z

abbrev pub state_of : Buffer → State
state_of b = record {
  frames = padded_list places zero_frame b.frames;
  nframes = length b.frames;
  tracks = padded_list most_tracks zero_track b.tracks;
  ntracks = length b.tracks;
  mode = b.mode;
  group = b.group;
  last = b.last;
  settings = b.settings;
}

abbrev pub buffer_of : State → Buffer
buffer_of s = record {
  tracks = take s.ntracks s.tracks;
  frames = take s.nframes s.frames;
  mode = s.mode;
  group = s.group;
  last = s.last;
  settings = s.settings;
}

-- ---- the well-formed state

abbrev pub is_zero_frame : Frame → Bool
is_zero_frame f =
    eqb f.track 0 && (not f.flagged
    && (eqb f.duration 0 && (eqb f.number 0 && (eqb f.group 0 && (zero_int f.pts && zero_int f.dts)))))

abbrev pub is_zero_track : Track → Bool
is_zero_track t =
    eqb t.kind 0 && (not t.known && (not t.need && (eqb t.duration 0 && (zero_int t.dts && zero_int t.end))))

-- The arrays have their lengths, the counts are inside them, and the places past the counts hold zeros, flags off.
unfoldable pub laid_out : State → Bool
laid_out s =
    eqb (length s.frames) places && (eqb (length s.tracks) most_tracks
    && (leb s.nframes places && (leb s.ntracks most_tracks
    && (all_of is_zero_frame (drop s.nframes s.frames) && all_of is_zero_track (drop s.ntracks s.tracks)))))

unfoldable pub well_formed : State → Bool
well_formed s = laid_out s && good_buffer (buffer_of s)
