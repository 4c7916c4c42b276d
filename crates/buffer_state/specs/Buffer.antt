-- The buffer that the steps work on: a state's contents as plain lists, without the places past the counts.
-- Layout.antt says how a State holds it.
use Rattle.std.specs.Prelude.{Bool, true, false, List, [], map, ℕ, ◌+◌, ◌-◌, ℤ, pos, ◌+ℤ◌, leb, eqb, length, get_or, set, ◌&&◌}
use Rattle.seconds.specs.Seconds.{zero_seconds}
use Rattle.buffer_state.specs.declared.Frame.{Frame}
use Rattle.buffer_state.specs.declared.Track.{Track}
use Rattle.buffer_state.specs.declared.Mode.{Mode}
use Rattle.buffer_state.specs.declared.Mode.TheVariants.{Segments, Sequence}
use Rattle.buffer_state.specs.declared.Group.{Group}
use Rattle.buffer_state.specs.declared.Setting.{Setting}
use Rattle.buffer_state.specs.declared.WindowEnd.TheVariants.{Unbounded}
use Rattle.buffer_state.specs.declared.Settings.{Settings}
use Rattle.buffer_state.specs.Limits.{last_group}

pub record Buffer : Type 0 where
  pub tracks : List Track
  pub frames : List Frame
  pub mode : Mode
  pub group : Group
  pub last : ℕ
  pub settings : Settings

-- ---- a buffer with one part changed

abbrev pub with_tracks : Buffer → List Track → Buffer
with_tracks b ts = record { tracks = ts; frames = b.frames; mode = b.mode; group = b.group; last = b.last; settings = b.settings }

abbrev pub with_frames : Buffer → List Frame → Buffer
with_frames b fs = record { tracks = b.tracks; frames = fs; mode = b.mode; group = b.group; last = b.last; settings = b.settings }

abbrev pub with_mode : Buffer → Mode → Buffer
with_mode b m = record { tracks = b.tracks; frames = b.frames; mode = m; group = b.group; last = b.last; settings = b.settings }

abbrev pub with_group : Buffer → Group → Buffer
with_group b g = record { tracks = b.tracks; frames = b.frames; mode = b.mode; group = g; last = b.last; settings = b.settings }

abbrev pub with_last : Buffer → ℕ → Buffer
with_last b n = record { tracks = b.tracks; frames = b.frames; mode = b.mode; group = b.group; last = n; settings = b.settings }

abbrev pub with_settings : Buffer → Settings → Buffer
with_settings b s = record { tracks = b.tracks; frames = b.frames; mode = b.mode; group = b.group; last = b.last; settings = s }

-- ---- tracks, numbered from 1

abbrev pub zero_track : Track
zero_track = record { kind = 0; known = false; need = false; duration = 0; dts = pos 0; end = pos 0 }

-- the track number is one of the buffer's
abbrev pub has_track : Buffer → ℕ → Bool
has_track b n = leb 1 n && leb n (length b.tracks)

abbrev pub track_of : Buffer → ℕ → Track
track_of b n = get_or b.tracks (n - 1) zero_track

abbrev pub with_track : Buffer → ℕ → Track → Buffer
with_track b n t = with_tracks b (set b.tracks (n - 1) t)

abbrev pub with_need : Bool → Track → Track
with_need on t = record { kind = t.kind; known = t.known; need = on; duration = t.duration; dts = t.dts; end = t.end }

-- need-random-access on for all tracks
abbrev pub need_for_all : List Track → List Track
need_for_all = map (with_need true)

-- last decode time, last duration and highest end unset, need-random-access on
abbrev pub restarted_track : Track → Track
restarted_track t = record { kind = t.kind; known = false; need = true; duration = 0; dts = pos 0; end = pos 0 }

abbrev pub restart_all : List Track → List Track
restart_all = map restarted_track

-- ---- mode and group

abbrev pub is_sequence : Mode → Bool
is_sequence Segments = false
is_sequence Sequence = true

-- group start = group end
abbrev pub start_at_end : Group → Group
start_at_end g = record { begun = true; start = g.end; end = g.end; number = g.number }

abbrev pub with_end : Group → ℤ → Group
with_end g z = record { begun = g.begun; start = g.start; end = z; number = g.number }

-- Document 02, No. 4: the group number rises by one whenever the three values are unset on all tracks.
abbrev pub next_group : Group → Group
next_group g = record { begun = g.begun; start = g.start; end = g.end; number = g.number + 1 }

abbrev pub in_next_group : Buffer → Buffer
in_next_group b = with_group b (next_group b.group)

-- no group can follow
abbrev pub in_last_group : Buffer → Bool
in_last_group b = eqb b.group.number last_group

-- ---- frames

-- a frame's end, in microseconds: its presentation time plus its duration
abbrev pub end_of : Frame → ℤ
end_of f = f.pts +ℤ pos f.duration

-- ---- a fresh buffer

abbrev pub fresh_track : ℕ → Track
fresh_track k = record { kind = k; known = false; need = true; duration = 0; dts = pos 0; end = pos 0 }

abbrev pub fresh_settings : Settings
fresh_settings = record { offset = zero_setting; start = zero_setting; end = Unbounded; limit = pos 0 }
  where
    zero_setting : Setting
    zero_setting = record { seconds = zero_seconds; micros = pos 0 }

-- Everything unset, group end 0, group number 0, segments mode, need-random-access on for every track, no frames, last number 0.
abbrev pub fresh : List ℕ → Buffer
fresh kinds = record {
  tracks = map fresh_track kinds;
  frames = [];
  mode = Segments;
  group = record { begun = false; start = pos 0; end = pos 0; number = 0 };
  last = 0;
  settings = fresh_settings;
}
