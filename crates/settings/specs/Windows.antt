-- What the calls on settings are made of.
use Rattle.std.specs.Prelude.{true, false, cond, List, ℕ, ℤ, pos, Float, Result, Ok, Err}
use Rattle.seconds.specs.declared.OutOfRange.{OutOfRange}
use Rattle.seconds.specs.Seconds.{is_convertible, zero_seconds}
use Rattle.buffer_state.specs.declared.Group.{Group}
use Rattle.buffer_state.specs.declared.Head.{Head}
use Rattle.buffer_state.specs.declared.Mode.{Mode}
use Rattle.buffer_state.specs.declared.Mode.TheVariants.{Segments}
use Rattle.buffer_state.specs.declared.Setting.{Setting}
use Rattle.buffer_state.specs.declared.Settings.{Settings}
use Rattle.buffer_state.specs.declared.Track.{Track}
use Rattle.buffer_state.specs.declared.WindowEnd.{WindowEnd}
use Rattle.buffer_state.specs.declared.WindowEnd.TheVariants.{Unbounded}
use Rattle.buffer_state.specs.Buffer.{is_sequence, fresh_settings}
use Rattle.buffer_state.specs.Settings.{given}

-- a double as it is given, beside its microseconds, or out of range
abbrev pub setting_answer : Float → Result Setting OutOfRange
setting_answer x = cond (is_convertible x) (Ok (given x)) (Err (record {}))

-- the settings that abort leaves: the offset kept, the window from 0 on
abbrev pub open_window : Setting → Settings
open_window o = record { offset = o; start = record { seconds = zero_seconds; micros = pos 0 }; end = Unbounded; limit = pos 0 }

-- the settings with one of them set
abbrev pub with_offset : Settings → Setting → Settings
with_offset t o = record { offset = o; start = t.start; end = t.end; limit = t.limit }

abbrev pub with_start : Settings → Setting → Settings
with_start t s = record { offset = t.offset; start = s; end = t.end; limit = t.limit }

abbrev pub with_end : Settings → WindowEnd → ℤ → Settings
with_end t e z = record { offset = t.offset; start = t.start; end = e; limit = z }

-- group start set to z in sequence mode
abbrev pub group_from : Mode → Group → ℤ → Group
group_from m g z = cond (is_sequence m) (record { begun = true; start = z; end = g.end; number = g.number }) g

-- a head without frames, everything unset, in segments mode
abbrev pub fresh_head : List Track → ℕ → Head
fresh_head ts n = record {
  tracks = ts;
  ntracks = n;
  nframes = 0;
  mode = Segments;
  group = record { begun = false; start = pos 0; end = pos 0; number = 0 };
  last = 0;
  settings = fresh_settings;
}
