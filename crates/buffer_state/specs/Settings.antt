-- Document 01, "Removing, aborting, setting" and "Times and numbers": creating, aborting, setting and reading the settings.
use Rattle.std.specs.Prelude.{true, cond, not, ◌||◌, List, ℕ, ltb, eqb, ℤ, pos, Float, length, Ok}
use Rattle.std.specs.Int.Signed.{lt_z}
use Rattle.seconds.specs.Seconds.{Bound, unbounded, at, is_convertible, is_convertible_end, micros_of, bound_of, zero_seconds}
use Rattle.buffer_state.specs.declared.Mode.{Mode}
use Rattle.buffer_state.specs.declared.Mode.TheVariants.{Segments, Sequence}
use Rattle.buffer_state.specs.declared.Reading.{Reading}
use Rattle.buffer_state.specs.declared.Setting.{Setting}
use Rattle.buffer_state.specs.declared.Settings.{Settings}
use Rattle.buffer_state.specs.declared.WindowEnd.{WindowEnd}
use Rattle.buffer_state.specs.declared.WindowEnd.TheVariants.{Unbounded, At}
use Rattle.buffer_state.specs.declared.Refusal.TheVariants.{Seconds, Order, LastNumber, Kinds}
use Rattle.buffer_state.specs.Buffer.{Buffer, with_mode, with_group, with_settings, restart_all, is_sequence, start_at_end, in_next_group, in_last_group, fresh}
use Rattle.buffer_state.specs.Limits.{most_tracks, known_kind}
use Rattle.buffer_state.specs.Refusals.{CallResult, refuse_if}
use Rattle.buffer_state.specs.Remove.{before_bound}
use Rattle.buffer_state.specs.WellFormed.{all_of}

-- ---- creation

-- From a list of kinds: refusal 11 for 0 or over 4 tracks, or an unknown kind. There is no buffer then.
unfoldable pub create : List ℕ → CallResult Buffer
create kinds =
    refuse_if (eqb (length kinds) 0 || (ltb most_tracks (length kinds) || not (all_of known_kind kinds))) Kinds
    (Ok (fresh kinds))

-- ---- abort: refusals (1,) 9

-- Unset the three on all tracks, with which the next group begins; need-random-access on for all, in sequence mode group start = group
-- end, window back to 0 and unbounded. The offset is kept.
unfoldable pub aborted_buffer : Buffer → Buffer
aborted_buffer b = in_next_group (record {
  tracks = restart_all b.tracks;
  frames = b.frames;
  mode = b.mode;
  group = cond (is_sequence b.mode) (start_at_end b.group) b.group;
  last = b.last;
  settings = record { offset = b.settings.offset; start = record { seconds = zero_seconds; micros = pos 0 }; end = Unbounded; limit = pos 0 };
})

-- Refusal 9 in the last group, also where nothing is set.
unfoldable pub abort : Buffer → CallResult Buffer
abort b = refuse_if (in_last_group b) LastNumber (Ok (aborted_buffer b))

-- ---- mode: refused by 1 alone

-- Setting sequence sets group start = group end; setting segments changes the mode only.
unfoldable pub mode_set : Mode → Buffer → Buffer
mode_set Segments b = with_mode b Segments
mode_set Sequence b = with_group (with_mode b Sequence) (start_at_end b.group)

-- ---- the offset and the window, from a time in seconds: refusals (1,) 5, 6 in that order

abbrev pub given : Float → Setting
given x = record { seconds = x; micros = micros_of x }

-- Setting the offset in sequence mode also sets group start to it.
unfoldable pub offset_set : Float → Buffer → CallResult Buffer
offset_set x b =
    let s = b.settings in
    let c = with_settings b (record { offset = given x; start = s.start; end = s.end; limit = s.limit }) in
    refuse_if (not (is_convertible x)) Seconds
    (Ok (cond (is_sequence b.mode) (with_group c (record { begun = true; start = micros_of x; end = b.group.end; number = b.group.number })) c))

-- the window end in microseconds
abbrev pub bound_at : WindowEnd → ℤ → Bound
bound_at Unbounded limit = unbounded
bound_at (At x) limit = at limit

abbrev pub window_end : Settings → Bound
window_end s = bound_at s.end s.limit

-- Window start: refusal 6 if it is under 0 or not below the end.
unfoldable pub window_start_set : Float → Buffer → CallResult Buffer
window_start_set x b =
    let s = b.settings in
    refuse_if (not (is_convertible x)) Seconds
    (refuse_if (lt_z (micros_of x) (pos 0) || not (before_bound (micros_of x) (window_end s))) Order
    (Ok (with_settings b (record { offset = s.offset; start = given x; end = s.end; limit = s.limit }))))

-- Plus infinity sets the end unbounded, its double and microseconds unset.
abbrev pub end_at : Float → Bound → WindowEnd
end_at x unbounded = Unbounded
end_at x (at z) = At x

abbrev pub limit_at : Bound → ℤ
limit_at unbounded = pos 0
limit_at (at z) = z

-- Window end: refusal 6 if it is not above the start.
unfoldable pub window_end_set : Float → Buffer → CallResult Buffer
window_end_set x b =
    let s = b.settings in
    refuse_if (not (is_convertible_end x)) Seconds
    (refuse_if (not (before_bound s.start.micros (bound_of x))) Order
    (Ok (with_settings b (record { offset = s.offset; start = s.start; end = end_at x (bound_of x); limit = limit_at (bound_of x) }))))

-- ---- reading the settings: refused by 1 alone

-- The three doubles kept, bit for bit; a window end may be unbounded.
abbrev pub reading : Buffer → Reading
reading b = record { offset = b.settings.offset.seconds; start = b.settings.start.seconds; end = b.settings.end }
