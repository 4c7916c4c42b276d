-- Document 01, "Well-formed state": every condition of that section, on a buffer's contents.
-- Layout.antt adds what a State says beyond them: its counts, and zeros past them.
use Rattle.std.specs.Prelude.{Bool, true, cond, not, ◌&&◌, ◌||◌, List, [], ◌∷◌, ℕ, leb, eqb, ℤ, pos, Float, length}
use Rattle.std.specs.Int.Signed.{lt_z, le_z}
use Rattle.seconds.specs.Seconds.{is_convertible, micros_of, seconds_of, same_int, same_double}
use Rattle.buffer_state.specs.declared.Frame.{Frame}
use Rattle.buffer_state.specs.declared.Track.{Track}
use Rattle.buffer_state.specs.declared.Group.{Group}
use Rattle.buffer_state.specs.declared.Setting.{Setting}
use Rattle.buffer_state.specs.declared.Settings.{Settings}
use Rattle.buffer_state.specs.declared.WindowEnd.{WindowEnd}
use Rattle.buffer_state.specs.declared.WindowEnd.TheVariants.{Unbounded, At}
use Rattle.buffer_state.specs.Buffer.{Buffer, end_of}
use Rattle.buffer_state.specs.Limits.{result_time, good_duration, places, most_tracks, last_number, last_group, known_kind}
use Rattle.buffer_state.specs.Store.{is_before}

-- ---- tests over lists

-- every element passes
unfoldable pub all_of : {A : Type 0} → (A → Bool) → List A → Bool
all_of p [] = true
all_of p (x ∷ xs) = p x && all_of p xs

-- every element passes with each that follows it
unfoldable pub pairwise : {A : Type 0} → (A → A → Bool) → List A → Bool
pairwise r [] = true
pairwise r (x ∷ xs) = all_of (r x) xs && pairwise r xs

-- ---- tracks

-- a number that is unset is kept as zero
abbrev pub zero_int : ℤ → Bool
zero_int z = same_int z (pos 0)

-- A known kind. Last decode time, last duration and highest end are all set, inside the limits, or all unset.
unfoldable pub good_track : Track → Bool
good_track t =
    known_kind t.kind
    && cond t.known
    (result_time t.dts && (good_duration t.duration && result_time t.end))
    (zero_int t.dts && (eqb t.duration 0 && zero_int t.end))

-- ---- frames

-- On one of n tracks; numbered from 1 up to the last number given; of a group up to the current one (document 02, No. 4); presentation
-- time at least 0; all times and the duration inside the limits.
unfoldable pub good_frame : ℕ → ℕ → ℕ → Frame → Bool
good_frame tracks last group f =
    leb 1 f.track && (leb f.track tracks
    && (leb 1 f.number && (leb f.number last && (leb f.group group
    && (le_z (pos 0) f.pts && (result_time f.pts && (result_time f.dts
    && (result_time (end_of f) && good_duration f.duration))))))))

-- no two frames have one number
unfoldable pub distinct_numbers : List Frame → Bool
distinct_numbers = pairwise (λ (a b : Frame). not (eqb a.number b.number))

-- Sorted by track, then decode time, then number: each frame comes before each that follows it.
unfoldable pub is_sorted : List Frame → Bool
is_sorted = pairwise is_before

-- ---- group and settings

-- Group start (if set) and group end inside the limits, and a group number.
unfoldable pub good_group : Group → Bool
good_group g = result_time g.end && (cond g.begun (result_time g.start) (zero_int g.start) && leb g.number last_group)

-- a kept double converts to its microseconds
abbrev pub converts : Float → ℤ → Bool
converts x z = is_convertible x && same_int (micros_of x) z

-- The offset is inside the limits; its double converts to it or is the quotient that step 1 keeps.
unfoldable pub good_offset : Setting → Bool
good_offset s = result_time s.micros && (converts s.seconds s.micros || same_double s.seconds (seconds_of s.micros))

-- The window start is at least 0 and converts from its double.
unfoldable pub good_start : Setting → Bool
good_start s = le_z (pos 0) s.micros && converts s.seconds s.micros

-- The window end is unbounded, or converts from its double and is above the start.
unfoldable pub good_end : ℤ → WindowEnd → ℤ → Bool
good_end start Unbounded limit = zero_int limit
good_end start (At x) limit = converts x limit && lt_z start limit

unfoldable pub good_settings : Settings → Bool
good_settings s = good_offset s.offset && (good_start s.start && good_end s.start.micros s.end s.limit)

-- ---- the whole

-- 1 to 4 tracks.
abbrev pub good_count : ℕ → Bool
good_count n = leb 1 n && leb n most_tracks

-- The conditions, each under a name for the laws.
unfoldable pub good_tracks : List Track → Bool
good_tracks ts = good_count (length ts) && all_of good_track ts

-- At most 1,024 frames, each good, in order, no number twice, none above the last given.
unfoldable pub good_frames : ℕ → ℕ → ℕ → List Frame → Bool
good_frames tracks last group fs =
    leb (length fs) places && (all_of (good_frame tracks last group) fs && (is_sorted fs && distinct_numbers fs))

unfoldable pub good_buffer : Buffer → Bool
good_buffer b =
    good_tracks b.tracks
    && (good_frames (length b.tracks) b.last b.group.number b.frames
    && (leb b.last last_number && (good_group b.group && good_settings b.settings)))
