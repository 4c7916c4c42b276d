-- Document 02, No. 1: media times in microseconds. "A media time t becomes t times 1,000,000 over the timescale, rounded down, also
-- below zero. A frame's end is converted the same way and its duration is the difference." "4 covers a timescale or converted frame
-- outside its limits."
use Rattle.std.specs.Prelude.{Bool, cond, ◌&&◌, List, [], ◌∷◌, ℕ, zero, suc, ◌+◌, ◌/◌, ◌%◌, leb, eqb, ℤ, pos, negsuc, ◌+ℤ◌, ◌-ℤ◌, ◌*ℤ◌}
use Rattle.buffer_state.specs.Limits.{is_within, offered_time}
use Rattle.media_times.specs.declared.Sample.{Sample}

-- ---- times

-- rounded down, also below zero: -1 over 3 is -1, and so is -3 over 3
abbrev pub down_by : ℤ → ℕ → ℤ
down_by (pos n) d = pos (n / d)
down_by (negsuc n) d = negsuc (n / d)

-- a media time t becomes t times 1,000,000 over the timescale, rounded down
unfoldable pub micros_of : ℤ → ℕ → ℤ
micros_of t scale = down_by (t *ℤ pos 1000000) scale

abbrev pub dts_of : ℕ → Sample → ℤ
dts_of scale s = micros_of (pos s.time) scale

-- presented at the decode time and the composition offset
abbrev pub pts_of : ℕ → Sample → ℤ
pts_of scale s = micros_of (pos s.time +ℤ s.offset) scale

-- a frame's end is converted the same way
abbrev pub end_of : ℕ → Sample → ℤ
end_of scale s = micros_of (pos s.time +ℤ s.offset +ℤ pos s.duration) scale

-- and its duration is the difference
abbrev pub duration_of : ℕ → Sample → ℤ
duration_of scale s = end_of scale s -ℤ pts_of scale s

-- ---- limits

-- a timescale, 1 to 1,000,000
unfoldable pub good_scale : ℕ → Bool
good_scale n = leb 1 n && leb n 1000000

-- a converted frame inside its limits, which are those of an offered one
unfoldable pub in_limits : ℕ → Sample → Bool
in_limits scale s =
    offered_time (pts_of scale s)
    && (offered_time (dts_of scale s) && is_within (pos 1) (pos 10000000) (duration_of scale s))

-- ---- a frame as it is listed

-- a frame is flagged when its non-sync bit (65,536) is 0
abbrev pub flagged_by : ℕ → Bool
flagged_by flags = eqb (flags / 65536 % 2) 0

-- track number, presentation time, decode time, duration, 1 if flagged else 0, size
unfoldable pub row_of : ℕ → ℕ → Sample → List ℤ
row_of track scale s =
    pos track ∷ pts_of scale s ∷ dts_of scale s ∷ duration_of scale s ∷ pos (cond (flagged_by s.flags) 1 0) ∷ pos s.size ∷ []

-- ---- a run without columns

-- a sample like this one, where this one ends
abbrev pub next : Sample → Sample
next s = record { time = s.time + s.duration; offset = s.offset; duration = s.duration; size = s.size; flags = s.flags }

-- so many samples like this one, one after another
unfoldable pub evenly : ℕ → Sample → List Sample
evenly zero s = []
evenly (suc n) s = s ∷ evenly n (next s)
