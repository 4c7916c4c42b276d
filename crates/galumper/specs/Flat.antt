-- A head laid flat for callers in C and Rust: numbers alone, so that every bit pattern is a value. A flag is 0 or 1, the mode is 0
-- (segments) or 1 (sequence), a double is its 64 bits, and a window end is a flag beside a double, zero where there is none. `head_out`
-- and `head_in` undo each other wherever each number is one of its kind (proofs/FlatLaws.antt); where one is not, `head_in` gives a head
-- that every call refuses.
use Rattle.std.specs.Prelude.{Bool, cond, not, ◌&&◌, map, ℕ, ◌+◌, ◌*◌, leb, eqb, Float}
use Rattle.std.specs.Float.{binary64}
use Rattle.std.specs.Float.Ieee.{of_bits, to_bits, nan_bits}
use Rattle.buffer_state.specs.declared.Group.{Group}
use Rattle.buffer_state.specs.declared.Head.{Head}
use Rattle.buffer_state.specs.declared.Mode.{Mode}
use Rattle.buffer_state.specs.declared.Mode.TheVariants.{Segments, Sequence}
use Rattle.buffer_state.specs.declared.Offered.{Offered}
use Rattle.buffer_state.specs.declared.Setting.{Setting}
use Rattle.buffer_state.specs.declared.Settings.{Settings}
use Rattle.buffer_state.specs.declared.Track.{Track}
use Rattle.buffer_state.specs.declared.WindowEnd.{WindowEnd}
use Rattle.buffer_state.specs.declared.WindowEnd.TheVariants.{Unbounded, At}
use Rattle.buffer_state.specs.Limits.{places}
use Rattle.buffer_state.specs.WellFormed.{all_of}
use Rattle.segments.specs.declared.SegmentTrack.{SegmentTrack}
use Rattle.lumps.specs.declared.LumpReader.{LumpReader}
use Rattle.lumps.specs.declared.Phase.{Phase}
use Rattle.lumps.specs.declared.Phase.TheVariants.{Heading, Passing, Keeping, Stuck, Large}
use Rattle.galumper.specs.declared.FlatGroup.{FlatGroup}
use Rattle.galumper.specs.declared.FlatHead.{FlatHead}
use Rattle.galumper.specs.declared.FlatLumpReader.{FlatLumpReader}
use Rattle.galumper.specs.declared.FlatOffered.{FlatOffered}
use Rattle.galumper.specs.declared.FlatSegmentTrack.{FlatSegmentTrack}
use Rattle.galumper.specs.declared.FlatSetting.{FlatSetting}
use Rattle.galumper.specs.declared.FlatSettings.{FlatSettings}
use Rattle.galumper.specs.declared.FlatTrack.{FlatTrack}

-- ---- the layout

-- its number, which the header has too
abbrev pub abi : ℕ
abi = 8

-- the bytes of a head, and of 1,024 rows of two numbers of 8 bytes and five of 4
abbrev pub buffer_size : ℕ
buffer_size = 200 + places * (2 * 8 + 5 * 4)

-- ---- numbers that stand for something

-- a double, as its 64 bits; there is one NaN, so the bits of a NaN are not read back
abbrev pub double_in : ℕ → Float
double_in = of_bits binary64

abbrev pub double_out : Float → ℕ
double_out = to_bits binary64

abbrev pub is_double : ℕ → Bool
is_double n = not (nan_bits binary64 n)

-- a flag, and a mode
abbrev pub is_flag : ℕ → Bool
is_flag n = leb n 1

abbrev pub flag_in : ℕ → Bool
flag_in n = eqb n 1

abbrev pub flag_out : Bool → ℕ
flag_out b = cond b 1 0

abbrev pub mode_in : ℕ → Mode
mode_in n = cond (eqb n 1) Sequence Segments

abbrev pub mode_out : Mode → ℕ
mode_out Segments = 0
mode_out Sequence = 1

abbrev pub end_in : ℕ → ℕ → WindowEnd
end_in bounded bits = cond (eqb bounded 1) (At (double_in bits)) Unbounded

-- whether there is a window end, and its double
abbrev pub bounded_out : WindowEnd → ℕ
bounded_out Unbounded = 0
bounded_out (At x) = 1

abbrev pub end_out : WindowEnd → ℕ
end_out Unbounded = 0
end_out (At x) = double_out x

-- ---- the parts of a head

abbrev pub track_in : FlatTrack → Track
track_in t =
    record { kind = t.kind; known = flag_in t.known; need = flag_in t.need; duration = t.duration; dts = t.dts; end = t.end }

abbrev pub track_out : Track → FlatTrack
track_out t =
    record { kind = t.kind; known = flag_out t.known; need = flag_out t.need; duration = t.duration; dts = t.dts; end = t.end }

abbrev pub group_in : FlatGroup → Group
group_in g = record { begun = flag_in g.begun; start = g.start; end = g.end; number = g.number }

abbrev pub group_out : Group → FlatGroup
group_out g = record { begun = flag_out g.begun; number = g.number; start = g.start; end = g.end }

abbrev pub setting_in : FlatSetting → Setting
setting_in x = record { seconds = double_in x.bits; micros = x.micros }

abbrev pub setting_out : Setting → FlatSetting
setting_out x = record { bits = double_out x.seconds; micros = x.micros }

abbrev pub settings_in : FlatSettings → Settings
settings_in t =
    record { offset = setting_in t.offset; start = setting_in t.start; end = end_in t.bounded t.end; limit = t.limit }

abbrev pub settings_out : Settings → FlatSettings
settings_out t =
    record { offset = setting_out t.offset; start = setting_out t.start; bounded = bounded_out t.end; end = end_out t.end; limit = t.limit }

-- A flag that is neither 0 nor 1 is a field of the offered frame outside its limit. No such flag can be told to the steps, so that the
-- frame is read with a duration that is outside its own limit: refusal 4 in either case (`flag-refused`).
abbrev pub duration_in : ℕ → ℕ → ℕ
duration_in flagged duration = cond (is_flag flagged) duration 0

abbrev pub offered_in : FlatOffered → Offered
offered_in f = record {
  track = f.track;
  flagged = flag_in f.flagged;
  duration = duration_in f.flagged f.duration;
  pts = f.pts;
  dts = f.dts;
}

-- the track of a segment that is read; any numbers will do
abbrev pub segment_track_in : FlatSegmentTrack → SegmentTrack
segment_track_in f = record {
  id = f.id;
  track = f.track;
  timescale = f.timescale;
  defaults = record { duration = f.duration; size = f.size; flags = f.flags };
}

-- ---- a reader of a segment in lumps: its phase as a number, the rest as it is

-- a number that is no phase is read as the one in which no reader is handed out, so that the call is refused 1
abbrev pub phase_in : ℕ → Phase
phase_in n = cond (eqb n 0) Heading (cond (eqb n 1) Passing (cond (eqb n 2) Keeping (cond (eqb n 3) Stuck Large)))

abbrev pub phase_out : Phase → ℕ
phase_out Heading = 0
phase_out Passing = 1
phase_out Keeping = 2
phase_out Stuck = 3
phase_out Large = 4

abbrev pub reader_in : FlatLumpReader → LumpReader
reader_in c = record { phase = phase_in c.phase; head = c.head; seen = c.seen; left = c.left; fragments = c.fragments; kept = c.kept }

abbrev pub reader_out : LumpReader → FlatLumpReader
reader_out r = record { head = r.head; left = r.left; kept = r.kept; seen = r.seen; phase = phase_out r.phase; fragments = r.fragments }

-- ---- whether each number of a flat head is one of its kind

abbrev pub plain_track : FlatTrack → Bool
plain_track t = is_flag t.known && is_flag t.need

-- no window end: its double is zero
abbrev pub plain_end : ℕ → ℕ → Bool
plain_end bounded bits = cond (eqb bounded 1) (is_double bits) (eqb bounded 0 && eqb bits 0)

abbrev pub plain_settings : FlatSettings → Bool
plain_settings t = is_double t.offset.bits && (is_double t.start.bits && plain_end t.bounded t.end)

unfoldable pub plain_head : FlatHead → Bool
plain_head c = is_flag c.mode && (is_flag c.group.begun && (plain_settings c.settings && all_of plain_track c.tracks))

-- ---- the head

abbrev pub head_out : Head → FlatHead
head_out h = record {
  tracks = map track_out h.tracks;
  ntracks = h.ntracks;
  nframes = h.nframes;
  mode = mode_out h.mode;
  last = h.last;
  group = group_out h.group;
  settings = settings_out h.settings;
}

-- a flat head read, with so many tracks
abbrev pub head_with : ℕ → FlatHead → Head
head_with ntracks c = record {
  tracks = map track_in c.tracks;
  ntracks = ntracks;
  nframes = c.nframes;
  mode = mode_in c.mode;
  group = group_in c.group;
  last = c.last;
  settings = settings_in c.settings;
}

-- Where one of its numbers is none of its kind, a flat head is read as one without tracks, which is not well-formed, so that the call
-- is refused 1 (`spoilt-refused`).
abbrev pub head_in : FlatHead → Head
head_in c = head_with (cond (plain_head c) c.ntracks 0) c
