-- How a head and two lent arrays of numbers hold a state: a row of times and a row of tags for each place. And refusal 1, which comes
-- first in every call on them.
use Rattle.std.specs.Prelude.{Bool, cond, not, ◌&&◌, List, [], ◌∷◌, map, ◌≡◌, ℕ, leb, eqb, ℤ, pos, length, get_or}
use Rattle.buffer_state.specs.declared.Frame.{Frame}
use Rattle.buffer_state.specs.declared.Head.{Head}
use Rattle.buffer_state.specs.declared.Refusal.TheVariants.{IllFormed}
use Rattle.buffer_state.specs.Buffer.{Buffer, zero_track}
use Rattle.buffer_state.specs.Layout.{zero_frame, padded_list, buffer_of, well_formed}
use Rattle.buffer_state.specs.Limits.{places, most_tracks}
use Rattle.buffer_state.specs.Refusals.{CallResult, refuse_if}
use Rattle.buffer_state.specs.State.{State}
use Rattle.buffer_state.specs.WellFormed.{all_of}

-- ---- a frame as its two rows

abbrev pub flag_out : Bool → ℕ
flag_out b = cond b 1 0

-- presentation time, decode time
abbrev pub time_of : Frame → List ℤ
time_of f = f.pts ∷ f.dts ∷ []

-- track, flag, duration, number, group
abbrev pub tag_of : Frame → List ℕ
tag_of f = f.track ∷ flag_out f.flagged ∷ f.duration ∷ f.number ∷ f.group ∷ []

-- the frame that two rows hold, whatever their numbers
abbrev pub frame_of : List ℤ → List ℕ → Frame
frame_of t g = record {
  track = get_or g 0 0;
  flagged = eqb (get_or g 1 0) 1;
  duration = get_or g 2 0;
  number = get_or g 3 0;
  group = get_or g 4 0;
  pts = get_or t 0 (pos 0);
  dts = get_or t 1 (pos 0);
}

-- ---- the arrays

-- the frames that two arrays hold
unfoldable pub frames_of : List (List ℤ) → List (List ℕ) → List Frame
frames_of [] gs = []
frames_of (t ∷ ts) [] = []
frames_of (t ∷ ts) (g ∷ gs) = frame_of t g ∷ frames_of ts gs

-- the arrays that hold these frames
unfoldable pub times_of : List Frame → List (List ℤ)
times_of = map time_of

unfoldable pub tags_of : List Frame → List (List ℕ)
tags_of = map tag_of

-- all 1,024 places
abbrev pub Lengths : List (List ℤ) → List (List ℕ) → Type 0
Lengths ts gs = (length ts ≡ places) × (length gs ≡ places)

-- ---- the state

-- the state that a head and two arrays hold
abbrev pub state_at : Head → List (List ℤ) → List (List ℕ) → State
state_at h ts gs = record {
  frames = frames_of ts gs;
  nframes = h.nframes;
  tracks = h.tracks;
  ntracks = h.ntracks;
  mode = h.mode;
  group = h.group;
  last = h.last;
  settings = h.settings;
}

-- the head and the arrays that hold a buffer
abbrev pub head_of : Buffer → Head
head_of b = record {
  tracks = padded_list most_tracks zero_track b.tracks;
  ntracks = length b.tracks;
  nframes = length b.frames;
  mode = b.mode;
  group = b.group;
  last = b.last;
  settings = b.settings;
}

abbrev pub times_in : Buffer → List (List ℤ)
times_in b = times_of (padded_list places zero_frame b.frames)

abbrev pub tags_in : Buffer → List (List ℕ)
tags_in b = tags_of (padded_list places zero_frame b.frames)

-- a state between calls: the head last given, and what the arrays hold
pub record Lent : Type 0 where
  pub head : Head
  pub times : List (List ℤ)
  pub tags : List (List ℕ)

-- the one that holds a buffer, and the buffer that one holds
abbrev pub lent_of : Buffer → Lent
lent_of b = record { head = head_of b; times = times_in b; tags = tags_in b }

abbrev pub buffer_in : Lent → Buffer
buffer_in s = buffer_of (state_at s.head s.times s.tags)

-- ---- the well-formed state

-- A row is as wide as its type says, and its flag is 0 or 1.
abbrev pub plain_time : List ℤ → Bool
plain_time t = eqb (length t) 2

abbrev pub plain_tag : List ℕ → Bool
plain_tag g = eqb (length g) 5 && leb (get_or g 1 0) 1

-- 1,024 places, rows that hold a frame and nothing besides, and a state that is well-formed
unfoldable pub well_formed_at : Head → List (List ℤ) → List (List ℕ) → Bool
well_formed_at h ts gs =
    (eqb (length ts) places && eqb (length gs) places)
    && (all_of plain_time ts && (all_of plain_tag gs && well_formed (state_at h ts gs)))

-- A call on a head and two arrays: refusal 1 comes first in every call.
unfoldable pub on_lent : {A : Type 0} → (Buffer → CallResult A) → Head → List (List ℤ) → List (List ℕ) → CallResult A
on_lent call h ts gs = refuse_if (not (well_formed_at h ts gs)) IllFormed (call (buffer_of (state_at h ts gs)))
