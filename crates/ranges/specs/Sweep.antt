-- How a track's ranges are found: its frames in the order of their presentation times, walked once.
use Rattle.std.specs.Prelude.{Bool, true, cond, ◌&&◌, List, [], ◌∷◌, ℕ, ◌+◌, ◌*◌, ltb, leb, eqb, pos, nat_abs}
use Rattle.std.specs.Int.Signed.{lt_z, le_z}
use Rattle.buffer_state.specs.declared.Frame.{Frame}
use Rattle.buffer_state.specs.Limits.{is_within, places}
use Rattle.buffer_state.specs.Ranges.{Range, greater_of}
use Rattle.buffer_state.specs.Walked.{interval_of}

-- ---- a frame

-- presented from 0 up to the limit
abbrev pub is_timely : Frame → Bool
is_timely f = is_within (pos 0) (pos 4000000000000) f.pts

-- and its duration is not zero
abbrev pub is_sound : Frame → Bool
is_sound f = is_timely f && leb 1 f.duration

-- it is of a lower track, or of the track or one above
abbrev pub is_under : ℕ → Frame → Bool
is_under track f = ltb f.track track

abbrev pub from_on : ℕ → Frame → Bool
from_on track f = leb track f.track

-- what a track's frames cover, in store order
unfoldable pub own_stretches : ℕ → List Frame → List Range
own_stretches track [] = []
own_stretches track (f ∷ fs) = let rest = own_stretches track fs in cond (eqb f.track track) (interval_of f ∷ rest) rest

-- ---- keys: the presentation time, and below it the place in the store

-- The time decides, and the place tells frames of one time apart.
abbrev pub key_of : ℕ → Frame → ℕ
key_of place f = nat_abs f.pts * places + place

-- ---- the walk

-- a stretch has an instant
abbrev pub some : Range → Bool
some r = lt_z r.start r.end

-- as far as the later of two ends
abbrev pub grown : Range → Range → Range
grown r q = record { start = r.start; end = greater_of r.end q.end }

-- A range that is open: each stretch that starts at or before its end makes it grow, the first that starts later opens the next.
unfoldable pub swept_from : Range → List Range → List Range
swept_from r [] = r ∷ []
swept_from r (q ∷ qs) =
    let next = r ∷ swept_from q qs in
    let same = swept_from (grown r q) qs in
    cond (lt_z r.end q.start) next same

-- a walk over stretches: the first opens a range
unfoldable pub swept_ranges : List Range → List Range
swept_ranges [] = []
swept_ranges (r ∷ rs) = swept_from r rs

-- no stretch starts before the range that is open when a walk comes to it
unfoldable pub in_order : Range → List Range → Bool
in_order r [] = true
in_order r (q ∷ qs) =
    let next = in_order q qs in
    let same = in_order (grown r q) qs in
    cond (lt_z r.end q.start) next (le_z r.start q.start && same)

-- and of all, the first of which opens a range
abbrev pub all_in_order : List Range → Bool
all_in_order [] = true
all_in_order (r ∷ rs) = in_order r rs

-- no stretch starts before the one in front of it
unfoldable pub starts_from : Range → List Range → Bool
starts_from r [] = true
starts_from r (q ∷ qs) = le_z r.start q.start && starts_from q qs

abbrev pub starts_rise : List Range → Bool
starts_rise [] = true
starts_rise (r ∷ rs) = starts_from r rs
