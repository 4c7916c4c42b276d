-- Document 01, "The bar on the timeline".
use Rattle.std.specs.Prelude.{Bool, true, false, cond, not, ◌&&◌, ◌||◌, List, [], ◌∷◌, ◌++◌, ℕ, zero, suc, ltb, eqb, ℤ, length, Ok}
use Rattle.std.specs.Int.Signed.{lt_z, le_z}
use Rattle.buffer_state.specs.declared.Frame.{Frame}
use Rattle.buffer_state.specs.declared.Refusal.TheVariants.{NoTrack, ShortList}
use Rattle.buffer_state.specs.Buffer.{Buffer, has_track, end_of}
use Rattle.buffer_state.specs.Refusals.{CallResult, refuse_if}

-- ---- coverage

-- A frame covers P inclusive to its end exclusive.
abbrev pub covers : ℤ → Frame → Bool
covers t f = le_z f.pts t && lt_z t (end_of f)

-- some frame of the track covers the instant
unfoldable pub covered_on : ℕ → ℤ → List Frame → Bool
covered_on track t [] = false
covered_on track t (f ∷ fs) = (eqb f.track track && covers t f) || covered_on track t fs

-- every track from 1 to n has a frame that covers the instant
unfoldable pub covered_on_all : ℕ → ℤ → List Frame → Bool
covered_on_all zero t fs = true
covered_on_all (suc n) t fs = covered_on_all n t fs && covered_on (suc n) t fs

-- ---- ranges

-- from start up to but not including end
pub record Range : Type 0 where
  pub start : ℤ
  pub end : ℤ

abbrev pub lies_in : ℤ → Range → Bool
lies_in t r = le_z r.start t && lt_z t r.end

-- the instant lies in one of the ranges
unfoldable pub in_ranges : ℤ → List Range → Bool
in_ranges t [] = false
in_ranges t (r ∷ rs) = lies_in t r || in_ranges t rs

abbrev pub ends_before : Range → List Range → Bool
ends_before r [] = true
ends_before r (q ∷ qs) = lt_z r.end q.start

-- in rising order, none empty, each ending strictly before the next starts
unfoldable pub is_rising : List Range → Bool
is_rising [] = true
is_rising (r ∷ rs) = lt_z r.start r.end && (ends_before r rs && is_rising rs)

abbrev pub lesser_of : ℤ → ℤ → ℤ
lesser_of a b = cond (lt_z b a) b a

abbrev pub greater_of : ℤ → ℤ → ℤ
greater_of a b = cond (lt_z a b) b a

-- One more stretch among ranges in rising order: those that it overlaps or touches become one with it.
unfoldable pub joined_ranges : Range → List Range → List Range
joined_ranges r [] = r ∷ []
joined_ranges r (q ∷ qs) =
    let grown = joined_ranges (record { start = lesser_of r.start q.start; end = greater_of r.end q.end }) qs in
    let later = joined_ranges r qs in
    cond (lt_z r.end q.start) (r ∷ q ∷ qs) (cond (lt_z q.end r.start) (q ∷ later) grown)

-- A track's ranges: the widest unbroken stretches covered, in rising order, each ending strictly before the next starts.
unfoldable pub ranges_of : ℕ → List Frame → List Range
ranges_of track [] = []
ranges_of track (f ∷ fs) =
    let rest = ranges_of track fs in
    cond (eqb f.track track) (joined_ranges (record { start = f.pts; end = end_of f }) rest) rest

-- what two ranges have in common, where that is not empty
abbrev pub overlap : Range → Range → List Range
overlap r q =
    let from = greater_of r.start q.start in
    let to = lesser_of r.end q.end in
    cond (lt_z from to) (record { start = from; end = to } ∷ []) []

unfoldable pub clipped_ranges : Range → List Range → List Range
clipped_ranges r [] = []
clipped_ranges r (q ∷ qs) = overlap r q ++ clipped_ranges r qs

-- what two lists of ranges have in common
unfoldable pub common_of : List Range → List Range → List Range
common_of [] qs = []
common_of (r ∷ rs) qs = clipped_ranges r qs ++ common_of rs qs

-- The common ranges of tracks 1 to n: the widest unbroken stretches covered on every one of them, in the same order.
unfoldable pub common_ranges_of : ℕ → List Frame → List Range
common_ranges_of zero fs = []
common_ranges_of (suc zero) fs = ranges_of 1 fs
common_ranges_of (suc (suc n)) fs = common_of (common_ranges_of (suc n) fs) (ranges_of (suc (suc n)) fs)

-- ---- the calls, with so many places lent

-- A track's ranges: refusals (1,) 3, 10 in that order.
unfoldable pub track_ranges : ℕ → ℕ → Buffer → CallResult (List Range)
track_ranges lent track b =
    let ranges = ranges_of track b.frames in
    refuse_if (not (has_track b track)) NoTrack
    (refuse_if (ltb lent (length ranges)) ShortList
    (Ok ranges))

-- The common ranges: refusals (1,) 10.
unfoldable pub common_ranges : ℕ → Buffer → CallResult (List Range)
common_ranges lent b =
    let ranges = common_ranges_of (length b.tracks) b.frames in
    refuse_if (ltb lent (length ranges)) ShortList
    (Ok ranges)
