-- Document 02, No. 1: what reading a segment, or its movie fragment, gives: the frames of one track as rows of numbers, or a refusal, in the
-- order 12, 4, 10 over the whole.
use Rattle.std.specs.Prelude.{Bool, not, ◌&&◌, List, ◌++◌, map, ℕ, ℤ, length, drop, ltb, Result, Ok, Err}
use Rattle.buffer_state.specs.Refusals.{CallResult, refuse_if}
use Rattle.buffer_state.specs.WellFormed.{all_of}
use Rattle.buffer_state.specs.declared.Refusal.TheVariants as why
use Rattle.boxes.specs.declared.Malformed.{Malformed}
use Rattle.media_times.specs.MediaTimes.{good_scale, in_limits, row_of}
use Rattle.media_times.specs.declared.Sample.{Sample}
use Rattle.segments.specs.Listings.{Listing, malformed, listing, movie_listing, segment_listing}
use Rattle.segments.specs.declared.SegmentTrack.{SegmentTrack}

-- "a timescale or converted frame outside its limits"
unfoldable pub all_in_limits : ℕ → List Sample → Bool
all_in_limits scale l = good_scale scale && all_of (in_limits scale) l

-- each frame with its size, as one row
abbrev pub rows_of : SegmentTrack → List Sample → List (List ℤ)
rows_of of = map (row_of of.track of.timescale)

-- what is given to a list of so many places
abbrev pub listed_in : SegmentTrack → ℕ → Listing → CallResult (List (List ℤ))
listed_in of places malformed = Err why.Malformed
listed_in of places (listing l) =
    refuse_if (not (all_in_limits of.timescale l)) why.FrameLimits
    (refuse_if (ltb places (length l)) why.ShortList (Ok (rows_of of l)))

-- of a movie fragment, by its body
unfoldable pub list_movie : SegmentTrack → ℕ → List ℕ → CallResult (List (List ℤ))
list_movie of places b = listed_in of places (movie_listing of b)

-- where the one movie fragment was looked for: its body decides, and without one it is refused 12
abbrev pub listed_lone : SegmentTrack → ℕ → Result (List ℕ) Malformed → CallResult (List (List ℤ))
listed_lone of places (Err e) = Err why.Malformed
listed_lone of places (Ok b) = list_movie of places b

-- of a segment
unfoldable pub list_segment : SegmentTrack → ℕ → List ℕ → CallResult (List (List ℤ))
list_segment of places s = listed_in of places (segment_listing of s)

-- the answer: how many rows there are
abbrev pub row_count : CallResult (List (List ℤ)) → CallResult ℕ
row_count (Err why) = Err why
row_count (Ok rows) = Ok (length rows)

-- the rows, then what the list held before; after a refusal, what it held
abbrev pub rows_after : CallResult (List (List ℤ)) → List (List ℤ) → List (List ℤ)
rows_after (Err why) before = before
rows_after (Ok rows) before = rows ++ drop (length rows) before
