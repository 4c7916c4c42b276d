-- Document 02, No. 1: the samples of one track in a segment, in file order, from its one movie fragment (ISO/IEC 14496-12, 8.8).
-- "Other boxes are skipped."
use Rattle.std.specs.Prelude.{cond, List, [], ◌∷◌, ◌++◌, ℕ, ◌+◌, eqb, Result, Ok, Err}
use Rattle.boxes.specs.Boxes.{Mp4Box, boxes_of}
use Rattle.boxes.specs.Folds.{folded}
use Rattle.boxes.specs.Lone.{lone_in}
use Rattle.boxes.specs.declared.Malformed.{Malformed}
use Rattle.fragments.specs.Headers.{header_of}
use Rattle.fragments.specs.Runs.{run_of, samples_from}
use Rattle.fragments.specs.Times.{time_of}
use Rattle.fragments.specs.declared.Defaults.{Defaults}
use Rattle.fragments.specs.declared.Header.{Header}
use Rattle.fragments.specs.declared.Run.{Run}
use Rattle.media_times.specs.declared.Sample.{Sample}
use Rattle.segments.specs.declared.SegmentTrack.{SegmentTrack}

-- the types of the boxes: `moof`, `traf`, `tfhd`, `tfdt` and `trun` in four letters
abbrev pub moof_kind : ℕ
moof_kind = 1836019558

abbrev pub traf_kind : ℕ
traf_kind = 1953653094

abbrev pub tfhd_kind : ℕ
tfhd_kind = 1952868452

abbrev pub tfdt_kind : ℕ
tfdt_kind = 1952867444

abbrev pub trun_kind : ℕ
trun_kind = 1953658222

-- samples, or that what should hold them is not well-formed (refusal 12)
pub data Listing : Type 0 where
  malformed : Listing
  listing : List Sample → Listing

-- some samples and then more
abbrev pub joined_listing : List Sample → Listing → Listing
joined_listing l malformed = malformed
joined_listing l (listing m) = listing (l ++ m)

-- the media time that samples take
abbrev pub total : List Sample → ℕ
total [] = 0
total (s ∷ l) = s.duration + total l

-- ---- a track fragment

-- a run's samples, the first of them at this time
abbrev pub run_listing : Defaults → ℕ → List ℕ → Result Run Malformed → Listing
run_listing d time b (Err e) = malformed
run_listing d time b (Ok r) = listing (samples_from d r b 0 r.count time)

-- one more box of the fragment: a run begins where the runs before it end
abbrev pub with_run : Defaults → ℕ → Listing → Mp4Box → Listing
with_run d time malformed x = malformed
with_run d time (listing l) x = cond (eqb x.kind trun_kind) (joined_listing l (run_listing d (time + total l) x.body (run_of x.body))) (listing l)

unfoldable pub runs_from : Defaults → ℕ → List ℕ → Listing
runs_from d time b = folded (with_run d time) malformed (listing []) (boxes_of b)

-- its decode time and its header, each of which there is once and before every run
abbrev pub time_in : Result (List ℕ) Malformed → Result ℕ Malformed
time_in (Err e) = Err e
time_in (Ok b) = time_of b

abbrev pub header_in : Defaults → Result (List ℕ) Malformed → Result Header Malformed
header_in d (Err e) = Err e
header_in d (Ok b) = header_of d b

-- its runs from that time on
abbrev pub runs_by : Defaults → List ℕ → Result ℕ Malformed → Listing
runs_by d b (Err e) = malformed
runs_by d b (Ok t) = runs_from d t b

-- "Other tracks' fragments are read for that header only; none of this track lists nothing."
abbrev pub fragment_by : SegmentTrack → List ℕ → Result Header Malformed → Listing
fragment_by of b (Err e) = malformed
fragment_by of b (Ok h) = cond (eqb h.id of.id) (runs_by h.defaults b (time_in (lone_in tfdt_kind trun_kind (boxes_of b)))) (listing [])

unfoldable pub fragment_listing : SegmentTrack → List ℕ → Listing
fragment_listing of b = fragment_by of b (header_in of.defaults (lone_in tfhd_kind trun_kind (boxes_of b)))

-- ---- the movie fragment

-- one more box of it
abbrev pub with_fragment : SegmentTrack → Listing → Mp4Box → Listing
with_fragment of malformed x = malformed
with_fragment of (listing l) x = cond (eqb x.kind traf_kind) (joined_listing l (fragment_listing of x.body)) (listing l)

unfoldable pub movie_listing : SegmentTrack → List ℕ → Listing
movie_listing of b = folded (with_fragment of) malformed (listing []) (boxes_of b)

-- the one movie fragment of the segment: a second one would stand after a box of its own type
abbrev pub listing_in : SegmentTrack → Result (List ℕ) Malformed → Listing
listing_in of (Err e) = malformed
listing_in of (Ok b) = movie_listing of b

unfoldable pub segment_listing : SegmentTrack → List ℕ → Listing
segment_listing of s = listing_in of (lone_in moof_kind moof_kind (boxes_of s))
