-- Segments written out byte by byte, and what reading them gives, computed by the checker. Assumes nothing.
use Rattle.std.specs.Prelude.{Ok, Err}
use mathlib.Core.Path.{◌≡◌, refl}
use mathlib.Core.List.{List, [], ◌∷◌, ◌++◌, map}
use Prim.Native.Nat.{ℕ, ◌+◌, ◌/◌, ◌%◌}
use lib.IntN.{ℤ, pos, neg_ℤ}
use lib.ListN.{length, replicate}
use Rattle.buffer_state.specs.Limits.{offered_time}
use Rattle.buffer_state.specs.WellFormed.{all_of}
use Rattle.buffer_state.specs.declared.Refusal.TheVariants.{FrameLimits, ShortList, Malformed}
use Rattle.boxes.specs.Boxes.{be4, be8, skipping}
use Rattle.fragments.specs.FullBoxes.{optional}
use Rattle.fragments.specs.Headers.{header_of}
use Rattle.fragments.specs.Runs.{run_by, run_of, sample_at, samples_from}
use Rattle.fragments.specs.Times.{time_of}
use Rattle.media_times.specs.MediaTimes.{micros_of, good_scale, in_limits, row_of}
use Rattle.segments.specs.Listings.{moof_kind, traf_kind, tfhd_kind, tfdt_kind, trun_kind, runs_from, fragment_listing, movie_listing, segment_listing}
use Rattle.segments.specs.Segments.{all_in_limits, list_segment}
use Rattle.segments.specs.declared.SegmentTrack.{SegmentTrack}

-- a number in 4 bytes, and a box
abbrev word : ℕ → List ℕ
word n = n / 16777216 ∷ n / 65536 % 256 ∷ n / 256 % 256 ∷ n % 256 ∷ []

abbrev box : ℕ → List ℕ → List ℕ
box kind body = word (8 + length body) ++ (word kind ++ body)

-- a fragment of track 7 without optional fields, whose first run begins at a time
abbrev traf : ℕ → List ℕ → List ℕ
traf time runs = box traf_kind (box tfhd_kind (word 0 ++ word 7) ++ (box tfdt_kind (word 0 ++ word time) ++ runs))

-- a run of version 1 with durations and composition offsets, of two samples: 3 units at +1, and 2 units at -6
abbrev run : List ℕ
run = box trun_kind (word 16779520 ++ (word 2 ++ (word 3 ++ (word 1 ++ (word 2 ++ word 4294967290)))))

-- track 7 in thirds of a second, as track 2; each sample has 9 bytes and is flagged
abbrev of : SegmentTrack
of = record { id = 7; track = 2; timescale = 3; defaults = record { duration = 1; size = 9; flags = 0 } }

abbrev row : ℤ → ℤ → ℕ → List ℤ
row p d n = pos 2 ∷ p ∷ d ∷ pos n ∷ pos 1 ∷ pos 9 ∷ []

-- rounded down below zero, a duration as the difference of the converted ends, and a second run where the first one ends
pub two_runs : list_segment of 4 (box moof_kind (traf 0 (run ++ run)))
    ≡ Ok (row (pos 333333) (pos 0) 1000000
    ∷ row (neg_ℤ (pos 1000000)) (pos 1000000) 666666
    ∷ row (pos 2000000) (pos 1666666) 1000000
    ∷ row (pos 666666) (pos 2666666) 666667
    ∷ [])
unfolding list_segment segment_listing movie_listing fragment_listing runs_from skipping be4 be8 optional header_of time_of run_by run_of sample_at samples_from all_in_limits good_scale in_limits offered_time all_of micros_of row_of
two_runs = refl

-- what is not well-formed, whatever its times and however short the list
abbrev tfhd : List ℕ
tfhd = box tfhd_kind (word 0 ++ word 7)

abbrev tfdt : List ℕ
tfdt = box tfdt_kind (word 0 ++ word 0)

abbrev late : List ℕ
late = traf 4294967295 run

pub malformed-segments : map (list_segment of 0)
    ([]
    ∷ (box moof_kind late ++ (0 ∷ 0 ∷ 0 ∷ 0 ∷ 0 ∷ 0 ∷ 0 ∷ []))
    ∷ (box moof_kind late ++ box moof_kind [])
    ∷ (word 0 ++ word moof_kind)
    ∷ (word 7 ++ word moof_kind)
    ∷ (word 9 ++ word moof_kind)
    ∷ box moof_kind (late ++ box traf_kind tfdt)
    ∷ box moof_kind (late ++ box traf_kind (tfhd ++ run))
    ∷ box moof_kind (late ++ box traf_kind (tfhd ++ (run ++ tfdt)))
    ∷ box moof_kind (late ++ box traf_kind (tfhd ++ (tfdt ++ tfdt)))
    ∷ box moof_kind (late ++ box traf_kind (tfhd ++ (tfdt ++ box trun_kind (word 256 ++ (word 2 ++ word 1)))))
    ∷ box moof_kind (late ++ box traf_kind (tfhd ++ (tfdt ++ box trun_kind (word 33554432 ++ word 0))))
    ∷ [])
    ≡ replicate 12 (Err Malformed)
unfolding list_segment segment_listing movie_listing fragment_listing runs_from skipping be4 be8 optional header_of time_of run_by run_of sample_at samples_from all_in_limits good_scale in_limits offered_time all_of micros_of row_of
malformed-segments = refl

-- nothing to list: no fragment, a 64-bit size, another track's fragment without a decode time, one of this track without runs
pub empty-segments : map (list_segment of 0)
    (box moof_kind []
    ∷ (word 1 ++ (word moof_kind ++ (word 0 ++ word 16)))
    ∷ box moof_kind (box traf_kind (box tfhd_kind (word 0 ++ word 8) ++ run))
    ∷ box moof_kind (box traf_kind (tfdt ++ tfhd))
    ∷ [])
    ≡ replicate 4 (Ok [])
unfolding list_segment segment_listing movie_listing fragment_listing runs_from skipping be4 be8 optional header_of time_of run_by run_of sample_at samples_from all_in_limits good_scale in_limits offered_time all_of micros_of row_of
empty-segments = refl

-- a time beyond the limit comes before a list that is too short, and a timescale beyond its own even where nothing is listed
pub late-segment : list_segment of 1 (box moof_kind late) ≡ Err FrameLimits
unfolding list_segment segment_listing movie_listing fragment_listing runs_from skipping be4 be8 optional header_of time_of run_by run_of sample_at samples_from all_in_limits good_scale in_limits offered_time all_of micros_of row_of
late-segment = refl

pub no-timescale : list_segment (record { id = 7; track = 2; timescale = 0; defaults = of.defaults }) 1 (box moof_kind []) ≡ Err FrameLimits
unfolding list_segment segment_listing movie_listing skipping be4 all_in_limits good_scale
no-timescale = refl

pub short-list : list_segment of 1 (box moof_kind (traf 0 run)) ≡ Err ShortList
unfolding list_segment segment_listing movie_listing fragment_listing runs_from skipping be4 be8 optional header_of time_of run_by run_of sample_at samples_from all_in_limits good_scale in_limits offered_time all_of micros_of row_of
short-list = refl
