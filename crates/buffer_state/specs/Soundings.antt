-- Document 01, "Soundings to check against": cases A to K in one table, each with its whole outcome and an equation of its own, and one
-- proof of all; with them two refused calls of L in the midst of a run, two removals of our own, batches (document 02, No. 2), how many frames
-- the walk of a report takes (No. 3), coded frame groups (No. 4), and where to start decoding (No. 6). K is as No. 7 has it.
-- Video, one track, durations 100; R is a flagged frame, P one that is not, both given by presentation and decode time.
use Rattle.std.specs.Prelude.{◌≡◌, refl, Bool, true, false, List, [], ◌∷◌, ◌++◌, map, ℕ, ℤ, pos, neg_ℤ, Float, replicate, Ok, Err, None, Some}
use Rattle.std.specs.Float.{binary64}
use Rattle.std.specs.Float.Ieee.{of_bits, of_int, div}
use Rattle.seconds.specs.Seconds.{tie_of, round_of, nearest_of, is_convertible, is_convertible_end, micros_of, seconds_of, bound_of, zero_seconds, same_int, same_double}
use Rattle.buffer_state.specs.declared.Frame.{Frame}
use Rattle.buffer_state.specs.declared.Track.{Track}
use Rattle.buffer_state.specs.declared.Mode.TheVariants.{Segments, Sequence}
use Rattle.buffer_state.specs.declared.Group.{Group}
use Rattle.buffer_state.specs.declared.Offered.{Offered}
use Rattle.buffer_state.specs.declared.Refusal.TheVariants.{FrameLimits, LastNumber, LentSize, NoStart, NoTrack, Order, Seconds, ShortFates}
use Rattle.buffer_state.specs.declared.WindowEnd.TheVariants.{Unbounded, At}
use Rattle.buffer_state.specs.Buffer.{Buffer, fresh, fresh_track, fresh_settings, with_settings}
use Rattle.buffer_state.specs.Limits.{offered_time, result_time, good_duration, places, last_group}
use Rattle.buffer_state.specs.Refusals.{CallResult}
use Rattle.buffer_state.specs.Store.{is_before, insert_sorted, follows_taken, walk_from, kept, Line, lines_of}
use Rattle.buffer_state.specs.Append.{step_one, step_two, pass_of, fits, moved, regrouped_buffer, breaks, second_pass, last_pass, leaves_limits, lacks_group, is_overlapped, overlap_marks, step_nine, stored, settled, appended_outcome, is_offerable, append}
use Rattle.buffer_state.specs.Batch.{offered_in, append_each, batch}
use Rattle.buffer_state.specs.Remove.{far_edge, removal_marks, after_loss, ends_any, removal_lacks_group, removed_outcome, remove}
use Rattle.buffer_state.specs.Settings.{aborted_buffer, abort, mode_set, offset_set, window_start_set, window_end_set}
use Rattle.buffer_state.specs.Ranges.{Range, joined_ranges, ranges_of}
use Rattle.buffer_state.specs.Seek.{over, target_of, up_to, from_flagged, to_decode, seek}
use Rattle.buffer_state.specs.WellFormed.{good_offset}
use Rattle.buffer_state.specs.Walked.{presented_with, presented, taken_from, taken_of, walked}
use Rattle.buffer_state.specs.Run.{Call, append_call, remove_call, abort_call, mode_call, offset_call, window_start_call, window_end_call, batch_call, walked_call, seek_call, Answer, ok, fates, accepted, taken, decoding, Entry, reply_to, run, last_of}

-- a case: the calls on a fresh buffer of one video track, and what they come to
pub record Case : Type 0 where
  pub calls : List Call
  pub results : List (CallResult Answer)
  pub left : Buffer
  pub ranges : List Range

-- ---- the words of the table

abbrev offer : Bool → ℕ → ℕ → Offered
offer flagged p d = record { track = 1; flagged = flagged; duration = 100; pts = pos p; dts = pos d }

abbrev R : ℕ → ℕ → Call
R p d = append_call places (offer true p d)

abbrev P : ℕ → ℕ → Call
P p d = append_call places (offer false p d)

-- an offered frame that is refused
abbrev brief_frame : Offered
brief_frame = record { track = 1; flagged = true; duration = 0; pts = pos 100; dts = pos 100 }

abbrev removing : Float → Float → Call
removing = remove_call places

-- a stored frame: its group, its number, its flag and its two times
abbrev frame_at : ℕ → ℕ → Bool → ℤ → ℤ → Frame
frame_at group n flagged p d = record { track = 1; flagged = flagged; duration = 100; number = n; group = group; pts = p; dts = d }

abbrev frame_of : ℕ → ℕ → Bool → ℕ → ℕ → Frame
frame_of group n flagged p d = frame_at group n flagged (pos p) (pos d)

-- of group 0
abbrev frame : ℕ → Bool → ℕ → ℕ → Frame
frame = frame_of 0

-- the track with last decode time and highest end set, the last duration 100 and need-random-access off
abbrev following_track : ℕ → ℕ → Track
following_track d e = record { kind = 0; known = true; need = false; duration = 100; dts = pos d; end = pos e }

-- the three unset and need-random-access on
abbrev waiting_track : Track
waiting_track = fresh_track 0

-- a group by its number, with a group end and no group start
abbrev ending_group : ℕ → ℕ → Group
ending_group group e = record { begun = false; start = pos 0; end = pos e; number = group }

abbrev told_answer : List Line → CallResult Answer
told_answer ls = Ok (fates ls)

abbrev line : ℕ → ℕ → Line
line n cause = record { number = n; cause = cause }

abbrev range : ℕ → ℕ → Range
range a b = record { start = pos a; end = pos b }

abbrev double : ℕ → Float
double = of_bits binary64

-- in segments mode with the settings of a fresh buffer: group number, track, stored frames, group end, last number
abbrev plain_in : ℕ → Track → List Frame → ℕ → ℕ → Buffer
plain_in group t fs e n = record { tracks = t ∷ []; frames = fs; mode = Segments; group = ending_group group e; last = n; settings = fresh_settings }

-- in group 0
abbrev plain_buffer : Track → List Frame → ℕ → ℕ → Buffer
plain_buffer = plain_in 0

-- the doubles nearest to 0.00005, 0.00015, 0.00025 and 0.00035
abbrev at50 : Float
at50 = double 0x3f0a_36e2_eb1c_432d

abbrev at150 : Float
at150 = double 0x3f23_a92a_3055_3261

abbrev at250 : Float
at250 = double 0x3f30_624d_d2f1_a9fc

abbrev at350 : Float
at350 = double 0x3f36_f006_8db8_bac7

-- ---- the cases

-- R 0, P 100: ranges [0,200).
abbrev case_a : Case
case_a = record {
  calls = R 0 0 ∷ P 100 100 ∷ [];
  results = told_answer [] ∷ told_answer [] ∷ [];
  left = plain_buffer (following_track 100 200) (frame 1 true 0 0 ∷ frame 2 false 100 100 ∷ []) 200 2;
  ranges = range 0 200 ∷ [];
}

-- A, then P shown 400 decoded 300: kept, ranges [0,200) [400,500).
abbrev case_b : Case
case_b = record {
  calls = R 0 0 ∷ P 100 100 ∷ P 400 300 ∷ [];
  results = told_answer [] ∷ told_answer [] ∷ told_answer [] ∷ [];
  left = plain_buffer (following_track 300 500) (frame 1 true 0 0 ∷ frame 2 false 100 100 ∷ frame 3 false 400 300 ∷ []) 500 3;
  ranges = range 0 200 ∷ range 400 500 ∷ [];
}

-- A, then P shown 400 decoded 301: dropped, cause 3, group end 400.
abbrev case_c : Case
case_c = record {
  calls = R 0 0 ∷ P 100 100 ∷ P 400 301 ∷ [];
  results = told_answer [] ∷ told_answer [] ∷ told_answer (line 3 3 ∷ []) ∷ [];
  left = plain_in 1 waiting_track (frame 1 true 0 0 ∷ frame 2 false 100 100 ∷ []) 400 3;
  ranges = range 0 200 ∷ [];
}

-- R 0, P 101: two ranges, [0,100) [101,201).
abbrev case_d : Case
case_d = record {
  calls = R 0 0 ∷ P 101 101 ∷ [];
  results = told_answer [] ∷ told_answer [] ∷ [];
  left = plain_buffer (following_track 101 201) (frame 1 true 0 0 ∷ frame 2 false 101 101 ∷ []) 201 2;
  ranges = range 0 100 ∷ range 101 201 ∷ [];
}

-- R 0, P 100, P 200, R 300, abort, R 100: whole fate list of the last call (2,4) (3,5); store order 1, 5, 4; ranges
-- [0,200) [300,400).
abbrev case_e : Case
case_e = record {
  calls = R 0 0 ∷ P 100 100 ∷ P 200 200 ∷ R 300 300 ∷ abort_call ∷ R 100 100 ∷ [];
  results = told_answer [] ∷ told_answer [] ∷ told_answer [] ∷ told_answer [] ∷ Ok ok ∷ told_answer (line 2 4 ∷ line 3 5 ∷ []) ∷ [];
  left = plain_in 1 (following_track 100 200) (frame 1 true 0 0 ∷ frame_of 1 5 true 100 100 ∷ frame 4 true 300 300 ∷ []) 400 5;
  ranges = range 0 200 ∷ range 300 400 ∷ [];
}

-- R 0, abort, R shown 200 decoded 0, P shown 0 decoded 100: all three stored, order 1, 2, 3, ranges [0,100) [200,300).
abbrev case_f : Case
case_f = record {
  calls = R 0 0 ∷ abort_call ∷ R 200 0 ∷ P 0 100 ∷ [];
  results = told_answer [] ∷ Ok ok ∷ told_answer [] ∷ told_answer [] ∷ [];
  left = plain_in 1 (following_track 100 300) (frame 1 true 0 0 ∷ frame_of 1 2 true 200 0 ∷ frame_of 1 3 false 0 100 ∷ []) 300 3;
  ranges = range 0 100 ∷ range 200 300 ∷ [];
}

-- Fresh, sequence mode: R shown 5000 decoded 4900 lands at 0 and -100. R shown 9000 decoded 8900 then lands at 100 and 0,
-- offset -8900 (its double is the one nearest to -0.0089); ranges [0,200).
abbrev case_g : Case
case_g = record {
  calls = mode_call Sequence ∷ R 5000 4900 ∷ R 9000 8900 ∷ [];
  results = Ok ok ∷ told_answer [] ∷ told_answer [] ∷ [];
  left = record {
    tracks = following_track 0 200 ∷ [];
    frames = frame_at 0 1 true (pos 0) (neg_ℤ (pos 100)) ∷ frame_of 1 2 true 100 0 ∷ [];
    mode = Sequence;
    group = ending_group 1 200;
    last = 2;
    settings = record {
      offset = record { seconds = double 0xbf82_3a29_c779_a6b5; micros = neg_ℤ (pos 8900) };
      start = fresh_settings.start;
      end = Unbounded;
      limit = pos 0;
    };
  };
  ranges = range 0 200 ∷ [];
}

-- E's first four, remove 0.00015 to 0.00025: (3,6), ranges [0,200) [300,400).
abbrev case_h : Case
case_h = record {
  calls = R 0 0 ∷ P 100 100 ∷ P 200 200 ∷ R 300 300 ∷ removing at150 at250 ∷ [];
  results = told_answer [] ∷ told_answer [] ∷ told_answer [] ∷ told_answer [] ∷ told_answer (line 3 6 ∷ []) ∷ [];
  left = plain_buffer (following_track 300 400) (frame 1 true 0 0 ∷ frame 2 false 100 100 ∷ frame 4 true 300 300 ∷ []) 400 4;
  ranges = range 0 200 ∷ range 300 400 ∷ [];
}

-- The same, remove 0.00015 to 0.00035: (3,6) (4,6), group end 300, the three unset.
abbrev case_i : Case
case_i = record {
  calls = R 0 0 ∷ P 100 100 ∷ P 200 200 ∷ R 300 300 ∷ removing at150 at350 ∷ [];
  results = told_answer [] ∷ told_answer [] ∷ told_answer [] ∷ told_answer [] ∷ told_answer (line 3 6 ∷ line 4 6 ∷ []) ∷ [];
  left = plain_in 1 waiting_track (frame 1 true 0 0 ∷ frame 2 false 100 100 ∷ []) 300 4;
  ranges = range 0 200 ∷ [];
}

-- Window 0.00005 to 0.00015, and one frame: R 49 dropped, cause 1; R 50 kept; R 51 dropped, cause 2.
abbrev case_j : ℕ → List Line → Track → List Frame → ℕ → List Range → Case
case_j p lines t fs e rs = record {
  calls = window_start_call at50 ∷ window_end_call at150 ∷ R p p ∷ [];
  results = Ok ok ∷ Ok ok ∷ told_answer lines ∷ [];
  left = record {
    tracks = t ∷ [];
    frames = fs;
    mode = Segments;
    group = ending_group 0 e;
    last = 1;
    settings = record { offset = fresh_settings.offset; start = record { seconds = at50; micros = pos 50 }; end = At at150; limit = pos 150 };
  };
  ranges = rs;
}

-- A double in seconds, set as the offset: so many microseconds, and the double is kept as it was given.
abbrev case_k : ℕ → ℤ → Case
case_k bits z = record {
  calls = offset_call (double bits) ∷ [];
  results = Ok ok ∷ [];
  left = record {
    tracks = waiting_track ∷ [];
    frames = [];
    mode = Segments;
    group = ending_group 0 0;
    last = 0;
    settings = record { offset = record { seconds = double bits; micros = z }; start = fresh_settings.start; end = Unbounded; limit = pos 0 };
  };
  ranges = [];
}

-- Ours: half a microsecond below 7813 is 7813, so that nothing lies between the two, in a window or for a removal.
abbrev half7812 : Float
half7812 = double 0x3f80_0000_0000_0000

abbrev at7813 : Float
at7813 = double 0x3f80_0043_1bde_82d8

abbrev case_k_order : Case
case_k_order = record {
  calls = window_start_call half7812 ∷ window_end_call at7813 ∷ removing half7812 at7813 ∷ [];
  results = Ok ok ∷ Err Order ∷ Err Order ∷ [];
  left = with_settings (fresh (0 ∷ [])) (record { offset = fresh_settings.offset; start = record { seconds = half7812; micros = pos 7813 }; end = Unbounded; limit = pos 0 });
  ranges = [];
}

-- A with two refused calls of L in between, which change nothing: a duration of 0, and the next double above 1,000,000.
abbrev case_l : Case
case_l = record {
  calls =
      R 0 0
      ∷ append_call places brief_frame
      ∷ offset_call (double 0x412e_8480_0000_0001)
      ∷ P 100 100
      ∷ [];
  results = told_answer [] ∷ Err FrameLimits ∷ Err Seconds ∷ told_answer [] ∷ [];
  left = case_a.left;
  ranges = case_a.ranges;
}

-- Ours: a frame lost by cause 5 counts as one lost. R shown 100 decoded 0, R shown 0 decoded 100, P 200, remove 0 to 0.00005: (2,6) (3,5),
-- group end 200, the three unset.
abbrev case_m : Case
case_m = record {
  calls = R 100 0 ∷ R 0 100 ∷ P 200 200 ∷ removing zero_seconds at50 ∷ [];
  results = told_answer [] ∷ told_answer [] ∷ told_answer [] ∷ told_answer (line 2 6 ∷ line 3 5 ∷ []) ∷ [];
  left = plain_in 1 waiting_track (frame 1 true 100 0 ∷ []) 200 3;
  ranges = range 100 200 ∷ [];
}

-- Ours: of two lost frames with the last decode time, the first on the list counts. R shown 200 decoded 0, R shown 0 decoded 0, remove 0
-- to 0.00035: (1,6) (2,6), group end 200, the three unset.
abbrev case_n : Case
case_n = record {
  calls = R 200 0 ∷ R 0 0 ∷ removing zero_seconds at350 ∷ [];
  results = told_answer [] ∷ told_answer [] ∷ told_answer (line 1 6 ∷ line 2 6 ∷ []) ∷ [];
  left = plain_in 1 waiting_track [] 200 2;
  ranges = [];
}

-- Ours: E in batches, with no frame, too many frames and too few lines in between. The last batch is stopped by its second frame, and its
-- first stays.
abbrev case_o : Case
case_o = record {
  calls =
      batch_call 1088 (offer true 0 0 ∷ offer false 100 100 ∷ offer false 200 200 ∷ offer true 300 300 ∷ [])
      ∷ batch_call 1088 []
      ∷ batch_call 1087 (replicate 65 (offer true 400 400))
      ∷ batch_call 1087 []
      ∷ abort_call
      ∷ batch_call 1088 (offer true 100 100 ∷ brief_frame ∷ offer false 200 200 ∷ [])
      ∷ [];
  results =
      Ok (accepted 4 None [])
      ∷ Ok (accepted 0 None [])
      ∷ Err LentSize
      ∷ Err ShortFates
      ∷ Ok ok
      ∷ Ok (accepted 1 (Some FrameLimits) (line 2 4 ∷ line 3 5 ∷ []))
      ∷ [];
  left = case_e.left;
  ranges = case_e.ranges;
}

-- Ours: the lines of a batch are joined. P 0 finds no random access point, R 0 is kept, and so is R 100; R 0 breaks the group, and
-- the first R goes, cause 4.
abbrev case_p : Case
case_p = record {
  calls = batch_call 1088 (offer false 0 0 ∷ offer true 0 0 ∷ offer true 100 100 ∷ offer true 0 0 ∷ []) ∷ [];
  results = Ok (accepted 4 None (line 1 3 ∷ line 2 4 ∷ [])) ∷ [];
  left = plain_in 1 (following_track 0 100) (frame_of 1 4 true 0 0 ∷ frame 3 true 100 100 ∷ []) 100 4;
  ranges = range 0 200 ∷ [];
}

-- Ours: the walk in presentation order over R 0, P 100, P 300, P 500, which are decoded in another. It takes all four where there is room
-- for the three ranges, and with room for two; with room for one it leaves at P 300, with none at R 0. No frame, no step; no track, 3.
abbrev case_q : Case
case_q = record {
  calls =
      walked_call 0 1
      ∷ R 0 0
      ∷ P 300 100
      ∷ P 100 200
      ∷ P 500 300
      ∷ map (λ (room : ℕ). walked_call room 1) (3 ∷ 2 ∷ 1 ∷ 0 ∷ [])
      ++ walked_call 3 2
      ∷ [];
  results =
      Ok (taken 0)
      ∷ told_answer []
      ∷ told_answer []
      ∷ told_answer []
      ∷ told_answer []
      ∷ map (λ (n : ℕ). Ok (taken n)) (4 ∷ 4 ∷ 3 ∷ 1 ∷ [])
      ++ Err NoTrack
      ∷ [];
  left =
      plain_buffer (following_track 300 600) (frame 1 true 0 0 ∷ frame 2 false 300 100 ∷ frame 3 false 100 200 ∷ frame 4 false 500 300 ∷ []) 600 4;
  ranges = range 0 200 ∷ range 300 400 ∷ range 500 600 ∷ [];
}

-- Ours: F, where two frames are presented at 0. Both are taken before the one at 200.
abbrev case_r : Case
case_r = record {
  calls = case_f.calls ++ walked_call 1 1 ∷ [];
  results = case_f.results ++ Ok (taken 3) ∷ [];
  left = case_f.left;
  ranges = case_f.ranges;
}

-- The example of document 02, No. 4: step 8 does not walk from old frame 2 into new frame 4. Frames 1, 3, 4 and 5 stay, the last list is (2,4).
abbrev case_s : Case
case_s = record {
  calls = R 0 0 ∷ P 400 150 ∷ abort_call ∷ R 200 100 ∷ P 300 200 ∷ P 400 250 ∷ [];
  results = told_answer [] ∷ told_answer [] ∷ Ok ok ∷ told_answer [] ∷ told_answer [] ∷ told_answer (line 2 4 ∷ []) ∷ [];
  left =
      plain_in 1 (following_track 250 500)
      (frame 1 true 0 0 ∷ frame_of 1 3 true 200 100 ∷ frame_of 1 4 false 300 200 ∷ frame_of 1 5 false 400 250 ∷ []) 500 5;
  ranges = range 0 100 ∷ range 200 500 ∷ [];
}

-- Ours: two groups whose frames stand among each other, 1 and 2 of group 0, 3, 4 and 5 of group 1; store order 1, 3, 2, 4, 5. A removal
-- from 0.00005 to 0.00015 takes out 3 and 4, and the walk from 3 does not reach 2, whose own group lost nothing before it.
abbrev case_t : Case
case_t = record {
  calls = R 0 0 ∷ P 500 150 ∷ abort_call ∷ R 100 50 ∷ P 200 200 ∷ R 300 250 ∷ removing at50 at150 ∷ [];
  results = told_answer [] ∷ told_answer [] ∷ Ok ok ∷ told_answer [] ∷ told_answer [] ∷ told_answer [] ∷ told_answer (line 3 6 ∷ line 4 6 ∷ []) ∷ [];
  left = plain_in 1 (following_track 250 400) (frame 1 true 0 0 ∷ frame 2 false 500 150 ∷ frame_of 1 5 true 300 250 ∷ []) 600 5;
  ranges = range 0 100 ∷ range 300 400 ∷ range 500 600 ∷ [];
}

-- Ours: the same frames, and a removal from 0 to 0.00005. The walk goes from 1 to 2 past 3, which is flagged, untaken and of another group,
-- so that it is no wall.
abbrev case_u : Case
case_u = record {
  calls = R 0 0 ∷ P 500 150 ∷ abort_call ∷ R 100 50 ∷ P 200 200 ∷ R 300 250 ∷ removing zero_seconds at50 ∷ [];
  results = told_answer [] ∷ told_answer [] ∷ Ok ok ∷ told_answer [] ∷ told_answer [] ∷ told_answer [] ∷ told_answer (line 1 6 ∷ line 2 5 ∷ []) ∷ [];
  left = plain_in 1 (following_track 250 400) (frame_of 1 3 true 100 50 ∷ frame_of 1 4 false 200 200 ∷ frame_of 1 5 true 300 250 ∷ []) 600 5;
  ranges = range 100 400 ∷ [];
}

-- Ours: the same walk in an append, which takes out 1 of group 0 and 2 past 3 of group 1, and is of group 2 itself.
abbrev case_w : Case
case_w = record {
  calls = R 0 0 ∷ P 500 150 ∷ abort_call ∷ R 100 50 ∷ abort_call ∷ R 0 0 ∷ [];
  results = told_answer [] ∷ told_answer [] ∷ Ok ok ∷ told_answer [] ∷ Ok ok ∷ told_answer (line 1 4 ∷ line 2 5 ∷ []) ∷ [];
  left = plain_in 2 (following_track 0 100) (frame_of 2 4 true 0 0 ∷ frame_of 1 3 true 100 50 ∷ []) 600 4;
  ranges = range 0 200 ∷ [];
}

-- Ours, in the last group: an abort is refused 9, and so are a frame that breaks the group, which would then be dropped, and a removal that
-- takes out the frame with the last decode time. What begins no group is done, and its frames are of the last one.
abbrev case_x : Case
case_x = record {
  calls = abort_call ∷ R 0 0 ∷ P 100 100 ∷ P 400 301 ∷ removing at50 at150 ∷ R 200 200 ∷ removing at50 at150 ∷ [];
  results =
      Err LastNumber
      ∷ told_answer []
      ∷ told_answer []
      ∷ Err LastNumber
      ∷ Err LastNumber
      ∷ told_answer []
      ∷ told_answer (line 2 6 ∷ [])
      ∷ [];
  left = plain_in last_group (following_track 200 300) (frame_of last_group 1 true 0 0 ∷ frame_of last_group 3 true 200 200 ∷ []) 300 3;
  ranges = range 0 100 ∷ range 200 300 ∷ [];
}

-- an answer to a seek: target, flagged frame, how many frames to decode
abbrev decode : ℕ → ℕ → ℕ → CallResult Answer
decode target flagged n = Ok (decoding (record { target = target; flagged = flagged; count = n }))

-- Ours: the frames of case T, store order 1, 3, 2, 4, 5. From 2 the walk goes back to 1 past 3, which is flagged and of another group; 2 is
-- not counted on the way from 4 to 3; 5 is its own start. A frame's end, what is before the first frame and another track have no target.
abbrev case_y : Case
case_y = record {
  calls =
      R 0 0 ∷ P 500 150 ∷ abort_call ∷ R 100 50 ∷ P 200 200 ∷ R 300 250
      ∷ seek_call 1 (pos 550) ∷ seek_call 1 (pos 250) ∷ seek_call 1 (pos 399) ∷ seek_call 1 (pos 0)
      ∷ seek_call 1 (pos 400) ∷ seek_call 1 (neg_ℤ (pos 1)) ∷ seek_call 2 (pos 0) ∷ [];
  results =
      told_answer [] ∷ told_answer [] ∷ Ok ok ∷ told_answer [] ∷ told_answer [] ∷ told_answer []
      ∷ decode 2 1 2 ∷ decode 4 3 2 ∷ decode 5 5 1 ∷ decode 1 1 1
      ∷ Err NoStart ∷ Err NoStart ∷ Err NoTrack ∷ [];
  left =
      plain_in 1 (following_track 250 400)
      (frame 1 true 0 0 ∷ frame_of 1 3 true 100 50 ∷ frame 2 false 500 150 ∷ frame_of 1 4 false 200 200 ∷ frame_of 1 5 true 300 250 ∷ []) 600 5;
  ranges = range 0 400 ∷ range 500 600 ∷ [];
}

-- Ours: three frames that cover one instant, two of them with one presentation time: the later number is picked, and where 4 covers it
-- too, with a smaller presentation time and a greater number, it is not.
abbrev case_z : Case
case_z = record {
  calls = R 0 0 ∷ P 50 50 ∷ P 50 100 ∷ P 20 150 ∷ seek_call 1 (pos 75) ∷ seek_call 1 (pos 149) ∷ seek_call 1 (pos 25) ∷ seek_call 1 (pos 19) ∷ [];
  results = told_answer [] ∷ told_answer [] ∷ told_answer [] ∷ told_answer [] ∷ decode 3 1 3 ∷ decode 3 1 3 ∷ decode 4 1 4 ∷ decode 1 1 1 ∷ [];
  left = plain_buffer (following_track 150 150) (frame 1 true 0 0 ∷ frame 2 false 50 50 ∷ frame 3 false 50 100 ∷ frame 4 false 20 150 ∷ []) 150 4;
  ranges = range 0 150 ∷ [];
}

-- Ours: a state handed in whose frame has no flagged one at or before it: 3 is of another group, 2 stands behind it.
abbrev unled_buffer : Buffer
unled_buffer = plain_in 1 (following_track 200 300) (frame_of 1 3 true 0 0 ∷ frame 1 false 100 100 ∷ frame 2 true 200 200 ∷ []) 300 3

abbrev case_z_unled : Case
case_z_unled = record {
  calls = seek_call 1 (pos 100) ∷ seek_call 1 (pos 0) ∷ seek_call 1 (pos 200) ∷ [];
  results = Err NoStart ∷ decode 3 3 1 ∷ decode 2 2 1 ∷ [];
  left = unled_buffer;
  ranges = range 0 300 ∷ [];
}

-- ---- the table

-- what the definitions make of a case's calls, from a buffer on
abbrev pub computed_case : Buffer → Case → Case
computed_case start c =
    let end = last_of start c.calls in
    record {
      calls = c.calls;
      results = map (λ (e : Entry). e.result) (run start c.calls);
      left = end;
      ranges = ranges_of 1 end.frames;
    }

abbrev pub HoldsFrom : Buffer → Case → Type 0
HoldsFrom start c = computed_case start c ≡ c

abbrev pub Holds : Case → Type 0
Holds = HoldsFrom (fresh (0 ∷ []))

-- an offset of these bits is well-formed with the one number of microseconds, and not with the other
abbrev pub KeptWith : ℕ → ℤ → ℤ → Type 0
KeptWith bits good ill =
    (good_offset (record { seconds = double bits; micros = good }) ≡ true) × (good_offset (record { seconds = double bits; micros = ill }) ≡ false)

-- A line for each case, with its letter: where one fails, the error stands at its line in the proof below.
pub record Table : Type 0 where
  pub A : Holds case_a
  pub B : Holds case_b
  pub C : Holds case_c
  pub D : Holds case_d
  pub E : Holds case_e
  pub F : Holds case_f
  pub G : Holds case_g
  pub H : Holds case_h
  pub I : Holds case_i
  pub J_early : Holds (case_j 49 (line 1 1 ∷ []) waiting_track [] 0 [])
  pub J_kept : Holds (case_j 50 [] (following_track 50 150) (frame 1 true 50 50 ∷ []) 150 (range 50 150 ∷ []))
  pub J_late : Holds (case_j 51 (line 1 2 ∷ []) waiting_track [] 0 [])
  pub K_half_past_even : Holds (case_k 0x3f80_0000_0000_0000 (pos 7813))  -- 0.0078125
  pub K_half_past_odd : Holds (case_k 0x3f98_0000_0000_0000 (pos 23438))  -- 0.0234375
  pub K_negative_half_past_even : Holds (case_k 0xbf80_0000_0000_0000 (neg_ℤ (pos 7812)))  -- -0.0078125
  pub K_negative_half_past_odd : Holds (case_k 0xbf98_0000_0000_0000 (neg_ℤ (pos 23437)))  -- -0.0234375
  pub K_kept : KeptWith 0x3f80_0000_0000_0000 (pos 7813) (pos 7812)
  pub K_negative_kept : KeptWith 0xbf98_0000_0000_0000 (neg_ℤ (pos 23437)) (neg_ℤ (pos 23438))
  pub K_smallest : Holds (case_k 0x0000_0000_0000_0001 (pos 0))  -- the smallest positive double
  pub K_largest : Holds (case_k 0x412e_8480_0000_0000 (pos 1000000000000))  -- 1,000,000
  pub K_order : Holds case_k_order
  pub L : Holds case_l
  pub M : Holds case_m
  pub N : Holds case_n
  pub O : Holds case_o
  pub P : Holds case_p
  pub Q : Holds case_q
  pub R : Holds case_r
  pub S : Holds case_s
  pub T : Holds case_t
  pub U : Holds case_u
  pub W : Holds case_w
  pub X : HoldsFrom (plain_in last_group waiting_track [] 0 0) case_x
  pub Y : Holds case_y
  pub Z : Holds case_z
  pub Z_unled : HoldsFrom unled_buffer case_z_unled

pub soundings-hold : Table
unfolding tie_of round_of nearest_of is_convertible is_convertible_end micros_of seconds_of bound_of same_int same_double good_offset offered_time result_time good_duration is_before insert_sorted follows_taken walk_from kept lines_of step_one step_two pass_of fits moved regrouped_buffer breaks second_pass last_pass leaves_limits lacks_group is_overlapped overlap_marks step_nine stored settled appended_outcome is_offerable append append_each batch far_edge removal_marks after_loss ends_any removal_lacks_group removed_outcome remove aborted_buffer abort mode_set offset_set window_start_set window_end_set joined_ranges ranges_of presented_with presented taken_from taken_of walked over target_of up_to from_flagged to_decode seek reply_to run last_of of_bits of_int div
soundings-hold = record {
  A = refl;
  B = refl;
  C = refl;
  D = refl;
  E = refl;
  F = refl;
  G = refl;
  H = refl;
  I = refl;
  J_early = refl;
  J_kept = refl;
  J_late = refl;
  K_half_past_even = refl;
  K_half_past_odd = refl;
  K_negative_half_past_even = refl;
  K_negative_half_past_odd = refl;
  K_kept = (refl, refl);
  K_negative_kept = (refl, refl);
  K_smallest = refl;
  K_largest = refl;
  K_order = refl;
  L = refl;
  M = refl;
  N = refl;
  O = refl;
  P = refl;
  Q = refl;
  R = refl;
  S = refl;
  T = refl;
  U = refl;
  W = refl;
  X = refl;
  Y = refl;
  Z = refl;
  Z_unled = refl;
}

-- Rows of numbers as offered frames: one that is a frame, then tracks, durations and a flag that no frame can have.
pub rows-offered : map offered_in (
    (pos 1 ∷ pos 5 ∷ neg_ℤ (pos 5) ∷ pos 100 ∷ pos 1 ∷ pos 9 ∷ [])
    ∷ (neg_ℤ (pos 1) ∷ pos 5 ∷ pos 5 ∷ pos 4294967295 ∷ pos 0 ∷ pos 9 ∷ [])
    ∷ (pos 4294967296 ∷ pos 5 ∷ pos 5 ∷ pos 4294967296 ∷ pos 0 ∷ pos 9 ∷ [])
    ∷ (pos 2 ∷ pos 5 ∷ pos 5 ∷ neg_ℤ (pos 100) ∷ pos 1 ∷ pos 9 ∷ [])
    ∷ (pos 2 ∷ pos 5 ∷ pos 5 ∷ pos 100 ∷ pos 2 ∷ pos 9 ∷ [])
    ∷ [])
    ≡ record { track = 1; flagged = true; duration = 100; pts = pos 5; dts = neg_ℤ (pos 5) }
    ∷ record { track = 0; flagged = false; duration = 4294967295; pts = pos 5; dts = pos 5 }
    ∷ record { track = 0; flagged = false; duration = 0; pts = pos 5; dts = pos 5 }
    ∷ record { track = 2; flagged = true; duration = 0; pts = pos 5; dts = pos 5 }
    ∷ record { track = 2; flagged = false; duration = 0; pts = pos 5; dts = pos 5 }
    ∷ []
unfolding offered_in same_int
rows-offered = refl
