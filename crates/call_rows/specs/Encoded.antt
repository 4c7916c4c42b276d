-- A call as numbers. A row of a list of calls: kind, track, flag, duration, places lent; beside it, presentation and decode timestamp,
-- two doubles, and the frames of a batch.
use Rattle.std.specs.Prelude.{Bool, not, cond, List, map, ℕ, ltb, eqb, ℤ, pos, Float, get_or}
use Rattle.std.specs.Float.{nan}
use Rattle.buffer_state.specs.declared.Mode.{Mode}
use Rattle.buffer_state.specs.declared.Mode.TheVariants.{Segments, Sequence}
use Rattle.buffer_state.specs.declared.Offered.{Offered}
use Rattle.buffer_state.specs.Batch.{offered_in}
use Rattle.buffer_state.specs.Run.{Call, append_call, remove_call, abort_call, mode_call, offset_call, window_start_call, window_end_call, read_call, ranges_call, common_call, batch_call, walked_call, seek_call}

abbrev pub flag_of : ℕ → Bool
flag_of n = not (eqb n 0)

abbrev pub mode_of : ℕ → Mode
mode_of n = cond (eqb n 0) Segments Sequence

abbrev pub offered_of : List ℕ → List ℤ → Offered
offered_of row times = record {
  track = get_or row 1 0;
  flagged = flag_of (get_or row 2 0);
  duration = get_or row 3 0;
  pts = get_or times 0 (pos 0);
  dts = get_or times 1 (pos 0);
}

-- 0 append, 1 remove: calls that are lent a fate list
abbrev pub lines_call : List ℕ → List ℤ → List Float → ℕ → Call
lines_call row times seconds lent =
    cond (eqb (get_or row 0 0) 0) (append_call lent (offered_of row times)) (remove_call lent (get_or seconds 0 nan) (get_or seconds 1 nan))

-- 2 abort, 3 the mode, 4 the offset, 5 the window start, 6 the window end
abbrev pub setting_call : ℕ → ℕ → Float → Call
setting_call kind flag x =
    cond (eqb kind 2) abort_call
    (cond (eqb kind 3) (mode_call (mode_of flag))
    (cond (eqb kind 4) (offset_call x)
    (cond (eqb kind 5) (window_start_call x)
    (window_end_call x))))

-- 8 a track's ranges, 9 the common ranges: calls that are lent a range list
abbrev pub ranges_call_of : List ℕ → ℕ → Call
ranges_call_of row lent = cond (eqb (get_or row 0 0) 8) (ranges_call lent (get_or row 1 0)) (common_call lent)

-- 7 reading the settings; 10 a batch, which is lent a fate list; 11 how many frames the walk of a track's ranges takes, with the places of
-- the range list, which it leaves; 12 where to start decoding for a track and the first of the two times. A kind above 12 is taken for 12
-- by a single call; a list that has one is not run (Listed.antt).
abbrev pub call_of : List ℕ → List ℤ → List Float → List (List ℤ) → ℕ → ℕ → Call
call_of row times seconds frames lines ranges =
    let kind = get_or row 0 0 in
    cond (ltb kind 2) (lines_call row times seconds lines)
    (cond (ltb kind 7) (setting_call kind (get_or row 2 0) (get_or seconds 0 nan))
    (cond (eqb kind 7) read_call
    (cond (ltb kind 10) (ranges_call_of row ranges)
    (cond (eqb kind 10) (batch_call lines (map offered_in frames))
    (cond (eqb kind 11) (walked_call ranges (get_or row 1 0))
    (seek_call (get_or row 1 0) (get_or times 0 (pos 0))))))))

-- ---- places lent

-- of a number that a call of this kind asks for or gives, how much is fate lines and how much is ranges; a walk's and
-- a seek's is neither
abbrev pub of_lines : ℕ → ℕ → ℕ
of_lines kind n = cond (ltb kind 2) n (cond (eqb kind 10) n 0)

abbrev pub of_ranges : ℕ → ℕ → ℕ
of_ranges kind n = cond (ltb kind 8) 0 (cond (ltb kind 10) n 0)

-- the call of a row, lent as many places as the row says
abbrev pub row_call : List ℕ → List ℤ → List Float → List (List ℤ) → Call
row_call row times seconds frames = call_of row times seconds frames (get_or row 4 0) (get_or row 4 0)
