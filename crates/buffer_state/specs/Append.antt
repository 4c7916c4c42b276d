-- Document 01, "Appending one frame": steps 1 to 9, then the call. Store order and the walk of step 8 are in Store.antt.
use Rattle.std.specs.Prelude.{Bool, true, false, cond, not, ◌&&◌, ◌||◌, List, [], ◌∷◌, ℕ, ◌+◌, ◌*◌, ltb, eqb, ℤ, pos, ◌+ℤ◌, ◌-ℤ◌, length, Ok}
use Rattle.std.specs.Int.Signed.{lt_z, le_z}
use Rattle.seconds.specs.Seconds.{seconds_of}
use Rattle.buffer_state.specs.declared.Frame.{Frame}
use Rattle.buffer_state.specs.declared.Offered.{Offered}
use Rattle.buffer_state.specs.declared.Track.{Track}
use Rattle.buffer_state.specs.declared.Settings.{Settings}
use Rattle.buffer_state.specs.declared.WindowEnd.{WindowEnd}
use Rattle.buffer_state.specs.declared.WindowEnd.TheVariants.{Unbounded, At}
use Rattle.buffer_state.specs.declared.Refusal.TheVariants.{ShortFates, NoTrack, FrameLimits, ResultLimits, Full, LastNumber}
use Rattle.buffer_state.specs.Buffer.{Buffer, with_tracks, with_group, with_last, with_track, track_of, has_track, with_need, need_for_all, restart_all, is_sequence, start_at_end, with_end, in_next_group, in_last_group}
use Rattle.buffer_state.specs.Limits.{offered_time, result_time, good_duration, places, last_number}
use Rattle.buffer_state.specs.Refusals.{CallResult, refuse_if}
use Rattle.buffer_state.specs.Store.{Marked, mark_where, walk, kept, Line, lines_of, insert_sorted}

-- what a call that is not refused leaves: the buffer, and the fate lines in order
pub record Outcome : Type 0 where
  pub after : Buffer
  pub lines : List Line

-- ---- steps 1 and 2

-- Setting the offset to z microseconds by step 1: the double kept is one division, even where z was the offset already.
abbrev pub with_offset : Settings → ℤ → Settings
with_offset s z = record { offset = record { seconds = seconds_of z; micros = z }; start = s.start; end = s.end; limit = s.limit }

-- Step 1: in sequence mode with group start set: offset = group start - P as offered; group end = group start;
-- need-random-access on for all tracks; unset group start.
unfoldable pub step_one : Buffer → Offered → Buffer
step_one b f =
    cond (is_sequence b.mode && b.group.begun)
    (record {
      tracks = need_for_all b.tracks;
      frames = b.frames;
      mode = b.mode;
      group = record { begun = false; start = pos 0; end = b.group.start; number = b.group.number };
      last = b.last;
      settings = with_offset b.settings (b.group.start -ℤ f.pts);
    })
    b

-- Step 2: add the offset to P and D.
unfoldable pub step_two : Buffer → Offered → Offered
step_two b f =
    let offset = b.settings.offset.micros in
    record { track = f.track; flagged = f.flagged; duration = f.duration; pts = f.pts +ℤ offset; dts = f.dts +ℤ offset }

-- A pass: the buffer after step 1, and the frame after step 2.
pub record Pass : Type 0 where
  pub buffer : Buffer
  pub frame : Offered

unfoldable pub pass_of : Buffer → Offered → Pass
pass_of b f = let c = step_one b f in record { buffer = c; frame = step_two c f }

abbrev pub end_offered : Offered → ℤ
end_offered f = f.pts +ℤ pos f.duration

-- Refusal 7 asks this of either pass: offset, P, D and frame end inside the result limits.
unfoldable pub fits : Pass → Bool
fits p =
    result_time p.buffer.settings.offset.micros && (result_time p.frame.pts
    && (result_time p.frame.dts && result_time (end_offered p.frame)))

-- ---- step 3

-- In segments mode group end = p, in sequence mode group start = group end; unset last decode time, last duration and
-- highest end on all tracks; need-random-access on for all. Step 3 and removal both do this, and the next group begins with it.
unfoldable pub moved : Buffer → ℤ → Buffer
moved b p =
    with_tracks (with_group b (cond (is_sequence b.mode) (start_at_end b.group) (with_end b.group p)))
    (restart_all b.tracks)

unfoldable pub regrouped_buffer : Buffer → ℤ → Buffer
regrouped_buffer b p = in_next_group (moved b p)

-- Step 3's test: the track's last decode time is set, and D is below it or exceeds it by more than twice the last duration.
unfoldable pub breaks : Pass → Bool
breaks p =
    let t = track_of p.buffer p.frame.track in
    t.known && (lt_z p.frame.dts t.dts || lt_z (t.dts +ℤ pos (2 * t.duration)) p.frame.dts)

-- Step 3: after a break, begin again at 1 with the frame as offered.
unfoldable pub second_pass : Buffer → Offered → Pass
second_pass b f = let p = pass_of b f in pass_of (regrouped_buffer p.buffer p.frame.pts) f

-- The pass that step 4 goes on from. A second pass finds last decode time unset, so there is no third.
unfoldable pub last_pass : Buffer → Offered → Pass
last_pass b f = let p = pass_of b f in cond (breaks p) (second_pass b f) p

-- Refusal 7: in either pass, offset, P, D or frame end leaves the result limits.
unfoldable pub leaves_limits : Buffer → Offered → Bool
leaves_limits b f = let p = pass_of b f in not (fits p) || (breaks p && not (fits (second_pass b f)))

-- Refusal 9 asks this beside the last number: the frame would begin a group after the last one.
unfoldable pub lacks_group : Buffer → Offered → Bool
lacks_group b f = breaks (pass_of b f) && in_last_group b

-- ---- steps 4 to 6: the frame takes the next number, dropped or not

abbrev pub next_number : Buffer → ℕ
next_number b = b.last + 1

-- a dropped frame's line is its call's only one
abbrev pub dropped_outcome : Buffer → ℕ → Outcome
dropped_outcome b cause = record { after = with_last b (next_number b); lines = record { number = next_number b; cause = cause } ∷ [] }

-- need-random-access on or off for the frame's own track
abbrev pub needing_buffer : Bool → Pass → Buffer
needing_buffer on p = with_track p.buffer p.frame.track (with_need on (track_of p.buffer p.frame.track))

-- Step 4: P below window start: need-random-access on for this track, drop, cause 1.
abbrev pub before_window : Pass → Bool
before_window p = lt_z p.frame.pts p.buffer.settings.start.micros

-- Step 5: frame end above window end: the same, cause 2.
abbrev pub above : WindowEnd → ℤ → ℤ → Bool
above Unbounded limit e = false
above (At x) limit e = lt_z limit e

abbrev pub past_window : Pass → Bool
past_window p = above p.buffer.settings.end p.buffer.settings.limit (end_offered p.frame)

-- Step 6: need-random-access on and the frame not flagged: drop, cause 3. Flagged: turn it off.
abbrev pub lacks_random_access : Pass → Bool
lacks_random_access p = (track_of p.buffer p.frame.track).need && not p.frame.flagged

-- ---- steps 7 to 9

-- from a up to but not including b
abbrev pub is_between : ℤ → ℤ → ℤ → Bool
is_between a b z = le_z a z && lt_z z b

-- Step 7: of the track's frames, take out, cause 4, those with presentation time in P up to but not including frame end
-- if highest end is unset; those from highest end up to frame end if it is set and at most P; none if it is above P.
unfoldable pub is_overlapped : Track → Offered → Frame → Bool
is_overlapped t f g =
    eqb g.track f.track
    && cond t.known (le_z t.end f.pts && is_between t.end (end_offered f) g.pts) (is_between f.pts (end_offered f) g.pts)

-- Steps 7 and 8: the stored frames with the causes by which they go.
unfoldable pub overlap_marks : Pass → List Marked
overlap_marks p = walk (mark_where (is_overlapped (track_of p.buffer p.frame.track) p.frame) 4 p.buffer.frames)

abbrev pub raised : ℤ → ℤ → ℤ
raised a b = cond (lt_z a b) b a

-- a frame as it is stored: with its number, and the group in which it is stored
abbrev pub stored_as : ℕ → ℕ → Offered → Frame
stored_as n group f = record {
  track = f.track;
  flagged = f.flagged;
  duration = f.duration;
  number = n;
  group = group;
  pts = f.pts;
  dts = f.dts;
}

-- the track after step 9: last decode time and last duration set, highest end raised, or set if unset
abbrev pub followed : Track → Offered → Track
followed t f = record {
  kind = t.kind;
  known = true;
  need = t.need;
  duration = f.duration;
  dts = f.dts;
  end = cond t.known (raised t.end (end_offered f)) (end_offered f);
}

-- Step 9: store the frame; set last decode time and last duration; raise highest end (set it if unset) and group end.
unfoldable pub step_nine : Pass → List Frame → Buffer
step_nine p left =
    let b = p.buffer in
    let f = p.frame in
    record {
      tracks = (with_track b f.track (followed (track_of b f.track) f)).tracks;
      frames = insert_sorted (stored_as (next_number b) b.group.number f) left;
      mode = b.mode;
      group = with_end b.group (raised b.group.end (end_offered f));
      last = next_number b;
      settings = b.settings;
    }

unfoldable pub stored : Pass → Outcome
stored p =
    let marks = overlap_marks p in
    record { after = step_nine p (kept marks); lines = lines_of marks }

-- Steps 4 to 9, from the last pass.
unfoldable pub settled : Pass → Outcome
settled p =
    cond (before_window p) (dropped_outcome (needing_buffer true p) 1)
    (cond (past_window p) (dropped_outcome (needing_buffer true p) 2)
    (cond (lacks_random_access p) (dropped_outcome p.buffer 3)
    (stored (record { buffer = needing_buffer false p; frame = p.frame }))))

-- Steps 1 to 9.
unfoldable pub appended_outcome : Buffer → Offered → Outcome
appended_outcome b f = settled (last_pass b f)

-- ---- the call

-- Refusal 4 asks this: each field of the offered frame inside its limit.
unfoldable pub is_offerable : Offered → Bool
is_offerable f = offered_time f.pts && (offered_time f.dts && good_duration f.duration)

-- Append one frame, with so many lines lent: refusals (1,) 2, 3, 4, 9 (the number), 7, 9 (the group), 8 in that order.
unfoldable pub append : ℕ → Offered → Buffer → CallResult Outcome
append lent f b =
    refuse_if (ltb lent places) ShortFates
    (refuse_if (not (has_track b f.track)) NoTrack
    (refuse_if (not (is_offerable f)) FrameLimits
    (refuse_if (eqb b.last last_number) LastNumber
    (refuse_if (leaves_limits b f) ResultLimits
    (refuse_if (lacks_group b f) LastNumber
    (refuse_if (ltb places (length (appended_outcome b f).after.frames)) Full
    (Ok (appended_outcome b f))))))))
