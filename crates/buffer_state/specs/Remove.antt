-- Document 01, "Removing, aborting, setting": removing a stretch of time.
use Rattle.std.specs.Prelude.{Bool, true, false, cond, not, ◌&&◌, ◌||◌, List, [], ◌∷◌, ℕ, ltb, eqb, ℤ, pos, Float, Ok}
use Rattle.std.specs.Int.Signed.{lt_z, le_z}
use Rattle.seconds.specs.Seconds.{Bound, unbounded, at, is_convertible, is_convertible_end, micros_of, bound_of, same_int}
use Rattle.buffer_state.specs.declared.Frame.{Frame}
use Rattle.buffer_state.specs.declared.Refusal.TheVariants.{ShortFates, Seconds, Order, LastNumber}
use Rattle.buffer_state.specs.Buffer.{Buffer, with_frames, track_of, in_last_group}
use Rattle.buffer_state.specs.Limits.{places}
use Rattle.buffer_state.specs.Refusals.{CallResult, refuse_if}
use Rattle.buffer_state.specs.Store.{Marked, is_taken, mark_where, walk, kept, lines_of}
use Rattle.buffer_state.specs.Append.{Outcome, regrouped_buffer}

-- z is before the bound
abbrev pub before_bound : ℤ → Bound → Bool
before_bound z unbounded = true
before_bound z (at e) = lt_z z e

abbrev pub earlier_of : ℤ → Bound → Bound
earlier_of z b = cond (before_bound z b) (at z) b

-- The far edge on a track: the smallest presentation time of a flagged frame at or after E, or no edge if there is none.
unfoldable pub far_edge : ℕ → Bound → List Frame → Bound
far_edge track e [] = unbounded
far_edge track e (f ∷ fs) =
    let rest = far_edge track e fs in
    cond (eqb f.track track && (f.flagged && not (before_bound f.pts e))) (earlier_of f.pts rest) rest

-- Frames from S up to the edge of their track go, cause 6, then walk as in step 8, cause 5.
unfoldable pub removal_marks : ℤ → Bound → List Frame → List Marked
removal_marks s e fs = walk (mark_where (λ (f : Frame). le_z s f.pts && before_bound f.pts (far_edge f.track e fs)) 6 fs)

-- a lost frame whose decode time equals its track's last decode time
abbrev pub ends_track : Buffer → Marked → Bool
ends_track b m = is_taken m && ((track_of b m.frame.track).known && same_int m.frame.dts (track_of b m.frame.track).dts)

-- If any track lost such a frame, by cause 6 or 5 (the Recommendation looks only at the former), the first of them in
-- fate-list order: in segments mode group end is its presentation time, in sequence mode group start = group end; then
-- unset the three on all tracks, which begins the next group, and turn need-random-access on for all.
unfoldable pub after_loss : List Marked → Buffer → Buffer
after_loss [] b = b
after_loss (m ∷ ms) b = let rest = after_loss ms b in cond (ends_track b m) (regrouped_buffer b m.frame.pts) rest

-- whether there is such a frame
unfoldable pub ends_any : List Marked → Buffer → Bool
ends_any [] b = false
ends_any (m ∷ ms) b = ends_track b m || ends_any ms b

-- Refusal 9 asks this: the removal would begin a group after the last one.
unfoldable pub removal_lacks_group : ℤ → Bound → Buffer → Bool
removal_lacks_group s e b = ends_any (removal_marks s e b.frames) b && in_last_group b

unfoldable pub removed_outcome : ℤ → Bound → Buffer → Outcome
removed_outcome s e b =
    let marks = removal_marks s e b.frames in
    record { after = with_frames (after_loss marks b) (kept marks); lines = lines_of marks }

-- Remove from one time in seconds to another, with so many lines lent: refusals (1,) 2, 5, 6, 9 in that order. Both times
-- are judged for 5 before either for 6, which compares microseconds.
unfoldable pub remove : ℕ → Float → Float → Buffer → CallResult Outcome
remove lent start end b =
    refuse_if (ltb lent places) ShortFates
    (refuse_if (not (is_convertible start) || not (is_convertible_end end)) Seconds
    (refuse_if (lt_z (micros_of start) (pos 0) || not (before_bound (micros_of start) (bound_of end))) Order
    (refuse_if (removal_lacks_group (micros_of start) (bound_of end) b) LastNumber
    (Ok (removed_outcome (micros_of start) (bound_of end) b)))))
