-- Document 01, "The whole account": the plain run over a list of calls, and what it counts.
use Rattle.std.specs.Prelude.{Bool, cond, ◌&&◌, List, [], ◌∷◌, ◌++◌, map, ℕ, ◌+◌, ◌-◌, leb, eqb, ℤ, Float, take, get_or, Option, Ok, Err}
use Rattle.buffer_state.specs.declared.Frame.{Frame}
use Rattle.buffer_state.specs.declared.Mode.{Mode}
use Rattle.buffer_state.specs.declared.Offered.{Offered}
use Rattle.buffer_state.specs.declared.Refusal.{Refusal}
use Rattle.buffer_state.specs.Buffer.{Buffer}
use Rattle.buffer_state.specs.Refusals.{CallResult}
use Rattle.buffer_state.specs.Store.{Line}
use Rattle.buffer_state.specs.Append.{Outcome, append}
use Rattle.buffer_state.specs.Batch.{Batch, batch}
use Rattle.buffer_state.specs.Remove.{remove}
use Rattle.buffer_state.specs.declared.Reading.{Reading}
use Rattle.buffer_state.specs.Settings.{abort, mode_set, offset_set, window_start_set, window_end_set, reading}
use Rattle.buffer_state.specs.Ranges.{Range, track_ranges, common_ranges}
use Rattle.buffer_state.specs.Walked.{walked}
use Rattle.buffer_state.specs.declared.Start.{Start}
use Rattle.buffer_state.specs.Seek.{seek}

-- a call with its arguments except the state; of a lent list, how many places it has
pub data Call : Type 0 where
  append_call : ℕ → Offered → Call
  remove_call : ℕ → Float → Float → Call
  abort_call : Call
  mode_call : Mode → Call
  offset_call : Float → Call
  window_start_call : Float → Call
  window_end_call : Float → Call
  read_call : Call
  ranges_call : ℕ → ℕ → Call
  common_call : ℕ → Call
  batch_call : ℕ → List Offered → Call
  walked_call : ℕ → ℕ → Call
  seek_call : ℕ → ℤ → Call

-- what a call that is not refused hands out
pub data Answer : Type 0 where
  ok : Answer
  fates : List Line → Answer
  settings : Reading → Answer
  ranges : List Range → Answer
  accepted : ℕ → Option Refusal → List Line → Answer
  taken : ℕ → Answer
  decoding : Start → Answer

-- a call's result, and the buffer after it
pub record Reply : Type 0 where
  pub result : CallResult Answer
  pub after : Buffer

-- ---- one call: a refusal changes nothing, and neither does a call that only reads

abbrev pub by_outcome : Buffer → CallResult Outcome → Reply
by_outcome b (Err why) = record { result = Err why; after = b }
by_outcome b (Ok o) = record { result = Ok (fates o.lines); after = o.after }

abbrev pub by_setting : Buffer → CallResult Buffer → Reply
by_setting b (Err why) = record { result = Err why; after = b }
by_setting b (Ok c) = record { result = Ok ok; after = c }

abbrev pub by_ranges : Buffer → CallResult (List Range) → Reply
by_ranges b (Err why) = record { result = Err why; after = b }
by_ranges b (Ok rs) = record { result = Ok (ranges rs); after = b }

-- that a batch was stopped is a result
abbrev pub by_batch : Buffer → CallResult Batch → Reply
by_batch b (Err why) = record { result = Err why; after = b }
by_batch b (Ok r) = record { result = Ok (accepted r.accepted r.stop r.outcome.lines); after = r.outcome.after }

abbrev pub by_walked : Buffer → CallResult ℕ → Reply
by_walked b (Err why) = record { result = Err why; after = b }
by_walked b (Ok n) = record { result = Ok (taken n); after = b }

abbrev pub by_seek : Buffer → CallResult Start → Reply
by_seek b (Err why) = record { result = Err why; after = b }
by_seek b (Ok s) = record { result = Ok (decoding s); after = b }

unfoldable pub reply_to : Call → Buffer → Reply
reply_to (append_call lent f) b = by_outcome b (append lent f b)
reply_to (remove_call lent start end) b = by_outcome b (remove lent start end b)
reply_to abort_call b = by_setting b (abort b)
reply_to (mode_call m) b = record { result = Ok ok; after = mode_set m b }
reply_to (offset_call x) b = by_setting b (offset_set x b)
reply_to (window_start_call x) b = by_setting b (window_start_set x b)
reply_to (window_end_call x) b = by_setting b (window_end_set x b)
reply_to read_call b = record { result = Ok (settings (reading b)); after = b }
reply_to (ranges_call lent track) b = by_ranges b (track_ranges lent track b)
reply_to (common_call lent) b = by_ranges b (common_ranges lent b)
reply_to (batch_call lent fs) b = by_batch b (batch lent fs b)
reply_to (walked_call lent track) b = by_walked b (walked lent track b)
reply_to (seek_call track t) b = by_seek b (seek track t b)

-- ---- the run

-- a call of the run, with its result
pub record Entry : Type 0 where
  pub call : Call
  pub result : CallResult Answer

unfoldable pub run : Buffer → List Call → List Entry
run b [] = []
run b (c ∷ cs) = let r = reply_to c b in record { call = c; result = r.result } ∷ run r.after cs

unfoldable pub last_of : Buffer → List Call → Buffer
last_of b [] = b
last_of b (c ∷ cs) = last_of (reply_to c b).after cs

-- ---- what it counts

-- A list may be lent again; what counts is what it holds, up to the count, when its call returns.
abbrev pub lines_in : CallResult Answer → List Line
lines_in (Err why) = []
lines_in (Ok ok) = []
lines_in (Ok (fates ls)) = ls
lines_in (Ok (settings r)) = []
lines_in (Ok (ranges rs)) = []
lines_in (Ok (accepted n stop ls)) = ls
lines_in (Ok (taken n)) = []
lines_in (Ok (decoding s)) = []

-- the lines that a run hands out
unfoldable pub handed_out : List Entry → List Line
handed_out [] = []
handed_out (e ∷ es) = lines_in e.result ++ handed_out es

-- how many frames of a batch were accepted
abbrev pub accepted_in : CallResult Answer → ℕ
accepted_in (Err why) = 0
accepted_in (Ok ok) = 0
accepted_in (Ok (fates ls)) = 0
accepted_in (Ok (settings r)) = 0
accepted_in (Ok (ranges rs)) = 0
accepted_in (Ok (accepted n stop ls)) = n
accepted_in (Ok (taken n)) = 0
accepted_in (Ok (decoding s)) = 0

-- The tracks of the frames offered by a call: of an append that is not refused, the one that it names; of a batch those that its
-- accepted frames name, in list order.
abbrev pub offered_by : Call → CallResult Answer → List ℕ
offered_by (append_call lent f) (Err why) = []
offered_by (append_call lent f) (Ok a) = f.track ∷ []
offered_by (remove_call lent start end) r = []
offered_by abort_call r = []
offered_by (mode_call m) r = []
offered_by (offset_call x) r = []
offered_by (window_start_call x) r = []
offered_by (window_end_call x) r = []
offered_by read_call r = []
offered_by (ranges_call lent track) r = []
offered_by (common_call lent) r = []
offered_by (batch_call lent fs) r = map (λ (f : Offered). f.track) (take (accepted_in r) fs)
offered_by (walked_call lent track) r = []
offered_by (seek_call track t) r = []

-- the tracks of all frames offered in a run: the n-th over all tracks is frame n
unfoldable pub offers : List Entry → List ℕ
offers [] = []
offers (e ∷ es) = offered_by e.call e.result ++ offers es

abbrev pub track_offered : List ℕ → ℕ → ℕ
track_offered tracks n = get_or tracks (n - 1) 0

-- a stored frame stands on the track on which its number was offered
abbrev pub on_offered : List ℕ → Frame → Bool
on_offered tracks f = eqb f.track (track_offered tracks f.number)

-- the sum of a number for each element
unfoldable pub total : {A : Type 0} → (A → ℕ) → List A → ℕ
total w [] = 0
total w (x ∷ xs) = w x + total w xs

-- how many elements pass
unfoldable pub count : {A : Type 0} → (A → Bool) → List A → ℕ
count p = total (λ x. cond (p x) 1 0)

-- how often a number is found: on stored frames, and on the lines handed out
unfoldable pub found_stored : ℕ → Buffer → ℕ
found_stored k b = count (λ (f : Frame). eqb k f.number) b.frames

unfoldable pub found_told : ℕ → List Entry → ℕ
found_told k es = count (λ (l : Line). eqb k l.number) (handed_out es)

-- Offered on a track: the frames of the run's appends that name it and were not refused.
unfoldable pub offered_on : ℕ → List Entry → ℕ
offered_on track es = count (eqb track) (offers es)

-- Stored: the track's frames in the last state.
unfoldable pub stored_on : ℕ → Buffer → ℕ
stored_on track b = count (λ (f : Frame). eqb track f.track) b.frames

-- A line counts for the track on which its frame was offered: dropped with causes 1 to 3, removed with 4 to 6.
unfoldable pub told_on : ℕ → ℕ → ℕ → List Entry → ℕ
told_on least most track es =
    count (λ (l : Line). eqb track (track_offered (offers es) l.number) && (leb least l.cause && leb l.cause most)) (handed_out es)

abbrev pub dropped_on : ℕ → List Entry → ℕ
dropped_on = told_on 1 3

abbrev pub removed_on : ℕ → List Entry → ℕ
removed_on = told_on 4 6
