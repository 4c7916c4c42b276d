-- A call on a slot, in the definitions of the calls on a head and two arrays: what it is handed, and what the slot is after it. A refused
-- call leaves the slot whole, with what pokes left beside its buffer.
use Rattle.std.specs.Prelude.{List, ℕ, ℤ, Option, Some, Ok, Err}
use Rattle.buffer_state.specs.declared.Head.{Head}
use Rattle.buffer_state.specs.Answers.{abort_result, mode_result, offset_result, window_start_result, window_end_result, append_result, remove_result, track_ranges_result, common_ranges_result}
use Rattle.buffer_state.specs.Append.{Outcome}
use Rattle.buffer_state.specs.Buffer.{Buffer}
use Rattle.buffer_state.specs.Lent.{head_of, times_in, tags_in}
use Rattle.buffer_state.specs.Ranges.{Range}
use Rattle.buffer_state.specs.Refusals.{CallResult}
use Rattle.slot_calls.specs.declared.LinesCall.{LinesCall}
use Rattle.slot_calls.specs.declared.RangesCall.{RangesCall}
use Rattle.slot_calls.specs.declared.SettingCall.{SettingCall}
use Rattle.slots.specs.declared.Slot.{Slot}
use Rattle.slots.specs.Slots.{slot_of, handed_of}

-- what a call on a head and two arrays gives on a slot: it is handed the head that the slot hands out, and the slot's own stored frames
abbrev pub on_slot : {A : Type 0} → (Head → List (List ℤ) → List (List ℕ) → CallResult A) → Slot → CallResult A
on_slot call slot = call (handed_of slot) slot.times slot.tags

-- the slot that holds a buffer, and nothing beside it
abbrev pub slot_with : Buffer → Slot
slot_with b = slot_of (head_of b) (times_in b) (tags_in b)

-- creation: the new buffer, whatever the slot held; after a refusal, the slot as it was
abbrev pub slot_created : CallResult Buffer → Option Slot → Option Slot
slot_created (Err why) before = before
slot_created (Ok b) before = Some (slot_with b)

-- abort and the setters: the head after the call beside the frames as they stood; after a refusal, the slot as it was
abbrev pub slot_set : CallResult Buffer → Slot → Slot
slot_set (Err why) before = before
slot_set (Ok b) before = slot_of (head_of b) before.times before.tags

-- append, remove and a batch: the slot of the buffer after the call; after a refusal, the slot as it was
abbrev pub slot_after : CallResult Outcome → Slot → Slot
slot_after (Err why) before = before
slot_after (Ok o) before = slot_with o.after

-- ---- which call is asked for: the result of that call, on a head and two arrays

-- a call that writes fate lines, lent so many
abbrev pub lines_result : LinesCall → ℕ → Head → List (List ℤ) → List (List ℕ) → CallResult Outcome
lines_result (LinesCall.Append f) lent = append_result lent f
lines_result (LinesCall.Remove start end) lent = remove_result lent start end

-- a call that changes all but the frames
abbrev pub setting_result : SettingCall → Head → List (List ℤ) → List (List ℕ) → CallResult Buffer
setting_result SettingCall.Abort = abort_result
setting_result (SettingCall.Mode m) = mode_result m
setting_result (SettingCall.Offset x) = offset_result x
setting_result (SettingCall.WindowStart x) = window_start_result x
setting_result (SettingCall.WindowEnd x) = window_end_result x

-- a report, lent so many places
abbrev pub ranges_result : RangesCall → ℕ → Head → List (List ℤ) → List (List ℕ) → CallResult (List Range)
ranges_result (RangesCall.Track track) lent = track_ranges_result lent track
ranges_result RangesCall.Common lent = common_ranges_result lent
