-- An exported call as a program makes it, and what it answers, in numbers; and the same call in the words of the account (crate account).
use Rattle.std.specs.Prelude.{cond, List, [], ◌∷◌, ℕ, ◌-◌, T, eqb, ℤ, Float, get_or, Option, None, Some, Ok, Err}
use Rattle.std.specs.Float.{binary64}
use Rattle.std.specs.Float.Ieee.{fits}
use Rattle.buffer_state.specs.declared.Accepted.{Accepted}
use Rattle.buffer_state.specs.declared.Mode.TheVariants.{Segments, Sequence}
use Rattle.buffer_state.specs.declared.Reading as Settings
use Rattle.buffer_state.specs.declared.Refusal.{Refusal}
use Rattle.buffer_state.specs.declared.Refusal.TheVariants.{IllFormed, ShortFates, NoTrack, FrameLimits, Seconds, Order, ResultLimits, Full, LastNumber, ShortList, Kinds, Malformed, LentSize, LargeFragment, NoStart}
use Rattle.buffer_state.specs.declared.Start.{Start}
use Rattle.buffer_state.specs.declared.WindowEnd.TheVariants.{Unbounded, At}
use Rattle.buffer_state.specs.Refusals.{CallResult}
use Rattle.account.specs.Made as Account
use Rattle.account.specs.Made.{Given, Back, Made}
use Rattle.galumper.specs.declared.FlatAnswer.{FlatAnswer}
use Rattle.galumper.specs.declared.FlatBatch.{FlatBatch}
use Rattle.galumper.specs.declared.FlatOffered.{FlatOffered}
use Rattle.galumper.specs.declared.FlatStart.{FlatStart}
use Rattle.galumper.specs.declared.Reading.{Reading}
use Rattle.galumper.specs.Flat.{offered_in}

-- ---- a call, and what it answers

-- Every argument except the buffer; of a lent list, what it holds; of a walk, the track and how many places it has room for; of a seek, the
-- track and the instant. A double that is kept is one of the format: a program can pass no other.
pub data Ask : Type 0 where
  append : FlatOffered → List (List ℕ) → Ask
  remove : Float → Float → List (List ℕ) → Ask
  abort : Ask
  set_segments : Ask
  set_sequence : Ask
  set_offset : (x : Float) → T (fits binary64 x) → Ask
  set_window_start : (x : Float) → T (fits binary64 x) → Ask
  set_window_end : (x : Float) → T (fits binary64 x) → Ask
  read_settings : Ask
  track_ranges : ℕ → List (List ℤ) → Ask
  common_ranges : List (List ℤ) → Ask
  batch : List (List ℤ) → List (List ℕ) → Ask
  walked : ℕ → ℕ → Ask
  seek : ℕ → ℤ → Ask

-- an answer, and the lent list afterwards
pub record Filled (R A : Type 0) : Type 0 where
  pub answer : R
  pub after : List A

abbrev pub Got : Ask → Type 0
Got (append f lent) = Filled FlatAnswer (List ℕ)
Got (remove start end lent) = Filled FlatAnswer (List ℕ)
Got abort = FlatAnswer
Got set_segments = FlatAnswer
Got set_sequence = FlatAnswer
Got (set_offset x f) = FlatAnswer
Got (set_window_start x f) = FlatAnswer
Got (set_window_end x f) = FlatAnswer
Got read_settings = Reading
Got (track_ranges track lent) = Filled FlatAnswer (List ℤ)
Got (common_ranges lent) = Filled FlatAnswer (List ℤ)
Got (batch rows lent) = Filled FlatBatch (List ℕ)
Got (walked track room) = FlatAnswer
Got (seek track t) = FlatStart

pub record Told : Type 0 where
  pub ask : Ask
  pub got : Got ask

-- The numbers that a call answered: of its refusal, 0 where it was done; of the refusal that stopped a batch, 0 where none did, or how many
-- frames a walk took or a seek found to decode.
abbrev pub numbers_in : (a : Ask) → Got a → List ℕ
numbers_in (append f lent) g = g.answer.refusal ∷ 0 ∷ []
numbers_in (remove start end lent) g = g.answer.refusal ∷ 0 ∷ []
numbers_in abort g = g.refusal ∷ 0 ∷ []
numbers_in set_segments g = g.refusal ∷ 0 ∷ []
numbers_in set_sequence g = g.refusal ∷ 0 ∷ []
numbers_in (set_offset x f) g = g.refusal ∷ 0 ∷ []
numbers_in (set_window_start x f) g = g.refusal ∷ 0 ∷ []
numbers_in (set_window_end x f) g = g.refusal ∷ 0 ∷ []
numbers_in read_settings g = g.refusal ∷ 0 ∷ []
numbers_in (track_ranges track lent) g = g.answer.refusal ∷ 0 ∷ []
numbers_in (common_ranges lent) g = g.answer.refusal ∷ 0 ∷ []
numbers_in (batch rows lent) g = g.answer.refusal ∷ g.answer.stop ∷ []
numbers_in (walked track room) g = g.refusal ∷ g.count ∷ []
numbers_in (seek track t) g = g.refusal ∷ g.count ∷ []

-- ---- the same in the account's words

-- The refusal of a number of the table. That the number is the table's, and not one that is only taken for it, is a part of the claim.
abbrev pub refusal_of : ℕ → Refusal
refusal_of n =
    get_or (IllFormed ∷ ShortFates ∷ NoTrack ∷ FrameLimits ∷ Seconds ∷ Order ∷ ResultLimits ∷ Full ∷ LastNumber ∷ ShortList ∷ Kinds ∷ Malformed ∷ LentSize ∷ LargeFragment ∷ NoStart ∷ [])
    (n - 1) IllFormed

-- an answer's refusal, by its number, or what the answer gives
abbrev pub by_number : {A : Type 0} → ℕ → A → CallResult A
by_number n x = cond (eqb n 0) (Ok x) (Err (refusal_of n))

abbrev pub count_of : FlatAnswer → CallResult ℕ
count_of a = by_number a.refusal a.count

abbrev pub stop_of : ℕ → Option Refusal
stop_of n = cond (eqb n 0) None (Some (refusal_of n))

abbrev pub accepted_of : FlatBatch → CallResult Accepted
accepted_of a = by_number a.refusal (record { frames = a.accepted; lines = a.count; stop = stop_of a.stop })

abbrev pub done_of : FlatAnswer → CallResult (Unit {0})
done_of a = by_number a.refusal tt

abbrev pub read_of : Reading → CallResult Settings.Reading
read_of r = by_number r.refusal (record { offset = r.offset; start = r.start; end = cond (eqb r.bounded 1) (At r.end) Unbounded })

abbrev pub start_of : FlatStart → CallResult Start
start_of a = by_number a.refusal (record { target = a.target; flagged = a.flagged; count = a.count })

abbrev pub given : Ask → Given
given (append f lent) = Account.append (offered_in f) lent
given (remove start end lent) = Account.remove start end lent
given abort = Account.abort
given set_segments = Account.set_mode Segments
given set_sequence = Account.set_mode Sequence
given (set_offset x f) = Account.set_offset x
given (set_window_start x f) = Account.set_window_start x
given (set_window_end x f) = Account.set_window_end x
given read_settings = Account.read_settings
given (track_ranges track lent) = Account.track_ranges track lent
given (common_ranges lent) = Account.common_ranges lent
given (batch rows lent) = Account.batch rows lent
given (walked track room) = Account.walked track room
given (seek track t) = Account.seek track t

abbrev pub back : (a : Ask) → Got a → Back (given a)
back (append f lent) g = record { answer = count_of g.answer; after = g.after }
back (remove start end lent) g = record { answer = count_of g.answer; after = g.after }
back abort g = done_of g
back set_segments g = done_of g
back set_sequence g = done_of g
back (set_offset x f) g = done_of g
back (set_window_start x f) g = done_of g
back (set_window_end x f) g = done_of g
back read_settings g = read_of g
back (track_ranges track lent) g = record { answer = count_of g.answer; after = g.after }
back (common_ranges lent) g = record { answer = count_of g.answer; after = g.after }
back (batch rows lent) g = record { answer = accepted_of g.answer; after = g.after }
back (walked track room) g = count_of g
back (seek track t) g = start_of g

abbrev pub made : Told → Made
made t = record { given = given t.ask; back = back t.ask t.got }
