-- A call as it is made and what it hands back, in the types of the code, with every lent list as it was and as it is afterwards;
-- and the same in the words of the plain run.
use Rattle.std.specs.Prelude.{◌≡◌, List, [], ◌∷◌, ◌++◌, map, ℕ, ℤ, pos, Float, length, take, drop, get_or, Ok, Err}
use Rattle.std.specs.Result.{result_unwrap_or}
use Rattle.buffer_state.specs.declared.Accepted.{Accepted}
use Rattle.buffer_state.specs.declared.Mode.{Mode}
use Rattle.buffer_state.specs.declared.Offered.{Offered}
use Rattle.buffer_state.specs.declared.Reading.{Reading}
use Rattle.buffer_state.specs.declared.Start.{Start}
use Rattle.buffer_state.specs.Batch.{offered_in}
use Rattle.buffer_state.specs.Ranges.{Range}
use Rattle.buffer_state.specs.Refusals.{CallResult}
use Rattle.buffer_state.specs.Run.{Call, append_call, remove_call, abort_call, mode_call, offset_call, window_start_call, window_end_call, read_call, ranges_call, common_call, batch_call, walked_call, seek_call, Answer, ok, fates, settings, ranges, accepted, taken, decoding, Entry}
use Rattle.buffer_state.specs.Store.{Line}

-- ---- a call

-- every argument except the state; of a lent list, what it holds; of a walk, the track and how many places it has room for; of a
-- seek, the track and the instant
pub data Given : Type 0 where
  append : Offered → List (List ℕ) → Given
  remove : Float → Float → List (List ℕ) → Given
  abort : Given
  set_mode : Mode → Given
  set_offset : Float → Given
  set_window_start : Float → Given
  set_window_end : Float → Given
  read_settings : Given
  track_ranges : ℕ → List (List ℤ) → Given
  common_ranges : List (List ℤ) → Given
  batch : List (List ℤ) → List (List ℕ) → Given
  walked : ℕ → ℕ → Given
  seek : ℕ → ℤ → Given

-- what the plain run is fed of it: the arguments, and how many places a lent list has
abbrev pub asked_call : Given → Call
asked_call (append f lent) = append_call (length lent) f
asked_call (remove start end lent) = remove_call (length lent) start end
asked_call abort = abort_call
asked_call (set_mode m) = mode_call m
asked_call (set_offset x) = offset_call x
asked_call (set_window_start x) = window_start_call x
asked_call (set_window_end x) = window_end_call x
asked_call read_settings = read_call
asked_call (track_ranges track lent) = ranges_call (length lent) track
asked_call (common_ranges lent) = common_call (length lent)
asked_call (batch rows lent) = batch_call (length lent) (map offered_in rows)
asked_call (walked track room) = walked_call room track
asked_call (seek track t) = seek_call track t

-- ---- what it hands back beside the state

-- what a call that is lent a list gives, and the list afterwards
pub record Listed (R A : Type 0) : Type 0 where
  pub answer : CallResult R
  pub after : List A

abbrev pub Back : Given → Type 0
Back (append f lent) = Listed ℕ (List ℕ)
Back (remove start end lent) = Listed ℕ (List ℕ)
Back abort = CallResult (Unit {0})
Back (set_mode m) = CallResult (Unit {0})
Back (set_offset x) = CallResult (Unit {0})
Back (set_window_start x) = CallResult (Unit {0})
Back (set_window_end x) = CallResult (Unit {0})
Back read_settings = CallResult Reading
Back (track_ranges track lent) = Listed ℕ (List ℤ)
Back (common_ranges lent) = Listed ℕ (List ℤ)
Back (batch rows lent) = Listed Accepted (List ℕ)
Back (walked track room) = CallResult ℕ
Back (seek track t) = CallResult Start

pub record Made : Type 0 where
  pub given : Given
  pub back : Back given

-- ---- the same in the run's words

-- a place of a fate list: number, then cause
abbrev pub line_of : List ℕ → Line
line_of place = record { number = get_or place 0 0; cause = get_or place 1 0 }

-- a place of a range list: its start, then its end
abbrev pub range_of : List ℤ → Range
range_of place = record { start = get_or place 0 (pos 0); end = get_or place 1 (pos 0) }

-- a result as one of the run's; a refusal stays
abbrev pub told : {R : Type 0} → (R → Answer) → CallResult R → CallResult Answer
told say (Err why) = Err why
told say (Ok x) = Ok (say x)

-- What counts is what the list holds, up to the count, when the call returns; a refused call hands out none.
abbrev pub lines_of : Listed ℕ (List ℕ) → CallResult Answer
lines_of l = told (λ (n : ℕ). fates (map line_of (take n l.after))) l.answer

abbrev pub joined_of : Listed Accepted (List ℕ) → CallResult Answer
joined_of l = told (λ (a : Accepted). accepted a.frames a.stop (map line_of (take a.lines l.after))) l.answer

abbrev pub ranges_of : Listed ℕ (List ℤ) → CallResult Answer
ranges_of l = told (λ (n : ℕ). ranges (map range_of (take n l.after))) l.answer

abbrev pub done_of : CallResult (Unit {0}) → CallResult Answer
done_of = told (λ (u : Unit {0}). ok)

abbrev pub result_of : (g : Given) → Back g → CallResult Answer
result_of (append f lent) l = lines_of l
result_of (remove start end lent) l = lines_of l
result_of abort r = done_of r
result_of (set_mode m) r = done_of r
result_of (set_offset x) r = done_of r
result_of (set_window_start x) r = done_of r
result_of (set_window_end x) r = done_of r
result_of read_settings r = told settings r
result_of (track_ranges track lent) l = ranges_of l
result_of (common_ranges lent) l = ranges_of l
result_of (batch rows lent) l = joined_of l
result_of (walked track room) r = told taken r
result_of (seek track t) r = told decoding r

abbrev pub calls : List Made → List Call
calls = map (λ (m : Made). asked_call m.given)

abbrev pub entries : List Made → List Entry
entries = map (λ (m : Made). record { call = asked_call m.given; result = result_of m.given m.back })

-- ---- what stays of a lent list

-- past so many places, it holds what it held
abbrev pub KeptPast : {A : Type 0} → ℕ → List A → List A → Type 0
KeptPast n lent after = after ≡ take n after ++ drop n lent

-- past those that the answer says were written, none where the call was refused
abbrev pub Kept : {A : Type 0} → List A → Listed ℕ A → Type 0
Kept lent l = KeptPast (result_unwrap_or l.answer 0) lent l.after

abbrev pub written_lines : CallResult Accepted → ℕ
written_lines (Err why) = 0
written_lines (Ok a) = a.lines

abbrev pub KeptBy : (g : Given) → Back g → Type 0
KeptBy (append f lent) l = Kept lent l
KeptBy (remove start end lent) l = Kept lent l
KeptBy abort r = Unit {0}
KeptBy (set_mode m) r = Unit {0}
KeptBy (set_offset x) r = Unit {0}
KeptBy (set_window_start x) r = Unit {0}
KeptBy (set_window_end x) r = Unit {0}
KeptBy read_settings r = Unit {0}
KeptBy (track_ranges track lent) l = Kept lent l
KeptBy (common_ranges lent) l = Kept lent l
KeptBy (batch rows lent) l = KeptPast (written_lines l.answer) lent l.after
KeptBy (walked track room) r = Unit {0}
KeptBy (seek track t) r = Unit {0}

abbrev pub AllKept : List Made → Type 0
AllKept [] = Unit {0}
AllKept (m ∷ ms) = KeptBy m.given m.back × AllKept ms
