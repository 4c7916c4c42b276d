-- The run of a list of calls as numbers: the calls so encoded, what the lists hold after it, and when there is no run.
use Rattle.std.specs.Prelude.{◌≡◌, Bool, true, cond, ◌&&◌, List, [], ◌∷◌, ◌++◌, map, ℕ, zero, suc, ◌+◌, ◌-◌, leb, eqb, ℤ, Float, length, take, drop, get_or, Option, None, Some, Result, Ok, Err}
use Rattle.buffer_state.specs.Answers.{written, laid_ranges}
use Rattle.buffer_state.specs.Buffer.{Buffer, fresh}
use Rattle.buffer_state.specs.Lent.{Lent, lent_of, buffer_in}
use Rattle.buffer_state.specs.Refusals.{CallResult}
use Rattle.buffer_state.specs.Run.{Call, Answer, ok, fates, settings, ranges, accepted, taken, decoding, Entry, run, last_of, handed_out, accepted_in, total}
use Rattle.buffer_state.specs.Settings.{create}
use Rattle.buffer_state.specs.WellFormed.{good_buffer}
use Rattle.account.specs.Account.{IsAccount}
use Rattle.call_list.specs.declared.Ran.{Ran}
use Rattle.call_list.specs.declared.Unrun.{Unrun}
use Rattle.call_list.specs.declared.Unrun.TheVariants.{Unfit, Refused}
use Rattle.call_rows.specs.Encoded.{of_lines, of_ranges, row_call}
use Rattle.call_rows.specs.Replies.{lent, number_of, size_of, stop_in, target_in, flagged_in, doubles_in, ranges_in}

-- ---- the calls

-- of a number in a row, how much is about the frames of a batch
abbrev pub of_batch : ℕ → ℕ → ℕ
of_batch kind n = cond (eqb kind 10) n 0

-- A batch's row names its frames in the list of frames: the place of the first, where an append has its track, and how many, where an
-- append has its duration.
abbrev pub first_frame : List ℕ → ℕ
first_frame row = of_batch (get_or row 0 0) (get_or row 1 0)

abbrev pub frame_count : List ℕ → ℕ
frame_count row = of_batch (get_or row 0 0) (get_or row 3 0)

abbrev pub frames_of_row : List ℕ → List (List ℤ) → List (List ℤ)
frames_of_row row frames = take (frame_count row) (drop (first_frame row) frames)

-- the calls of the first so many rows
unfoldable pub first_calls : List (List ℕ) → List (List ℤ) → List (List Float) → List (List ℤ) → ℕ → List Call
first_calls rows stamps seconds frames zero = []
first_calls rows stamps seconds frames (suc i) =
    let row = get_or rows i [] in
    first_calls rows stamps seconds frames i ++ (row_call row (get_or stamps i []) (get_or seconds i []) (frames_of_row row frames) ∷ [])

abbrev pub encoded_calls : List (List ℕ) → List (List ℤ) → List (List Float) → List (List ℤ) → List Call
encoded_calls rows stamps seconds frames = first_calls rows stamps seconds frames (length rows)

-- ---- what the lists hold

-- a call's answer: its refusal number or 0; how many lines, ranges or doubles, or frames that a walk took or that a seek has to decode;
-- of a batch, how many frames were accepted, and the number of the refusal that stopped it or 0; of a seek, the numbers of its target and
-- of the flagged frame from which to decode
abbrev pub answer_of : Entry → List ℕ
answer_of e =
    number_of e.result ∷ size_of e.result ∷ accepted_in e.result ∷ stop_in e.result ∷ target_in e.result ∷ flagged_in e.result ∷ []

-- the doubles of a reading: offset, window start, window end
abbrev pub readings_in : CallResult Answer → List (List Float)
readings_in (Err why) = []
readings_in (Ok ok) = []
readings_in (Ok (fates ls)) = []
readings_in (Ok (settings r)) = doubles_in (Ok (settings r)) ∷ []
readings_in (Ok (ranges rs)) = []
readings_in (Ok (accepted n stop ls)) = []
readings_in (Ok (taken n)) = []
readings_in (Ok (decoding s)) = []

-- what all results have of one sort, in order
unfoldable pub all_out : {A : Type 0} → (CallResult Answer → List A) → List Entry → List A
all_out of [] = []
all_out of (e ∷ es) = of e.result ++ all_out of es

-- what a call of this kind notes of these doubles
abbrev pub noted : ℕ → List Float → List (List Float)
noted kind doubles = cond (eqb kind 7) (doubles ∷ []) []

-- a list with new elements at its front, so many, and then what it held
pub record Filled {A : Type 0} (new before after : List A) (n : ℕ) : Type 0 where
  pub count : n ≡ length new
  pub list : after ≡ new ++ drop n before
  pub same : length after ≡ length before

-- what the lent lists hold, and the arrays
pub record Lists : Type 0 where
  pub answers : List (List ℕ)
  pub lines : List (List ℕ)
  pub ranges : List (List ℤ)
  pub readings : List (List Float)
  pub times : List (List ℤ)
  pub tags : List (List ℕ)

abbrev pub lists_of : List (List ℕ) → List (List ℕ) → List (List ℤ) → List (List Float) → List (List ℤ) → List (List ℕ) → Lists
lists_of answers lines spans readings ts gs =
    record { answers = answers; lines = lines; ranges = spans; readings = readings; times = ts; tags = gs }

-- a head over the arrays
abbrev pub over : Lists → Ran → Lent
over l r = lent r.head l.times l.tags

-- the lists and the last state after calls on a buffer
pub record Replayed (b : Buffer) (cs : List Call) (r : Ran) (before after : Lists) : Type 0 where
  pub state : over after r ≡ lent_of (last_of b cs)
  pub answers : Filled (map answer_of (run b cs)) before.answers after.answers (length cs)
  pub lines : Filled (written (handed_out (run b cs))) before.lines after.lines r.lines
  pub ranges : Filled (laid_ranges (all_out ranges_in (run b cs))) before.ranges after.ranges r.ranges
  pub readings : Filled (all_out readings_in (run b cs)) before.readings after.readings r.readings

-- ---- when there is a run

-- a kind from 0 to 12, room for the call's lines, and a batch's frames inside the list of frames
abbrev pub row_fits : ℕ → ℕ → List ℕ → Bool
row_fits frames room row =
    leb (get_or row 0 0) 12 && (leb (of_lines (get_or row 0 0) (get_or row 4 0)) room && leb (first_frame row + frame_count row) frames)

-- the frames that a row offers
abbrev pub offers_of_row : List ℕ → ℕ
offers_of_row row = cond (eqb (get_or row 0 0) 0) 1 (frame_count row)

-- Room for each call's lines beside a line for each frame offered before it: in the end a frame that was accepted is stored or on one
-- line, so that the lines of all calls before are never more than the frames offered.
unfoldable pub rows_fit : ℕ → ℕ → List (List ℕ) → Bool
rows_fit frames room [] = true
rows_fit frames room (row ∷ rows) = row_fits frames room row && rows_fit frames (room - offers_of_row row) rows

abbrev pub ranges_of_row : List ℕ → ℕ
ranges_of_row row = of_ranges (get_or row 0 0) (get_or row 4 0)

-- stamps, seconds, answers and readings have a place for each call
abbrev pub long_enough : ℕ → ℕ → ℕ → ℕ → ℕ → Bool
long_enough n stamps seconds answers readings = leb n stamps && (leb n seconds && (leb n answers && leb n readings))

-- and the range list one for each that is asked for
unfoldable pub fits : List (List ℕ) → ℕ → ℕ → ℕ → ℕ → ℕ → ℕ → ℕ → Bool
fits rows stamps seconds frames answers lines spans readings =
    long_enough (length rows) stamps seconds answers readings && (rows_fit frames lines rows && leb (total ranges_of_row rows) spans)

-- of lists given whole
abbrev pub fits_in : List (List ℕ) → List (List ℤ) → List (List Float) → List (List ℤ) → Lists → Bool
fits_in rows stamps seconds frames l =
    fits rows (length stamps) (length seconds) (length frames) (length l.answers) (length l.lines) (length l.ranges) (length l.readings)

abbrev pub unmade : CallResult Buffer → Option Unrun
unmade (Err why) = Some (Refused why)
unmade (Ok b) = None

-- why there is no run, where there is none: unfit first, then the refusal of the creation
unfoldable pub unrun_for : List ℕ → Bool → Option Unrun
unrun_for kinds fit = cond fit (unmade (create kinds)) (Some Unfit)

-- THE CLAIM of a run: it is the plain run over the calls so encoded, and it accounts for every number.
pub record Claimed (kinds : List ℕ) (cs : List Call) (r : Ran) (before after : Lists) : Type 0 where
  pub replayed : Replayed (fresh kinds) cs r before after
  pub account : IsAccount (run (fresh kinds) cs) (over after r)

-- where there is no run, nothing is written
abbrev pub Ends : Result Ran Unrun → List ℕ → List Call → Lists → Lists → Type 0
Ends (Ok r) kinds cs before after = Claimed kinds cs r before after
Ends (Err why) kinds cs before after = after ≡ before

-- ---- the loop's premise

-- a state without frames that holds a good buffer
pub record IsBegun (s : Lent) : Type 0 where
  pub held : s ≡ lent_of (buffer_in s)
  pub good : good_buffer (buffer_in s) ≡ true
  pub empty : (buffer_in s).frames ≡ []
