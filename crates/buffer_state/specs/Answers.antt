-- What the calls on a head and two lent arrays answer, in the types of the code, and what they leave there: the result of each call's
-- definition, refusal 1 first.
use Rattle.std.specs.Prelude.{List, [], ◌∷◌, ◌++◌, map, ℕ, ℤ, Float, length, drop, Result, Ok, Err}
use Rattle.buffer_state.specs.declared.Accepted.{Accepted}
use Rattle.buffer_state.specs.declared.Head.{Head}
use Rattle.buffer_state.specs.declared.Mode.{Mode}
use Rattle.buffer_state.specs.declared.Offered.{Offered}
use Rattle.buffer_state.specs.declared.Refusal.{Refusal}
use Rattle.buffer_state.specs.Append.{Outcome, append}
use Rattle.buffer_state.specs.Batch.{Batch, batch}
use Rattle.buffer_state.specs.Buffer.{Buffer, fresh}
use Rattle.buffer_state.specs.Lent.{head_of, times_in, tags_in, on_lent}
use Rattle.buffer_state.specs.Ranges.{Range, track_ranges, common_ranges}
use Rattle.buffer_state.specs.Refusals.{CallResult}
use Rattle.buffer_state.specs.Remove.{remove}
use Rattle.buffer_state.specs.declared.Reading.{Reading}
use Rattle.buffer_state.specs.Settings.{abort, mode_set, offset_set, window_start_set, window_end_set, reading}
use Rattle.buffer_state.specs.Store.{Line}
use Rattle.buffer_state.specs.declared.Start.{Start}
use Rattle.buffer_state.specs.Seek.{seek}
use Rattle.buffer_state.specs.Walked.{walked}

-- ---- creation: the head of the buffer, and what the arrays hold after the call; a refused one makes no buffer, and what is lent stays

abbrev pub created : CallResult Buffer → Result Head Refusal
created (Err why) = Err why
created (Ok b) = Ok (head_of b)

abbrev pub times_created : CallResult Buffer → List (List ℤ) → List (List ℤ)
times_created (Err why) before = before
times_created (Ok b) before = times_in b

abbrev pub tags_created : CallResult Buffer → List (List ℕ) → List (List ℕ)
tags_created (Err why) before = before
tags_created (Ok b) before = tags_in b

-- the head of zeros, which is not well-formed: what stands for a head where there is no buffer
abbrev pub zero_head : Head
zero_head = head_of (fresh [])

-- ---- abort and the setters: the answer, and the head after the call; after a refusal, the one that was handed

abbrev pub set_answer : CallResult Buffer → Result (Unit {0}) Refusal
set_answer (Err why) = Err why
set_answer (Ok b) = Ok tt

abbrev pub head_set : CallResult Buffer → Head → Head
head_set (Err why) before = before
head_set (Ok b) before = head_of b

unfoldable pub abort_result : Head → List (List ℤ) → List (List ℕ) → CallResult Buffer
abort_result = on_lent abort

unfoldable pub mode_result : Mode → Head → List (List ℤ) → List (List ℕ) → CallResult Buffer
mode_result m = on_lent (λ (b : Buffer). Ok (mode_set m b))

unfoldable pub offset_result : Float → Head → List (List ℤ) → List (List ℕ) → CallResult Buffer
offset_result x = on_lent (offset_set x)

unfoldable pub window_start_result : Float → Head → List (List ℤ) → List (List ℕ) → CallResult Buffer
window_start_result x = on_lent (window_start_set x)

unfoldable pub window_end_result : Float → Head → List (List ℤ) → List (List ℕ) → CallResult Buffer
window_end_result x = on_lent (window_end_set x)

-- ---- reading the settings

unfoldable pub settings_result : Head → List (List ℤ) → List (List ℕ) → CallResult Reading
settings_result = on_lent (λ (b : Buffer). Ok (reading b))

-- ---- append and remove: how many lines, and what the head, the arrays and the lent fate list hold after the call

abbrev pub line_count : CallResult Outcome → Result ℕ Refusal
line_count (Err why) = Err why
line_count (Ok o) = Ok (length o.lines)

-- the head and the arrays: those that hold the buffer after the call; after a refusal, what they held
abbrev pub head_after : CallResult Outcome → Head → Head
head_after (Err why) before = before
head_after (Ok o) before = head_of o.after

abbrev pub times_after : CallResult Outcome → List (List ℤ) → List (List ℤ)
times_after (Err why) before = before
times_after (Ok o) before = times_in o.after

abbrev pub tags_after : CallResult Outcome → List (List ℕ) → List (List ℕ)
tags_after (Err why) before = before
tags_after (Ok o) before = tags_in o.after

-- a fate line as it is written: number, then cause
abbrev pub written : List Line → List (List ℕ)
written = map (λ (l : Line). l.number ∷ l.cause ∷ [])

-- the lines, then what the list held before; after a refusal, what it held
abbrev pub list_after : CallResult Outcome → List (List ℕ) → List (List ℕ)
list_after (Err why) before = before
list_after (Ok o) before = written o.lines ++ drop (length o.lines) before

unfoldable pub append_result : ℕ → Offered → Head → List (List ℤ) → List (List ℕ) → CallResult Outcome
append_result lent f = on_lent (append lent f)

unfoldable pub remove_result : ℕ → Float → Float → Head → List (List ℤ) → List (List ℕ) → CallResult Outcome
remove_result lent start end = on_lent (remove lent start end)

-- ---- a batch: how many frames were accepted, how many lines, what stopped it; the head, the arrays and the fate list are after it what
-- they are after one append with its outcome

abbrev pub batch_answer : CallResult Batch → Result Accepted Refusal
batch_answer (Err why) = Err why
batch_answer (Ok r) = Ok (record { frames = r.accepted; lines = length r.outcome.lines; stop = r.stop })

abbrev pub outcome_of : CallResult Batch → CallResult Outcome
outcome_of (Err why) = Err why
outcome_of (Ok r) = Ok r.outcome

unfoldable pub batch_result : ℕ → List Offered → Head → List (List ℤ) → List (List ℕ) → CallResult Batch
batch_result lent fs = on_lent (batch lent fs)

-- ---- the reports: how many ranges, and what the lent range list holds after the call

abbrev pub range_count : CallResult (List Range) → Result ℕ Refusal
range_count (Err why) = Err why
range_count (Ok rs) = Ok (length rs)

-- a range as it is written: its start, then its end
abbrev pub laid_ranges : List Range → List (List ℤ)
laid_ranges = map (λ (r : Range). r.start ∷ r.end ∷ [])

-- the ranges, then what the list held before; after a refusal, what it held
abbrev pub ranges_after : CallResult (List Range) → List (List ℤ) → List (List ℤ)
ranges_after (Err why) before = before
ranges_after (Ok rs) before = laid_ranges rs ++ drop (length rs) before

unfoldable pub track_ranges_result : ℕ → ℕ → Head → List (List ℤ) → List (List ℕ) → CallResult (List Range)
track_ranges_result lent track = on_lent (track_ranges lent track)

unfoldable pub common_ranges_result : ℕ → Head → List (List ℤ) → List (List ℕ) → CallResult (List Range)
common_ranges_result lent = on_lent (common_ranges lent)

-- ---- how many frames the walk of a report takes

unfoldable pub walked_result : ℕ → ℕ → Head → List (List ℤ) → List (List ℕ) → CallResult ℕ
walked_result lent track = on_lent (walked lent track)

-- ---- where to start decoding

unfoldable pub seek_result : ℕ → ℤ → Head → List (List ℤ) → List (List ℕ) → CallResult Start
seek_result track t = on_lent (seek track t)
