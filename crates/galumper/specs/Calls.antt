-- What each exported call answers, from the call's own definition: after a refusal the flat head that was handed in, else the new
-- head laid flat; the refusal number, 0 where there is none, and the count beside it.
use Rattle.std.specs.Prelude.{Bool, not, List, map, ℕ, eqb, ℤ, Float, length, Option, Ok, Err}
use Rattle.seconds.specs.Seconds.{zero_seconds}
use Rattle.buffer_state.specs.declared.Accepted.{Accepted}
use Rattle.buffer_state.specs.declared.Head.{Head}
use Rattle.buffer_state.specs.declared.Reading as Settings
use Rattle.buffer_state.specs.declared.Refusal.{Refusal}
use Rattle.buffer_state.specs.Answers.{zero_head, append_result, remove_result, batch_result}
use Rattle.buffer_state.specs.Append.{Outcome}
use Rattle.buffer_state.specs.Batch as Rows
use Rattle.buffer_state.specs.Batch.{Batch}
use Rattle.buffer_state.specs.Buffer.{Buffer}
use Rattle.buffer_state.specs.Lent.{head_of}
use Rattle.buffer_state.specs.Refusals.{CallResult, refusal_number, stop_number}
use Rattle.buffer_state.specs.declared.Start.{Start}
use Rattle.buffer_state.specs.declared.WindowEnd.{WindowEnd}
use Rattle.buffer_state.specs.declared.WindowEnd.TheVariants.{Unbounded, At}
use Rattle.feed.specs.declared.Part.{Part}
use Rattle.lumps.specs.Lumps.{Taken, last_result}
use Rattle.lumps.specs.Readers.{reader_of}
use Rattle.lumps.specs.declared.LumpReader.{LumpReader}
use Rattle.galumper.specs.declared.Answered.{Answered}
use Rattle.galumper.specs.declared.FlatAnswer.{FlatAnswer}
use Rattle.galumper.specs.declared.FlatBatched.{FlatBatched}
use Rattle.galumper.specs.declared.FlatHead.{FlatHead}
use Rattle.galumper.specs.declared.FlatLumped.{FlatLumped}
use Rattle.galumper.specs.declared.FlatLumpReader.{FlatLumpReader}
use Rattle.galumper.specs.declared.FlatOffered.{FlatOffered}
use Rattle.galumper.specs.declared.FlatPart.{FlatPart}
use Rattle.galumper.specs.declared.FlatSegmentTrack.{FlatSegmentTrack}
use Rattle.galumper.specs.declared.FlatStart.{FlatStart}
use Rattle.galumper.specs.declared.Reading.{Reading}
use Rattle.galumper.specs.Flat.{head_in, head_out, offered_in, segment_track_in, reader_in, reader_out}

-- the head as it came, with the refusal's number
abbrev pub refused_with : FlatHead → ℕ → Answered
refused_with c why = record { head = c; answer = record { refusal = why; count = 0 } }

-- the head after the call, and its count
abbrev pub done_with : Head → ℕ → Answered
done_with h n = record { head = head_out h; answer = record { refusal = 0; count = n } }

-- by a call's answer and the head after it
abbrev pub answered_out : FlatHead → CallResult ℕ → Head → Answered
answered_out c (Err why) h = refused_with c (refusal_number why)
answered_out c (Ok n) h = done_with h n

-- ---- creation, abort and the setters

abbrev pub handed_back : FlatHead → CallResult Buffer → Answered
handed_back c (Err why) = refused_with c (refusal_number why)
handed_back c (Ok b) = done_with (head_of b) 0

-- creation: after a refusal the head of zeros
abbrev pub created_out : CallResult Buffer → Answered
created_out = handed_back (head_out zero_head)

-- ---- append and remove

abbrev pub append_flat : ℕ → FlatOffered → FlatHead → List (List ℤ) → List (List ℕ) → CallResult Outcome
append_flat lent f c = append_result lent (offered_in f) (head_in c)

abbrev pub remove_flat : ℕ → Float → Float → FlatHead → List (List ℤ) → List (List ℕ) → CallResult Outcome
remove_flat lent start end c = remove_result lent start end (head_in c)

abbrev pub outcome_out : FlatHead → CallResult Outcome → Answered
outcome_out c (Err why) = refused_with c (refusal_number why)
outcome_out c (Ok o) = done_with (head_of o.after) (length o.lines)

-- ---- a batch

abbrev pub whole_refused : FlatHead → ℕ → FlatBatched
whole_refused c why = record { head = c; answer = record { refusal = why; stop = 0; accepted = 0; count = 0 } }

abbrev pub accepted_with : Head → ℕ → ℕ → Option Refusal → FlatBatched
accepted_with h frames lines stop = record { head = head_out h; answer = record { refusal = 0; stop = stop_number stop; accepted = frames; count = lines } }

-- by its answer and the head after it
abbrev pub batched_out : FlatHead → CallResult Accepted → Head → FlatBatched
batched_out c (Err why) h = whole_refused c (refusal_number why)
batched_out c (Ok a) h = accepted_with h a.frames a.lines a.stop

abbrev pub batch_flat : ℕ → List (List ℤ) → FlatHead → List (List ℤ) → List (List ℕ) → CallResult Batch
batch_flat lent rows c = batch_result lent (map Rows.offered_in rows) (head_in c)

abbrev pub batch_out : FlatHead → CallResult Batch → FlatBatched
batch_out c (Err why) = whole_refused c (refusal_number why)
batch_out c (Ok r) = accepted_with (head_of r.outcome.after) r.accepted (length r.outcome.lines) r.stop

-- ---- the reports

abbrev pub report_out : CallResult ℕ → FlatAnswer
report_out (Err why) = record { refusal = refusal_number why; count = 0 }
report_out (Ok n) = record { refusal = 0; count = n }

-- ---- where to start decoding: after a refusal, zeros beside its number

abbrev pub no_start : ℕ → FlatStart
no_start why = record { refusal = why; target = 0; flagged = 0; count = 0 }

abbrev pub start_out : CallResult Start → FlatStart
start_out (Err why) = no_start (refusal_number why)
start_out (Ok s) = record { refusal = 0; target = s.target; flagged = s.flagged; count = s.count }

-- ---- what to feed

-- a flag as C has it
abbrev pub is_nonzero : ℕ → Bool
is_nonzero n = not (eqb n 0)

abbrev pub part_in : FlatPart → Part
part_in p = record { start = p.start; length = p.length }

-- ---- a lump: after a refusal the reader as it came

abbrev pub lumped_out : FlatLumpReader → CallResult ℕ → LumpReader → FlatLumped
lumped_out c (Ok n) r = record { reader = reader_out r; answer = record { refusal = 0; count = n } }
lumped_out c (Err why) r = record { reader = c; answer = record { refusal = refusal_number why; count = 0 } }

abbrev pub last_flat : FlatSegmentTrack → ℕ → FlatLumpReader → List ℕ → List ℕ → CallResult Taken
last_flat of places c = last_result (segment_track_in of) places (reader_in c)

abbrev pub lump_out : FlatLumpReader → CallResult Taken → FlatLumped
lump_out c (Err why) = record { reader = c; answer = record { refusal = refusal_number why; count = 0 } }
lump_out c (Ok t) = record { reader = reader_out (reader_of t.reading); answer = record { refusal = 0; count = length t.rows } }

-- ---- the settings, read

-- no window end: a flag beside a double that is zero
abbrev pub bounded_in : WindowEnd → ℕ
bounded_in Unbounded = 0
bounded_in (At x) = 1

abbrev pub end_in : WindowEnd → Float
end_in Unbounded = zero_seconds
end_in (At x) = x

abbrev pub reading_out : CallResult Settings.Reading → Reading
reading_out (Err why) = record { refusal = refusal_number why; bounded = 0; offset = zero_seconds; start = zero_seconds; end = zero_seconds }
reading_out (Ok r) = record { refusal = 0; bounded = bounded_in r.end; offset = r.offset; start = r.start; end = end_in r.end }
