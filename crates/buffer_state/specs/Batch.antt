-- Document 02, No. 2: a whole segment's frames in one call. A batch (the replay protocol's term) is up to 64 frames appended one by one
-- in list order, the fate lists joined; it stops at the first frame that is refused.
use Rattle.std.specs.Prelude.{Bool, cond, List, [], ◌∷◌, ◌++◌, ℕ, suc, ltb, ℤ, pos, nat_abs, length, get_or, Option, None, Some, Ok, Err}
use Rattle.seconds.specs.Seconds.{same_int}
use Rattle.buffer_state.specs.declared.Offered.{Offered}
use Rattle.buffer_state.specs.declared.Refusal.{Refusal}
use Rattle.buffer_state.specs.declared.Refusal.TheVariants.{ShortFates, LentSize}
use Rattle.buffer_state.specs.Append.{Outcome, append}
use Rattle.buffer_state.specs.Buffer.{Buffer}
use Rattle.buffer_state.specs.Limits.{is_within, places}
use Rattle.buffer_state.specs.Refusals.{CallResult, refuse_if}

-- ---- a row of numbers as an offered frame

-- A number that a field of 32 bits cannot hold is 0 there: no buffer has track 0, and no frame may have duration 0.
abbrev pub field_in : ℤ → ℕ
field_in z = cond (is_within (pos 0) (pos 4294967295) z) (nat_abs z) 0

abbrev pub is_flag : ℤ → Bool
is_flag = is_within (pos 0) (pos 1)

-- A row is what reading a segment lists: track, presentation time, decode time, duration, 1 if flagged else 0, size. With another flag
-- the frame has duration 0. The size is not read, as the buffer keeps none.
unfoldable pub offered_in : List ℤ → Offered
offered_in row =
    let at : ℕ → ℤ = λ (i : ℕ). get_or row i (pos 0) in
    record { track = field_in (at 0); flagged = same_int (at 4) (pos 1); duration = cond (is_flag (at 4)) (field_in (at 3)) 0; pts = at 1; dts = at 2 }

-- ---- the appends

-- What the appends up to the stop come to: the buffer after them and their lines joined; how many were accepted; what stopped them.
pub record Batch : Type 0 where
  pub outcome : Outcome
  pub accepted : ℕ
  pub stop : Option Refusal

-- no frame more is appended
abbrev pub ended : Buffer → Option Refusal → Batch
ended b why = record { outcome = record { after = b; lines = [] }; accepted = 0; stop = why }

-- a frame that is accepted, then the others
abbrev pub onward : Outcome → Batch → Batch
onward o rest = record {
  outcome = record { after = rest.outcome.after; lines = o.lines ++ rest.outcome.lines };
  accepted = suc rest.accepted;
  stop = rest.stop;
}

-- A frame that is refused stops the batch and changes nothing; one that is accepted stays.
abbrev pub following_batch : (Buffer → Batch) → Buffer → CallResult Outcome → Batch
following_batch others b (Err why) = ended b (Some why)
following_batch others b (Ok o) = onward o (others o.after)

-- One by one, each as if lent 1,024 lines of its own.
unfoldable pub append_each : List Offered → Buffer → Batch
append_each [] b = ended b None
append_each (f ∷ fs) b = following_batch (append_each fs) b (append places f b)

-- ---- the call

-- frames that a batch can have
abbrev pub most_frames : ℕ
most_frames = 64

-- lines that its fate list needs: one for each frame that can be stored, and one for each that can be offered
abbrev pub batch_lines : ℕ
batch_lines = 1088

-- Append a batch, with so many lines lent: refusals (1,) 13, 2 of the whole call in that order, also where there is no frame.
unfoldable pub batch : ℕ → List Offered → Buffer → CallResult Batch
batch lent fs b =
    refuse_if (ltb most_frames (length fs)) LentSize
    (refuse_if (ltb lent batch_lines) ShortFates
    (Ok (append_each fs b)))
