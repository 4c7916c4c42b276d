-- What one call on a head and two arrays gives, in the run's words and as numbers.
use Rattle.std.specs.Prelude.{◌≡◌, cond, List, [], ◌∷◌, ◌++◌, ℕ, ◌+◌, Float, ℤ, length, take, drop, Ok, Err}
use Rattle.std.specs.Result.{result_and, result_map_both}
use Rattle.seconds.specs.Seconds.{zero_seconds}
use Rattle.buffer_state.specs.declared.Head.{Head}
use Rattle.buffer_state.specs.declared.Refusal.TheVariants.{IllFormed}
use Rattle.buffer_state.specs.declared.WindowEnd.{WindowEnd}
use Rattle.buffer_state.specs.declared.WindowEnd.TheVariants.{Unbounded, At}
use Rattle.buffer_state.specs.Answers.{written, laid_ranges}
use Rattle.buffer_state.specs.Lent.{Lent, lent_of, buffer_in, well_formed_at}
use Rattle.buffer_state.specs.Ranges.{Range}
use Rattle.buffer_state.specs.Refusals.{CallResult, refusal_number, stop_number}
use Rattle.buffer_state.specs.Run.{Call, Answer, ok, fates, settings, ranges, accepted, taken, decoding, Reply, reply_to, lines_in, accepted_in}
use Rattle.call_rows.specs.declared.Given.{Given}
use Rattle.call_rows.specs.declared.Step.{Step}

abbrev pub lent : Head → List (List ℤ) → List (List ℕ) → Lent
lent h ts gs = record { head = h; times = ts; tags = gs }

-- a call's result and the state after it
pub record Replied : Type 0 where
  pub result : CallResult Answer
  pub after : Lent

-- Refusal 1 first; on a well-formed state the reply on the buffer that it holds.
abbrev pub laid_reply : Reply → Replied
laid_reply r = record { result = r.result; after = lent_of r.after }

unfoldable pub reply_on : Call → Lent → Replied
reply_on c s =
    cond (well_formed_at s.head s.times s.tags) (laid_reply (reply_to c (buffer_in s))) (record { result = Err IllFormed; after = s })

-- ---- a result as numbers

-- the refusal's number, 0 where there is none
abbrev pub number_of : CallResult Answer → ℕ
number_of (Err why) = refusal_number why
number_of (Ok a) = 0

-- a window end where there is one, else 0
abbrev pub end_of : WindowEnd → Float
end_of Unbounded = zero_seconds
end_of (At x) = x

abbrev pub doubles_with : WindowEnd → ℕ
doubles_with Unbounded = 2
doubles_with (At x) = 3

-- how many lines or ranges it has; of a reading, how many doubles: 2 where there is no window end; of a walk, how many frames it took;
-- of a seek, how many there are to decode
abbrev pub size_of : CallResult Answer → ℕ
size_of (Err why) = 0
size_of (Ok ok) = 0
size_of (Ok (fates ls)) = length ls
size_of (Ok (settings r)) = doubles_with r.end
size_of (Ok (ranges rs)) = length rs
size_of (Ok (accepted n stop ls)) = length ls
size_of (Ok (taken n)) = n
size_of (Ok (decoding s)) = s.count

-- what stopped a batch, as its number
abbrev pub stop_in : CallResult Answer → ℕ
stop_in (Err why) = 0
stop_in (Ok ok) = 0
stop_in (Ok (fates ls)) = 0
stop_in (Ok (settings r)) = 0
stop_in (Ok (ranges rs)) = 0
stop_in (Ok (accepted n stop ls)) = stop_number stop
stop_in (Ok (taken n)) = 0
stop_in (Ok (decoding s)) = 0

-- the numbers of a seek's target and of the flagged frame from which to decode
abbrev pub target_in : CallResult Answer → ℕ
target_in (Err why) = 0
target_in (Ok ok) = 0
target_in (Ok (fates ls)) = 0
target_in (Ok (settings r)) = 0
target_in (Ok (ranges rs)) = 0
target_in (Ok (accepted n stop ls)) = 0
target_in (Ok (taken n)) = 0
target_in (Ok (decoding s)) = s.target

abbrev pub flagged_in : CallResult Answer → ℕ
flagged_in (Err why) = 0
flagged_in (Ok ok) = 0
flagged_in (Ok (fates ls)) = 0
flagged_in (Ok (settings r)) = 0
flagged_in (Ok (ranges rs)) = 0
flagged_in (Ok (accepted n stop ls)) = 0
flagged_in (Ok (taken n)) = 0
flagged_in (Ok (decoding s)) = s.flagged

abbrev pub no_doubles : List Float
no_doubles = zero_seconds ∷ zero_seconds ∷ zero_seconds ∷ []

-- the reading: offset, window start, window end
abbrev pub doubles_in : CallResult Answer → List Float
doubles_in (Err why) = no_doubles
doubles_in (Ok ok) = no_doubles
doubles_in (Ok (fates ls)) = no_doubles
doubles_in (Ok (settings r)) = r.offset ∷ r.start ∷ end_of r.end ∷ []
doubles_in (Ok (ranges rs)) = no_doubles
doubles_in (Ok (accepted n stop ls)) = no_doubles
doubles_in (Ok (taken n)) = no_doubles
doubles_in (Ok (decoding s)) = no_doubles

abbrev pub step_of : Replied → Step
step_of r = record {
  refusal = number_of r.result;
  count = size_of r.result;
  accepted = accepted_in r.result;
  stop = stop_in r.result;
  target = target_in r.result;
  flagged = flagged_in r.result;
  doubles = doubles_in r.result;
  head = r.after.head;
}

-- ---- what is lent, after a call

abbrev pub ranges_in : CallResult Answer → List Range
ranges_in (Err why) = []
ranges_in (Ok ok) = []
ranges_in (Ok (fates ls)) = []
ranges_in (Ok (settings r)) = []
ranges_in (Ok (ranges rs)) = rs
ranges_in (Ok (accepted n stop ls)) = []
ranges_in (Ok (taken n)) = []
ranges_in (Ok (decoding s)) = []

-- its lines, then what the list held before
abbrev pub fates_after : CallResult Answer → List (List ℕ) → List (List ℕ)
fates_after r before = written (lines_in r) ++ drop (length (lines_in r)) before

-- its ranges, then what the list held before
abbrev pub spans_after : CallResult Answer → List (List ℤ) → List (List ℤ)
spans_after r before = laid_ranges (ranges_in r) ++ drop (length (ranges_in r)) before

-- all that a call comes to: the step, the arrays, and the two lists that may be lent to it
pub record Stepped (r : Replied) (t : Step) (ts : List (List ℤ)) (gs lines₀ lines : List (List ℕ)) (spans₀ spans : List (List ℤ)) : Type 0 where
  pub step : t ≡ step_of r
  pub times : ts ≡ r.after.times
  pub tags : gs ≡ r.after.tags
  pub fates : lines ≡ fates_after r.result lines₀
  pub ranges : spans ≡ spans_after r.result spans₀

-- the same for a call that is lent no range list, for one that is lent no fate list, and for one that is lent neither
abbrev pub Lined : Replied → Step → List (List ℤ) → List (List ℕ) → List (List ℕ) → List (List ℕ) → Type 0
Lined r t ts gs lines₀ lines = (rs : List (List ℤ)) → Stepped r t ts gs lines₀ lines rs rs

abbrev pub Spanned : Replied → Step → List (List ℤ) → List (List ℕ) → List (List ℤ) → List (List ℤ) → Type 0
Spanned r t ts gs spans₀ spans = (ls : List (List ℕ)) → Stepped r t ts gs ls ls spans₀ spans

abbrev pub IsQuiet : Replied → Step → List (List ℤ) → List (List ℕ) → Type 0
IsQuiet r t ts gs = (ls : List (List ℕ)) (rs : List (List ℤ)) → Stepped r t ts gs ls ls rs rs

-- ---- a call that is lent a part of a longer list

-- new elements written from a place on
abbrev pub written_at : {A : Type 0} → List A → ℕ → List A → List A
written_at before at new = take at before ++ (new ++ drop (at + length new) before)

pub record CalledAt (r : Replied) (t : Step) (ts : List (List ℤ)) (gs lines₀ : List (List ℕ)) (at : ℕ) (lines : List (List ℕ)) (spans₀ : List (List ℤ)) (placed : ℕ) (spans : List (List ℤ)) : Type 0 where
  pub step : t ≡ step_of r
  pub times : ts ≡ r.after.times
  pub tags : gs ≡ r.after.tags
  pub fates : lines ≡ written_at lines₀ at (written (lines_in r.result))
  pub ranges : spans ≡ written_at spans₀ placed (laid_ranges (ranges_in r.result))

-- ---- the same from what the code's calls give

-- what a call gives, as one of the cases
abbrev pub given : {A : Type 0} → (A → Given) → CallResult A → CallResult Given
given = λ case. result_map_both case (λ why. why)

abbrev pub counted : CallResult ℕ → CallResult Given
counted = given Given.Count

abbrev pub done : CallResult (Unit {0}) → CallResult Given
done r = result_and r (Ok Given.Nothing)

-- of a call that is no batch and no seek, its doubles given: what only these tell is 0
abbrev pub step_with : ℕ → ℕ → List Float → Head → Step
step_with refusal count doubles h = record { refusal = refusal; count = count; accepted = 0; stop = 0; target = 0; flagged = 0; doubles = doubles; head = h }

abbrev pub plain_step : ℕ → ℕ → Head → Step
plain_step refusal count h = step_with refusal count no_doubles h

abbrev pub step_in : CallResult Given → Head → Step
step_in (Err why) h = plain_step (refusal_number why) 0 h
step_in (Ok Given.Nothing) h = plain_step 0 0 h
step_in (Ok (Given.Count n)) h = plain_step 0 n h
step_in (Ok (Given.Settings r)) h = step_with 0 (doubles_with r.end) (r.offset ∷ r.start ∷ end_of r.end ∷ []) h
step_in (Ok (Given.Batch a)) h =
    record { refusal = 0; count = a.lines; accepted = a.frames; stop = stop_number a.stop; target = 0; flagged = 0; doubles = no_doubles; head = h }
step_in (Ok (Given.Decoding s)) h =
    record { refusal = 0; count = s.count; accepted = 0; stop = 0; target = s.target; flagged = s.flagged; doubles = no_doubles; head = h }
