-- What an exported call hands back, read again in the account's words, is what the library's own call answers; and the head that it
-- hands back is laid out from the library's, whose doubles are numbers.
use Rattle.std.specs.Prelude.{Option, None, Some, Ok, Err}
use Rattle.std.specs.Result.{result_unwrap_or}
use mathlib.Core.Path.{◌≡◌, refl, sym, ap, subst}
use mathlib.Core.Bool.{false, cond, not, ◌||◌}
use mathlib.Core.List.{List, [], ◌∷◌}
use Prim.Native.Nat.{ℕ}
use lib.Dec.{ltb, eqb}
use lib.IntN.{ℤ}
use lib.ListN.{length}
use Rattle.laws.proofs.BoolLaws.{by-test}
use Rattle.seconds.proofs.NumberLaws.{IsNumber, zero_number, quotient-number}
use Rattle.buffer_state.specs.declared.Accepted.{Accepted}
use Rattle.buffer_state.specs.declared.Head.{Head}
use Rattle.buffer_state.specs.declared.Reading as Settings
use Rattle.buffer_state.specs.declared.Refusal.{Refusal}
use Rattle.buffer_state.specs.declared.Refusal.TheVariants.{IllFormed, ShortFates, NoTrack, FrameLimits, Seconds, Order, ResultLimits, Full, LastNumber, ShortList, Kinds, Malformed, LentSize, LargeFragment, NoStart}
use Rattle.buffer_state.specs.Answers.{zero_head, created, set_answer, head_set, line_count, head_after, batch_answer, outcome_of}
use Rattle.buffer_state.specs.Append.{Outcome}
use Rattle.buffer_state.specs.Batch.{Batch}
use Rattle.buffer_state.specs.Buffer.{Buffer, fresh, fresh_settings}
use Rattle.buffer_state.specs.Lent.{head_of, well_formed_at, on_lent}
use Rattle.buffer_state.specs.Limits.{most_tracks, known_kind}
use Rattle.buffer_state.specs.Refusals.{CallResult, refusal_number, stop_number}
use Rattle.buffer_state.specs.declared.Start.{Start}
use Rattle.buffer_state.specs.declared.WindowEnd.{WindowEnd}
use Rattle.buffer_state.specs.declared.WindowEnd.TheVariants.{Unbounded, At}
use Rattle.buffer_state.specs.Settings.{create}
use Rattle.buffer_state.specs.WellFormed.{all_of}
use Rattle.buffer_laws.proofs.KeptLaws.{Keeps, Made, OutcomeKeeps, SettingKeeps}
use Rattle.galumper.specs.declared.Answered.{Answered}
use Rattle.galumper.specs.declared.FlatAnswer.{FlatAnswer}
use Rattle.galumper.specs.declared.FlatBatched.{FlatBatched}
use Rattle.galumper.specs.declared.FlatHead.{FlatHead}
use Rattle.galumper.specs.declared.FlatStart.{FlatStart}
use Rattle.galumper.specs.declared.Reading.{Reading}
use Rattle.galumper.specs.Calls.{outcome_out, batch_out, handed_back, created_out, report_out, start_out, bounded_in, end_in, reading_out}
use Rattle.galumper.specs.Flat.{head_in, head_out}
use Rattle.galumper.proofs.FlatLaws.{head-back}
use Rattle.galumper_account.specs.Told.{refusal_of, by_number, count_of, stop_of, accepted_of, done_of, read_of, start_of}

-- ---- numbers of refusals

record IsNumbered (why : Refusal) : Type 0 where
  pub some : eqb (refusal_number why) 0 ≡ false
  pub back : refusal_of (refusal_number why) ≡ why

numbered : (why : Refusal) → IsNumbered why
numbered IllFormed = record { some = refl; back = refl }
numbered ShortFates = record { some = refl; back = refl }
numbered NoTrack = record { some = refl; back = refl }
numbered FrameLimits = record { some = refl; back = refl }
numbered Seconds = record { some = refl; back = refl }
numbered Order = record { some = refl; back = refl }
numbered ResultLimits = record { some = refl; back = refl }
numbered Full = record { some = refl; back = refl }
numbered LastNumber = record { some = refl; back = refl }
numbered ShortList = record { some = refl; back = refl }
numbered Kinds = record { some = refl; back = refl }
numbered Malformed = record { some = refl; back = refl }
numbered LentSize = record { some = refl; back = refl }
numbered LargeFragment = record { some = refl; back = refl }
numbered NoStart = record { some = refl; back = refl }

-- a refusal's number is read as that refusal, in an answer of any kind
refused-back : {A : Type 0} (unless : A) (by : Refusal → A) (why : Refusal)
    → cond (eqb (refusal_number why) 0) unless (by (refusal_of (refusal_number why))) ≡ by why
refused-back unless by why = let n = numbered why in rw n.some (ap by n.back)

stop-back : (s : Option Refusal) → stop_of (stop_number s) ≡ s
stop-back None = refl
stop-back (Some why) = refused-back None (λ (w : Refusal). Some w) why

-- an answer's two numbers: its refusal's, and one more of what it gives
abbrev pub numbers : {A : Type 0} → (A → ℕ) → CallResult A → List ℕ
numbers more (Err why) = refusal_number why ∷ 0 ∷ []
numbers more (Ok x) = 0 ∷ more x ∷ []

-- the refusal's alone
abbrev pub number : {A : Type 0} → CallResult A → List ℕ
number (Err why) = refusal_number why ∷ 0 ∷ []
number (Ok x) = 0 ∷ 0 ∷ []

-- ---- a report, a walk, a seek and a reading

pub record Reports (n : CallResult ℕ) (r : FlatAnswer) : Type 0 where
  pub same : count_of r ≡ n
  pub number : r.refusal ∷ 0 ∷ [] ≡ number n
  pub numbers : r.refusal ∷ r.count ∷ [] ≡ numbers (λ (k : ℕ). k) n

pub report-read : (n : CallResult ℕ) → Reports n (report_out n)
report-read (Ok n) = record { same = refl; number = refl; numbers = refl }
report-read (Err why) = record { same = refused-back (Ok 0) (λ (w : Refusal). Err w) why; number = refl; numbers = refl }

pub record Starts (n : CallResult Start) (r : FlatStart) : Type 0 where
  pub same : start_of r ≡ n
  pub numbers : r.refusal ∷ r.count ∷ [] ≡ numbers (λ (s : Start). s.count) n

pub start-read : (n : CallResult Start) → Starts n (start_out n)
start-read (Ok s) = record { same = refl; numbers = refl }
start-read (Err why) = record { same = refused-back _ (λ (w : Refusal). Err w) why; numbers = refl }

pub record Reads (n : CallResult Settings.Reading) (r : Reading) : Type 0 where
  pub same : read_of r ≡ n
  pub number : r.refusal ∷ 0 ∷ [] ≡ number n

end-read : (e : WindowEnd) → cond (eqb (bounded_in e) 1) (At (end_in e)) Unbounded ≡ e
end-read Unbounded = refl
end-read (At x) = refl

pub reading-read : (n : CallResult Settings.Reading) → Reads n (reading_out n)
reading-read (Ok r) = record { same = λ i. Ok (record { offset = r.offset; start = r.start; end = end-read r.end i }); number = refl }
reading-read (Err why) = record { same = refused-back _ (λ (w : Refusal). Err w) why; number = refl }

-- ---- a head

-- the doubles that it holds are numbers, and it is what the head that it reads as is laid out as
pub record IsSound (c : FlatHead) : Type 0 where
  pub numbers : Keeps IsNumber (head_in c).settings
  pub laid : head_out (head_in c) ≡ c

sound-out : (h : Head) → Keeps IsNumber h.settings → IsSound (head_out h)
sound-out h k =
    let e = head-back h k in
    record { numbers = subst (λ (g : Head). Keeps IsNumber g.settings) (sym e) k; laid = ap head_out e }

-- ---- append and remove

pub record Counts (n : CallResult ℕ) (h : Head) (r : Answered) : Type 0 where
  pub same : count_of r.answer ≡ n
  pub head : head_in r.head ≡ h
  pub number : r.answer.refusal ∷ 0 ∷ [] ≡ number n
  pub sound : IsSound r.head

pub outcome-read : (c : FlatHead) → IsSound c → (x : CallResult Outcome) → OutcomeKeeps IsNumber x → Counts (line_count x) (head_after x (head_in c)) (outcome_out c x)
outcome-read c s (Err why) k = record { same = refused-back (Ok 0) (λ (w : Refusal). Err w) why; head = refl; number = refl; sound = s }
outcome-read c s (Ok o) k = record { same = refl; head = head-back (head_of o.after) k; number = refl; sound = sound-out (head_of o.after) k }

-- ---- a batch

pub record Accepts (n : CallResult Accepted) (h : Head) (r : FlatBatched) : Type 0 where
  pub same : accepted_of r.answer ≡ n
  pub head : head_in r.head ≡ h
  pub numbers : r.answer.refusal ∷ r.answer.stop ∷ [] ≡ numbers (λ (a : Accepted). stop_number a.stop) n
  pub sound : IsSound r.head

pub batch-read : (c : FlatHead) → IsSound c → (x : CallResult Batch) → OutcomeKeeps IsNumber (outcome_of x) → Accepts (batch_answer x) (head_after (outcome_of x) (head_in c)) (batch_out c x)
batch-read c s (Err why) k = record { same = refused-back _ (λ (w : Refusal). Err w) why; head = refl; numbers = refl; sound = s }
batch-read c s (Ok r) k = record {
  same = λ i. Ok (record { frames = r.accepted; lines = length r.outcome.lines; stop = stop-back r.stop i });
  head = head-back (head_of r.outcome.after) k;
  numbers = refl;
  sound = sound-out (head_of r.outcome.after) k;
}

-- ---- abort and the setters

pub record Changes (n : CallResult (Unit {0})) (h : Head) (r : Answered) : Type 0 where
  pub same : done_of r.answer ≡ n
  pub head : head_in r.head ≡ h
  pub number : r.answer.refusal ∷ 0 ∷ [] ≡ number n
  pub sound : IsSound r.head

pub setting-read : (c : FlatHead) → IsSound c → (x : CallResult Buffer) → SettingKeeps IsNumber x → Changes (set_answer x) (head_set x (head_in c)) (handed_back c x)
setting-read c s (Err why) k = record { same = refused-back (Ok tt) (λ (w : Refusal). Err w) why; head = refl; number = refl; sound = s }
setting-read c s (Ok b) k = record { same = refl; head = head-back (head_of b) k; number = refl; sound = sound-out (head_of b) k }

-- ---- the doubles that stay numbers

pub made-numbers : Made IsNumber
made-numbers = record { zero = zero_number; quotient = quotient-number }

-- of a fresh buffer
zero-keeps : Keeps IsNumber fresh_settings
zero-keeps = record { offset = zero_number; start = zero_number; end = tt }

-- a refused creation answers the head of zeros
pub record Creates (n : CallResult Head) (r : Answered) : Type 0 where
  pub same : by_number r.answer.refusal (head_in r.head) ≡ n
  pub head : head_in r.head ≡ result_unwrap_or n zero_head
  pub number : r.answer.refusal ∷ 0 ∷ [] ≡ number n
  pub sound : IsSound r.head

pub created-read : (kinds : List ℕ) → Creates (created (create kinds)) (created_out (create kinds))
unfolding create
created-read kinds =
    by-test (λ (x : CallResult Buffer). Creates (created x) (created_out x))
    (eqb (length kinds) 0 || (ltb most_tracks (length kinds) || not (all_of known_kind kinds)))
    (λ _. record { same = refl; head = head-back zero_head zero-keeps; number = refl; sound = sound-out zero_head zero-keeps })
    (λ _.
    let e = head-back (head_of (fresh kinds)) zero-keeps in
    record { same = ap (λ (h : Head). Ok h) e; head = e; number = refl; sound = sound-out (head_of (fresh kinds)) zero-keeps })

-- of a call on a head and arrays, from the call on a buffer
module _ (h : Head) (ts : List (List ℤ)) (gs : List (List ℕ)) (k : Keeps IsNumber h.settings) where
  pub on-outcome : (call : Buffer → CallResult Outcome) → ((b : Buffer) → Keeps IsNumber b.settings → OutcomeKeeps IsNumber (call b))
      → OutcomeKeeps IsNumber (on_lent call h ts gs)
  unfolding on_lent
  on-outcome call keeps = by-test (OutcomeKeeps IsNumber) (not (well_formed_at h ts gs)) (λ _. tt) (λ _. keeps _ k)

  pub on-batch : (call : Buffer → CallResult Batch) → ((b : Buffer) → Keeps IsNumber b.settings → OutcomeKeeps IsNumber (outcome_of (call b)))
      → OutcomeKeeps IsNumber (outcome_of (on_lent call h ts gs))
  unfolding on_lent
  on-batch call keeps = by-test (λ (x : CallResult Batch). OutcomeKeeps IsNumber (outcome_of x)) (not (well_formed_at h ts gs)) (λ _. tt) (λ _. keeps _ k)

  pub on-setting : (call : Buffer → CallResult Buffer) → ((b : Buffer) → Keeps IsNumber b.settings → SettingKeeps IsNumber (call b))
      → SettingKeeps IsNumber (on_lent call h ts gs)
  unfolding on_lent
  on-setting call keeps = by-test (SettingKeeps IsNumber) (not (well_formed_at h ts gs)) (λ _. tt) (λ _. keeps _ k)
