-- Each exported call, by its own contract, on a sound head: what it hands back reads as what the library's call answers there.
use Rattle.std.specs.Prelude.{Ok}
use mathlib.Core.Path.{◌≡◌, sym, subst}
use mathlib.Core.List.{List, map}
use Prim.Native.Nat.{ℕ}
use lib.Dec.{T}
use lib.IntN.{ℤ}
use lib.Ieee.{Float, binary64, fits}
use Rattle.seconds.proofs.NumberLaws.{IsNumber, converts-number, end-number}
use Rattle.buffer_state.specs.declared.Mode.{Mode}
use Rattle.buffer_state.specs.Answers.{created, set_answer, head_set, abort_result, mode_result, offset_result, window_start_result, window_end_result, line_count, head_after, append_result, remove_result, batch_answer, outcome_of, batch_result}
use Rattle.buffer_state.specs.Append.{Outcome, append}
use Rattle.buffer_state.specs.Batch as Rows
use Rattle.buffer_state.specs.Batch.{batch}
use Rattle.buffer_state.specs.Buffer.{Buffer}
use Rattle.buffer_state.specs.Lent.{on_lent}
use Rattle.buffer_state.specs.Refusals.{CallResult}
use Rattle.buffer_state.specs.Remove.{remove}
use Rattle.buffer_state.specs.Settings.{create, abort, mode_set, offset_set, window_start_set, window_end_set}
use Rattle.buffer_laws.proofs.KeptLaws.{Keeps, SettingKeeps, append-keeps, batch-keeps, remove-keeps, abort-keeps, mode-keeps, offset-keeps, window-start-keeps, window_end-keeps}
use Rattle.galumper.specs.declared.Answered.{Answered}
use Rattle.galumper.specs.declared.FlatBatched.{FlatBatched}
use Rattle.galumper.specs.declared.FlatHead.{FlatHead}
use Rattle.galumper.specs.declared.FlatOffered.{FlatOffered}
use Rattle.galumper.specs.Calls.{outcome_out, handed_back, created_out, append_flat, remove_flat, batch_flat, batch_out}
use Rattle.galumper.specs.Flat.{head_in, offered_in}
use Rattle.galumper_account.proofs.ReadLaws.{IsSound, Counts, outcome-read, Accepts, batch-read, Changes, setting-read, Creates, made-numbers, created-read, on-outcome, on-batch, on-setting}

pub creation : (kinds : List ℕ) (r : Answered) → r ≡ created_out (create kinds) → Creates (created (create kinds)) r
creation kinds r e = subst (Creates (created (create kinds))) (sym e) (created-read kinds)

pub batching : (c : FlatHead) (ts : List (List ℤ)) (gs : List (List ℕ)) → IsSound c → (r : FlatBatched) (lent : ℕ) (rows : List (List ℤ))
    → r ≡ batch_out c (batch_flat lent rows c ts gs)
    → Accepts (batch_answer (batch_flat lent rows c ts gs)) (head_after (outcome_of (batch_flat lent rows c ts gs)) (head_in c)) r
unfolding batch_result
batching c ts gs s r lent rows e =
    let x = batch_flat lent rows c ts gs in
    let fs = map Rows.offered_in rows in
    subst (Accepts (batch_answer x) (head_after (outcome_of x) (head_in c))) (sym e)
    (batch-read c s x (on-batch (head_in c) ts gs s.numbers (batch lent fs) (batch-keeps IsNumber made-numbers lent fs)))

module _ (c : FlatHead) (ts : List (List ℤ)) (gs : List (List ℕ)) (s : IsSound c) (r : Answered) where
  -- ---- append and remove

  abbrev Counted : CallResult Outcome → Type 0
  Counted x = Counts (line_count x) (head_after x (head_in c)) r

  pub appending : (lent : ℕ) (f : FlatOffered) → r ≡ outcome_out c (append_flat lent f c ts gs) → Counted (append_flat lent f c ts gs)
  unfolding append_result
  appending lent f e =
      let x = append_flat lent f c ts gs in
      subst (Counts (line_count x) (head_after x (head_in c))) (sym e)
      (outcome-read c s x (on-outcome (head_in c) ts gs s.numbers (append lent (offered_in f)) (append-keeps IsNumber made-numbers lent (offered_in f))))

  pub removing : (lent : ℕ) (start end : Float) → r ≡ outcome_out c (remove_flat lent start end c ts gs) → Counted (remove_flat lent start end c ts gs)
  unfolding remove_result
  removing lent start end e =
      let x = remove_flat lent start end c ts gs in
      subst (Counts (line_count x) (head_after x (head_in c))) (sym e)
      (outcome-read c s x (on-outcome (head_in c) ts gs s.numbers (remove lent start end) (remove-keeps IsNumber made-numbers lent start end)))

  -- ---- abort and the setters

  abbrev Changed : CallResult Buffer → Type 0
  Changed x = Changes (set_answer x) (head_set x (head_in c)) r

  setting : (call : Buffer → CallResult Buffer) → ((b : Buffer) → Keeps IsNumber b.settings → SettingKeeps IsNumber (call b))
      → r ≡ handed_back c (on_lent call (head_in c) ts gs) → Changed (on_lent call (head_in c) ts gs)
  setting call keeps e =
      let x = on_lent call (head_in c) ts gs in
      subst (Changes (set_answer x) (head_set x (head_in c))) (sym e) (setting-read c s x (on-setting (head_in c) ts gs s.numbers call keeps))

  pub aborting : r ≡ handed_back c (abort_result (head_in c) ts gs) → Changed (abort_result (head_in c) ts gs)
  unfolding abort_result
  aborting = setting abort (abort-keeps IsNumber made-numbers)

  pub mode-setting : (m : Mode) → r ≡ handed_back c (mode_result m (head_in c) ts gs) → Changed (mode_result m (head_in c) ts gs)
  unfolding mode_result
  mode-setting m = setting (λ (b : Buffer). Ok (mode_set m b)) (mode-keeps IsNumber made-numbers m)

  module _ (x : Float) (f : T (fits binary64 x)) where
    pub offset-setting : r ≡ handed_back c (offset_result x (head_in c) ts gs) → Changed (offset_result x (head_in c) ts gs)
    unfolding offset_result
    offset-setting = setting (offset_set x) (offset-keeps IsNumber made-numbers x (converts-number x f))

    pub window-start-setting : r ≡ handed_back c (window_start_result x (head_in c) ts gs) → Changed (window_start_result x (head_in c) ts gs)
    unfolding window_start_result
    window-start-setting = setting (window_start_set x) (window-start-keeps IsNumber made-numbers x (converts-number x f))

    pub window_end-setting : r ≡ handed_back c (window_end_result x (head_in c) ts gs) → Changed (window_end_result x (head_in c) ts gs)
    unfolding window_end_result
    window_end-setting = setting (window_end_set x) (window_end-keeps IsNumber made-numbers x (end-number x f))
