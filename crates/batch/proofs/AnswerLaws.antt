-- The call's result: each refusal where its test is the first to pass, and after all of them the appends.
use Rattle.std.specs.Prelude.{Result, Err}
use mathlib.Core.Path.{◌≡◌, sym, subst, ◌∙◌}
use mathlib.Core.Bool.{true}
use mathlib.Core.List.{List, map}
use Prim.Native.Nat.{ℕ, ◌≤◌, ◌<◌}
use lib.IntN.{ℤ}
use lib.ListN.{length, length-map}
use borrow.Author.Tests.{lt-ltb, le-ltb}
use Rattle.buffer_state.specs.declared.Accepted.{Accepted}
use Rattle.buffer_state.specs.declared.Head.{Head}
use Rattle.buffer_state.specs.declared.Refusal.{Refusal}
use Rattle.buffer_state.specs.declared.Refusal.TheVariants.{ShortFates, LentSize}
use Rattle.buffer_state.specs.Answers.{batch_result}
use Rattle.buffer_state.specs.Batch.{Batch, offered_in, most_frames, batch_lines, batch}
use Rattle.buffer_state.specs.Lent.{well_formed_at}
use Rattle.buffer_state.specs.Refusals.{CallResult}
use Rattle.buffer_laws.proofs.AnswerLaws.{LeavesBatch}
use Rattle.buffer_laws.proofs.LentLaws.{on-well_formed}
use Rattle.validation.specs.Tests.{checked}
use Rattle.validation.proofs.CheckLaws.{refused_by}
use Rattle.batch.specs.Each.{each_at}

module _ (lent : ℕ) (rows : List (List ℤ)) (h : Head) (ts : List (List ℤ)) (gs : List (List ℕ)) where
  abbrev result : CallResult Batch
  result = batch_result lent (map offered_in rows) h ts gs

  pub refused-one : {why : Refusal} → checked (well_formed_at h ts gs) ≡ Err why → result ≡ Err why
  unfolding batch_result
  refused-one e = refused_by (batch lent (map offered_in rows)) h ts gs e

  module _ (w : well_formed_at h ts gs ≡ true) where
    pub refused-thirteen : most_frames < length rows → result ≡ Err LentSize
    unfolding batch_result batch
    refused-thirteen e = on-well_formed (batch lent (map offered_in rows)) h ts gs w ∙ rw (length-map rows offered_in, lt-ltb most_frames (length rows) e)

    pub refused-two : length rows ≤ most_frames → lent < batch_lines → result ≡ Err ShortFates
    unfolding batch_result batch
    refused-two few e =
        on-well_formed (batch lent (map offered_in rows)) h ts gs w ∙ rw (length-map rows offered_in, le-ltb most_frames (length rows) few, lt-ltb lent batch_lines e)

    pub goes_on : length rows ≤ most_frames → batch_lines ≤ lent → result ≡ each_at rows h ts gs
    unfolding batch_result batch each_at
    goes_on few long =
        on-well_formed (batch lent (map offered_in rows)) h ts gs w ∙ rw (length-map rows offered_in, le-ltb most_frames (length rows) few, le-ltb lent batch_lines long)

-- an answer follows from a result known
pub answered : (h : Head) (ts : List (List ℤ)) (gs ls : List (List ℕ)) {x : CallResult Batch} (y : CallResult Batch) → x ≡ y
    → {r : Result Accepted Refusal} {head : Head} {times : List (List ℤ)} {tags fates : List (List ℕ)} → LeavesBatch h ts gs ls y r head times tags fates
    → LeavesBatch h ts gs ls x r head times tags fates
answered h ts gs ls y e {r} {head} {times} {tags} {fates} l = subst (λ (z : CallResult Batch). LeavesBatch h ts gs ls z r head times tags fates) (sym e) l
