-- An answer follows from its result: what a call that writes lines answers, and what the head, the arrays and its fate list hold after it.
use Rattle.std.specs.Prelude.{Result}
use mathlib.Core.Path.{◌≡◌, sym, ap, ◌∙◌}
use mathlib.Core.List.{List}
use Prim.Native.Nat.{ℕ}
use lib.IntN.{ℤ}
use Rattle.buffer_state.specs.declared.Accepted.{Accepted}
use Rattle.buffer_state.specs.declared.Head.{Head}
use Rattle.buffer_state.specs.declared.Refusal.{Refusal}
use Rattle.buffer_state.specs.Answers.{line_count, head_after, times_after, tags_after, list_after, batch_answer, outcome_of}
use Rattle.buffer_state.specs.Append.{Outcome}
use Rattle.buffer_state.specs.Batch.{Batch}
use Rattle.buffer_state.specs.Refusals.{CallResult}

module _ (h : Head) (ts : List (List ℤ)) (gs ls : List (List ℕ)) where
  -- what a result leaves of what is lent: the head, both arrays, the fate list
  abbrev pub LeavesLent : CallResult Outcome → Head → List (List ℤ) → List (List ℕ) → List (List ℕ) → Type 0
  LeavesLent x head times tags fates =
      (head ≡ head_after x h) × ((times ≡ times_after x ts) × ((tags ≡ tags_after x gs) × (fates ≡ list_after x ls)))

  -- and the answer, of one append or a removal, and of a batch
  abbrev pub Leaves : CallResult Outcome → Result ℕ Refusal → Head → List (List ℤ) → List (List ℕ) → List (List ℕ) → Type 0
  Leaves x r head times tags fates = (r ≡ line_count x) × LeavesLent x head times tags fates

  abbrev pub LeavesBatch : CallResult Batch → Result Accepted Refusal → Head → List (List ℤ) → List (List ℕ) → List (List ℕ) → Type 0
  LeavesBatch x r head times tags fates = (r ≡ batch_answer x) × LeavesLent (outcome_of x) head times tags fates

  -- a result known
  pub answered : {x : CallResult Outcome} (y : CallResult Outcome) → x ≡ y → {r : Result ℕ Refusal} {head : Head} {times : List (List ℤ)} {tags fates : List (List ℕ)}
      → r ≡ line_count y → head ≡ head_after y h → times ≡ times_after y ts → tags ≡ tags_after y gs → fates ≡ list_after y ls
      → Leaves x r head times tags fates
  answered y e a b c d f = (
    a ∙ ap line_count (sym e),
    (
      b ∙ ap (λ (z : CallResult Outcome). head_after z h) (sym e),
      (
        c ∙ ap (λ (z : CallResult Outcome). times_after z ts) (sym e),
        (d ∙ ap (λ (z : CallResult Outcome). tags_after z gs) (sym e), f ∙ ap (λ (z : CallResult Outcome). list_after z ls) (sym e)),
      ),
    ),
  )
