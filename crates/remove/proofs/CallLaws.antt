-- The call: a removal in the words of the code is the definition's, and its refusals come in the definition's order.
use Rattle.std.specs.Prelude.{Option, Ok, Err}
use mathlib.Core.Path.{◌≡◌, refl, sym, ap, ◌∙◌}
use mathlib.Core.Bool.{Bool, true, false, cond, not, ◌&&◌, ◌||◌}
use mathlib.Core.List.{List, []}
use Prim.Native.Nat.{ℕ, ◌≤◌, ◌<◌}
use lib.IntN.{ℤ, pos}
use lib.Ieee.{Float}
use lib.ListN.{length}
use lib.Signed.{lt_z}
use borrow.Author.Tests.{lt-ltb, le-ltb}
use Rattle.seconds.specs.Seconds.{Bound, unbounded, is_convertible, is_convertible_end, micros_of, bound_of}
use Rattle.buffer_state.specs.declared.Frame.{Frame}
use Rattle.buffer_state.specs.declared.Refusal.TheVariants.{ShortFates, Seconds, Order, LastNumber}
use Rattle.buffer_state.specs.declared.Head.{Head}
use Rattle.buffer_state.specs.Answers.{remove_result}
use Rattle.buffer_state.specs.Append.{Outcome}
use Rattle.buffer_state.specs.Buffer.{Buffer, with_frames, in_last_group}
use Rattle.buffer_state.specs.Layout.{buffer_of}
use Rattle.buffer_state.specs.Lent.{state_at, head_of, well_formed_at}
use Rattle.buffer_state.specs.Limits.{places}
use Rattle.buffer_state.specs.Refusals.{CallResult}
use Rattle.buffer_state.specs.Remove.{before_bound, removal_marks, after_loss, removal_lacks_group, removed_outcome, remove}
use Rattle.buffer_state.specs.Store.{Marked, kept, lines_of}
use Rattle.buffer_state.specs.WellFormed.{all_of}
use Rattle.buffer_laws.proofs.LentLaws.{on-well_formed}
use Rattle.taking.specs.declared.Span.{Span}
use Rattle.taking.specs.Loss.{bound_in}
use Rattle.taking.specs.Taking.{in_spans, taken_marks}
use Rattle.taking.proofs.GoneLaws.{none-marked, none-gone}
use Rattle.remove.specs.Edges.{instant_of, in_order, stretch_of, FarSpans}
use Rattle.remove.specs.Loss.{loss_of, is_loss, over_result, settled_by}
use Rattle.remove.proofs.StretchLaws.{bound-back}
use Rattle.remove.proofs.PlaceLaws.{held}
use Rattle.remove.proofs.EdgeLaws.{removal_marks_lem}
use Rattle.remove.proofs.LossLaws.{loss-still, any-loss, no-loss, settled-loss}

-- ---- a removal that is not refused

module _ (h : Head) (ts : List (List ℤ)) (gs : List (List ℕ)) (w : well_formed_at h ts gs ≡ true) (start : ℤ) (end : Bound) (spans : List Span) (far : FarSpans start end (held h ts gs).frames spans) where
  abbrev frames : List Frame
  frames = (held h ts gs).frames

  abbrev marks : List Marked
  marks = taken_marks spans 6 frames

  same : marks ≡ removal_marks start end frames
  same = removal_marks_lem h ts gs w start end spans far

  -- refusal 9, by the loss
  loss-decides : removal_lacks_group start end (held h ts gs) ≡ (is_loss (loss_of (held h ts gs) (removal_marks start end frames)) && in_last_group (held h ts gs))
  unfolding removal_lacks_group
  loss-decides = ap (λ (t : Bool). t && in_last_group (held h ts gs)) (any-loss (removal_marks start end frames) (held h ts gs))

  pub by-loss : (is_loss (loss_of (held h ts gs) marks) && in_last_group (held h ts gs)) ≡ removal_lacks_group start end (held h ts gs)
  by-loss = ap (λ (ms : List Marked). is_loss (loss_of (held h ts gs) ms) && in_last_group (held h ts gs)) same ∙ sym loss-decides

  -- ---- some frame goes

  pub head-left : settled_by (loss_of (held h ts gs) marks) (length (kept marks)) h ≡ head_of (removed_outcome start end (held h ts gs)).after
  unfolding removed_outcome
  head-left = settled-loss h ts gs w (kept marks) marks ∙ ap (λ (ms : List Marked). head_of (with_frames (after_loss ms (held h ts gs)) (kept ms))) same

  pub kept_left : kept marks ≡ (removed_outcome start end (held h ts gs)).after.frames
  unfolding removed_outcome
  kept_left = ap kept same

  pub lines-told : lines_of marks ≡ (removed_outcome start end (held h ts gs)).lines
  unfolding removed_outcome
  lines-told = ap lines_of same

  -- ---- none goes

  pub nothing-goes : all_of (λ (g : Frame). not (in_spans spans g)) frames ≡ true
      → over_result start end (held h ts gs) ≡ Ok (record { after = held h ts gs; lines = [] })
  unfolding removed_outcome over_result
  nothing-goes none =
      let b = held h ts gs in
      let lost : loss_of b (removal_marks start end frames) ≡ unbounded = ap (loss_of b) (sym same ∙ none-marked (in_spans spans) 6 frames none) ∙ loss-still b frames in
      let after : after_loss (removal_marks start end frames) b ≡ b = no-loss (removal_marks start end frames) b lost in
      let gone = none-gone (in_spans spans) 6 frames none in
      let room : removal_lacks_group start end b ≡ false = loss-decides ∙ ap (λ (l : Bound). is_loss l && in_last_group b) lost in
      rw room
      (λ j. Ok (record { after = with_frames (after j) ((ap kept (sym same) ∙ gone.0) j); lines = (ap lines_of (sym same) ∙ gone.1) j }))

-- ---- the refusals

pub over-refused : (s : ℤ) (e : Bound) (b : Buffer) → removal_lacks_group s e b ≡ true → over_result s e b ≡ Err LastNumber
unfolding over_result
over-refused s e b l = rw l

pub over_done : (s : ℤ) (e : Bound) (b : Buffer) → removal_lacks_group s e b ≡ false → over_result s e b ≡ Ok (removed_outcome s e b)
unfolding over_result
over_done s e b l = rw l

-- what a stretch is answered
abbrev pub over_stretch : Buffer → CallResult (ℤ × Option ℤ) → CallResult Outcome
over_stretch b (Ok s) = over_result s.0 (bound_in s.1) b
over_stretch b (Err why) = Err why

order-tests : (b : Buffer) (t : Bool) (z : ℤ) (i : Option ℤ)
    → cond t (Err Order) (over_result z (bound_in i) b) ≡ over_stretch b (cond t (Err Order) (Ok (z, i)))
order-tests b true z i = refl
order-tests b false z i = refl

stretch-tests : (b : Buffer) (t : Bool) (r : CallResult Outcome) (p : CallResult (ℤ × Option ℤ)) → r ≡ over_stretch b p
    → cond t (Err Seconds) r ≡ over_stretch b (cond t (Err Seconds) p)
stretch-tests b true r p e = refl
stretch-tests b false r p e = e

module _ (lent : ℕ) (start end : Float) (h : Head) (ts : List (List ℤ)) (gs : List (List ℕ)) where
  abbrev result : CallResult Outcome
  result = remove_result lent start end h ts gs

  pub short-list : well_formed_at h ts gs ≡ true → lent < places → result ≡ Err ShortFates
  unfolding remove_result remove
  short-list w k = on-well_formed (remove lent start end) h ts gs w ∙ rw (lt-ltb lent places k)

  -- with lines enough, the stretch decides
  pub by-stretch : well_formed_at h ts gs ≡ true → places ≤ lent → result ≡ over_stretch (buffer_of (state_at h ts gs)) (stretch_of start end)
  unfolding remove_result remove over_result
  by-stretch w k =
      let b = buffer_of (state_at h ts gs) in
      let z = micros_of start in
      let i = instant_of (bound_of end) in
      let order : Bound → Bool = λ (d : Bound). lt_z z (pos 0) || not (before_bound z d) in
      let judged = ap (λ (d : Bound). cond (order d) (Err Order) (over_result z d b)) (sym (bound-back (bound_of end))) ∙ order-tests b (order (bound_in i)) z i in
      on-well_formed (remove lent start end) h ts gs w
      ∙ rw (le-ltb lent places k) (stretch-tests b (not (is_convertible start) || not (is_convertible_end end)) _ (in_order z i) judged)
