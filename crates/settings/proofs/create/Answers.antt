use Rattle.std.proofs.Common.{◌≡◌, sym, refl, ap, ◌∙◌, Ok, Err, length, eqb-true}
use Rattle.std.specs.List.{each_same}
use borrow.Author.Tests.{eqb-false}
use Rattle.buffer_state.specs.declared.Refusal.TheVariants.{Kinds}
use Rattle.buffer_state.specs.Settings.{create}
use Rattle.settings.proofs.CreateLaws.{all-listed, no-kinds, many-kinds, unknown-kind, taken, fresh-laid, creation, blank-times, blank-tags}
use Rattle.settings.proofs.create.Goals as goal
use Rattle.settings.proofs.create.Goals.{Joined-then-is_empty, then-is_empty-via-then-is_empty, then-is_empty-via-else-is_empty+then-kinds-gt4, then-is_empty-via-else-is_empty+else-kinds-gt4+then-not-kinds_known}

no-buffer : (c : Joined-then-is_empty) → create c.args.kinds.now ≡ Err Kinds
no-buffer c =
    elim c.then-is_empty.branch [
      | then-is_empty-via-then-is_empty w ↦ no-kinds c.args.kinds.now (eqb-true _ _ (sym c.is_empty.ensures ∙ w.if-is_empty.true))
      | then-is_empty-via-else-is_empty+then-kinds-gt4 w ↦ many-kinds c.args.kinds.now w.if-kinds-gt4.true
      | then-is_empty-via-else-is_empty+else-kinds-gt4+then-not-kinds_known w ↦
          unknown-kind c.args.kinds.now (eqb-false _ _ (sym c.is_empty.ensures ∙ w.if-is_empty.false)) w.if-kinds-gt4.false (sym (all-listed _ _) ∙ sym w.kinds_known.ensures ∙ w.if-not-kinds_known.true)
    ]

pub returns-then-is_empty : goal.returns-then-is_empty
returns-then-is_empty c =
    let a = c.args in
    let w = creation a.kinds.now a.times.now a.tags.now _ (no-buffer c) refl refl refl in
    record { answer = w.0; times = w.1.0; tags = w.1.1 }

pub returns : goal.returns
returns c =
    let a = c.args in
    let k = a.kinds.now in
    let w = creation k a.times.now a.tags.now _
    (taken k (eqb-false _ _ (sym c.is_empty.ensures ∙ c.if-is_empty.false)) c.if-kinds-gt4.false (sym (all-listed _ _) ∙ sym c.kinds_known.ensures ∙ c.if-not-kinds_known.false))
    (ap Ok (c.fresh_head.ensures ∙ fresh-laid k c.fresh_tracks.result (length k) c.fresh_tracks.ensures refl))
    (c.fill.ensures.after (λ y h. each_same _ y h.whole) ∙ blank-times k _ c.told-times)
    (c.fill-2.ensures.after (λ y h. each_same _ y h.whole) ∙ blank-tags k _ c.told-tags) in
    record { answer = w.0; times = w.1.0; tags = w.1.1 }
