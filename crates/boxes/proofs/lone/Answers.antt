use Rattle.std.proofs.Common.{◌≡◌, not, drop, sym, ap, ◌∙◌, arith}
use Rattle.std.specs.Prelude.{Ok, Some}
use Rattle.boxes.specs.Boxes.{part_of, step_of}
use Rattle.boxes.specs.Items.{items_of}
use Rattle.boxes.specs.Lone.{lone_among}
use Rattle.boxes.proofs.BoxLaws.{box_found}
use Rattle.boxes.proofs.LoneLaws.{met_again, met_first, met_early, met_after, met_other, placed_first, placed_later, among_all}
use Rattle.boxes.proofs.lone.Goals as goal
use Rattle.boxes.proofs.lone.Goals.{In-Some, else-part-after-via-then-part-after+else-is_none, else-part-after-via-else-part-after}

-- the box that was found at the cursor's place
found : (c : In-Some) → step_of (drop c.loop-part.cursor.at c.args.s.now) ≡ Ok (Some (part_of c.in-Some.part, drop c.next_box.new.self.at c.args.s.now))
found c = rw c.in-Some.is at c.in_ok-part.ensures.step

pub returns-then-is_some-clause-value : goal.returns-then-is_some-clause-value
returns-then-is_some-clause-value c =
    let a = c.args in
    sym (among_all a.kind a.after a.s.now) ∙ sym c.loop-part.invariant.answer
    ∙ met_again _ _ _ _ _ _ (found (goal.at.returns-then-is_some-clause-value c).In-Some) _ (sym c.is_some.ensures ∙ c.if-is_some.true) c.if-part-kind.true

pub loop-part-preserved-then-part-kind : goal.loop-part-preserved-then-part-kind
loop-part-preserved-then-part-kind c =
    let a = c.args in
    let p = found (goal.at.loop-part-preserved-then-part-kind c).In-Some in
    let e = box_found _ _ _ _ _ p c.next_box.ensures.place in
    let none = sym c.is_some.ensures ∙ c.if-is_some.false in
    record {
      within = c.next_box.ensures.within;
      ordered = omega arith;
      before = c.next_box.ensures.within;
      place = rw (placed_first _ _ a.kind a.s.now _ _ _ c.loop-part.invariant.place none p c.if-part-kind.true) e.start;
      answer = ap (λ b. lone_among a.kind a.after (Some b) (items_of (drop c.next_box.new.self.at a.s.now))) e.bytes
          ∙ sym (met_first _ _ _ _ _ _ p _ none c.if-part-kind.true)
          ∙ c.loop-part.invariant.answer;
    }

pub returns-then-is_none-clause-value : goal.returns-then-is_none-clause-value
returns-then-is_none-clause-value c =
    let a = c.args in
    sym (among_all a.kind a.after a.s.now) ∙ sym c.loop-part.invariant.answer
    ∙ met_early _ _ _ _ _ _ (found (goal.at.returns-then-is_none-clause-value c).In-Some) _ (c.is_none.ensures ∙ ap not c.if-is_none.true) c.if-part-kind.false c.if-part-after.true

pub loop-part-preserved : goal.loop-part-preserved
loop-part-preserved c =
    let p = found (goal.at.loop-part-preserved c).In-Some in
    record {
      within = c.next_box.ensures.within;
      ordered = c.loop-part.invariant.ordered;
      before = c.loop-part.invariant.before;
      place = placed_later _ _ c.args.kind c.args.s.now _ _ _ _ c.loop-part.invariant.place p c.if-part-kind.false c.next_box.ensures.place;
      answer = sym (elim c.else-part-after.branch [
        | else-part-after-via-then-part-after+else-is_none w ↦ met_after _ _ _ _ _ _ p _ (w.is_none.ensures ∙ ap not w.if-is_none.false) c.if-part-kind.false
        | else-part-after-via-else-part-after w ↦ met_other _ _ _ _ _ _ p _ c.if-part-kind.false w.if-part-after.false
      ]) ∙ c.loop-part.invariant.answer;
    }
