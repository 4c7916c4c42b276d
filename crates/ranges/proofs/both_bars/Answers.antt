use Rattle.std.proofs.Common.{◌≡◌, refl, sym, ap, subst, ◌∙◌, cond, set, List, ◌-◌, ◌≤◌, ◌<◌, arith, ℤ, take, drop, rules}
use lib.Signed.{lt_z}
use Rattle.buffer_state.specs.Ranges.{common_of}
use Rattle.ranges.specs.Bars.{range_of, Shows}
use Rattle.ranges.specs.Read.{ranges_in}
use Rattle.ranges.proofs.MeetLaws.{moved-end, some_count, one_at_most, left-more, right-more, left_over, right-over}
use Rattle.buffer_state.specs.Limits.{places}
use Rattle.ranges.proofs.WalkLaws.{tested}
use Rattle.ranges.proofs.both_bars.Goals as goal
use Rattle.ranges.proofs.both_bars.Goals.{Start, At-loop-i, Then-j-n, After-from-k}

abbrev start : At-loop-i → Start
start d = (goal.at.At-loop-i d).Start

-- the second list has a range left, and the next place is in front of the range that is read
right-left : (t : Then-j-n) → t.loop-i.j < (start (goal.at.Then-j-n t).At-loop-i).args.n
right-left t = t.if-j-n.true

room : (t : Then-j-n) → t.loop-i.k < t.loop-i.i
room t = omega (arith, right-left t, t.loop-i.invariant.2, (start (goal.at.Then-j-n t).At-loop-i).requires.0.few)

-- the spans that were moved are the first m
abbrev Met : At-loop-i → List (List ℤ) → Type 0
Met d l = Shows d.loop-i.spans d.loop-i.k (common_of (ranges_in l) (ranges_in (take (start d).args.n (start d).args.more.now)))

met : (d : At-loop-i) → Met d (drop (places - (start d).args.m) d.copy_within.new.self)
    → Met d (take (start d).args.m (start d).args.spans.now)
met d = subst (Met d) (ap (drop (places - (start d).args.m)) d.copy_within.ensures.after ∙ moved-end (start d).args.spans.now (start d).args.m places (start d).requires.1 (omega (arith, (start d).requires.0.few)))

-- what the two have in common is one range, or none
counted : (c : After-from-k) → c.from-k.result ≡ cond (lt_z c.shared-common.result.start c.shared-common.result.end) 1 0
counted c = some_count (range_of c.shared-common.result) c.from-k.ensures (sym (tested c.shared-common.result.start c.shared-common.result.end (search rules) (search rules) refl))

one : (c : After-from-k) → c.from-k.result ≤ 1
one c = one_at_most _ (range_of c.shared-common.result) (counted c)

abbrev opening : After-from-k → Then-j-n
opening p = (goal.at.After-from-k p).Then-j-n

pub loop-i-preserved-then-x-y : goal.loop-i-preserved-then-x-y
loop-i-preserved-then-x-y c =
    let t = opening (goal.at.loop-i-preserved-then-x-y c).After-from-k in (
      search rules,
      search rules,
      omega (arith, one (goal.at.loop-i-preserved-then-x-y c).After-from-k),
      left-more t.loop-i.invariant.3 t.loop-i-test.true (right-left t) (room t) _ _ _ c.in_row-x.ensures c.in_row-y.ensures
          c.shared-common.ensures _ (ap (set t.loop-i.spans t.loop-i.k) c.row.ensures) _ (counted (goal.at.loop-i-preserved-then-x-y c).After-from-k) (tested c.in_row-x.result.end c.in_row-y.result.end (search rules) (search rules) c.if-x-y.true),
    )

pub loop-i-preserved : goal.loop-i-preserved
loop-i-preserved c =
    let t = opening (goal.at.loop-i-preserved c).After-from-k in (
      search rules,
      omega (arith, right-left t),
      omega (arith, one (goal.at.loop-i-preserved c).After-from-k),
      right-more t.loop-i.invariant.3 t.loop-i-test.true (right-left t) (room t) _ _ _ c.in_row-x.ensures c.in_row-y.ensures
          c.shared-common.ensures _ (ap (set t.loop-i.spans t.loop-i.k) c.row.ensures) _ (counted (goal.at.loop-i-preserved c).After-from-k) (tested c.in_row-x.result.end c.in_row-y.result.end (search rules) (search rules) c.if-x-y.false),
    )

pub returns-else-j-n : goal.returns-else-j-n
returns-else-j-n c = (met (goal.at.returns-else-j-n c).At-loop-i (right-over c.loop-i.invariant.3 c.if-j-n.false (omega (arith, c.loop-i.invariant.0, c.loop-i.invariant.1, c.loop-i.invariant.2))), search rules)

pub returns-after-loop-i : goal.returns-after-loop-i
returns-after-loop-i c = (met (goal.at.returns-after-loop-i c).At-loop-i (left_over c.loop-i.invariant.3 c.loop-i-test.false (search rules)), search rules)
