use Rattle.std.proofs.Common.{rules, refl, sym, ap, ◌∙◌, List, ◌<◌, arith, set, drop_of_length-le, w64}
use mir.ValLaws.{to_z-of_z}
use Rattle.buffer_state.specs.Lent.{frames_of}
use Rattle.buffer_state.specs.Limits.{places}
use Rattle.buffer_state.specs.Ranges.{Range}
use Rattle.ranges.specs.Walks.{stretches_in}
use Rattle.ranges.proofs.OrderLaws.{order-length}
use Rattle.ranges.proofs.WalkLaws.{opens, extends, touches, leaves, tells_none, tells-no-room, tells_all, tells-early, disorder, tested, same_number}
use Rattle.ranges.proofs.walk_ordered.Goals as goal
use Rattle.ranges.proofs.walk_ordered.Goals.{Start, At-ranges-2, At-loop-i}

-- where the function begins, from the outer loop and from the inner one
abbrev start : At-ranges-2 → Start
start o = (goal.at.At-ranges-2 o).Start

abbrev outer : At-loop-i → At-ranges-2
outer d = (goal.at.At-loop-i d).At-ranges-2

-- the stretches in their order
abbrev all : Start → List Range
all s = stretches_in (frames_of s.args.times.now s.args.tags.now) s.args.order

few : (d : At-loop-i) → d.loop-i.k < places
few d = omega (arith, d.loop-i.invariant.1, d.loop-i.invariant.2, (start (outer d)).requires.0.few)

pub returns-then-n-eq0 : goal.returns-then-n-eq0
returns-then-n-eq0 c = tells_none c.args.room (all (goal.at.returns-then-n-eq0 c).Start) _ (order-length c.requires.0 ∙ sym c.count-n.ensures ∙ c.if-n-eq0.true)

pub returns-then-room-eq0 : goal.returns-then-room-eq0
returns-then-room-eq0 c = tells-no-room c.args.room (all (goal.at.returns-then-room-eq0 c).Start) _ c.if-room-eq0.true (omega (arith, order-length c.requires.0))

pub loop-i-init : goal.loop-i-init
loop-i-init c =
    let s = start (goal.at.loop-i-init c).At-ranges-2 in
    (omega arith, omega arith, omega arith, c.ranges-2.invariant.2, opens s.args.room (all s) c.ranges-2.invariant.3 c.stretch_at-range.ensures c.ranges-2.invariant.2)

pub loop-i-preserved-then-range-next : goal.loop-i-preserved-then-range-next
loop-i-preserved-then-range-next c =
    let s = start (outer (goal.at.loop-i-preserved-then-range-next c).At-loop-i) in (
      omega arith,
      omega arith,
      omega arith,
      c.loop-i.invariant.3,
      touches s.args.room (all s) c.loop-i.invariant.4 c.stretch_at-next.ensures _ refl
          (to_z-of_z w64 c.stretch_at-next.result.end (search rules)) (same_number c.loop-i.range.end c.stretch_at-next.result.start (search rules) (search rules) c.if-range-next.true),
    )

pub ranges-2-preserved : goal.ranges-2-preserved
ranges-2-preserved c =
    let s = start (outer (goal.at.ranges-2-preserved c).At-loop-i) in (
      omega arith,
      omega arith,
      omega arith,
      leaves s.args.room (all s) c.loop-i.invariant.4 c.stretch_at-next.ensures (tested c.loop-i.range.end c.stretch_at-next.result.start (search rules) (search rules) c.if-range-next-2.true) _ (ap (set c.loop-i.spans c.loop-i.k) c.row-then-range-next-2.ensures) (few (goal.at.ranges-2-preserved c).At-loop-i),
    )

pub loop-i-preserved : goal.loop-i-preserved
loop-i-preserved c =
    let s = start (outer (goal.at.loop-i-preserved c).At-loop-i) in (
      omega arith,
      omega arith,
      omega arith,
      c.loop-i.invariant.3,
      extends s.args.room (all s) c.loop-i.invariant.4 c.stretch_at-next.ensures (tested c.loop-i.range.end c.stretch_at-next.result.start (search rules) (search rules) c.if-range-next-2.false) _ c.grown-range.ensures
          (tested c.stretch_at-next.result.start c.loop-i.range.start (search rules) (search rules) c.if-next-range.false),
    )

pub returns-then-i-n : goal.returns-then-i-n
returns-then-i-n c =
    let s = start (outer (goal.at.returns-then-i-n c).At-loop-i) in
    tells_all s.args.room (all s) c.loop-i.invariant.4 c.count-n.result (sym c.if-i-n.true)
    (drop_of_length-le (all s) {i = c.loop-i.i} (omega (arith, order-length s.requires.0, c.if-i-n.true))) _ (ap (set c.loop-i.spans c.loop-i.k) c.row.ensures) (few (goal.at.returns-then-i-n c).At-loop-i) c.loop-i.invariant.3

pub returns-then-k-room : goal.returns-then-k-room
returns-then-k-room c =
    let s = start (outer (goal.at.returns-then-k-room c).At-loop-i) in
    tells-early s.args.room (all s) c.loop-i.invariant.4 c.stretch_at-next.ensures (tested c.loop-i.range.end c.stretch_at-next.result.start (search rules) (search rules) c.if-range-next-2.true) c.if-k-room.true (few (goal.at.returns-then-k-room c).At-loop-i)
    (omega (arith, order-length s.requires.0, c.loop-i.invariant.1, c.if-i-n.false)) _

pub returns-then-next-range : goal.returns-then-next-range
returns-then-next-range c =
    let s = start (outer (goal.at.returns-then-next-range c).At-loop-i) in
    disorder s.args.room (all s) c.loop-i.invariant.4 c.stretch_at-next.ensures (tested c.loop-i.range.end c.stretch_at-next.result.start (search rules) (search rules) c.if-range-next-2.false)
    (tested c.stretch_at-next.result.start c.loop-i.range.start (search rules) (search rules) c.if-next-range.true)
