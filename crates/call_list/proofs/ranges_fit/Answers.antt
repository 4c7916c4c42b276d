use Rattle.std.proofs.Common.{◌≡◌, sym, [], ℕ, suc, ◌+◌, ◌≤◌, ◌<◌, add-one, arith, take, rules}
use borrow.Author.Tests.{lt-leb}
use Rattle.buffer_state.specs.Run.{total}
use Rattle.call_list.specs.Listed.{ranges_of_row}
use Rattle.call_list.proofs.LoopLaws.{total-next, total-front}
use Rattle.call_list.proofs.ranges_fit.Goals as goal

refl-sum : (room : ℕ) → room + total ranges_of_row (take 0 []) ≡ room
unfolding total
refl-sum room = omega arith

pub loop-row-init : goal.loop-row-init
loop-row-init c = refl-sum c.args.room

pub returns-then-left-asked : goal.returns-then-left-asked
returns-then-left-asked c =
    let l = c.args.calls.now in
    let h : c.loop-row.left < c.ranges_of_row-asked.result = c.if-left-asked.true in
    let i = c.loop-row.row-index in
    sym (lt-leb (total ranges_of_row l) c.args.room
    (omega (arith, c.ranges_of_row-asked.ensures, c.loop-row.invariant, total-next ranges_of_row l i [] c.loop-row-test.true, total-front ranges_of_row l (suc i))))

pub loop-row-preserved : goal.loop-row-preserved
loop-row-preserved c =
    let h : c.ranges_of_row-asked.result ≤ c.loop-row.left = c.if-left-asked.false in
    rw add-one (omega (arith, c.ranges_of_row-asked.ensures, c.loop-row.invariant, total-next ranges_of_row c.args.calls.now c.loop-row.row-index [] c.loop-row-test.true))
