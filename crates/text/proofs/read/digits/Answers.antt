-- Each digit of the base goes into the number; any other byte ends the reading.
use Rattle.std.proofs.Common.{rules, arith}
use Rattle.std.proofs.lemmas.Grind.{common_steps}
use Rattle.text.proofs.ReadingLaws.{digits_at, digits_end}
use Rattle.text.proofs.read.digits.Goals as goal

pub returns-in_err-d : goal.returns-in_err-d
returns-in_err-d c =
    grind (arith, common_steps, digits_at c.args.base c.loop-b.m c.loop-b.b-index c.args.w.now c.loop-b-test.true)

pub returns-then-base-d : goal.returns-then-base-d
returns-then-base-d c =
    grind (arith, common_steps, digits_at c.args.base c.loop-b.m c.loop-b.b-index c.args.w.now c.loop-b-test.true)

pub loop-b-preserved : goal.loop-b-preserved
loop-b-preserved c =
    grind (arith, common_steps, digits_at c.args.base c.loop-b.m c.loop-b.b-index c.args.w.now c.loop-b-test.true)

pub returns : goal.returns
returns c =
    grind (arith, common_steps, digits_end c.args.base c.loop-b.m c.loop-b.b-index c.args.w.now c.loop-b-test.false)
