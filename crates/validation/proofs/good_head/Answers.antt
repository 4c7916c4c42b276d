use Rattle.std.proofs.Common.{leb, le-leb}
use mathlib.Core.Bool.{and-false}
use borrow.Author.Tests.{lt-leb}
use Rattle.validation.specs.Tests.{head_test}
use Rattle.validation.proofs.good_head.Goals as goal

pub returns-then-h-gt4 : goal.returns-then-h-gt4
unfolding head_test
returns-then-h-gt4 c = let n = c.args.h.ntracks in rw (lt-leb n 4 c.if-h-gt4.true, and-false (leb 1 n))

pub returns-then-h-lt1 : goal.returns-then-h-lt1
unfolding head_test
returns-then-h-lt1 c = rw (lt-leb 1 c.args.h.ntracks c.if-h-lt1.true)

pub returns : goal.returns
unfolding head_test
returns c =
    let n = c.args.h.ntracks in
    rw (c.tracks_placed.ensures, c.good_group.ensures, c.good_settings.ensures, le-leb 1 n c.if-h-lt1.false, le-leb n 4 c.if-h-gt4.false)
