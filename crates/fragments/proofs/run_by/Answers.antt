use Rattle.std.proofs.Common.{lt-ltb, le-ltb, le-leb}
use borrow.Author.Tests.{lt-leb}
use Rattle.fragments.specs.Runs.{run_by}
use Rattle.fragments.proofs.run_by.Goals as goal

pub returns-then-word-gt1 : goal.returns-then-word-gt1
unfolding run_by
returns-then-word-gt1 c = rw (lt-leb _ _ c.if-word-gt1.true)

pub returns-then-b-from : goal.returns-then-b-from
unfolding run_by
returns-then-b-from c = rw (le-leb _ _ c.if-word-gt1.false, ← c.columns_at-from.ensures.0, ← c.width_of-width.ensures.0, lt-ltb _ _ c.if-b-from.true)

pub returns : goal.returns
unfolding run_by
returns c = rw (le-leb _ _ c.if-word-gt1.false, ← c.columns_at-from.ensures.0, ← c.width_of-width.ensures.0, le-ltb _ _ c.if-b-from.false)
