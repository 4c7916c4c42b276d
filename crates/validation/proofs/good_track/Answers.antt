use Rattle.std.proofs.Common.{◌≡◌, true, false, le-leb}
use borrow.Author.Tests.{lt-leb}
use Rattle.buffer_state.specs.WellFormed.{good_track}
use Rattle.validation.proofs.good_track.Goals as goal

pub returns-then-t-gt1 : goal.returns-then-t-gt1
unfolding good_track
returns-then-t-gt1 c = rw (lt-leb _ 1 c.if-t-gt1.true)

pub returns-then-t : goal.returns-then-t
unfolding good_track
returns-then-t c =
    let t = c.args.t in
    let known : t.known ≡ true = c.if-t.true in
    rw (le-leb t.kind 1 c.if-t-gt1.false, known) c.good_three.ensures

pub returns-else-t : goal.returns-else-t
unfolding good_track
returns-else-t c =
    let t = c.args.t in
    let unknown : t.known ≡ false = c.if-t.false in
    rw (le-leb t.kind 1 c.if-t-gt1.false, unknown) c.zero_three.ensures
