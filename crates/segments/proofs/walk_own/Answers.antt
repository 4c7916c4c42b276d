use Rattle.std.proofs.Common.{sym}
use Rattle.segments.specs.Walks.{known}
use Rattle.segments.proofs.StandLaws.{begun-time, stands-begun}
use Rattle.segments.proofs.walk_own.Goals as goal

pub walk_runs-requires : goal.walk_runs-requires
walk_runs-requires c =
    let a = c.args in
    let t = c.in_ok-t.t in
    rw c.begun.ensures (
      record { before = c.requires.before; samples = c.requires.samples; standing = stands-begun a.of a.write c.requires.before c.requires.samples (known a.w) a.list.now c.requires.standing t },
      begun-time (known a.w) t,
    )

pub returns : goal.returns
returns c =
    let a = c.args in
    rw (sym c.in_ok-t.ensures)
    (λ before l st. c.walk_runs.ensures before l (rw c.begun.ensures (stands-begun a.of a.write before l (known a.w) a.list.now st c.in_ok-t.t)))
