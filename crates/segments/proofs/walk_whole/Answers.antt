use Rattle.std.proofs.Common.{[]}
use Rattle.segments.proofs.ListedLaws.{start-stands}
use Rattle.segments.proofs.walk_whole.Goals as goal

pub walk_movie-requires : goal.walk_movie-requires
walk_movie-requires c =
    let a = c.args in
    rw c.started-w.ensures (record { before = a.list.now; samples = []; standing = start-stands a.of a.write a.list.now })

pub returns : goal.returns
returns c =
    let a = c.args in
    c.walk_movie.ensures a.list.now [] (rw c.started-w.ensures (start-stands a.of a.write a.list.now))
