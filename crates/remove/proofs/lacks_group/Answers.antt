use Rattle.std.proofs.Common.{◌≡◌, arith, rules, length}
use Rattle.buffer_state.specs.Limits.{places}
use Rattle.remove.proofs.PlaceLaws.{laid, long, on-tracks}
use Rattle.remove.proofs.lacks_group.Goals as goal
use Rattle.remove.proofs.lacks_group.Goals.{After-mark-causes}

-- a cause for each place
causes-long : (c : After-mark-causes) → length c.mark-causes.result ≡ places
causes-long c = search rules

pub mark-causes-requires : goal.mark-causes-requires
mark-causes-requires c =
    let a = c.args in
    let w = c.requires.0 in
    ((laid a.h a.times.now a.tags.now w).nframes, long a.h a.times.now a.tags.now w, on-tracks a.h a.times.now a.tags.now w, omega arith, c.requires.1.inside, c.requires.1.before)

pub loss_of-requires : goal.loss_of-requires
loss_of-requires c =
    let a = c.args in
    let w = c.requires.0 in
    let l = (laid a.h a.times.now a.tags.now w).nframes in
    (l, long a.h a.times.now a.tags.now w, on-tracks a.h a.times.now a.tags.now w, omega (arith, l, causes-long (goal.at.loss_of-requires c).After-mark-causes), c.requires.1.inside, c.mark-causes.ensures.before)
