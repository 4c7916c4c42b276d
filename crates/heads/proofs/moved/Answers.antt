use Rattle.std.proofs.Common.{cond}
use Rattle.laws.proofs.WordLaws.{told}
use Rattle.buffer_state.specs.Buffer.{is_sequence, start_at_end, with_end}
use Rattle.heads.proofs.HeadLaws.{head-moved}
use Rattle.heads.proofs.moved.Goals as goal

pub returns : goal.returns
returns c =
    let h = c.args.h in
    let g = told c.args.p c.ranges.p (λ z. cond (is_sequence h.mode) (start_at_end h.group) (with_end h.group z)) c.regroup-group.ensures in
    λ b e. head-moved b h e c.args.p c.restart_all-tracks.result c.regroup-group.result c.restart_all-tracks.ensures g
