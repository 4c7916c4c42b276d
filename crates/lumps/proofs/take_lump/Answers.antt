use Rattle.std.proofs.Common.{sym, length}
use Rattle.lumps.proofs.LumpLaws.{last-buffer, more-frames}
use Rattle.lumps.proofs.take_lump.Goals as goal

pub returns-then-last-clause-buffer : goal.returns-then-last-clause-buffer
returns-then-last-clause-buffer c =
    let a = c.args in
    rw c.if-last.true (sym (last-buffer a.of (length a.list.now) a.r.now a.buffer.now a.lump.now))

pub returns-clause-frames : goal.returns-clause-frames
returns-clause-frames c =
    let a = c.args in
    rw c.if-last.false (sym (more-frames a.r.now a.buffer.now a.lump.now a.list.now))
