use Rattle.std.proofs.Common.{◌∙◌}
use Rattle.lumps.specs.Scans.{Standing}
use Rattle.lumps.proofs.LumpLaws.{more-answer, more-reader, more-buffer}
use Rattle.lumps.proofs.take_more.Goals as goal

pub returns : goal.returns
returns c =
    let a = c.args in
    let s = c.in_ok-scan.scan in
    let l = c.in_ok-scan.ensures.leads in
    let st : Standing a.r.now a.lump.now s.reader s.from s.next = rw (l.0, l.1) at s.stands in
    record {
      answer = more-answer a.r.now a.buffer.now a.lump.now s.reader s.from s.next st l.2;
      reader = more-reader a.r.now a.buffer.now a.lump.now s.reader s.from s.next st l.2;
      buffer = rw (l.0, l.1) at c.keep.ensures ∙ more-buffer a.r.now a.buffer.now a.lump.now s.reader s.from s.next st l.2;
    }
