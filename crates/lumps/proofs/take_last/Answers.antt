use Rattle.std.proofs.Common.{◌∙◌, length, rules}
use Rattle.lumps.specs.Lumps.{rows_told}
use Rattle.lumps.specs.Readings.{run, tell}
use Rattle.lumps.specs.Readers.{reading_of}
use Rattle.lumps.specs.Scans.{Standing}
use Rattle.lumps.proofs.LumpLaws.{last-is, listing-refused, listing-fresh}
use Rattle.lumps.proofs.take_last.Goals as goal

pub returns-in_err-count : goal.returns-in_err-count
returns-in_err-count c =
    let a = c.args in
    let s = c.in_ok-scan.scan in
    let l = c.in_ok-scan.ensures.leads in
    let st : Standing a.r.now a.lump.now s.reader s.from s.next = rw (l.0, l.1) at s.stands in
    let x = rw (l.0, l.1) at c.in_err-count.ensures in
    rw (last-is a.r.now a.buffer.now a.lump.now s.reader s.from s.next st l.2 a.of (length a.list.now))
    (record {
      answer = search rules;
      reader = listing-refused (rows_told a.of (length a.list.now) (tell (run (reading_of a.r.now a.buffer.now) a.lump.now))) _ a.r.now x.value;
      frames = x.list_after;
    })

pub returns : goal.returns
returns c =
    let a = c.args in
    let s = c.in_ok-scan.scan in
    let l = c.in_ok-scan.ensures.leads in
    let st : Standing a.r.now a.lump.now s.reader s.from s.next = rw (l.0, l.1) at s.stands in
    let x = rw (l.0, l.1) at c.in_ok-count.ensures in
    rw (last-is a.r.now a.buffer.now a.lump.now s.reader s.from s.next st l.2 a.of (length a.list.now))
    (record {
      answer = x.value;
      reader = c.fresh_reader.ensures ∙ listing-fresh (rows_told a.of (length a.list.now) (tell (run (reading_of a.r.now a.buffer.now) a.lump.now))) _ a.r.now x.value;
      frames = x.list_after;
    })
