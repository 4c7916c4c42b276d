use Rattle.std.proofs.Common.{◌≡◌, sym, ◌∙◌, true, false, length, ltb, lt-ltb, le-ltb, rules}
use Rattle.lumps.specs.Readers.{good_reader}
use Rattle.lumps.specs.Readings.{most}
use Rattle.lumps.specs.Scans.{Standing}
use Rattle.lumps.proofs.LumpLaws.{refuses-ill, refuses-short, refuses-long, refuses-large}
use Rattle.lumps.proofs.ReaderLaws.{good-fits}
use Rattle.lumps.proofs.try_lump.Goals as goal
use Rattle.lumps.proofs.try_lump.Goals.{Else-not-good_reader, Else-room-lt-MOST, Else-lump-gt-MOST, After-scanned-scan}

-- what the tests that were passed say
good : (c : Else-not-good_reader) → good_reader c.args.r ≡ true
good c = sym c.good_reader.ensures ∙ c.if-not-good_reader.false

enough : (c : Else-room-lt-MOST) → ltb c.args.room most ≡ false
enough c = le-ltb _ _ c.if-room-lt-MOST.false

few : (c : Else-lump-gt-MOST) → ltb most (length c.args.lump.now) ≡ false
few c = le-ltb _ _ c.if-lump-gt-MOST.false

-- where the scan stands that was made of them
stands : (c : After-scanned-scan) → let s = c.scanned-scan.result in Standing c.args.r c.args.lump.now s.reader s.from s.next
stands c = let x = c.scanned-scan.ensures in rw (x.0, x.1) at c.scanned-scan.result.stands

pub returns-then-not-good_reader-clause-refuses : goal.returns-then-not-good_reader-clause-refuses
returns-then-not-good_reader-clause-refuses c =
    let a = c.args in
    refuses-ill a.r a.room a.lump.now (sym c.good_reader.ensures ∙ c.if-not-good_reader.true)

pub returns-then-room-lt-MOST-clause-refuses : goal.returns-then-room-lt-MOST-clause-refuses
returns-then-room-lt-MOST-clause-refuses c =
    let a = c.args in
    let w = goal.at.returns-then-room-lt-MOST-clause-refuses c in
    refuses-short a.r a.room a.lump.now (good w.Else-not-good_reader) (lt-ltb _ _ c.if-room-lt-MOST.true)

pub returns-then-lump-gt-MOST-clause-refuses : goal.returns-then-lump-gt-MOST-clause-refuses
returns-then-lump-gt-MOST-clause-refuses c =
    let a = c.args in
    let w = goal.at.returns-then-lump-gt-MOST-clause-refuses c in
    refuses-long a.r a.room a.lump.now (good w.Else-not-good_reader) (enough w.Else-room-lt-MOST) (lt-ltb _ _ c.if-lump-gt-MOST.true)

pub scanned-scan-requires : goal.scanned-scan-requires
scanned-scan-requires c =
    let h : length c.args.r.head ≡ 16 = search rules in
    good-fits c.args.r h (good (goal.at.scanned-scan-requires c).Else-not-good_reader)

pub returns-then-is_large-clause-refuses : goal.returns-then-is_large-clause-refuses
returns-then-is_large-clause-refuses c =
    let a = c.args in
    let w = goal.at.returns-then-is_large-clause-refuses c in
    let s = c.scanned-scan.result in
    refuses-large a.r a.room a.lump.now (good w.Else-not-good_reader) (enough w.Else-room-lt-MOST) (few w.Else-lump-gt-MOST) s.reader s.from s.next (stands w.After-scanned-scan) c.scanned-scan.ensures.2 (sym c.is_large.ensures ∙ c.if-is_large.true)
