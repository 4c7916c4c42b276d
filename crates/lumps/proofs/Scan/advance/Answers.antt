use Rattle.std.proofs.Common.{sym, ◌-◌, arith, length}
use mathlib.Core.Logic.{⊎_elim}
use Rattle.laws.proofs.BoolLaws.{clash}
use Rattle.lumps.proofs.ScanLaws.{IsStretched, stretched, standing-header, standing-passed, standing-kept, standing-stuck, standing-large}
use Rattle.lumps.proofs.Scan.advance.Goals as goal
use Rattle.lumps.proofs.Scan.advance.Goals.{After-stretch-n, After-stretch-n-in-Keeping}

-- how long the stretch is
passed : (c : After-stretch-n) → let s = c.args.self.now in IsStretched s.reader.left (length s.lump.now - s.next) c.stretch-n.result
passed c = stretched _ _ _ c.stretch-n.ensures

kept : (c : After-stretch-n-in-Keeping) → let s = c.args.self.now in IsStretched s.reader.left (length s.lump.now - s.next) c.stretch-n-in-Keeping.result
kept c = stretched _ _ _ c.stretch-n-in-Keeping.ensures

pub invariant_of-self : goal.invariant_of-self
invariant_of-self c =
    let s = c.args.self.now in
    let x = c.in_header-self.ensures in
    record { stands = standing-header s.start s.lump.now s.reader s.from s.next s.stands c.in_header-self.result c.requires c.in-Heading.is x.shows x.keeps }

pub invariant_of-self-in-Passing : goal.invariant_of-self-in-Passing
invariant_of-self-in-Passing c =
    let s = c.args.self.now in
    let x = c.in_body-self.ensures in
    let n = passed (goal.at.invariant_of-self-in-Passing c).After-stretch-n in
    record { stands = standing-passed s.start s.lump.now s.reader s.from s.next s.stands c.in_body-self.result c.stretch-n.result c.requires c.in-Passing.is n.of n.within x.shows (λ k. clash (sym (x.keeps k).0)) }

pub invariant_of-self-in-Keeping : goal.invariant_of-self-in-Keeping
invariant_of-self-in-Keeping c =
    let s = c.args.self.now in
    let x = c.in_body-self-in-Keeping.ensures in
    let n = kept (goal.at.invariant_of-self-in-Keeping c).After-stretch-n-in-Keeping in
    record { stands = standing-kept s.start s.lump.now s.reader s.from s.next s.stands c.in_body-self-in-Keeping.result c.stretch-n-in-Keeping.result c.requires c.in-Keeping.is n.of n.within (λ k. omega (arith, n.all k, c.requires)) x.shows (λ k. (x.keeps k).1) }

pub invariant_of-self-in-Stuck : goal.invariant_of-self-in-Stuck
invariant_of-self-in-Stuck c =
    let s = c.args.self.now in
    record { stands = ⊎_elim (standing-stuck s.start s.lump.now s.reader s.from s.next s.stands) (standing-large s.start s.lump.now s.reader s.from s.next s.stands) c.in-Stuck.is }
