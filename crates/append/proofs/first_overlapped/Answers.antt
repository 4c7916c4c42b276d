use Rattle.std.proofs.Common.{sym, ◌∙◌, ◌||◌, arith, take}
use lib.Signed.{le_z}
use Rattle.laws.proofs.WordLaws.{told}
use Rattle.laws.proofs.ListLaws.{first-length}
use Rattle.buffer_state.specs.Lent.{frames_of}
use Rattle.buffer_laws.proofs.RowLaws.{frames-length}
use Rattle.append.proofs.SpanLaws.{none-overlapped}
use Rattle.append.proofs.first_overlapped.Goals as goal

pub returns-then-is_free : goal.returns-then-is_free
returns-then-is_free c =
    let a = c.args in
    let h = c.requires.0 in
    let fs = frames_of a.times.now a.tags.now in
    let long = frames-length a.times.now a.tags.now (h.long.0 ∙ sym h.long.1) in
    let few = first-length fs a.n (omega (arith, long, h.long.0, h.few)) in
    let free = told a.bound c.ranges.bound (λ z. le_z z a.s.start || le_z a.s.end a.s.start) c.is_free.ensures in
    none-overlapped a.track a.s a.bound (sym free ∙ c.if-is_free.true) a.spans c.requires.1
    (take a.n fs) a.n (omega (arith, few)) c.requires.2
