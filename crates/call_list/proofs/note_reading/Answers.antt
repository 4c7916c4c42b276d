use Rattle.std.proofs.Common.{◌≡◌, refl, [], ◌∷◌, eq-eqb}
use Rattle.call_list.specs.Listed.{noted}
use Rattle.call_list.proofs.ListedLaws.{set-written}
use Rattle.call_list.proofs.note_reading.Goals as goal

pub returns-then-kind-eq-READ : goal.returns-then-kind-eq-READ
returns-then-kind-eq-READ c =
    let a = c.args in
    let e : noted a.kind a.doubles ≡ a.doubles ∷ [] = rw (eq-eqb a.kind 7 c.if-kind-eq-READ.true) in
    rw e (record { count = refl; list = set-written a.readings.now a.at a.doubles c.requires })
