use Rattle.std.proofs.Common.{refl, sym, subst, Option}
use Rattle.fragments.proofs.FragmentLaws.{run_fits}
use Rattle.laws.proofs.BoolLaws.{both_ways}
use Rattle.segments.specs.Walks.{lost_walk, known, Somewhere}
use Rattle.segments.specs.declared.Walk.{Walk}
use Rattle.segments.proofs.StandLaws.{stands-lost}
use Rattle.segments.proofs.walk_body.Goals as goal

pub walk_run-requires : goal.walk_run-requires
walk_run-requires c =
    let a = c.args in
    (run_fits _ _ (sym c.in_ok-r.ensures), subst (λ (x : Option Walk). Somewhere a.of a.write (known x) a.list.now) c.in-Some.is c.requires)

pub returns-in_default : goal.returns-in_default
returns-in_default c =
    let a = c.args in
    rw (sym c.in_ok-r.ensures, c.in_default.is)
    (record { reached = (λ t tm before l st. record { listed = refl; standing = stands-lost a.of a.write before l lost_walk a.list.now st _ refl }); timed = (λ t tm g. both_ways g refl) })
