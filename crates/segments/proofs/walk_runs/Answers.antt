use Rattle.std.proofs.Common.{refl, ap, ◌+◌, ◌++◌, eq-eqb, ne_eqb}
use Rattle.fragments.specs.Runs.{run_of}
use Rattle.segments.specs.Listings.{joined_listing, total, run_listing, runs_from, with_run}
use Rattle.segments.specs.Walks.{known}
use Rattle.segments.proofs.FurtherLaws.{reached-bad, between-end, between-bad, between-malformed, at-start, at_other, at_more}
use Rattle.segments.proofs.walk_runs.Goals as goal

pub loop-part-init : goal.loop-part-init
loop-part-init c =
    let a = c.args in
    rw (c.into_iter-part-iterator.ensures.into_iter_gives, c.new-part-items.ensures)
    (at-start a.of a.write (known a.w) a.list.now (with_run a.d a.time) a.s.now a.time c.requires.1)

pub returns-in_err-part : goal.returns-in_err-part
unfolding runs_from
returns-in_err-part c before m st =
    let a = c.args in
    let b = c.loop-part.invariant.between in
    let bad = between-bad a.of a.write (known a.w) a.list.now (with_run a.d a.time) a.s.now _ (known c.loop-part.v) c.loop-part.list b _ _ (rw c.in_err-part.was at c.in-Some.ensures.steps) in
    reached-bad a.of a.write before c.loop-part.list m _ c.from_residual.result c.from_residual.ensures.0 bad (b.stands before m st).judging

pub returns-in_err-v : goal.returns-in_err-v
unfolding runs_from
returns-in_err-v c before m st =
    let a = c.args in
    let i = c.loop-part.invariant in
    let b = i.between in
    let r = c.in_err-v.ensures.reached (a.time + total b.done) i.timed before (m ++ b.done) (b.stands before m st) in
    let bad = between-malformed a.of a.write (known a.w) a.list.now (with_run a.d a.time) a.s.now _ (known c.loop-part.v) c.loop-part.list b _ _ (rw c.in_ok-part.was at c.in-Some.ensures.steps)
    (λ x. refl) (rw (eq-eqb _ _ c.if-part-eq-TRUN.true) (ap (joined_listing b.done) r.0)) in
    reached-bad a.of a.write before c.walk_body.new.list m _ c.from_residual-in_err-v.result c.from_residual-in_err-v.ensures.0 bad r.1

pub loop-part-preserved-then-part-eq-TRUN : goal.loop-part-preserved-then-part-eq-TRUN
loop-part-preserved-then-part-eq-TRUN c =
    let a = c.args in
    let x = c.requires.0 in
    let i = c.loop-part.invariant in
    let b = i.between in
    let at = a.time + total b.done in
    let on = c.in_ok-v.ensures.reached at i.timed in
    at_more a.of a.write (known a.w) a.list.now (with_run a.d a.time) a.s.now a.time _ (known c.loop-part.v) c.loop-part.list i _ _ (rw c.in_ok-part.was at c.in-Some.ensures.steps)
    (run_listing a.d at c.in_ok-part.part.body.now (run_of c.in_ok-part.part.body.now)) _ _ (rw (eq-eqb _ _ c.if-part-eq-TRUN.true))
    (on x.before (x.samples ++ b.done) (b.stands x.before x.samples x.standing)).listed
    (λ before m st. (on before m st).standing)
    (c.in_ok-v.ensures.timed at i.timed)

pub loop-part-preserved : goal.loop-part-preserved
loop-part-preserved c =
    let a = c.args in
    at_other a.of a.write (known a.w) a.list.now (with_run a.d a.time) a.s.now a.time _ (known c.loop-part.v) c.loop-part.list c.loop-part.invariant _ _ (rw c.in_ok-part.was at c.in-Some.ensures.steps)
    (rw (ne_eqb _ _ c.if-part-eq-TRUN.false))

pub returns : goal.returns
unfolding runs_from
returns c =
    let a = c.args in
    between-end a.of a.write (known a.w) a.list.now (with_run a.d a.time) a.s.now _ (known c.loop-part.v) c.loop-part.list c.loop-part.invariant.between c.in-None.ensures.steps.0
