use Rattle.std.proofs.Common.{refl, ap, ◌++◌, eq-eqb}
use Rattle.segments.specs.Listings.{joined_listing, fragment_listing, with_fragment, movie_listing}
use Rattle.segments.specs.Walks.{known}
use Rattle.segments.proofs.FurtherLaws.{reached-bad, between_start, between-end, between-bad, between-malformed, between_more}
use Rattle.segments.proofs.walk_movie.Goals as goal

pub loop-part-init : goal.loop-part-init
loop-part-init c =
    let a = c.args in
    rw (c.into_iter-part-iterator.ensures.into_iter_gives, c.new-part-items.ensures) (between_start a.of a.write (known a.w) a.list.now (with_fragment a.of) a.s.now)

pub returns-in_err-part : goal.returns-in_err-part
unfolding movie_listing
returns-in_err-part c before m st =
    let a = c.args in
    let b = c.loop-part.invariant in
    let bad = between-bad a.of a.write (known a.w) a.list.now (with_fragment a.of) a.s.now _ (known c.loop-part.v) c.loop-part.list b _ _ (rw c.in_err-part.was at c.in-Some.ensures.steps) in
    reached-bad a.of a.write before c.loop-part.list m _ c.from_residual.result c.from_residual.ensures.0 bad (b.stands before m st).judging

pub returns-in_err-v : goal.returns-in_err-v
unfolding movie_listing
returns-in_err-v c before m st =
    let a = c.args in
    let b = c.loop-part.invariant in
    let r = c.in_err-v.ensures before (m ++ b.done) (b.stands before m st) in
    let bad = between-malformed a.of a.write (known a.w) a.list.now (with_fragment a.of) a.s.now _ (known c.loop-part.v) c.loop-part.list b _ _ (rw c.in_ok-part.was at c.in-Some.ensures.steps)
    (λ x. refl) (rw (eq-eqb _ _ c.if-part-eq-TRAF.true) (ap (joined_listing b.done) r.0)) in
    reached-bad a.of a.write before c.walk_fragment.new.list m _ c.from_residual-in_err-v.result c.from_residual-in_err-v.ensures.0 bad r.1

pub loop-part-preserved-then-part-eq-TRAF : goal.loop-part-preserved-then-part-eq-TRAF
loop-part-preserved-then-part-eq-TRAF c =
    let a = c.args in
    let x = c.requires in
    let b = c.loop-part.invariant in
    let on = c.in_ok-v.ensures in
    between_more a.of a.write (known a.w) a.list.now (with_fragment a.of) a.s.now _ (known c.loop-part.v) c.loop-part.list b _ _ (rw c.in_ok-part.was at c.in-Some.ensures.steps)
    (fragment_listing a.of c.in_ok-part.part.body.now) _ _ (rw (eq-eqb _ _ c.if-part-eq-TRAF.true))
    (on x.before (x.samples ++ b.done) (b.stands x.before x.samples x.standing)).listed
    (λ before m st. (on before m st).standing)

pub returns : goal.returns
unfolding movie_listing
returns c =
    let a = c.args in
    between-end a.of a.write (known a.w) a.list.now (with_fragment a.of) a.s.now _ (known c.loop-part.v) c.loop-part.list c.loop-part.invariant c.in-None.ensures.steps.0
