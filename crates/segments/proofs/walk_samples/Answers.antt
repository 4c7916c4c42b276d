use Rattle.std.proofs.Common.{sym, refl, Some, ◌+◌, arith}
use Rattle.laws.proofs.BoolLaws.{clash}
use Rattle.fragments.specs.Runs.{sample_at}
use Rattle.segments.specs.Walks.{lost_walk, known}
use Rattle.segments.proofs.RunLaws.{along-more, along-all, along-timed}
use Rattle.segments.proofs.walk_samples.Goals as goal

pub returns-in_err-v : goal.returns-in_err-v
unfolding sample_at
returns-in_err-v c =
    let a = c.args in
    let s = c.sample_at-s.ensures.0 in
    let m = along-more a.of a.d a.r a.b.now a.n a.write (known (Some a.w)) a.list.now c.loop-i.i (known (Some c.loop-i.v)) c.loop-i.list c.loop-i.invariant lost_walk _ (omega arith) refl
    (rw s at c.in_err-v.ensures.stands) (λ g. clash (sym g)) in
    rw c.from_residual.ensures (record {
      stands = along-all a.of a.d a.r a.b.now a.n a.write (known (Some a.w)) a.list.now (c.loop-i.i + 1) lost_walk _ m (λ g. clash (sym g));
      timed = λ g. clash (sym g);
    })

pub loop-i-preserved : goal.loop-i-preserved
unfolding sample_at
loop-i-preserved c =
    let a = c.args in
    let s = c.sample_at-s.ensures.0 in
    along-more a.of a.d a.r a.b.now a.n a.write (known (Some a.w)) a.list.now c.loop-i.i (known (Some c.loop-i.v)) c.loop-i.list c.loop-i.invariant _ _ (omega arith) refl
    (rw s at c.in_ok-v.ensures.stands) (rw s at c.in_ok-v.ensures.timed)

pub returns : goal.returns
returns c =
    let a = c.args in
    record {
      stands = along-all a.of a.d a.r a.b.now a.n a.write (known (Some a.w)) a.list.now c.loop-i.i (known (Some c.loop-i.v)) c.loop-i.list c.loop-i.invariant (λ _. c.loop-i-test.false);
      timed = along-timed a.of a.d a.r a.b.now a.n a.write (known (Some a.w)) a.list.now c.loop-i.i (known (Some c.loop-i.v)) c.loop-i.list c.loop-i.invariant (λ _. c.loop-i-test.false);
    }
