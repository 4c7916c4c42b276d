use Rattle.std.proofs.Common.{◌≡◌, refl, Some, sym, ap, ◌∙◌, subst, true, List, [], ◌++◌, append-nil, ℕ, ◌+◌, ◌*◌, ◌≤◌, arith, pos, length}
use Rattle.laws.proofs.BoolLaws.{clash}
use Rattle.buffer_state.specs.WellFormed.{all_of}
use Rattle.fragments.specs.Runs.{samples_from}
use Rattle.media_times.specs.MediaTimes.{good_scale, in_limits}
use Rattle.media_times.specs.declared.Sample.{Sample}
use Rattle.media_times.proofs.EvenLaws.{evenly-ends}
use Rattle.segments.specs.Listings.{total}
use Rattle.segments.specs.Walks.{Known, known, Standing}
use Rattle.segments.proofs.EvenRunLaws.{no-samples, even-total, even-limits, run-lost, run_moved}
use Rattle.segments.proofs.StandLaws.{moved-time}
use Rattle.segments.proofs.WalkLaws.{somewhere-count, somewhere-scale}
use Rattle.segments.proofs.walk_even.Goals as goal
use Rattle.segments.proofs.walk_even.Goals.{Start, After-even_sample-s, After-evenly_in_limits, Else-not-evenly_in_limits}

-- its samples
abbrev all : Start → List Sample
all c = let a = c.args in samples_from a.d a.r a.b.now 0 a.r.count a.w.time

scale : (c : Start) → good_scale c.args.of.timescale ≡ true
scale c = let a = c.args in somewhere-scale a.of a.write (known (Some a.w)) a.list.now c.requires.1.1 refl

counted : (c : Start) → c.args.w.count ≤ length c.args.list.now
counted c = let a = c.args in somewhere-count a.of a.write (known (Some a.w)) a.list.now c.requires.1.1

-- one of them
begins : (c : After-even_sample-s) → c.even_sample-s.result.time ≡ c.args.w.time
begins c = c.even_sample-s.ensures.0

offset : (c : After-even_sample-s) → c.even_sample-s.result.offset ≡ pos 0
offset c = c.even_sample-s.ensures.1.0

duration : (c : After-even_sample-s) → c.even_sample-s.result.duration ≡ c.args.d.duration
duration c = c.even_sample-s.ensures.1.1

-- what the test of the ends says
judged : (c : After-evenly_in_limits) → c.evenly_in_limits.result ≡ all_of (in_limits c.args.of.timescale) (all (goal.at.After-evenly_in_limits c).Start)
judged c =
    let a = c.args in
    c.evenly_in_limits.ensures ∙ even-limits a.d a.r a.b.now c.requires.1.0 a.of.timescale 0 a.r.count a.w.time c.even_sample-s.result (begins (goal.at.After-evenly_in_limits c).After-even_sample-s) (offset (goal.at.After-evenly_in_limits c).After-even_sample-s) (duration (goal.at.After-evenly_in_limits c).After-even_sample-s)

inside : (c : Else-not-evenly_in_limits) → all_of (in_limits c.args.of.timescale) (all (goal.at.Else-not-evenly_in_limits c).Start) ≡ true
inside c = sym (judged (goal.at.Else-not-evenly_in_limits c).After-evenly_in_limits) ∙ c.if-not-evenly_in_limits.false

ends : (c : Else-not-evenly_in_limits) → let s = c.even_sample-s.result in s.time + c.args.r.count * s.duration ≤ 1000010000000
ends c =
    let a = c.args in
    evenly-ends a.of.timescale (scale (goal.at.Else-not-evenly_in_limits c).Start) a.r.count c.even_sample-s.result (offset (goal.at.Else-not-evenly_in_limits c).After-even_sample-s) (omega (arith, c.if-count-eq0.false))
    (sym c.evenly_in_limits.ensures ∙ c.if-not-evenly_in_limits.false)

-- the time that it takes
lasts : (c : Else-not-evenly_in_limits) → let a = c.args in
    a.w.time + a.r.count * c.even_sample-s.result.duration ≡ a.w.time + total (all (goal.at.Else-not-evenly_in_limits c).Start)
lasts c =
    let a = c.args in
    ap (λ (n : ℕ). a.w.time + n) (ap (λ (n : ℕ). a.r.count * n) (duration (goal.at.Else-not-evenly_in_limits c).After-even_sample-s) ∙ sym (even-total a.d a.r a.b.now c.requires.1.0 0 a.r.count a.w.time))

pub returns-then-count-eq0 : goal.returns-then-count-eq0
returns-then-count-eq0 c =
    let a = c.args in
    let e : all (goal.at.returns-then-count-eq0 c).Start ≡ [] = no-samples a.d a.r a.b.now a.r.count a.w.time c.if-count-eq0.true in record { stands = (λ before l st. subst (λ (x : List Sample). Standing a.of a.write before (l ++ x) (known (Some a.w)) a.list.now) (sym e) (rw (append-nil l) st)); timed = λ _. let f : total (all (goal.at.returns-then-count-eq0 c).Start) ≡ 0 = ap (λ (x : List Sample). total x) e in omega (arith, f) }

pub evenly_in_limits-requires : goal.evenly_in_limits-requires
evenly_in_limits-requires c = (scale (goal.at.evenly_in_limits-requires c).Start, offset c)

pub returns-then-not-evenly_in_limits : goal.returns-then-not-evenly_in_limits
returns-then-not-evenly_in_limits c =
    let a = c.args in
    let out = sym (judged (goal.at.returns-then-not-evenly_in_limits c).After-evenly_in_limits) ∙ c.if-not-evenly_in_limits.true in
    record { stands = (λ before l st. run-lost a.of a.write before l (known (Some a.w)) a.list.now st a.d a.r a.b.now a.w.time out); timed = λ g. clash (sym g) }

pub overflow_sub-list : goal.overflow_sub-list
overflow_sub-list c = counted (goal.at.overflow_sub-list c).Start

pub time_after-requires : goal.time_after-requires
time_after-requires c = rw (sym (begins (goal.at.time_after-requires c).After-even_sample-s)) (ends (goal.at.time_after-requires c).Else-not-evenly_in_limits)

pub moved-requires : goal.moved-requires
moved-requires c =
    let s = c.requires.1.1 in
    rw ((c.walk_samples.ensures.stands s.before s.samples s.standing).places ∙ sym s.standing.places) (counted (goal.at.moved-requires c).Start)

pub returns : goal.returns
returns c =
    let a = c.args in
    let t = a.w.time + a.r.count * c.even_sample-s.result.duration in
    let m = rw c.time_after.ensures at c.moved.ensures in
    record {
      stands = (λ before l st.
          rw m
          (run_moved a.of a.write before l (known (Some a.w)) a.list.now st a.d a.r a.b.now a.w.time c.rows_for-n.result c.rows_for-n.ensures.1 _ _ t refl (inside (goal.at.returns c).Else-not-evenly_in_limits)
          c.rows_for-n.ensures.0 (c.walk_samples.ensures.stands before l st)));
      timed = λ _. ap (λ (k : Known). k.time) m ∙ (moved-time _ (known (Some a.w)) a.r.count t ∙ lasts (goal.at.returns c).Else-not-evenly_in_limits);
    }
