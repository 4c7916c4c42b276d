use Rattle.std.proofs.Common.{◌≡◌, refl, Some, sym, ap, ◌∙◌, true, ◌+◌, ◌≤◌, arith}
use Rattle.laws.proofs.BoolLaws.{clash}
use Rattle.media_times.specs.MediaTimes.{good_scale, in_limits, row_of}
use Rattle.media_times.proofs.LimitLaws.{in_limits-ends}
use Rattle.segments.specs.Walks.{Known, known}
use Rattle.segments.proofs.StandLaws.{moved-time, written-length, stands_one, stands-none}
use Rattle.segments.proofs.WalkLaws.{somewhere-count, somewhere-scale}
use Rattle.segments.proofs.walk_sample.Goals as goal
use Rattle.segments.proofs.walk_sample.Goals.{Start, Else-not-in_limits}

scale : (c : Start) → good_scale c.args.of.timescale ≡ true
scale c = let a = c.args in somewhere-scale a.of a.write (known (Some a.w)) a.list.now c.requires.0 refl

inside : (c : Else-not-in_limits) → in_limits c.args.of.timescale c.args.s ≡ true
inside c = sym c.in_limits.ensures ∙ c.if-not-in_limits.false

ends : (c : Else-not-in_limits) → let s = c.args.s in (s.time ≤ 1000000000000) × ((1 ≤ s.duration) × (s.duration ≤ 10000000))
ends c = in_limits-ends c.args.of.timescale (scale (goal.at.Else-not-in_limits c).Start) c.args.s (inside c)

pub in_limits-requires : goal.in_limits-requires
in_limits-requires c = (scale c, c.requires.1)

pub returns-then-not-in_limits : goal.returns-then-not-in_limits
returns-then-not-in_limits c =
    let a = c.args in
    let out = sym c.in_limits.ensures ∙ c.if-not-in_limits.true in
    record { stands = (λ before l st. stands-none a.of a.write before l (known (Some a.w)) a.list.now st a.s out); timed = λ g. clash (sym g) }

pub write_row-requires : goal.write_row-requires
write_row-requires c = (scale (goal.at.write_row-requires c).Start, (c.requires.1, (ends (goal.at.write_row-requires c).Else-not-in_limits).0))

pub overflow_add-s : goal.overflow_add-s
overflow_add-s c = omega (arith, ends (goal.at.overflow_add-s c).Else-not-in_limits)

pub moved-requires : goal.moved-requires
moved-requires c =
    let a = c.args in
    rw (written-length a.write a.list.now a.w.count (row_of a.of.track a.of.timescale a.s) _ c.write_row.ensures)
    (somewhere-count a.of a.write (known (Some a.w)) a.list.now c.requires.0)

pub returns : goal.returns
returns c =
    let a = c.args in
    record { stands = (λ before l st. rw c.moved.ensures (stands_one a.of a.write before l (known (Some a.w)) a.list.now st a.s (a.s.time + a.s.duration) _ refl (inside (goal.at.returns c).Else-not-in_limits) c.write_row.ensures)); timed = λ _. ap (λ (k : Known). k.time) c.moved.ensures ∙ moved-time _ (known (Some a.w)) 1 (a.s.time + a.s.duration) }
