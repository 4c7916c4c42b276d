use Rattle.std.proofs.Common.{◌≡◌, refl, sym, ap, subst, ◌∙◌, true, ◌+◌, ◌<◌, arith, rules, ℤ, pos, ◌+ℤ◌, take, set, w64, SFits, of_z, to_z}
use lib.Signed.{le_z, lt_z}
use mir.ValLaws.{to_z-of_z}
use Rattle.laws.proofs.IntLaws.{lt_test, test-le, lt-le, lt-add}
use Rattle.laws.proofs.WordLaws.{told}
use Rattle.buffer_state.specs.declared.Frame.{Frame}
use Rattle.buffer_state.specs.Lent.{frames_of}
use Rattle.buffer_state.specs.Limits.{result_time}
use Rattle.append.proofs.StoredLaws.{held-store}
use Rattle.batch.specs.Bounds.{bound_at, IsBounded}
use Rattle.batch.proofs.BoundLaws.{next_fits, none-bounded, bounded-more, stored-long, stored_at, stored-track}
use Rattle.batch.proofs.bounds_of.Goals as goal
use Rattle.batch.proofs.bounds_of.Goals.{Start, In-loop-i, After-frame_at-g, After-later}

-- the state that is handed in
abbrev start : In-loop-i → Start
start c = (goal.at.In-loop-i c).Start

-- the frame at the place: its track has a bound, and its presentation time is inside the limits
on : (c : After-frame_at-g) → c.frame_at-g.result.track < 5
on c =
    let s = start (goal.at.After-frame_at-g c).In-loop-i in
    rw c.frame_at-g.ensures (stored-track s.args.h s.args.times.now s.args.tags.now s.requires c.loop-i.i c.loop-i-test.true)

shown : (c : After-frame_at-g) → result_time c.frame_at-g.result.pts ≡ true
shown c =
    let s = start (goal.at.After-frame_at-g c).In-loop-i in
    rw c.frame_at-g.ensures (stored_at s.args.h s.args.times.now s.args.tags.now s.requires c.loop-i.i c.loop-i-test.true).pts

fits : (c : After-frame_at-g) → SFits w64 c.frame_at-g.result.pts
fits c = search rules

-- it is presented before the bound that its track has now
past : (c : After-later) → lt_z c.frame_at-g.result.pts c.later.result ≡ true
past c =
    let z = c.frame_at-g.result.pts in
    let next : c.next_micro.result ≡ z +ℤ pos 1 = told z (fits (goal.at.After-later c).After-frame_at-g) (λ y. y +ℤ pos 1) c.next_micro.ensures in
    let back : to_z w64 (of_z w64 c.next_micro.result) ≡ z +ℤ pos 1 = ap (λ (y : ℤ). to_z w64 (of_z w64 y)) next ∙ to_z-of_z w64 (z +ℤ pos 1) (next_fits z (shown (goal.at.After-later c).After-frame_at-g)) in
    let high : le_z (z +ℤ pos 1) c.later.result ≡ true = ap (λ (y : ℤ). le_z y c.later.result) (sym back) ∙ c.later.ensures.1 in
    lt_test (lt-le (lt-add z 1 (omega arith)) (test-le {a = z +ℤ pos 1} {b = c.later.result} high))

pub loop-i-init : goal.loop-i-init
loop-i-init c = none-bounded _ refl

pub frame_at-g-requires : goal.frame_at-g-requires
frame_at-g-requires c =
    let s = start c in
    let h = held-store s.args.h s.args.times.now s.args.tags.now s.requires in
    (omega (arith, c.loop-i-test.true, h.few, h.long.0), omega (arith, c.loop-i-test.true, h.few, h.long.1))

pub bounds-bounds-k : goal.bounds-bounds-k
bounds-bounds-k c = on (goal.at.bounds-bounds-k c).After-frame_at-g

pub next_micro-requires : goal.next_micro-requires
next_micro-requires c = rw (to_z-of_z w64 c.frame_at-g.result.pts (fits (goal.at.next_micro-requires c).After-frame_at-g)) (shown (goal.at.next_micro-requires c).After-frame_at-g)

pub bounds-bounds-k-in-loop-i : goal.bounds-bounds-k-in-loop-i
bounds-bounds-k-in-loop-i c = on (goal.at.bounds-bounds-k-in-loop-i c).After-frame_at-g

pub loop-i-preserved : goal.loop-i-preserved
loop-i-preserved c =
    let a = c.args in
    let fs = frames_of a.times.now a.tags.now in
    let here = c.frame_at-g.ensures in
    let new : to_z w64 (of_z w64 c.later.result) ≡ c.later.result = to_z-of_z w64 c.later.result (search rules) in
    let before : SFits w64 (bound_at c.loop-i.bounds c.frame_at-g.result.track) = search rules in
    let old = to_z-of_z w64 _ before in
    subst (λ (z : ℤ). IsBounded (set c.loop-i.bounds c.frame_at-g.result.track z) (take (c.loop-i.i + 1) fs)) (sym new)
    (subst (λ (g : Frame). IsBounded (set c.loop-i.bounds g.track c.later.result) (take (c.loop-i.i + 1) fs)) (sym here)
    (bounded-more c.loop-i.bounds fs c.loop-i.i c.later.result (omega (arith, c.loop-i-test.true, stored-long a.h a.times.now a.tags.now c.requires))
    (subst (λ (g : Frame). g.track < 5) here (on (goal.at.loop-i-preserved c).After-frame_at-g))
    (subst (λ (g : Frame). le_z (bound_at c.loop-i.bounds g.track) c.later.result ≡ true) here (ap (λ (z : ℤ). le_z z c.later.result) (sym old) ∙ c.later.ensures.0))
    (subst (λ (g : Frame). lt_z g.pts c.later.result ≡ true) here (past (goal.at.loop-i-preserved c).After-later)) c.loop-i.invariant))
