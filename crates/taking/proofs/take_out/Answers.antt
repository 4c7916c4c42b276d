use Rattle.std.proofs.Common.{arith, ℕ, ◌+◌, ◌≤◌, ◌<◌, ◌≡◌, sym, subst, ◌∙◌, List, [], ◌∷◌, eqb, ℤ, length, take, drop, get_or, set, eq-eqb, ne_eqb}
use Rattle.laws.proofs.ListLaws.{first-length}
use Rattle.buffer_state.specs.declared.Frame.{Frame}
use Rattle.buffer_state.specs.Layout.{zero_frame}
use Rattle.buffer_state.specs.Lent.{time_of, tag_of, frames_of}
use Rattle.buffer_state.specs.Store.{Marked}
use Rattle.taking.specs.Marks.{mark, marked_by}
use Rattle.taking.proofs.MarkLaws.{marks-next, marks-end, front-still}
use Rattle.taking.proofs.LoopLaws.{Taking, turn-gone, turn-kept}
use Rattle.taking.proofs.FromLaws.{taking-from}
use Rattle.taking.proofs.EndLaws.{full, time-read, tag_read, ended}
use Rattle.taking.proofs.take_out.Goals as goal
use Rattle.taking.proofs.take_out.Goals.{Start, At-loop-i, After-tag-1}

abbrev start : At-loop-i → Start
start d = (goal.at.At-loop-i d).Start

abbrev at : After-tag-1 → At-loop-i
at o = (goal.at.After-tag-1 o).At-loop-i

abbrev here : At-loop-i → Frame
here d = get_or (frames_of (start d).args.times.now (start d).args.tags.now) d.loop-i.i zero_frame

abbrev marks : Start → List Marked
marks s = marked_by (take s.args.n (frames_of s.args.times.now s.args.tags.now)) s.args.causes.now

more : (o : After-tag-1) → (at o).loop-i.i < (start (at o)).args.n
more o = o.loop-i-test.true

full-here : (s : Start) → s.args.n ≤ length (frames_of s.args.times.now s.args.tags.now)
full-here s = let a = s.args in full a.times.now a.tags.now a.fates.now a.n (marks s) s.requires.0 s.requires.1 s.requires.2

next : (o : After-tag-1) → let d = at o in let s = start d in
    drop d.loop-i.i (marks s) ≡ mark (here d) (get_or s.args.causes.now d.loop-i.i 0) ∷ drop (d.loop-i.i + 1) (marks s)
next o =
    let d = at o in
    let s = start d in
    let a = s.args in
    marks-next (frames_of a.times.now a.tags.now) a.causes.now a.n (full-here s) s.requires.3 d.loop-i.i (more o)

-- the rows at the place are still the stored frame's
time-here : (o : After-tag-1) → get_or (at o).loop-i.times (at o).loop-i.i [] ≡ time_of (here (at o))
time-here o =
    let d = at o in
    let s = start d in
    let a = s.args in
    time-read a.times.now a.tags.now a.fates.now a.n (marks s) s.requires.0 s.requires.1 s.requires.2 d.loop-i.times d.loop-i.tags d.loop-i.fates d.loop-i.k d.loop-i.m d.loop-i.i d.loop-i.invariant (more o)

tag-here : (o : After-tag-1) → get_or (at o).loop-i.tags (at o).loop-i.i [] ≡ tag_of (here (at o))
tag-here o =
    let d = at o in
    let s = start d in
    let a = s.args in
    tag_read a.times.now a.tags.now a.fates.now a.n (marks s) s.requires.0 s.requires.1 s.requires.2 d.loop-i.times d.loop-i.tags d.loop-i.fates d.loop-i.k d.loop-i.m d.loop-i.i d.loop-i.invariant (more o)

pub loop-i-init : goal.loop-i-init
loop-i-init c =
    let a = c.args in
    taking-from a.times.now a.tags.now a.fates.now a.n (marks (goal.at.loop-i-init c).Start) (full-here (goal.at.loop-i-init c).Start) c.requires.2 a.first c.requires.5
    (front-still a.first (take a.n (frames_of a.times.now a.tags.now)) a.causes.now (omega (arith, first-length (frames_of a.times.now a.tags.now) a.n (full-here (goal.at.loop-i-init c).Start), c.requires.3)) c.requires.6)

pub loop-i-preserved-then-cause-eq0 : goal.loop-i-preserved-then-cause-eq0
loop-i-preserved-then-cause-eq0 c =
    let d = at (goal.at.loop-i-preserved-then-cause-eq0 c).After-tag-1 in
    let s = start d in
    let a = s.args in
    let h = more (goal.at.loop-i-preserved-then-cause-eq0 c).After-tag-1 in
    let l = d.loop-i in
    let e : eqb (get_or a.causes.now l.i 0) 0 ≡ _ = eq-eqb _ 0 c.if-cause-eq0.true in
    let kept = turn-kept a.times.now a.tags.now a.fates.now a.n (marks s) l.times l.tags l.fates l.k l.m l.i l.invariant h _ (next (goal.at.loop-i-preserved-then-cause-eq0 c).After-tag-1)
    e (omega (arith, l.invariant.few, h, s.requires.0, s.requires.1.0)) (omega (arith, l.invariant.few, h, s.requires.0, s.requires.1.1)) in
    subst (λ (y : List ℕ). Taking a.times.now a.tags.now a.fates.now a.n (marks s) (set l.times l.k (get_or l.times l.i [])) (set l.tags l.k y) l.fates (l.k + 1) l.m (l.i + 1)) (sym (tag-here (goal.at.loop-i-preserved-then-cause-eq0 c).After-tag-1))
    (subst (λ (x : List ℤ). Taking a.times.now a.tags.now a.fates.now a.n (marks s) (set l.times l.k x) (set l.tags l.k (tag_of (here d))) l.fates (l.k + 1) l.m (l.i + 1)) (sym (time-here (goal.at.loop-i-preserved-then-cause-eq0 c).After-tag-1)) kept)

pub loop-i-preserved : goal.loop-i-preserved
loop-i-preserved c =
    let d = at (goal.at.loop-i-preserved c).After-tag-1 in
    let s = start d in
    let a = s.args in
    let h = more (goal.at.loop-i-preserved c).After-tag-1 in
    let l = d.loop-i in
    let e : eqb (get_or a.causes.now l.i 0) 0 ≡ _ = ne_eqb _ 0 c.if-cause-eq0.false in
    subst (λ (y : List ℕ). Taking a.times.now a.tags.now a.fates.now a.n (marks s) l.times l.tags (set l.fates l.m (get_or y 3 0 ∷ get_or a.causes.now l.i 0 ∷ [])) l.k (l.m + 1) (l.i + 1)) (sym (tag-here (goal.at.loop-i-preserved c).After-tag-1))
    (turn-gone a.times.now a.tags.now a.fates.now a.n (marks s) l.times l.tags l.fates l.k l.m l.i l.invariant h _ (next (goal.at.loop-i-preserved c).After-tag-1)
    e (omega (arith, l.invariant.told, h, s.requires.4)))

pub returns : goal.returns
returns c =
    let s = start (goal.at.returns c).At-loop-i in
    let a = s.args in
    let e = ended a.times.now a.tags.now a.fates.now a.n (marks s) s.requires.0 s.requires.1 s.requires.2 c.loop-i.times c.loop-i.tags c.loop-i.fates c.loop-i.k c.loop-i.m c.loop-i.i c.loop-i.invariant
    (marks-end (frames_of a.times.now a.tags.now) a.causes.now a.n (full-here s) s.requires.3 c.loop-i.i c.loop-i-test.false) in
    record { times = c.clear.ensures.times ∙ e.0; tags = c.clear.ensures.tags ∙ e.1; lines = e.2; counts = (e.3, e.4) }
