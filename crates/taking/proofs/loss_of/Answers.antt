use Rattle.std.proofs.Common.{rules, arith, ℕ, ◌+◌, ◌≤◌, ◌<◌, ◌≡◌, sym, ap, ◌∙◌, List, ◌∷◌, length, take, drop, get_or}
use Rattle.laws.proofs.ListLaws.{first-length}
use Rattle.buffer_state.specs.declared.Frame.{Frame}
use Rattle.buffer_state.specs.declared.Track.{Track}
use Rattle.buffer_state.specs.Buffer.{zero_track}
use Rattle.buffer_state.specs.Layout.{zero_frame}
use Rattle.buffer_state.specs.Lent.{frames_of}
use Rattle.buffer_state.specs.Store.{Marked}
use Rattle.buffer_laws.proofs.RowLaws.{frames-length}
use Rattle.taking.specs.Loss.{bound_in, loss_here}
use Rattle.taking.specs.Marks.{mark, marked_by}
use Rattle.taking.proofs.GoneLaws.{track-inside}
use Rattle.taking.proofs.LossLaws.{some-loss, none-loss, loss-first, loss-none, loss-stays, loss-passed, loss_here_lem}
use Rattle.taking.proofs.MarkLaws.{marks-next, marks-end, front-still}
use Rattle.taking.proofs.loss_of.Goals as goal
use Rattle.taking.proofs.loss_of.Goals.{Start, At-loop-i, After-shared_slice_known-in-loop-i-1, After-frame_at-g, After-loss_here-lost}

full : (s : Start) → s.args.n ≤ length (frames_of s.args.times.now s.args.tags.now)
full s = omega (arith, frames-length s.args.times.now s.args.tags.now (s.requires.1.0 ∙ sym s.requires.1.1), s.requires.0, s.requires.1.0)

-- where the loop stands: the frame there with its cause, and the frames from it on
abbrev start : (d : At-loop-i) → Start
start d = (goal.at.At-loop-i d).Start

-- where the loop stands: the frame there with its cause, and the frames from it on
abbrev here : (d : At-loop-i) → Frame
here d = get_or (frames_of (start d).args.times.now (start d).args.tags.now) d.loop-i.i zero_frame

-- where the loop stands: the frame there with its cause, and the frames from it on
abbrev cause : (d : At-loop-i) → ℕ
cause d = get_or (start d).args.causes.now d.loop-i.i 0

-- where the loop stands: the frame there with its cause, and the frames from it on
abbrev left : (d : At-loop-i) → List Marked
left d = drop d.loop-i.i (marked_by (take (start d).args.n (frames_of (start d).args.times.now (start d).args.tags.now)) (start d).args.causes.now)

next : (k : After-shared_slice_known-in-loop-i-1) → let a = (start (goal.at.After-shared_slice_known-in-loop-i-1 k).At-loop-i).args in
    left (goal.at.After-shared_slice_known-in-loop-i-1 k).At-loop-i ≡ mark (here (goal.at.After-shared_slice_known-in-loop-i-1 k).At-loop-i) (cause (goal.at.After-shared_slice_known-in-loop-i-1 k).At-loop-i) ∷ drop (k.loop-i.i + 1) (marked_by (take a.n (frames_of a.times.now a.tags.now)) a.causes.now)
next k =
    let s = start (goal.at.After-shared_slice_known-in-loop-i-1 k).At-loop-i in
    let a = s.args in
    marks-next (frames_of a.times.now a.tags.now) a.causes.now a.n (full s) s.requires.3 k.loop-i.i k.loop-i-test.true

-- its track is among those given
inside : (f : After-frame_at-g) → f.frame_at-g.result.track < 5
inside f =
    let s = start (goal.at.After-frame_at-g f).At-loop-i in
    let a = s.args in
    rw f.frame_at-g.ensures (track-inside (frames_of a.times.now a.tags.now) a.n f.loop-i.i f.loop-i-test.true s.requires.2)

-- its track, and the loss that it is
abbrev own : (f : After-frame_at-g) → Track
own f = let d = (goal.at.After-frame_at-g f).At-loop-i in get_or (start d).args.tracks (here d).track zero_track

found : (o : After-loss_here-lost) → let f = (goal.at.After-loss_here-lost o).After-frame_at-g in bound_in o.loss_here-lost.result ≡ loss_here (own f) (here (goal.at.After-frame_at-g f).At-loop-i)
found o =
    let d = (goal.at.After-frame_at-g (goal.at.After-loss_here-lost o).After-frame_at-g).At-loop-i in
    o.loss_here-lost.ensures ∙ ap (λ (g : Frame). loss_here (get_or (start d).args.tracks g.track zero_track) g) o.frame_at-g.ensures

pub loop-i-init : goal.loop-i-init
loop-i-init c =
    let a = c.args in
    let l = take a.n (frames_of a.times.now a.tags.now) in
    let out = front-still a.first l a.causes.now (omega (arith, first-length (frames_of a.times.now a.tags.now) a.n (full (goal.at.loop-i-init c).Start), c.requires.3)) c.requires.5 in
    loss-first a.tracks (marked_by l a.causes.now) a.first (take a.first l) out

pub loop-i-preserved-then-causes-i-eq0 : goal.loop-i-preserved-then-causes-i-eq0
loop-i-preserved-then-causes-i-eq0 c =
    let k = (goal.at.loop-i-preserved-then-causes-i-eq0 c).After-shared_slice_known-in-loop-i-1 in
    let d = (goal.at.loop-i-preserved-then-causes-i-eq0 c).At-loop-i in
    sym (loss-stays (start d).args.tracks (here d) (cause d) (left d) _ (next k) c.if-causes-i-eq0.true) ∙ c.loop-i.invariant

pub bounds-tracks-t : goal.bounds-tracks-t
bounds-tracks-t c = let h = inside (goal.at.bounds-tracks-t c).After-frame_at-g in search rules

pub returns-then-is_some : goal.returns-then-is_some
returns-then-is_some c =
    let k = (goal.at.returns-then-is_some c).After-shared_slice_known-in-loop-i-1 in
    let d = (goal.at.returns-then-is_some c).At-loop-i in
    let f = (goal.at.returns-then-is_some c).After-frame_at-g in
    let loss = found (goal.at.returns-then-is_some c).After-loss_here-lost in
    let ended = some-loss c.loss_here-lost.result (own f) (here d) loss (sym c.is_some.ensures ∙ c.if-is_some.true) in
    loss ∙ rw ended (sym (loss_here_lem (start d).args.tracks (here d) (cause d) (left d) _ (next k) c.if-causes-i-eq0.false ended)) ∙ c.loop-i.invariant

pub loop-i-preserved : goal.loop-i-preserved
loop-i-preserved c =
    let k = (goal.at.loop-i-preserved c).After-shared_slice_known-in-loop-i-1 in
    let d = (goal.at.loop-i-preserved c).At-loop-i in
    let f = (goal.at.loop-i-preserved c).After-frame_at-g in
    let passed = none-loss c.loss_here-lost.result (own f) (here d) (found (goal.at.loop-i-preserved c).After-loss_here-lost) (sym c.is_some.ensures ∙ c.if-is_some.false) in
    sym (loss-passed (start d).args.tracks (here d) (cause d) (left d) _ (next k) passed) ∙ c.loop-i.invariant

pub returns : goal.returns
returns c =
    let s = start (goal.at.returns c).At-loop-i in
    let a = s.args in
    sym (loss-none a.tracks (left (goal.at.returns c).At-loop-i) (marks-end (frames_of a.times.now a.tags.now) a.causes.now a.n (full s) s.requires.3 c.loop-i.i c.loop-i-test.false))
    ∙ c.loop-i.invariant
