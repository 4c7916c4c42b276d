use Rattle.std.proofs.Common.{rules, arith, ℕ, ◌+◌, ◌≤◌, ◌<◌, ◌≡◌, refl, sym, ap, ap₂, subst, ◌∙◌, Bool, true, false, not, ◌&&◌, List, [], ◌∷◌, eqb, ℤ, ne_eqb, length, take, drop, get_or, set}
use Rattle.laws.proofs.BoolLaws.{and_left}
use Rattle.seconds.specs.Seconds.{Bound}
use Rattle.buffer_state.specs.declared.Frame.{Frame}
use Rattle.buffer_state.specs.Layout.{zero_frame}
use Rattle.buffer_state.specs.Lent.{time_of, tag_of, frame_of, frames_of}
use Rattle.buffer_laws.proofs.RowLaws.{row_back}
use Rattle.buffer_state.specs.Buffer.{zero_track}
use Rattle.buffer_state.specs.Store.{Marked}
use Rattle.taking.specs.Loss.{bound_in, earlier, loss_here, loss_of}
use Rattle.taking.specs.Taking.{in_spans, taken_marks}
use Rattle.taking.proofs.LossLaws.{earlier-none, loss-first, loss-none, loss-stays, loss-gone}
use Rattle.taking.proofs.LoopLaws.{Taking, turn-gone, turn-kept}
use Rattle.taking.proofs.FromLaws.{taking-from}
use Rattle.taking.proofs.GoneLaws.{track-inside}
use Rattle.taking.proofs.EndLaws.{full, time-read, tag_read, ended}
use Rattle.taking.proofs.AlongLaws.{Along, along-front, along-none, along-taken, along-follows, along-kept, along-end}
use Rattle.taking.proofs.take_along.Goals as goal
use Rattle.taking.proofs.take_along.Goals.{Start, At-loop-i, After-frame_of-g, After-in_span, After-first_loss-lost, After-first_loss-lost-then-follows-g}

abbrev marks : Start → List Marked
marks s = taken_marks s.args.spans s.args.cause (take s.args.n (frames_of s.args.times.now s.args.tags.now))

-- the frame at the place, as the loop reads it, is the stored one
abbrev at : After-frame_of-g → At-loop-i
at c = (goal.at.After-frame_of-g c).At-loop-i

abbrev here : At-loop-i → Frame
here d = get_or (frames_of d.args.times.now d.args.tags.now) d.loop-i.i zero_frame

time-here : (c : After-frame_of-g) → get_or (at c).loop-i.times (at c).loop-i.i [] ≡ time_of (here (at c))
time-here c =
    let d = at c in
    let a = d.args in
    time-read a.times.now a.tags.now a.fates.now a.n (marks (goal.at.At-loop-i d).Start) d.requires.0 d.requires.1 d.requires.2
    d.loop-i.times d.loop-i.tags d.loop-i.fates d.loop-i.k d.loop-i.m d.loop-i.i d.loop-i.invariant.0 c.loop-i-test.true

tag-here : (c : After-frame_of-g) → get_or (at c).loop-i.tags (at c).loop-i.i [] ≡ tag_of (here (at c))
tag-here c =
    let d = at c in
    let a = d.args in
    tag_read a.times.now a.tags.now a.fates.now a.n (marks (goal.at.At-loop-i d).Start) d.requires.0 d.requires.1 d.requires.2
    d.loop-i.times d.loop-i.tags d.loop-i.fates d.loop-i.k d.loop-i.m d.loop-i.i d.loop-i.invariant.0 c.loop-i-test.true

frame_here : (c : After-frame_of-g) → c.frame_of-g.result ≡ here (at c)
frame_here c = c.frame_of-g.ensures ∙ ap₂ frame_of (time-here c) (tag-here c) ∙ row_back (here (at c))

-- whether it is in the stretch, and whether the walk reaches it
spanned : (c : After-in_span) → let d = at (goal.at.After-in_span c).After-frame_of-g in c.in_span.result ≡ in_spans d.args.spans (here d)
spanned c = let a = (at (goal.at.After-in_span c).After-frame_of-g).args in c.in_span.ensures ∙ ap (in_spans a.spans) (frame_here (goal.at.After-in_span c).After-frame_of-g)

reached : (c : After-in_span) → let d = at (goal.at.After-in_span c).After-frame_of-g in let g = c.frame_of-g.result in let t = d.loop-i.track in
    (d.loop-i.follows && (not g.flagged && eqb g.track t)) ≡ (d.loop-i.follows && (not (here d).flagged && eqb (here d).track t))
reached c = let d = at (goal.at.After-in_span c).After-frame_of-g in ap (λ (g : Frame). d.loop-i.follows && (not g.flagged && eqb g.track d.loop-i.track)) (frame_here (goal.at.After-in_span c).After-frame_of-g)

gone : (s : Start) → eqb s.args.cause 0 ≡ false
gone s = ne_eqb s.args.cause 0 (λ z. absurd (omega (arith, s.requires.5, z)))

full-here : (s : Start) → s.args.n ≤ length (frames_of s.args.times.now s.args.tags.now)
full-here s = let a = s.args in full a.times.now a.tags.now a.fates.now a.n (marks s) s.requires.0 s.requires.1 s.requires.2

-- its track has a stretch
inside : (c : After-frame_of-g) → c.frame_of-g.result.track < 5
inside c =
    let d = at c in
    let a = d.args in
    rw (frame_here c) (track-inside (frames_of a.times.now a.tags.now) a.n d.loop-i.i c.loop-i-test.true d.requires.4)

-- the loss after it
found : (c : After-first_loss-lost)
    → let d = at (goal.at.After-first_loss-lost c).After-frame_of-g in
    bound_in c.first_loss-lost.result ≡ earlier (bound_in d.loop-i.lost) (loss_here (get_or d.args.tracks (here d).track zero_track) (here d))
found c =
    let d = at (goal.at.After-first_loss-lost c).After-frame_of-g in
    c.first_loss-lost.ensures ∙ ap (λ (x : Frame). earlier (bound_in d.loop-i.lost) (loss_here (get_or d.args.tracks x.track zero_track) x)) (frame_here (goal.at.After-first_loss-lost c).After-frame_of-g)

found-2 : (c : After-first_loss-lost-then-follows-g)
    → let d = at (goal.at.After-first_loss-lost-then-follows-g c).After-frame_of-g in
    bound_in c.first_loss-lost-then-follows-g.result ≡ earlier (bound_in d.loop-i.lost) (loss_here (get_or d.args.tracks (here d).track zero_track) (here d))
found-2 c =
    let d = at (goal.at.After-first_loss-lost-then-follows-g c).After-frame_of-g in
    c.first_loss-lost-then-follows-g.ensures ∙ ap (λ (x : Frame). earlier (bound_in d.loop-i.lost) (loss_here (get_or d.args.tracks x.track zero_track) x)) (frame_here (goal.at.After-first_loss-lost-then-follows-g c).After-frame_of-g)

pub loop-i-init : goal.loop-i-init
loop-i-init s =
    let a = s.args in
    let l = take a.n (frames_of a.times.now a.tags.now) in
    let front = along-front a.times.now a.tags.now a.n a.first (in_spans a.spans) a.cause s.requires.0 s.requires.1 s.requires.7 s.requires.8 in (
      taking-from a.times.now a.tags.now a.fates.now a.n (marks s) (full-here s) s.requires.2 a.first s.requires.7 front,
      along-none a.times.now a.tags.now a.n a.first (in_spans a.spans) a.cause s.requires.0 s.requires.1 s.requires.7 s.requires.8,
      loss-first a.tracks (marks s) a.first (take a.first l) front,
    )

pub bounds-spans-t : goal.bounds-spans-t
bounds-spans-t c = let h = inside (goal.at.bounds-spans-t c).After-frame_of-g in search rules

pub loop-i-preserved-then-in_span : goal.loop-i-preserved-then-in_span
loop-i-preserved-then-in_span c =
    let d = at (goal.at.loop-i-preserved-then-in_span c).After-frame_of-g in
    let a = d.args in
    let h = c.loop-i-test.true in
    let rest : List Marked = drop (d.loop-i.i + 1) (marks (goal.at.At-loop-i d).Start) in
    let arm = along-taken a.times.now a.tags.now a.n a.first (in_spans a.spans) a.cause d.requires.0 d.requires.1 d.loop-i.track d.loop-i.follows d.loop-i.i d.loop-i.invariant.1 h d.requires.3 d.requires.9 d.requires.5 (sym (spanned (goal.at.loop-i-preserved-then-in_span c).After-in_span) ∙ c.if-in_span.true) in (
      subst (λ (x : Frame). Taking a.times.now a.tags.now a.fates.now a.n (marks (goal.at.At-loop-i d).Start) d.loop-i.times d.loop-i.tags (set d.loop-i.fates d.loop-i.m (x.number ∷ a.cause ∷ [])) d.loop-i.k (d.loop-i.m + 1) (d.loop-i.i + 1))
          (sym (frame_here (goal.at.loop-i-preserved-then-in_span c).After-frame_of-g))
          (turn-gone a.times.now a.tags.now a.fates.now a.n (marks (goal.at.At-loop-i d).Start) d.loop-i.times d.loop-i.tags d.loop-i.fates d.loop-i.k d.loop-i.m d.loop-i.i d.loop-i.invariant.0 h a.cause arm.0 (gone (goal.at.At-loop-i d).Start) (omega (arith, d.loop-i.invariant.0.told, d.loop-i.invariant.0.inside, h, d.requires.0, d.requires.6))),
      subst (λ (x : Frame). Along a.times.now a.tags.now a.n a.first (in_spans a.spans) a.cause x.track true (d.loop-i.i + 1)) (sym (frame_here (goal.at.loop-i-preserved-then-in_span c).After-frame_of-g)) arm.1,
      ap (λ (b : Bound). earlier b (loss_of a.tracks rest)) (found c)
          ∙ loss-gone a.tracks (here d) a.cause (drop d.loop-i.i (marks (goal.at.At-loop-i d).Start)) rest arm.0 (bound_in d.loop-i.lost) (gone (goal.at.At-loop-i d).Start) ∙ d.loop-i.invariant.2,
    )

pub bounds-tracks-t-then-follows-g : goal.bounds-tracks-t-then-follows-g
bounds-tracks-t-then-follows-g c = let h = inside (goal.at.bounds-tracks-t-then-follows-g c).After-frame_of-g in search rules

pub loop-i-preserved-then-follows-g : goal.loop-i-preserved-then-follows-g
loop-i-preserved-then-follows-g c =
    let d = at (goal.at.loop-i-preserved-then-follows-g c).After-frame_of-g in
    let a = d.args in
    let h = c.loop-i-test.true in
    let rest : List Marked = drop (d.loop-i.i + 1) (marks (goal.at.At-loop-i d).Start) in
    let arm = along-follows a.times.now a.tags.now a.n a.first (in_spans a.spans) a.cause d.requires.0 d.requires.1 d.loop-i.track d.loop-i.follows d.loop-i.i d.loop-i.invariant.1 h d.requires.3 d.requires.9 (sym (spanned (goal.at.loop-i-preserved-then-follows-g c).After-in_span) ∙ c.if-in_span.false) (sym (reached (goal.at.loop-i-preserved-then-follows-g c).After-in_span) ∙ c.if-follows-g.true) in (
      subst (λ (x : Frame). Taking a.times.now a.tags.now a.fates.now a.n (marks (goal.at.At-loop-i d).Start) d.loop-i.times d.loop-i.tags (set d.loop-i.fates d.loop-i.m (x.number ∷ 5 ∷ [])) d.loop-i.k (d.loop-i.m + 1) (d.loop-i.i + 1))
          (sym (frame_here (goal.at.loop-i-preserved-then-follows-g c).After-frame_of-g))
          (turn-gone a.times.now a.tags.now a.fates.now a.n (marks (goal.at.At-loop-i d).Start) d.loop-i.times d.loop-i.tags d.loop-i.fates d.loop-i.k d.loop-i.m d.loop-i.i d.loop-i.invariant.0 h 5 arm.0 refl (omega (arith, d.loop-i.invariant.0.told, d.loop-i.invariant.0.inside, h, d.requires.0, d.requires.6))),
      subst (λ (b : Bool). Along a.times.now a.tags.now a.n a.first (in_spans a.spans) a.cause d.loop-i.track b (d.loop-i.i + 1)) (sym (and_left d.loop-i.follows _ c.if-follows-g.true)) arm.1,
      ap (λ (b : Bound). earlier b (loss_of a.tracks rest)) (found-2 c)
          ∙ loss-gone a.tracks (here d) 5 (drop d.loop-i.i (marks (goal.at.At-loop-i d).Start)) rest arm.0 (bound_in d.loop-i.lost) refl ∙ d.loop-i.invariant.2,
    )

pub loop-i-preserved : goal.loop-i-preserved
loop-i-preserved c =
    let d = at (goal.at.loop-i-preserved c).After-frame_of-g in
    let a = d.args in
    let h = c.loop-i-test.true in
    let rest : List Marked = drop (d.loop-i.i + 1) (marks (goal.at.At-loop-i d).Start) in
    let arm = along-kept a.times.now a.tags.now a.n a.first (in_spans a.spans) a.cause d.requires.0 d.requires.1 d.loop-i.track d.loop-i.follows d.loop-i.i d.loop-i.invariant.1 h d.requires.3 d.requires.9 (sym (spanned (goal.at.loop-i-preserved c).After-in_span) ∙ c.if-in_span.false) (sym (reached (goal.at.loop-i-preserved c).After-in_span) ∙ c.if-follows-g.false) in
    let kept = turn-kept a.times.now a.tags.now a.fates.now a.n (marks (goal.at.At-loop-i d).Start) d.loop-i.times d.loop-i.tags d.loop-i.fates d.loop-i.k d.loop-i.m d.loop-i.i d.loop-i.invariant.0 h 0 arm.0 refl
    (omega (arith, d.loop-i.invariant.0.few, h, d.requires.0, d.requires.1.0)) (omega (arith, d.loop-i.invariant.0.few, h, d.requires.0, d.requires.1.1)) in (
      subst (λ (y : List ℕ). Taking a.times.now a.tags.now a.fates.now a.n (marks (goal.at.At-loop-i d).Start) (set d.loop-i.times d.loop-i.k (get_or d.loop-i.times d.loop-i.i [])) (set d.loop-i.tags d.loop-i.k y) d.loop-i.fates (d.loop-i.k + 1) d.loop-i.m (d.loop-i.i + 1))
          (sym (tag-here (goal.at.loop-i-preserved c).After-frame_of-g))
          (subst (λ (x : List ℤ). Taking a.times.now a.tags.now a.fates.now a.n (marks (goal.at.At-loop-i d).Start) (set d.loop-i.times d.loop-i.k x) (set d.loop-i.tags d.loop-i.k (tag_of (here d))) d.loop-i.fates (d.loop-i.k + 1) d.loop-i.m (d.loop-i.i + 1))
          (sym (time-here (goal.at.loop-i-preserved c).After-frame_of-g)) kept),
      arm.1,
      ap (earlier (bound_in d.loop-i.lost)) (sym (loss-stays a.tracks (here d) 0 (drop d.loop-i.i (marks (goal.at.At-loop-i d).Start)) rest arm.0 refl)) ∙ d.loop-i.invariant.2,
    )

pub returns : goal.returns
returns c =
    let a = c.args in
    let none = along-end a.times.now a.tags.now a.n a.first (in_spans a.spans) a.cause c.requires.0 c.requires.1 c.loop-i.track c.loop-i.follows c.loop-i.i c.loop-i.invariant.1 c.loop-i-test.false in
    let e = ended a.times.now a.tags.now a.fates.now a.n (marks (goal.at.returns c).Start) c.requires.0 c.requires.1 c.requires.2 c.loop-i.times c.loop-i.tags c.loop-i.fates c.loop-i.k c.loop-i.m c.loop-i.i c.loop-i.invariant.0 none in
    let lost = bound_in c.loop-i.lost in
    let known = sym (earlier-none lost) ∙ ap (earlier lost) (sym (loss-none a.tracks (drop c.loop-i.i (marks (goal.at.returns c).Start)) none)) ∙ c.loop-i.invariant.2 in
    record { times = c.clear.ensures.times ∙ e.0; tags = c.clear.ensures.tags ∙ e.1; lines = e.2; lost = known; counts = (e.3, e.4) }
