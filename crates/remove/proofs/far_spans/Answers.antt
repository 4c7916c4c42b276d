use Rattle.std.proofs.Common.{rules, ◌≡◌, refl, sym, ap, ◌∙◌, Bool, true, false, ◌&&◌, List, [], ◌∷◌, ◌+◌, ◌-◌, ◌<◌, arith, take, drop, get_or, length-set, w64, SFits}
use lib.Signed.{lt_z}
use mir.ValLaws.{to_z-of_z}
use Rattle.laws.proofs.BoolLaws.{and_both}
use Rattle.laws.proofs.WordLaws.{told₂}
use Rattle.laws.proofs.ListLaws.{first_next, first-end}
use Rattle.buffer_state.specs.declared.Frame.{Frame}
use Rattle.buffer_state.specs.Layout.{zero_frame}
use Rattle.buffer_state.specs.Lent.{frames_of}
use Rattle.taking.specs.declared.Span.{Span}
use Rattle.taking.specs.Loss.{bound_in}
use Rattle.taking.specs.Taking.{no_span}
use Rattle.remove.specs.Edges.{beyond, is_nearer, FarSpans}
use Rattle.remove.proofs.EdgeLaws.{spans-none, spans-nearer, spans-same}
use Rattle.remove.proofs.PlaceLaws.{laid, long, few, is_good, frame-good, good-inside, good-shown}
use Rattle.remove.proofs.far_spans.Goals as goal
use Rattle.remove.proofs.far_spans.Goals.{After-frame_at-f, else-opens-via-then-opens+else-f-spans, else-opens-via-else-opens}

-- the frames behind the one in front of i
abbrev rest : After-frame_at-f → List Frame
rest c = let a = c.args in drop ((c.loop-i.i - 1) + 1) (take a.h.nframes (frames_of a.times.now a.tags.now))

below : (c : After-frame_at-f) → c.loop-i.i - 1 < c.args.h.nframes
below c = omega arith

-- that frame is good, so that it is on a track and shown before `beyond`
good : (c : After-frame_at-f) → is_good c.args.h c.args.times.now c.args.tags.now c.requires.0 c.frame_at-f.result ≡ true
good c =
    let a = c.args in
    ap (is_good a.h a.times.now a.tags.now c.requires.0) c.frame_at-f.ensures
    ∙ frame-good a.h a.times.now a.tags.now c.requires.0 (c.loop-i.i - 1) (below c)

inside : (c : After-frame_at-f) → c.frame_at-f.result.track < 5
inside c = let a = c.args in good-inside a.h a.times.now a.tags.now c.requires.0 c.frame_at-f.result (good c)

shown : (c : After-frame_at-f) → lt_z c.frame_at-f.result.pts beyond ≡ true
shown c = let a = c.args in good-shown a.h a.times.now a.tags.now c.requires.0 c.frame_at-f.result (good c)

-- the frames from it on
front : (c : After-frame_at-f) → (let a = c.args in drop (c.loop-i.i - 1) (take a.h.nframes (frames_of a.times.now a.tags.now))) ≡ c.frame_at-f.result ∷ rest c
front c =
    let a = c.args in
    first_next (frames_of a.times.now a.tags.now) a.h.nframes (few a.h a.times.now a.tags.now c.requires.0) (c.loop-i.i - 1) zero_frame (below c)
    ∙ ap (λ (f : Frame). f ∷ rest c) (sym c.frame_at-f.ensures)

further : (c : After-frame_at-f) → FarSpans c.args.whole.start (bound_in c.args.end) (rest c) c.loop-i.spans
further c =
    let next : (c.loop-i.i - 1) + 1 ≡ c.loop-i.i = omega arith in
    rw next c.loop-i.invariant.1

pub loop-i-init : goal.loop-i-init
loop-i-init c =
    let a = c.args in
    let fs = frames_of a.times.now a.tags.now in
    let none : drop a.h.nframes (take a.h.nframes fs) ≡ [] = first-end fs a.h.nframes (few a.h a.times.now a.tags.now c.requires.0) a.h.nframes (omega arith) in
    (refl, rw none (spans-none a.whole.start (bound_in a.end) a.whole refl c.requires.1))

pub frame_at-f-requires : goal.frame_at-f-requires
frame_at-f-requires c =
    let a = c.args in
    let l = long a.h a.times.now a.tags.now c.requires.0 in
    let n = (laid a.h a.times.now a.tags.now c.requires.0).nframes in
    (omega (arith, n, l.0), omega (arith, n, l.1))

pub bounds-spans-track : goal.bounds-spans-track
bounds-spans-track c = inside (goal.at.bounds-spans-track c).After-frame_at-f

pub bounds-spans-track-then-f-spans : goal.bounds-spans-track-then-f-spans
bounds-spans-track-then-f-spans c = inside (goal.at.bounds-spans-track-then-f-spans c).After-frame_at-f

pub loop-i-preserved-then-f-spans : goal.loop-i-preserved-then-f-spans
loop-i-preserved-then-f-spans c =
    let d = (goal.at.loop-i-preserved-then-f-spans c).After-frame_at-f in
    let s = c.args.whole.start in
    let f = c.frame_at-f.result in
    let fits : SFits w64 f.pts = search rules in
    let start = ap (λ (x : Span). x.start) (further d f.track (inside d)) in
    let ends : SFits w64 (get_or c.loop-i.spans f.track no_span).end = search rules in
    let end = to_z-of_z w64 f.pts fits in
    let sooner = sym (told₂ f.pts (get_or c.loop-i.spans f.track no_span).end fits ends lt_z (sym c.if-f-spans.true)) in (
      length-set c.loop-i.spans _ _ ∙ c.loop-i.invariant.0,
      rw (front d)
          (spans-nearer s (bound_in c.args.end) c.loop-i.spans (rest d) f (inside d) (shown d) (further d) c.loop-i.invariant.0
          (and_both (sym c.opens.ensures ∙ c.if-opens.true) sooner) _ (λ j. record { start = start j; end = end j })),
    )

pub loop-i-preserved : goal.loop-i-preserved
loop-i-preserved c =
    let d = (goal.at.loop-i-preserved c).After-frame_at-f in
    let e = bound_in c.args.end in
    let f = c.frame_at-f.result in
    let nearer = is_nearer f e (get_or c.loop-i.spans f.track no_span).end in
    let none : nearer ≡ false = elim c.else-opens.branch [
      | else-opens-via-then-opens+else-f-spans w ↦
          let fits : SFits w64 f.pts = search rules in
          let ends : SFits w64 (get_or c.loop-i.spans f.track no_span).end = search rules in
          let late = sym (told₂ f.pts (get_or c.loop-i.spans f.track no_span).end fits ends lt_z (sym w.if-f-spans.false)) in
          rw (← c.opens.ensures, w.if-opens.true) late
      | else-opens-via-else-opens w ↦ ap (λ (b : Bool). b && lt_z f.pts (get_or c.loop-i.spans f.track no_span).end) (sym c.opens.ensures ∙ w.if-opens.false)
    ] in
    (c.loop-i.invariant.0, rw (front d) (spans-same c.args.whole.start e c.loop-i.spans (rest d) f (inside d) (shown d) (further d) none))
