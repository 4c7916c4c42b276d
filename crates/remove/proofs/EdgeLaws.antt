-- The stretches up to the far edges, one frame after another from the back, and the marks that they make.
use mathlib.Core.Path.{◌≡◌, refl, sym, ap, ◌∙◌}
use mathlib.Core.Bool.{Bool, true, false, cond, ◌&&◌}
use mathlib.Core.List.{List, [], ◌∷◌}
use Prim.Native.Nat.{ℕ, ◌<◌}
use native.Mathlib.Omega.{arith}
use lib.Dec.{eqb}
use lib.IntN.{ℤ}
use lib.ListN.{length, get_or, set, replicate, get_or-replicate}
use lib.Seq.{get_or-set_same, get_or-set_other}
use lib.Signed.{le_z, lt_z}
use borrow.Author.Tests.{eqb-true, eqb-false}
use Rattle.laws.proofs.BoolLaws.{split, and_left, and_right}
use Rattle.seconds.specs.Seconds.{Bound, unbounded, at}
use Rattle.buffer_state.specs.declared.Frame.{Frame}
use Rattle.buffer_state.specs.declared.Head.{Head}
use Rattle.buffer_state.specs.Lent.{well_formed_at}
use Rattle.buffer_state.specs.Remove.{before_bound, earlier_of, far_edge, removal_marks}
use Rattle.buffer_state.specs.Store.{walk}
use Rattle.taking.specs.declared.Span.{Span}
use Rattle.taking.specs.Taking.{no_span, in_spans, taken_marks}
use Rattle.taking.proofs.GoneLaws.{marks-same}
use Rattle.remove.specs.Edges.{beyond, edge_time, up_to, opens_after, is_nearer, FarSpans}
use Rattle.remove.proofs.PlaceLaws.{held, is_good, each-good, good-inside, good-shown}

-- the time that stands for an edge is as good as the edge
before-edge : (z : ℤ) → lt_z z beyond ≡ true → (b : Bound) → lt_z z (edge_time b) ≡ before_bound z b
before-edge z h unbounded = h
before-edge z h (at e) = refl

module _ (s : ℤ) (e : Bound) where
  -- ---- the stretches

  -- of no frames there is no edge
  pub spans-none : (x : Span) → x.start ≡ s → x.end ≡ beyond → FarSpans s e [] (replicate 5 x)
  unfolding far_edge
  spans-none x p q track to = get_or-replicate 5 track x no_span to ∙ (λ i. record { start = p i; end = q i })

  -- one frame more in front, which is a nearer edge or is not
  module _ (spans : List Span) (fs : List Frame) (f : Frame) (on : f.track < 5) (shown : lt_z f.pts beyond ≡ true) (far : FarSpans s e fs spans) where
    abbrev nearer : Bool
    nearer = is_nearer f e (get_or spans f.track no_span).end

    -- before the time held is before the edge
    before-held : lt_z f.pts (get_or spans f.track no_span).end ≡ before_bound f.pts (far_edge f.track e fs)
    before-held = ap (λ (x : Span). lt_z f.pts x.end) (far f.track on) ∙ before-edge f.pts shown (far_edge f.track e fs)

    pub spans-nearer : length spans ≡ 5 → nearer ≡ true → (x : Span) → x ≡ up_to s (at f.pts) → FarSpans s e (f ∷ fs) (set spans f.track x)
    unfolding far_edge
    spans-nearer l n x d track to =
        split (eqb f.track track)
        (λ t.
        let same : f.track ≡ track = eqb-true f.track track t in
        let late : opens_after e f ≡ true = and_left _ _ n in
        let early : before_bound f.pts (far_edge track e fs) ≡ true =
        ap (λ (u : ℕ). before_bound f.pts (far_edge u e fs)) (sym same) ∙ sym before-held ∙ and_right (opens_after e f) _ n in
        rw (t, late, early) (ap (λ (u : ℕ). get_or (set spans u x) track no_span) same ∙ get_or-set_same spans track x no_span (omega arith) ∙ d))
        (λ t.
        let other : track ≡ f.track → ⊥ = λ q. eqb-false f.track track t (sym q) in
        rw t (get_or-set_other spans f.track track x no_span other ∙ far track to))

    pub spans-same : nearer ≡ false → FarSpans s e (f ∷ fs) spans
    unfolding far_edge
    spans-same n track to =
        split (eqb f.track track)
        (λ t.
        let same : f.track ≡ track = eqb-true f.track track t in
        let stay : (opens_after e f && before_bound f.pts (far_edge track e fs)) ≡ false =
        ap (λ (u : ℕ). opens_after e f && before_bound f.pts (far_edge u e fs)) (sym same) ∙ ap (λ (b : Bool). opens_after e f && b) (sym before-held) ∙ n in
        rw t (far track to ∙ ap (up_to s) (stays (opens_after e f) f.pts (far_edge track e fs) stay)))
        (λ t. rw t (far track to))
      where
        stays : (t : Bool) (z : ℤ) (b : Bound) → (t && before_bound z b) ≡ false → b ≡ cond t (earlier_of z b) b
        stays true z b q = rw q
        stays false z b q = refl

-- ---- the marks

-- the frames in the stretches held are those from the start up to the far edges
pub removal_marks_lem : (h : Head) (ts : List (List ℤ)) (gs : List (List ℕ)) (w : well_formed_at h ts gs ≡ true) (s : ℤ) (e : Bound) (spans : List Span)
    → FarSpans s e (held h ts gs).frames spans → taken_marks spans 6 (held h ts gs).frames ≡ removal_marks s e (held h ts gs).frames
unfolding removal_marks
removal_marks_lem h ts gs w s e spans far =
    let fs = (held h ts gs).frames in
    ap walk
    (marks-same (is_good h ts gs w) (in_spans spans) (λ (f : Frame). le_z s f.pts && before_bound f.pts (far_edge f.track e fs))
    (λ f g.
    ap (λ (x : Span). le_z x.start f.pts && lt_z f.pts x.end) (far f.track (good-inside h ts gs w f g))
    ∙ ap (λ (b : Bool). le_z s f.pts && b) (before-edge f.pts (good-shown h ts gs w f g) (far_edge f.track e fs)))
    6 fs (each-good h ts gs w))
