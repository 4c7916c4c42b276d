-- Step 7's frames are those of the track in one stretch of presentation times.
use mathlib.Core.Path.{◌≡◌, refl, ap, ◌∙◌}
use mathlib.Core.Bool.{Bool, true, false, not, ◌&&◌, ◌||◌, and-false}
use mathlib.Core.List.{List}
use Prim.Native.Nat.{ℕ, zero, suc, ◌≤◌, ◌<◌}
use native.Mathlib.Omega.{arith}
use lib.Dec.{eqb}
use lib.IntN.{ℤ, pos}
use lib.ListN.{length, get_or, set, replicate}
use lib.Seq.{take_all, get_or-set_same, get_or-set_other}
use lib.Signed.{lt_z, le_z}
use borrow.Author.Tests.{eqb-true, eqb-false}
use Rattle.laws.proofs.BoolLaws.{split, or_cases}
use Rattle.laws.proofs.IntLaws.{test-lt, test-le, test-ge, ge-test, gt-test, le_test, lt-le, le-le}
use Rattle.buffer_state.specs.declared.Frame.{Frame}
use Rattle.buffer_state.specs.declared.Offered.{Offered}
use Rattle.buffer_state.specs.declared.Track.{Track}
use Rattle.buffer_state.specs.Append.{end_offered, is_overlapped}
use Rattle.taking.specs.declared.Span.{Span}
use Rattle.buffer_state.specs.WellFormed.{all_of}
use Rattle.buffer_laws.proofs.TestLaws.{all_weaker}
use Rattle.taking.specs.Taking.{no_span, in_span, in_spans, IsFirstIn}
use Rattle.append.specs.Settled.{Before}

empty-span : (e z : ℤ) → (le_z e z && lt_z z e) ≡ false
empty-span e z = split (le_z e z) (λ h. rw (h, ge-test (test-le h))) (λ h. rw h)

-- ---- the stretch

module _ (t : Track) (f : Offered) (s : Span) where
  abbrev Spans : Type 0
  Spans = (g : Frame) → (eqb g.track f.track && in_span s g) ≡ is_overlapped t f g

  -- highest end is unset
  pub spans-own : t.known ≡ false → s.start ≡ f.pts → s.end ≡ end_offered f → Spans
  unfolding is_overlapped
  spans-own k a b g = rw (k, a, b)

  -- highest end is above P
  pub spans-none : t.known ≡ true → lt_z f.pts t.end ≡ true → s.start ≡ s.end → Spans
  unfolding is_overlapped
  spans-none k h a g =
      let past : le_z t.end f.pts ≡ false = gt-test (test-lt {a = f.pts} {b = t.end} h) in
      rw (k, past, a, empty-span s.end g.pts, and-false (eqb g.track f.track))

  pub spans_on : t.known ≡ true → lt_z f.pts t.end ≡ false → s.start ≡ t.end → s.end ≡ end_offered f → Spans
  unfolding is_overlapped
  spans_on k h a b g = let below : le_z t.end f.pts ≡ true = le_test (test-ge {a = f.pts} {b = t.end} h) in rw (k, below, a, b)

-- ---- in its place among those of all tracks

no-spans : (k i : ℕ) → get_or (replicate k no_span) i no_span ≡ no_span
no-spans zero i = refl
no-spans (suc k) zero = refl
no-spans (suc k) (suc i) = no-spans k i

pub spans-one : (track : ℕ) (s : Span) → track < 5 → (g : Frame) → in_spans (set (replicate 5 no_span) track s) g ≡ (eqb g.track track && in_span s g)
spans-one track s h g =
    let spans : List Span = set (replicate 5 no_span) track s in
    split (eqb g.track track)
    (λ e. rw e (ap (λ (x : Span). in_span x g) (ap (λ (i : ℕ). get_or spans i no_span) (eqb-true g.track track e) ∙ get_or-set_same (replicate 5 no_span) track s no_span h)))
    (λ e. rw e (ap (λ (x : Span). in_span x g) (get_or-set_other (replicate 5 no_span) track g.track s no_span (eqb-false g.track track e) ∙ no-spans 5 g.track) ∙ empty-span (pos 0) g.pts))

-- ---- where no frame is in the stretch

-- then the first that is in it is past all
none_first : (p : Frame → Bool) (l : List Frame) (n : ℕ) → length l ≤ n → all_of (λ (g : Frame). not (p g)) l ≡ true → IsFirstIn p l n n
none_first p l n h e = record {
  inside = omega arith;
  before = ap (all_of (λ (g : Frame). not (p g))) (take_all n l h) ∙ e;
  here = λ m. absurd (omega (arith, m));
}

-- none is where the track's frames are presented before it, or where it is empty
module _ (track : ℕ) (s : Span) (bound : ℤ) (free : (le_z bound s.start || le_z s.end s.start) ≡ true) where
  pub unspanned : (g : Frame) → (not (eqb g.track track) || lt_z g.pts bound) ≡ true → (eqb g.track track && in_span s g) ≡ false
  unspanned g e =
      split (eqb g.track track)
      (λ t. or_cases (le_z bound s.start) (le_z s.end s.start) free
      (λ past. let early : lt_z g.pts bound ≡ true = rw t at e in
      rw (t, gt-test (lt-le (test-lt {a = g.pts} {b = bound} early) (test-le {a = bound} {b = s.start} past))))
      (λ empty. split (le_z s.start g.pts)
      (λ u. rw (t, u, ge-test (le-le (test-le {a = s.end} {b = s.start} empty) (test-le {a = s.start} {b = g.pts} u))))
      (λ u. rw (t, u))))
      (λ t. rw t)

  pub none-overlapped : (spans : List Span) → ((g : Frame) → in_spans spans g ≡ (eqb g.track track && in_span s g)) → (l : List Frame) (n : ℕ) → length l ≤ n
      → Before track bound l → IsFirstIn (in_spans spans) l n n
  none-overlapped spans own l n few b =
      none_first (in_spans spans) l n few (all_weaker _ (λ (g : Frame). not (in_spans spans g)) (λ g e. ap not (own g ∙ unspanned g e)) l b)
