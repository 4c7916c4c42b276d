-- Document 02, No. 6: a seek's target is the greatest of the frames that cover the instant, and the frames to decode lead to it.
use Rattle.std.specs.Prelude.{Ok, Err}
use mathlib.Core.Path.{◌≡◌, refl, sym, ap, subst, ◌∙◌}
use mathlib.Core.Bool.{Bool, true, false, not, ◌&&◌, ◌||◌, true≢false}
use mathlib.Core.List.{List, [], ◌∷◌}
use mathlib.Core.Logic.{◌↔◌}
use Prim.Native.Nat.{ℕ, ◌≤◌}
use lib.Dec.{eqb}
use lib.IntN.{ℤ}
use lib.ListN.{length}
use borrow.Author.Tests.{eqb-true, not-true}
use Rattle.laws.proofs.BoolLaws.{clash, both_ways, split, by-test, and_left, and_right, or_cases, or_left, or_right, or-none-left, or-none-right}
use Rattle.buffer_state.specs.declared.Frame.{Frame}
use Rattle.buffer_state.specs.declared.Refusal.TheVariants.{NoStart}
use Rattle.buffer_state.specs.Buffer.{Buffer, has_track}
use Rattle.buffer_state.specs.Ranges.{covers, covered_on}
use Rattle.buffer_state.specs.Refusals.{CallResult}
use Rattle.buffer_state.specs.Run.{count}
use Rattle.buffer_state.specs.declared.Start.{Start}
use Rattle.buffer_state.specs.Seek.{Target, none, picked, over, pick, target_of, to_decode, seek, is_led}
use Rattle.buffer_state.specs.Store.{is_before}
use Rattle.buffer_state.specs.WellFormed.{all_of}
use Rattle.buffer_laws.proofs.DecodeLaws.{decoded-length, start-always}
use Rattle.buffer_laws.proofs.MemberLaws.{In, here, there}
use Rattle.buffer_laws.proofs.OrderLaws.{before_self, before-trans}
use Rattle.buffer_laws.proofs.TestLaws.{all_none, all_more, all_weaker}

-- ---- whether there is a target

-- a target that is there
pub record IsPicked (r : Target) : Type 0 where
  pub frame : Frame
  pub is : r ≡ picked frame

some-picked : (f : Frame) (r : Target) → IsPicked (pick f r)
some-picked f none = record { frame = f; is = refl }
some-picked f (picked g) = by-test IsPicked (over f g) (λ _. record { frame = f; is = refl }) (λ _. record { frame = g; is = refl })

module _ (track : ℕ) (t : ℤ) where
  abbrev showing : Frame → Bool
  showing f = eqb f.track track && covers t f

  -- Where a frame of the track covers the instant, there is a target.
  pub held-has-target : (fs : List Frame) → covered_on track t fs ≡ true → IsPicked (target_of track t fs)
  unfolding covered_on target_of
  held-has-target [] e = clash (sym e)
  held-has-target (f ∷ fs) e =
      by-test IsPicked (showing f) (λ _. some-picked f (target_of track t fs)) (λ out. held-has-target fs (rw out at e))

  -- Where none does, there is no target.
  pub no_target : (fs : List Frame) → covered_on track t fs ≡ false → target_of track t fs ≡ none
  unfolding covered_on target_of
  no_target [] e = refl
  no_target (f ∷ fs) e = rw (or-none-left (showing f) _ e) (no_target fs (or-none-right (showing f) _ e))

-- ---- which frame it is

-- what is so of a target, where there is one
abbrev IfPicked : (Frame → Type 0) → Target → Type 0
IfPicked P none = Unit {0}
IfPicked P (picked f) = P f

pick-either : (P : Frame → Type 0) (f : Frame) (r : Target) → P f → IfPicked P r → IfPicked P (pick f r)
pick-either P f none h k = h
pick-either P f (picked g) h k = by-test (IfPicked P) (over f g) (λ _. h) (λ _. k)

-- a stored frame of the track n that covers the instant
pub record Covering (n : ℕ) (t : ℤ) (fs : List Frame) (f : Frame) : Type 0 where
  pub among : In f fs
  pub track : eqb f.track n ≡ true
  pub covers : covers t f ≡ true

module _ (track : ℕ) (t : ℤ) where
  any-covers : (fs : List Frame) → IfPicked (Covering track t fs) (target_of track t fs)
  unfolding target_of
  any-covers [] = tt
  any-covers (f ∷ fs) =
      by-test (IfPicked (Covering track t (f ∷ fs))) (showing track t f)
      (λ h. pick-either (Covering track t (f ∷ fs)) f (target_of track t fs)
      (record { among = here refl; track = and_left _ _ h; covers = and_right (eqb f.track track) _ h }) (later (target_of track t fs) (any-covers fs)))
      (λ _. later (target_of track t fs) (any-covers fs))
    where
      later : (r : Target) → IfPicked (Covering track t fs) r → IfPicked (Covering track t (f ∷ fs)) r
      later none h = tt
      later (picked g) h = record { among = there h.among; track = h.track; covers = h.covers }

  -- The target is a stored frame of the track, and covers the instant.
  pub target-covers : (f : Frame) (fs : List Frame) → target_of track t fs ≡ picked f → Covering track t fs f
  target-covers f fs e = subst (IfPicked (Covering track t fs)) e (any-covers fs)

-- ---- which of several

-- `over` is store order, were the frames on one track and decoded when they are presented
abbrev shown : Frame → Frame
shown f = record { track = 0; flagged = f.flagged; duration = f.duration; number = f.number; group = f.group; pts = f.pts; dts = f.pts }

over-as : (f g : Frame) → over f g ≡ is_before (shown g) (shown f)
unfolding over is_before
over-as f g = refl

over-self : (f : Frame) → over f f ≡ false
over-self f = over-as f f ∙ before_self (shown f)

over-trans : (f g h : Frame) → over f g ≡ true → over g h ≡ true → over f h ≡ true
over-trans f g h p q =
    over-as f h ∙ before-trans (shown h) (shown g) (shown f) (sym (over-as g h) ∙ q) (sym (over-as f g) ∙ p)

module _ (track : ℕ) (t : ℤ) where
  -- g is not picked rather than f: it does not cover the instant on the track, or f is at least as great
  abbrev under : Frame → Frame → Bool
  under f g = not (showing track t g) || not (over g f)

  under-less : (f g x : Frame) → over f g ≡ true → under g x ≡ true → under f x ≡ true
  under-less f g x h e =
      or_cases (not (showing track t x)) (not (over x g)) e (λ out. or_left _ _ out)
      (λ less. or_right (not (showing track t x)) _
      (split (over x f) (λ k. both_ways (over-trans x f g k h) (not-true _ less)) (λ k. ap not k)))

  -- without a target no frame covers the instant
  abbrev IsGreatestOf : List Frame → Target → Type 0
  IsGreatestOf fs none = all_of (λ (g : Frame). not (showing track t g)) fs ≡ true
  IsGreatestOf fs (picked f) = all_of (under f) fs ≡ true

  greatest : (fs : List Frame) → IsGreatestOf fs (target_of track t fs)
  unfolding target_of
  greatest [] = all_none _
  greatest (f ∷ fs) =
      by-test (IsGreatestOf (f ∷ fs)) (showing track t f) (λ _. more (target_of track t fs) (greatest fs)) (λ out. same out (target_of track t fs) (greatest fs))
    where
      own : under f f ≡ true
      own = or_right (not (showing track t f)) _ (ap not (over-self f))

      more : (r : Target) → IsGreatestOf fs r → IsGreatestOf (f ∷ fs) (pick f r)
      more none h = all_more (under f) f fs own (all_weaker (λ (g : Frame). not (showing track t g)) (under f) (λ g out. or_left _ _ out) fs h)
      more (picked g) h =
          by-test (IsGreatestOf (f ∷ fs)) (over f g) (λ k. all_more (under f) f fs own (all_weaker (under g) (under f) (λ x. under-less f g x k) fs h))
          (λ k. all_more (under g) f fs (or_right (not (showing track t f)) _ (ap not k)) h)

      same : showing track t f ≡ false → (r : Target) → IsGreatestOf fs r → IsGreatestOf (f ∷ fs) r
      same out none h = all_more (λ (g : Frame). not (showing track t g)) f fs (ap not out) h
      same out (picked g) h = all_more (under g) f fs (or_left _ _ (ap not out)) h

  -- No frame of the track that covers the instant is over the target: none has a greater presentation time, nor as great a one and a
  -- greater number.
  pub target-greatest : (f : Frame) (fs : List Frame) → target_of track t fs ≡ picked f
      → all_of (λ (g : Frame). not (eqb g.track track && covers t g) || not (over g f)) fs ≡ true
  target-greatest f fs e = subst (IsGreatestOf fs) e (greatest fs)

-- ---- the call

-- There are at most as many frames to decode as the track has stored.
pub count-bounded : (track : ℕ) (t : ℤ) (f : Frame) (fs : List Frame) → target_of track t fs ≡ picked f
    → length (to_decode f fs) ≤ count (λ (x : Frame). eqb track x.track) fs
count-bounded track t f fs e =
    let own : f.track ≡ track = eqb-true f.track track (target-covers track t f fs e).track in
    subst (λ (n : ℕ). length (to_decode f fs) ≤ count (λ (x : Frame). eqb n x.track) fs) own (decoded-length f fs)

-- a seek that is not refused
pub record IsFound (r : CallResult Start) : Type 0 where
  pub start : Start
  pub is : r ≡ Ok start

module _ (b : Buffer) (track : ℕ) (t : ℤ) (has : has_track b track ≡ true) where
  -- Where every stored frame is led and one of the track covers the instant, there is a start.
  pub covered-found : is_led b.frames ≡ true → covered_on track t b.frames ≡ true → IsFound (seek track t b)
  unfolding seek
  covered-found l e =
      let target = held-has-target track t b.frames e in
      let among = (target-covers track t target.frame b.frames target.is).among in
      let some = start-always target.frame b.frames l among in
      record {
        start = record { target = target.frame.number; flagged = some.first.number; count = length (some.first ∷ some.rest) };
        is = rw (has, target.is, some.is);
      }

  -- Where every stored frame is led, a seek is refused 15 exactly if no frame of the track covers the instant.
  pub refused-uncovered : is_led b.frames ≡ true → (seek track t b ≡ Err NoStart) ↔ (covered_on track t b.frames ≡ false)
  unfolding seek
  refused-uncovered l = (
    λ e. split (covered_on track t b.frames) (λ c. let found = covered-found l c in absurd (differ (sym found.is ∙ e))) (λ c. c),
    λ e. rw (has, no_target track t b.frames e),
  )
    where
      differ : {s : Start} → Ok s ≡ Err NoStart → ⊥
      differ e = true≢false (ap answered e)
        where
          answered : CallResult Start → Bool
          answered (Err why) = false
          answered (Ok s) = true
