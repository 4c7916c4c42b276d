-- A track's frames: which they are, what they cover as they stand and in presentation order, and what a walk over them finds.
use mathlib.Core.Path.{◌≡◌, refl, sym, ap, ap₂, ◌∙◌}
use mathlib.Core.Bool.{Bool, true, false, cond, ◌&&◌, ◌||◌}
use mathlib.Core.List.{List, [], ◌∷◌, map}
use Prim.Native.Nat.{ℕ, zero, suc, ◌+◌, ◌≤◌, ◌<◌}
use native.Mathlib.Omega.{arith}
use lib.Dec.{eqb}
use lib.IntN.{ℤ}
use lib.ListN.{length, take, drop, get_or}
use lib.Signed.{lt_z, le_z, ◌≤ℤ◌}
use borrow.Author.Tests.{eqb-true, eq-eqb, ne_eqb, leb-true, ltb-true}
use Rattle.laws.proofs.BoolLaws.{split, by-test, and_left, and_right, and_both}
use Rattle.laws.proofs.IntLaws.{test-lt, lt_test, le_test, test-ge, lt-add, weaken}
use Rattle.buffer_state.specs.declared.Frame.{Frame}
use Rattle.buffer_state.specs.Layout.{zero_frame}
use Rattle.buffer_state.specs.Ranges.{Range, covers, lies_in, in_ranges, covered_on, ranges_of}
use Rattle.buffer_state.specs.Run.{total, count}
use Rattle.buffer_state.specs.Store.{is_before}
use Rattle.buffer_state.specs.Walked.{interval_of, presented_with, presented, taken_of}
use Rattle.buffer_state.specs.WellFormed.{all_of, is_sorted}
use Rattle.buffer_laws.proofs.RangeLaws.{lasts, ranges-cover, ranges-rise}
use Rattle.buffer_laws.proofs.RisingLaws.{unique}
use Rattle.buffer_laws.proofs.TestLaws.{all_first, all_rest, all_more, all_none, all_weaker, pairs_first, pairs-rest}
use Rattle.ranges.specs.Bars.{Parts}
use Rattle.ranges.specs.Sweep.{is_timely, is_sound, is_under, from_on, own_stretches, some, swept_ranges, starts_from, starts_rise}
use Rattle.ranges.specs.Walks.{up_from, stretch_at, Arranges}
use Rattle.ranges.proofs.BarLaws.{all-at}
use Rattle.ranges.proofs.SweepLaws.{rise-in_order}
use Rattle.ranges.proofs.TakenLaws.{taken_by, arranged-cover, arranged-rise, arranged-taken}

-- ---- which they are

module _ (track : ℕ) (f : Frame) (fs : List Frame) where
  own_first : f.track ≡ track → own_stretches track (f ∷ fs) ≡ interval_of f ∷ own_stretches track fs
  unfolding own_stretches
  own_first e = rw (eq-eqb f.track track e)

  own-other : (f.track ≡ track → ⊥) → own_stretches track (f ∷ fs) ≡ own_stretches track fs
  unfolding own_stretches
  own-other e = rw (ne_eqb f.track track e)

none_above : (track : ℕ) (fs : List Frame) → all_of (from_on (track + 1)) fs ≡ true → own_stretches track fs ≡ []
unfolding own_stretches
none_above track [] e = refl
none_above track (f ∷ fs) e =
    let h : track + 1 ≤ f.track = leb-true (track + 1) f.track (all_first (from_on (track + 1)) f fs e) in
    own-other track f fs (λ q. omega arith) ∙ none_above track fs (all_rest (from_on (track + 1)) f fs e)

-- in store order the tracks rise
tracks-rise : (f g : Frame) → is_before f g ≡ true → f.track ≤ g.track
unfolding is_before
tracks-rise f g =
    split (eqb f.track g.track)
    (λ t e. omega (arith, eqb-true f.track g.track t))
    (λ t e. omega (arith, ltb-true f.track g.track (rw t at e)))

pub sorted-tracks : (fs : List Frame) → is_sorted fs ≡ true → (i j : ℕ) → i ≤ j → j < length fs → (get_or fs i zero_frame).track ≤ (get_or fs j zero_frame).track
unfolding is_sorted
sorted-tracks [] order i j h k = absurd (omega arith)
sorted-tracks (f ∷ fs) order zero zero h k = omega arith
sorted-tracks (f ∷ fs) order zero (suc j) h k = tracks-rise f (get_or fs j zero_frame) (all-at (is_before f) fs j zero_frame (omega arith) (pairs_first is_before f fs order))
sorted-tracks (f ∷ fs) order (suc i) zero h k = absurd (omega arith)
sorted-tracks (f ∷ fs) order (suc i) (suc j) h k = sorted-tracks fs (pairs-rest is_before f fs order) i j (omega arith) (omega arith)

-- ---- those between two places

module _ (all : List Frame) where
  -- a list of frames is what stands from a place on
  abbrev pub At : ℕ → List Frame → Type 0
  At place fs = (j : ℕ) → j < length fs → get_or all (place + j) zero_frame ≡ get_or fs j zero_frame

  at_rest : (place : ℕ) (f : Frame) (fs : List Frame) → At place (f ∷ fs) → At (suc place) fs
  at_rest place f fs h j l =
      let e : suc place + j ≡ place + suc j = omega arith in
      ap (λ (m : ℕ). get_or all m zero_frame) e ∙ h (suc j) (omega arith)

  module _ (track : ℕ) where
    pub own-standing : (fs : List Frame) (place first n end : ℕ) → end ≡ first + n → At place fs → Parts track fs first → Parts (track + 1) fs end
        → end ≤ length fs → map (stretch_at all) (up_from n (place + first)) ≡ own_stretches track fs
    unfolding up_from
    own-standing fs place zero zero zero q at low high h = sym (none_above track fs high.from)
    own-standing fs place zero zero (suc end) q at low high h = absurd (omega arith)
    own-standing [] place zero (suc n) end q at low high h = absurd (omega arith)
    own-standing [] place (suc first) n end q at low high h = absurd (omega arith)
    own-standing (f ∷ fs) place zero (suc n) zero q at low high h = absurd (omega arith)
    own-standing (f ∷ fs) place (suc first) n zero q at low high h = absurd (omega arith)
    own-standing (f ∷ fs) place zero (suc n) (suc end) q at low high h =
        let from : track ≤ f.track = leb-true track f.track (all_first (from_on track) f fs low.from) in
        let to : f.track < track + 1 = ltb-true f.track (track + 1) (all_first (is_under (track + 1)) f (take end fs) high.below) in
        let next : suc (place + 0) ≡ suc place + 0 = omega arith in
        let here : stretch_at all (place + 0) ≡ interval_of f = ap interval_of (at 0 (omega arith)) in
        let rest : map (stretch_at all) (up_from n (suc place + 0)) ≡ own_stretches track fs =
        own-standing fs (suc place) zero n end (omega arith) (at_rest place f fs at)
        (record { below = all_none (is_under track); from = all_rest (from_on track) f fs low.from })
        (record { below = all_rest (is_under (track + 1)) f (take end fs) high.below; from = high.from }) (omega arith) in
        ap₂ (λ (r : Range) (m : ℕ). r ∷ map (stretch_at all) (up_from n m)) here next
        ∙ ap (λ (l : List Range). interval_of f ∷ l) rest ∙ sym (own_first track f fs (omega arith))
    own-standing (f ∷ fs) place (suc first) n (suc end) q at low high h =
        let to : f.track < track = ltb-true f.track track (all_first (is_under track) f (take first fs) low.below) in
        let next : place + suc first ≡ suc place + first = omega arith in
        let rest : map (stretch_at all) (up_from n (suc place + first)) ≡ own_stretches track fs =
        own-standing fs (suc place) first n end (omega arith) (at_rest place f fs at)
        (record { below = all_rest (is_under track) f (take first fs) low.below; from = low.from })
        (record { below = all_rest (is_under (track + 1)) f (take end fs) high.below; from = high.from }) (omega arith) in
        ap (λ (m : ℕ). map (stretch_at all) (up_from n m)) next ∙ rest ∙ sym (own-other track f fs (λ q. omega arith))

-- ---- what they cover

pub sound-some : (f : Frame) → is_sound f ≡ true → some (interval_of f) ≡ true
sound-some f e = lt_test (lt-add f.pts f.duration (leb-true 1 f.duration (and_right (is_timely f) _ e)))

module _ (track : ℕ) where
  own-some : (fs : List Frame) → all_of is_sound fs ≡ true → all_of some (own_stretches track fs) ≡ true
  unfolding own_stretches
  own-some [] e = all_none some
  own-some (f ∷ fs) e =
      let rest : all_of some (own_stretches track fs) ≡ true = own-some fs (all_rest is_sound f fs e) in
      by-test (λ l. all_of some l ≡ true) (eqb f.track track)
      (λ _. all_more some (interval_of f) _ (sound-some f (all_first is_sound f fs e)) rest) (λ _. rest)

  own-if : (t : ℤ) (b : Bool) (r : Range) (rs : List Range) → in_ranges t (cond b (r ∷ rs) rs) ≡ (b && lies_in t r || in_ranges t rs)
  unfolding in_ranges
  own-if t true r rs = refl
  own-if t false r rs = refl

  own-cover : (t : ℤ) (fs : List Frame) → in_ranges t (own_stretches track fs) ≡ covered_on track t fs
  unfolding own_stretches in_ranges covered_on
  own-cover t [] = refl
  own-cover t (f ∷ fs) =
      own-if t (eqb f.track track) (interval_of f) (own_stretches track fs) ∙ ap (λ b. eqb f.track track && covers t f || b) (own-cover t fs)

  pub own-count : (p : Range → Bool) (fs : List Frame) → count p (own_stretches track fs) ≡ count (λ (f : Frame). eqb f.track track && p (interval_of f)) fs
  unfolding own_stretches count total
  own-count p [] = refl
  own-count p (f ∷ fs) =
      split (eqb f.track track)
      (λ t. rw t (omega (arith, own-count p fs)))
      (λ t. rw t (omega (arith, own-count p fs)))

  pub own-length : (fs : List Frame) → length (own_stretches track fs) ≡ count (λ (f : Frame). eqb f.track track) fs
  unfolding own_stretches count total
  own-length [] = refl
  own-length (f ∷ fs) = split (eqb f.track track) (λ t. rw t (omega (arith, own-length fs))) (λ t. rw t (omega (arith, own-length fs)))

-- ---- in presentation order

with-count : (p : Range → Bool) (r : Range) (qs : List Range) → count p (presented_with r qs) ≡ count p (r ∷ qs)
unfolding presented_with count total
with-count p r [] = refl
with-count p r (q ∷ qs) =
    by-test (λ l. count p l ≡ cond (p r) 1 0 + (cond (p q) 1 0 + count p qs)) (lt_z q.start r.start) {x = q ∷ presented_with r qs} {y = r ∷ q ∷ qs}
    (λ _. omega (arith, with-count p r qs)) (λ _. refl)

more-counted : (p : Range → Bool) (r : Range) (l m : List Range) → count p l ≡ count p m → count p (r ∷ l) ≡ count p (r ∷ m)
unfolding count total
more-counted p r l m e = omega (arith, e)

with-from : (p r : Range) (qs : List Range) → p.start ≤ℤ r.start → starts_from p qs ≡ true → starts_from p (presented_with r qs) ≡ true
unfolding presented_with starts_from
with-from p r [] h e = and_both (le_test h) refl
with-from p r (q ∷ qs) h e =
    let first : le_z p.start q.start ≡ true = and_left (le_z p.start q.start) _ e in
    let rest : starts_from q qs ≡ true = and_right (le_z p.start q.start) _ e in
    by-test (λ l. starts_from p l ≡ true) (lt_z q.start r.start) {x = q ∷ presented_with r qs} {y = r ∷ q ∷ qs}
    (λ t. and_both first (with-from q r qs (weaken (test-lt t)) rest))
    (λ t. let next : r.start ≤ℤ q.start = test-ge t in and_both (le_test h) (and_both (le_test next) rest))

with-rise : (r : Range) (qs : List Range) → starts_rise qs ≡ true → starts_rise (presented_with r qs) ≡ true
unfolding presented_with starts_from
with-rise r [] e = refl
with-rise r (q ∷ qs) e =
    by-test (λ l. starts_rise l ≡ true) (lt_z q.start r.start) {x = q ∷ presented_with r qs} {y = r ∷ q ∷ qs}
    (λ t. with-from q r qs (weaken (test-lt t)) e) (λ t. let next : r.start ≤ℤ q.start = test-ge t in and_both (le_test next) e)

module _ (track : ℕ) where
  presented-count : (p : Range → Bool) (fs : List Frame) → count p (presented track fs) ≡ count p (own_stretches track fs)
  unfolding presented own_stretches
  presented-count p [] = refl
  presented-count p (f ∷ fs) = step (eqb f.track track) (presented-count p fs)
    where
      step : (b : Bool) → count p (presented track fs) ≡ count p (own_stretches track fs)
          → count p (cond b (presented_with (interval_of f) (presented track fs)) (presented track fs)) ≡ count p (cond b (interval_of f ∷ own_stretches track fs) (own_stretches track fs))
      step true e = with-count p (interval_of f) (presented track fs) ∙ more-counted p (interval_of f) (presented track fs) (own_stretches track fs) e
      step false e = e

  presented-rise : (fs : List Frame) → starts_rise (presented track fs) ≡ true
  unfolding presented
  presented-rise [] = refl
  presented-rise (f ∷ fs) =
      by-test (λ l. starts_rise l ≡ true) (eqb f.track track) (λ _. with-rise (interval_of f) (presented track fs) (presented-rise fs)) (λ _. presented-rise fs)

  presented-arranges : (fs : List Frame) → Arranges (presented track fs) (own_stretches track fs)
  presented-arranges fs = record { same = λ p. presented-count p fs; order = rise-in_order (presented track fs) (presented-rise fs) }

  -- ---- a walk over them, however it takes those of one start

  module _ (fs : List Frame) (e : all_of is_sound fs ≡ true) where
    pub arranged-ranges : {l : List Range} → Arranges l (own_stretches track fs) → swept_ranges l ≡ ranges_of track fs
    arranged-ranges {l} a =
        let each : all_of some (own_stretches track fs) ≡ true = own-some track fs e in
        unique (swept_ranges l) (ranges_of track fs) (arranged-rise a each) (ranges-rise track fs (all_weaker is_sound lasts (λ f s. and_right (is_timely f) _ s) fs e))
        (λ t. arranged-cover a each t ∙ own-cover track t fs ∙ sym (ranges-cover track t fs))

    -- all of them, or one more than start before the first range too many
    pub taken-by-ranges : (room : ℕ) {l : List Range} → Arranges l (own_stretches track fs)
        → taken_of room l ≡ taken_by (drop room (ranges_of track fs)) (own_stretches track fs)
    taken-by-ranges room {l} a =
        arranged-taken a (own-some track fs e) room ∙ ap (λ (rs : List Range). taken_by (drop room rs) (own_stretches track fs)) (arranged-ranges a)

    pub presented-taken : (room : ℕ) → taken_of room (presented track fs) ≡ taken_by (drop room (ranges_of track fs)) (own_stretches track fs)
    presented-taken room = taken-by-ranges room (presented-arranges fs)
