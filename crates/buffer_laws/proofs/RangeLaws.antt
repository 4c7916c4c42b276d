-- A track's ranges hold the instants that its stored frames cover, and rise: to join one more stretch keeps both.
use mathlib.Core.Path.{◌≡◌, refl, ap, ◌∙◌}
use mathlib.Core.Bool.{Bool, true, false, cond, ◌&&◌, ◌||◌, or_assoc}
use mathlib.Core.List.{List, [], ◌∷◌}
use Prim.Native.Nat.{ℕ}
use lib.Dec.{leb, eqb}
use lib.IntN.{ℤ}
use lib.Signed.{lt_z, ◌<ℤ◌, ◌≤ℤ◌}
use borrow.Author.Tests.{leb-true}
use Rattle.laws.proofs.BoolLaws.{by-test, and_left, and_right, or_cases, or_left, or_right, same_test}
use Rattle.laws.proofs.IntLaws.{test-lt, lt_test, test-ge, below_or_not, lt-le, le-lt, le-le, lt-add}
use Rattle.buffer_state.specs.declared.Frame.{Frame}
use Rattle.buffer_state.specs.Buffer.{end_of}
use Rattle.buffer_state.specs.WellFormed.{all_of}
use Rattle.buffer_state.specs.Ranges.{Range, lies_in, in_ranges, ends_before, is_rising, lesser_of, greater_of, joined_ranges, covers, covered_on, ranges_of}
use Rattle.buffer_laws.proofs.RisingLaws.{lesser-left, lesser-right, below-lesser, lesser-other, greater-left, greater-right, greater-other}
use Rattle.buffer_laws.proofs.RisingLaws.{lies-from, lies-to, lies-between, rise-some, rise-gap, rise-tail, rise-more, before-next}

-- ---- two ranges that overlap or touch

-- from the lesser start to the greater end
abbrev pub hull : Range → Range → Range
hull r q = record { start = lesser_of r.start q.start; end = greater_of r.end q.end }

module _ (t : ℤ) (r q : Range) where
  hull-left : lies_in t r ≡ true → lies_in t (hull r q) ≡ true
  hull-left e =
      lies-between t (hull r q) (le-le (lesser-left r.start q.start) (lies-from t r e))
      (lt-le (lies-to t r e) (greater-left r.end q.end))

  hull-right : lies_in t q ≡ true → lies_in t (hull r q) ≡ true
  hull-right e =
      lies-between t (hull r q) (le-le (lesser-right r.start q.start) (lies-from t q e))
      (lt-le (lies-to t q e) (greater-right r.end q.end))

  module _ (h : q.start ≤ℤ r.end) (k : r.start ≤ℤ q.end) where
    hull-either : lies_in t (hull r q) ≡ true → (lies_in t r || lies_in t q) ≡ true
    hull-either e =
        below_or_not t r.start
        (λ l. or_right (lies_in t r) _ (lies-between t q (lesser-other r.start q.start (lies-from t (hull r q) e) l) (lt-le l k)))
        (λ l. below_or_not t r.end
        (λ m. or_left _ _ (lies-between t r l m))
        (λ m. or_right (lies_in t r) _ (lies-between t q (le-le h m) (greater-other r.end q.end (lies-to t (hull r q) e) m))))

    -- their hull holds what either holds
    pub hull-cover : lies_in t (hull r q) ≡ (lies_in t r || lies_in t q)
    hull-cover = same_test _ _ hull-either (λ e. or_cases (lies_in t r) (lies_in t q) e hull-left hull-right)

-- ---- one more stretch joined

or_swap : (a b c : Bool) → (a || (b || c)) ≡ (b || (a || c))
or_swap true true c = refl
or_swap true false c = refl
or_swap false b c = refl

-- To join a stretch adds its instants and no others.
pub joined-cover : (t : ℤ) (r : Range) (qs : List Range) → in_ranges t (joined_ranges r qs) ≡ (lies_in t r || in_ranges t qs)
unfolding joined_ranges in_ranges
joined-cover t r [] = refl
joined-cover t r (q ∷ qs) =
    let Holds : List Range → Type 0 = λ l. in_ranges t l ≡ (lies_in t r || (lies_in t q || in_ranges t qs)) in
    by-test Holds (lt_z r.end q.start) (λ e. refl) (λ e.
    by-test Holds (lt_z q.end r.start)
    (λ d. ap (λ b. lies_in t q || b) (joined-cover t r qs) ∙ or_swap (lies_in t q) (lies_in t r) (in_ranges t qs))
    (λ d. joined-cover t (hull r q) qs
    ∙ (ap (λ b. b || in_ranges t qs) (hull-cover t r q (test-ge e) (test-ge d)) ∙ or_assoc (lies_in t r) (lies_in t q) (in_ranges t qs))))

-- What ends before the stretch and before the ranges ends before both joined.
pub joined-after : (p r : Range) (qs : List Range) → p.end <ℤ r.start → ends_before p qs ≡ true → is_rising qs ≡ true
    → ends_before p (joined_ranges r qs) ≡ true
unfolding joined_ranges
joined-after p r [] h b e = lt_test h
joined-after p r (q ∷ qs) h b e =
    let Ends : List Range → Type 0 = λ l. ends_before p l ≡ true in
    by-test Ends (lt_z r.end q.start) (λ _. lt_test h) (λ _.
    by-test Ends (lt_z q.end r.start) (λ _. b)
    (λ _. joined-after p (hull r q) qs (below-lesser r.start q.start h (test-lt b)) (before-next p q qs (test-lt b) e) (rise-tail q qs e)))

-- To join a stretch that is not empty keeps the order.
pub joined-rise : (r : Range) (qs : List Range) → r.start <ℤ r.end → is_rising qs ≡ true → is_rising (joined_ranges r qs) ≡ true
unfolding joined_ranges
joined-rise r [] h e = rise-more r [] h refl e
joined-rise r (q ∷ qs) h e =
    let Rises : List Range → Type 0 = λ l. is_rising l ≡ true in
    let rest : is_rising qs ≡ true = rise-tail q qs e in
    by-test Rises (lt_z r.end q.start) (λ g. rise-more r (q ∷ qs) h g e) (λ _.
    by-test Rises (lt_z q.end r.start)
    (λ g. rise-more q (joined_ranges r qs) (rise-some q qs e) (joined-after q r qs (test-lt g) (rise-gap q qs e) rest) (joined-rise r qs h rest))
    (λ _. joined-rise (hull r q) qs (le-lt (lesser-left r.start q.start) (lt-le h (greater-left r.end q.end))) rest))

-- ---- a track's ranges

-- its duration is not zero
abbrev pub lasts : Frame → Bool
lasts f = leb 1 f.duration

joined-if : (t : ℤ) (b : Bool) (r : Range) (qs : List Range) → in_ranges t (cond b (joined_ranges r qs) qs) ≡ (b && lies_in t r || in_ranges t qs)
joined-if t true r qs = joined-cover t r qs
joined-if t false r qs = refl

-- An instant lies in one of a track's ranges exactly when a stored frame of the track covers it.
pub ranges-cover : (track : ℕ) (t : ℤ) (fs : List Frame) → in_ranges t (ranges_of track fs) ≡ covered_on track t fs
unfolding ranges_of in_ranges covered_on
ranges-cover track t [] = refl
ranges-cover track t (f ∷ fs) =
    let own : Bool = eqb f.track track in
    joined-if t own (record { start = f.pts; end = end_of f }) (ranges_of track fs) ∙ ap (λ b. own && covers t f || b) (ranges-cover track t fs)

-- A track's ranges rise.
pub ranges-rise : (track : ℕ) (fs : List Frame) → all_of lasts fs ≡ true → is_rising (ranges_of track fs) ≡ true
unfolding ranges_of is_rising all_of
ranges-rise track [] h = refl
ranges-rise track (f ∷ fs) h =
    let rest : is_rising (ranges_of track fs) ≡ true = ranges-rise track fs (and_right (lasts f) _ h) in
    by-test (λ l. is_rising l ≡ true) (eqb f.track track)
    (λ _. joined-rise (record { start = f.pts; end = end_of f }) _ (lt-add f.pts f.duration (leb-true 1 _ (and_left _ _ h))) rest)
    (λ _. rest)
