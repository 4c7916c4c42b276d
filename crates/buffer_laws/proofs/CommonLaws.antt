-- The common ranges hold the instants that every track covers, and rise: a list cut by a range holds what both hold, its pieces in order.
use mathlib.Core.Path.{◌≡◌, refl, sym, ap, ap₂, ◌∙◌}
use mathlib.Core.Bool.{true, cond, ◌&&◌, ◌||◌, or_assoc, or-false, and-false, and-or_distrib_left, and-or_distrib_right}
use mathlib.Core.List.{List, [], ◌∷◌, ◌++◌}
use Prim.Native.Nat.{ℕ, zero, suc}
use lib.IntN.{ℤ}
use lib.Signed.{lt_z, ◌<ℤ◌, ◌≤ℤ◌, clash_ℤ}
use Rattle.laws.proofs.BoolLaws.{clash, by-test, and_left, and_right, and_both, same_test}
use Rattle.laws.proofs.IntLaws.{test-lt, lt_test, test-ge, lt-le, le-lt, le-le}
use Rattle.buffer_state.specs.declared.Frame.{Frame}
use Rattle.buffer_state.specs.WellFormed.{all_of}
use Rattle.buffer_state.specs.Ranges.{Range, lies_in, in_ranges, ends_before, is_rising, lesser_of, greater_of, overlap, clipped_ranges, common_of}
use Rattle.buffer_state.specs.Ranges.{covered_on_all, ranges_of, common_ranges_of}
use Rattle.buffer_laws.proofs.RisingLaws.{lesser-left, lesser-right, below-lesser, greater-left, greater-right, greater-reached}
use Rattle.buffer_laws.proofs.RisingLaws.{lies-from, lies-to, lies-between, rise-gap, rise-tail, rise-more, before-next}
use Rattle.buffer_laws.proofs.RangeLaws.{lasts, ranges-cover, ranges-rise}

-- ---- one list after another

-- Two lists together hold what either holds.
pub append-cover : (t : ℤ) (rs qs : List Range) → in_ranges t (rs ++ qs) ≡ (in_ranges t rs || in_ranges t qs)
unfolding in_ranges
append-cover t [] qs = refl
append-cover t (r ∷ rs) qs = ap (λ b. lies_in t r || b) (append-cover t rs qs) ∙ sym (or_assoc (lies_in t r) (in_ranges t rs) (in_ranges t qs))

-- What ends before each of two lists ends before both together.
pub append-after : (p : Range) (rs qs : List Range) → ends_before p rs ≡ true → ends_before p qs ≡ true → ends_before p (rs ++ qs) ≡ true
append-after p [] qs h k = k
append-after p (r ∷ rs) qs h k = h

-- What ends no later than a range ends before all that the range ends before.
pub before-sooner : (r p : Range) (qs : List Range) → r.end ≤ℤ p.end → ends_before p qs ≡ true → ends_before r qs ≡ true
before-sooner r p [] h e = refl
before-sooner r p (q ∷ qs) h e = lt_test (le-lt h (test-lt e))

-- ---- what two ranges have in common

-- from the greater start to the lesser end
abbrev pub shared : Range → Range → Range
shared r q = record { start = greater_of r.start q.start; end = lesser_of r.end q.end }

module _ (t : ℤ) (r q : Range) where
  shared-left : lies_in t (shared r q) ≡ true → lies_in t r ≡ true
  shared-left e =
      lies-between t r (le-le (greater-left r.start q.start) (lies-from t (shared r q) e))
      (lt-le (lies-to t (shared r q) e) (lesser-left r.end q.end))

  shared-right : lies_in t (shared r q) ≡ true → lies_in t q ≡ true
  shared-right e =
      lies-between t q (le-le (greater-right r.start q.start) (lies-from t (shared r q) e))
      (lt-le (lies-to t (shared r q) e) (lesser-right r.end q.end))

  shared-both : lies_in t r ≡ true → lies_in t q ≡ true → lies_in t (shared r q) ≡ true
  shared-both e d =
      lies-between t (shared r q) (greater-reached r.start q.start (lies-from t r e) (lies-from t q d))
      (below-lesser r.end q.end (lies-to t r e) (lies-to t q d))

  -- it holds what both hold
  pub shared-cover : lies_in t (shared r q) ≡ (lies_in t r && lies_in t q)
  shared-cover =
      same_test _ _ (λ e. and_both (shared-left e) (shared-right e)) (λ e. shared-both (and_left _ _ e) (and_right (lies_in t r) _ e))

-- an empty range may be left out
some-cover : (t : ℤ) (r : Range) → in_ranges t (cond (lt_z r.start r.end) (r ∷ []) []) ≡ lies_in t r
unfolding in_ranges
some-cover t r =
    by-test (λ l. in_ranges t l ≡ lies_in t r) (lt_z r.start r.end)
    (λ e. or-false (lies_in t r))
    (λ e. same_test _ _ (λ i. clash (sym i)) (λ i. clash_ℤ (le-lt (lies-from t r i) (lies-to t r i)) (test-ge e)))

-- The overlap of two ranges holds what both hold.
pub overlap-cover : (t : ℤ) (r q : Range) → in_ranges t (overlap r q) ≡ (lies_in t r && lies_in t q)
overlap-cover t r q = some-cover t (shared r q) ∙ shared-cover t r q

overlap-after : (p r q : Range) → p.end <ℤ (shared r q).start → ends_before p (overlap r q) ≡ true
overlap-after p r q h = by-test (λ l. ends_before p l ≡ true) (lt_z (shared r q).start (shared r q).end) (λ e. lt_test h) (λ e. refl)

-- ---- a list cut by a range

-- It holds what both hold.
pub clipped-cover : (t : ℤ) (r : Range) (qs : List Range) → in_ranges t (clipped_ranges r qs) ≡ (lies_in t r && in_ranges t qs)
unfolding clipped_ranges in_ranges
clipped-cover t r [] = sym (and-false (lies_in t r))
clipped-cover t r (q ∷ qs) =
    append-cover t (overlap r q) (clipped_ranges r qs)
    ∙ (ap₂ ◌||◌ (overlap-cover t r q) (clipped-cover t r qs) ∙ sym (and-or_distrib_left (lies_in t r) (lies_in t q) (in_ranges t qs)))

-- What ends before the range ends before the pieces.
pub clipped-after-range : (p r : Range) (qs : List Range) → p.end <ℤ r.start → ends_before p (clipped_ranges r qs) ≡ true
unfolding clipped_ranges
clipped-after-range p r [] h = refl
clipped-after-range p r (q ∷ qs) h =
    append-after p (overlap r q) (clipped_ranges r qs) (overlap-after p r q (lt-le h (greater-left r.start q.start))) (clipped-after-range p r qs h)

-- What ends before the list ends before the pieces.
pub clipped-after-list : (p r : Range) (qs : List Range) → ends_before p qs ≡ true → is_rising qs ≡ true → ends_before p (clipped_ranges r qs) ≡ true
unfolding clipped_ranges
clipped-after-list p r [] h e = refl
clipped-after-list p r (q ∷ qs) h e =
    append-after p (overlap r q) (clipped_ranges r qs) (overlap-after p r q (lt-le (test-lt h) (greater-right r.start q.start)))
    (clipped-after-list p r qs (before-next p q qs (test-lt h) e) (rise-tail q qs e))

-- The pieces rise, and so do they with any rising ranges that the range ends before.
pub clipped-rise : (r : Range) (qs rs : List Range) → is_rising qs ≡ true → ends_before r rs ≡ true → is_rising rs ≡ true
    → is_rising (clipped_ranges r qs ++ rs) ≡ true
unfolding clipped_ranges
clipped-rise r [] rs e b d = d
clipped-rise r (q ∷ qs) rs e b d =
    let both : Range = shared r q in
    let tail : is_rising qs ≡ true = rise-tail q qs e in
    let rest : is_rising (clipped_ranges r qs ++ rs) ≡ true = clipped-rise r qs rs tail b d in
    let gap : ends_before both qs ≡ true = before-sooner both q qs (lesser-right r.end q.end) (rise-gap q qs e) in
    let by-list : ends_before both (clipped_ranges r qs) ≡ true = clipped-after-list both r qs gap tail in
    let by-range : ends_before both rs ≡ true = before-sooner both r rs (lesser-left r.end q.end) b in
    by-test (λ l. is_rising ((l ++ clipped_ranges r qs) ++ rs) ≡ true) (lt_z both.start both.end)
    (λ h. rise-more both (clipped_ranges r qs ++ rs) (test-lt h) (append-after both (clipped_ranges r qs) rs by-list by-range) rest)
    (λ h. rest)

-- ---- what two lists have in common

-- The instants that both hold.
pub both-cover : (t : ℤ) (rs qs : List Range) → in_ranges t (common_of rs qs) ≡ (in_ranges t rs && in_ranges t qs)
unfolding common_of in_ranges
both-cover t [] qs = refl
both-cover t (r ∷ rs) qs =
    append-cover t (clipped_ranges r qs) (common_of rs qs)
    ∙ (ap₂ ◌||◌ (clipped-cover t r qs) (both-cover t rs qs) ∙ sym (and-or_distrib_right (lies_in t r) (in_ranges t rs) (in_ranges t qs)))

-- What ends before the first list ends before what it has in common with another.
pub both-after : (p : Range) (rs qs : List Range) → ends_before p rs ≡ true → is_rising rs ≡ true → ends_before p (common_of rs qs) ≡ true
unfolding common_of
both-after p [] qs h e = refl
both-after p (r ∷ rs) qs h e =
    append-after p (clipped_ranges r qs) (common_of rs qs) (clipped-after-range p r qs (test-lt h))
    (both-after p rs qs (before-next p r rs (test-lt h) e) (rise-tail r rs e))

-- What two rising lists have in common rises.
pub both-rise : (rs qs : List Range) → is_rising rs ≡ true → is_rising qs ≡ true → is_rising (common_of rs qs) ≡ true
unfolding common_of
both-rise [] qs e d = e
both-rise (r ∷ rs) qs e d =
    let tail : is_rising rs ≡ true = rise-tail r rs e in
    clipped-rise r qs (common_of rs qs) d (both-after r rs qs (rise-gap r rs e) tail) (both-rise rs qs tail d)

-- ---- the common ranges of tracks 1 to n

-- An instant lies in one of the common ranges of one track or more exactly when each of them has a stored frame that covers it.
pub common-cover : (n : ℕ) (t : ℤ) (fs : List Frame) → in_ranges t (common_ranges_of (suc n) fs) ≡ covered_on_all (suc n) t fs
unfolding common_ranges_of covered_on_all
common-cover zero t fs = ranges-cover 1 t fs
common-cover (suc n) t fs =
    both-cover t (common_ranges_of (suc n) fs) (ranges_of (suc (suc n)) fs) ∙ ap₂ ◌&&◌ (common-cover n t fs) (ranges-cover (suc (suc n)) t fs)

-- The common ranges rise.
pub common-rise : (n : ℕ) (fs : List Frame) → all_of lasts fs ≡ true → is_rising (common_ranges_of n fs) ≡ true
unfolding common_ranges_of is_rising
common-rise zero fs h = refl
common-rise (suc zero) fs h = ranges-rise 1 fs h
common-rise (suc (suc n)) fs h =
    both-rise (common_ranges_of (suc n) fs) (ranges_of (suc (suc n)) fs) (common-rise (suc n) fs h) (ranges-rise (suc (suc n)) fs h)
