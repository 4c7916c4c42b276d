-- A walk over stretches none of which starts before the range that is open gives a rising list that holds their instants: a stretch
-- that starts at or before the end of that range makes one with it, and one that starts later ends it for good.
use mathlib.Core.Path.{◌≡◌, refl, ap, ◌∙◌}
use mathlib.Core.Bool.{true, false, ◌&&◌, ◌||◌, or_assoc}
use mathlib.Core.List.{List, [], ◌∷◌}
use lib.IntN.{ℤ}
use lib.Signed.{lt_z, le_z, ◌<ℤ◌, ◌≤ℤ◌}
use Rattle.laws.proofs.BoolLaws.{split, by-test, and_left, and_right, and_both}
use Rattle.laws.proofs.IntLaws.{test-lt, test-le, lt_test, le_test, test-ge, ge-test, lt-le, le-lt, le-le, weaken}
use Rattle.buffer_state.specs.Ranges.{Range, lies_in, in_ranges, ends_before, is_rising}
use Rattle.buffer_state.specs.WellFormed.{all_of}
use Rattle.buffer_laws.proofs.TestLaws.{all_first, all_rest}
use Rattle.buffer_laws.proofs.RisingLaws.{greater-left, rise-more}
use Rattle.buffer_laws.proofs.RangeLaws.{hull, hull-cover}
use Rattle.ranges.specs.Sweep.{some, grown, swept_from, swept_ranges, in_order, all_in_order, starts_from, starts_rise}

from-sooner : (p r : Range) (qs : List Range) → p.start ≤ℤ r.start → starts_from r qs ≡ true → starts_from p qs ≡ true
unfolding starts_from
from-sooner p r [] h e = refl
from-sooner p r (q ∷ qs) h e = and_both (le_test (le-le h (test-le (and_left _ _ e)))) (and_right (le_z r.start q.start) _ e)

-- ---- the walk rises

pub from-after : (p r : Range) (qs : List Range) → p.end <ℤ r.start → ends_before p (swept_from r qs) ≡ true
unfolding swept_from
from-after p r [] h = lt_test h
from-after p r (q ∷ qs) h =
    by-test (λ l. ends_before p l ≡ true) (lt_z r.end q.start) (λ _. lt_test h) (λ _. from-after p (grown r q) qs h)

from-rise : (r : Range) (qs : List Range) → r.start <ℤ r.end → all_of some qs ≡ true → is_rising (swept_from r qs) ≡ true
unfolding swept_from is_rising
from-rise r [] h e = rise-more r [] h refl refl
from-rise r (q ∷ qs) h e =
    let rest : all_of some qs ≡ true = all_rest some q qs e in
    by-test (λ l. is_rising l ≡ true) (lt_z r.end q.start)
    (λ g. rise-more r (swept_from q qs) h (from-after r q qs (test-lt g)) (from-rise q qs (test-lt (all_first some q qs e)) rest))
    (λ _. from-rise (grown r q) qs (lt-le h (greater-left r.end q.end)) rest)

pub swept-rise : (rs : List Range) → all_of some rs ≡ true → is_rising (swept_ranges rs) ≡ true
unfolding swept_ranges is_rising
swept-rise [] e = refl
swept-rise (r ∷ rs) e = from-rise r rs (test-lt (all_first some r rs e)) (all_rest some r rs e)

-- ---- and holds the instants of the stretches

grown-hull : (r q : Range) → r.start ≤ℤ q.start → grown r q ≡ hull r q
grown-hull r q h = rw (ge-test h)

from-cover : (t : ℤ) (r : Range) (qs : List Range) → in_order r qs ≡ true → all_of some qs ≡ true
    → in_ranges t (swept_from r qs) ≡ (lies_in t r || in_ranges t qs)
unfolding swept_from in_order in_ranges
from-cover t r [] s e = refl
from-cover t r (q ∷ qs) s e =
    let rest : all_of some qs ≡ true = all_rest some q qs e in
    split (lt_z r.end q.start)
    (λ d. rw d (ap (λ b. lies_in t r || b) (from-cover t q qs (rw d at s) rest)))
    (λ d.
    let ordered : (le_z r.start q.start && in_order (grown r q) qs) ≡ true = rw d at s in
    let here : r.start ≤ℤ q.start = test-le (and_left _ _ ordered) in
    let within : r.start ≤ℤ q.end = weaken (le-lt here (test-lt (all_first some q qs e))) in
    rw d (from-cover t (grown r q) qs (and_right (le_z r.start q.start) _ ordered) rest
    ∙ (ap (λ b. b || in_ranges t qs) (ap (lies_in t) (grown-hull r q here) ∙ hull-cover t r q (test-ge d) within)
    ∙ or_assoc (lies_in t r) (lies_in t q) (in_ranges t qs))))

pub swept-cover : (t : ℤ) (rs : List Range) → all_in_order rs ≡ true → all_of some rs ≡ true → in_ranges t (swept_ranges rs) ≡ in_ranges t rs
unfolding swept_ranges in_ranges
swept-cover t [] s e = refl
swept-cover t (r ∷ rs) s e = from-cover t r rs s (all_rest some r rs e)

-- stretches whose starts rise are in order
pub starts-in_order : (r : Range) (qs : List Range) → starts_from r qs ≡ true → in_order r qs ≡ true
unfolding starts_from in_order
starts-in_order r [] s = refl
starts-in_order r (q ∷ qs) s =
    let here : le_z r.start q.start ≡ true = and_left _ _ s in
    let later : starts_from q qs ≡ true = and_right (le_z r.start q.start) _ s in
    by-test (λ b. b ≡ true) (lt_z r.end q.start) (λ _. starts-in_order q qs later)
    (λ _. and_both here (starts-in_order (grown r q) qs (from-sooner (grown r q) q qs (test-le here) later)))

pub rise-in_order : (rs : List Range) → starts_rise rs ≡ true → all_in_order rs ≡ true
rise-in_order [] s = refl
rise-in_order (r ∷ rs) s = starts-in_order r rs s

-- ---- a stretch more

module _ (r q : Range) (qs : List Range) where
  module _ (t : lt_z r.end q.start ≡ true) where
    pub swept-opens : swept_from r (q ∷ qs) ≡ r ∷ swept_from q qs
    unfolding swept_from
    swept-opens = rw t

    pub order-opens : in_order r (q ∷ qs) ≡ in_order q qs
    unfolding in_order
    order-opens = rw t

  module _ (t : lt_z r.end q.start ≡ false) where
    pub swept-extends : swept_from r (q ∷ qs) ≡ swept_from (grown r q) qs
    unfolding swept_from
    swept-extends = rw t

    pub order-extends : in_order r (q ∷ qs) ≡ (le_z r.start q.start && in_order (grown r q) qs)
    unfolding in_order
    order-extends = rw t
