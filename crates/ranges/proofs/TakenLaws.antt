-- How many stretches a walk takes: all of them, or one more than start before the first range that is one too many. So it depends on which
-- they are, and how those of one start are ordered does not matter.
use mathlib.Core.Path.{◌≡◌, refl, sym, ap, ◌∙◌}
use mathlib.Core.Bool.{Bool, true, false, not, ◌&&◌}
use mathlib.Core.List.{List, [], ◌∷◌}
use Prim.Native.Nat.{ℕ, zero, suc}
use native.Mathlib.Omega.{arith}
use lib.Dec.{ltb}
use lib.IntN.{ℤ}
use lib.ListN.{length, drop}
use lib.Signed.{lt_z, le_z, ◌<ℤ◌, ◌≤ℤ◌}
use borrow.Author.Tests.{lt-ltb}
use Rattle.laws.proofs.BoolLaws.{split, by-test, and_left, and_right}
use Rattle.laws.proofs.IntLaws.{test-lt, test-le, lt_test, ge-test, lt-lt, lt-le, le-lt, le-le, le_refl, weaken}
use Rattle.buffer_state.specs.Ranges.{Range, greater_of, lies_in, in_ranges, ends_before, is_rising}
use Rattle.buffer_state.specs.Run.{total, count}
use Rattle.buffer_state.specs.Walked.{taken_from, taken_of}
use Rattle.buffer_state.specs.WellFormed.{all_of}
use Rattle.buffer_laws.proofs.CallLaws.{total-ones}
use Rattle.buffer_laws.proofs.RisingLaws.{greater-left, greater-right}
use Rattle.buffer_laws.proofs.TestLaws.{all_first, all_rest, all_more, all_none}
use Rattle.ranges.specs.Sweep.{some, grown, swept_from, swept_ranges, in_order, all_in_order}
use Rattle.ranges.specs.Walks.{Arranges}
use Rattle.ranges.proofs.SweepLaws.{from-after, swept-rise, swept-cover, swept-opens, swept-extends, order-opens, order-extends}

-- ---- counts

module _ {A : Type 0} (p : A → Bool) (x : A) (l : List A) where
  pub count-more : p x ≡ true → count p (x ∷ l) ≡ suc (count p l)
  unfolding count total
  count-more e = rw e (omega arith)

  pub count_same : p x ≡ false → count p (x ∷ l) ≡ count p l
  unfolding count total
  count_same e = rw e (omega arith)

none-counts : {A : Type 0} (p : A → Bool) → count p [] ≡ 0
unfolding count total
none-counts p = refl

-- ---- ranges behind the one that is open

before-sooner : (p r : Range) (rs : List Range) → p.end ≤ℤ r.end → ends_before r rs ≡ true → ends_before p rs ≡ true
before-sooner p r [] h e = refl
before-sooner p r (q ∷ qs) h e = lt_test (le-lt h (test-lt e))

none_left : (m : ℕ) (r : Range) → ends_before r (drop m []) ≡ true
none_left zero r = refl
none_left (suc m) r = refl

from_past : (m : ℕ) (r : Range) (qs : List Range) → all_of some qs ≡ true → ends_before r (drop (suc m) (swept_from r qs)) ≡ true
unfolding swept_from
from_past m r [] e = none_left m r
from_past m r (q ∷ qs) e =
    let rest : all_of some qs ≡ true = all_rest some q qs e in
    by-test (λ l. ends_before r (drop (suc m) l) ≡ true) (lt_z r.end q.start) {x = r ∷ swept_from q qs}
    (λ g. later m (test-lt g) (λ (k : ℕ). from_past k q qs rest))
    (λ _. before-sooner r (grown r q) (drop (suc m) (swept_from (grown r q) qs)) (greater-left r.end q.end) (from_past m (grown r q) qs rest))
  where
    later : (m : ℕ) → r.end <ℤ q.start → ((k : ℕ) → ends_before q (drop (suc k) (swept_from q qs)) ≡ true) → ends_before r (drop m (swept_from q qs)) ≡ true
    later zero h past = from-after r q qs h
    later (suc k) h past = before-sooner r q (drop (suc k) (swept_from q qs)) (weaken (lt-lt h (test-lt (all_first some q qs e)))) (past k)

-- ---- a stretch more

module _ (e : ℤ) (q : Range) (qs : List Range) where
  pub taken-opens : lt_z e q.start ≡ true → (m : ℕ) → taken_from e m (q ∷ qs) ≡ taken_of m (q ∷ qs)
  unfolding taken_from taken_of
  taken-opens t zero = rw t
  taken-opens t (suc m) = rw t

  pub taken-extends : lt_z e q.start ≡ false → (m : ℕ) → taken_from e m (q ∷ qs) ≡ suc (taken_from (greater_of e q.end) m qs)
  unfolding taken_from
  taken-extends t zero = rw t
  taken-extends t (suc m) = rw t

-- ---- how many start before a range

abbrev pub starts_below : ℤ → List Range → ℕ
starts_below z = count (λ (q : Range). lt_z q.start z)

-- of all stretches, where the ranges from the first too many on are given
unfoldable pub taken_by : List Range → List Range → ℕ
taken_by [] all = length all
taken_by (q ∷ qs) all = suc (starts_below q.start all)

none-sooner : (z : ℤ) (r : Range) (qs : List Range) → z ≤ℤ r.start → r.start <ℤ r.end → in_order r qs ≡ true → all_of some qs ≡ true → starts_below z qs ≡ 0
none-sooner z r [] h k o e = none-counts (λ (q : Range). lt_z q.start z)
none-sooner z r (q ∷ qs) h k o e =
    let here : some q ≡ true = all_first some q qs e in
    let rest : all_of some qs ≡ true = all_rest some q qs e in
    split (lt_z r.end q.start)
    (λ d.
    let far : z ≤ℤ q.start = weaken (le-lt h (lt-lt k (test-lt d))) in
    count_same _ q qs (ge-test far) ∙ none-sooner z q qs far (test-lt here) (sym (order-opens r q qs d) ∙ o) rest)
    (λ d.
    let ordered : (le_z r.start q.start && in_order (grown r q) qs) ≡ true = sym (order-extends r q qs d) ∙ o in
    let far : z ≤ℤ q.start = le-le h (test-le (and_left _ _ ordered)) in
    count_same _ q qs (ge-test far)
    ∙ none-sooner z (grown r q) qs h (lt-le k (greater-left r.end q.end)) (and_right (le_z r.start q.start) _ ordered) rest)

-- the first of a walk's ranges starts where the walk does
opened : (r : Range) (qs all : List Range) → taken_by (swept_from r qs) all ≡ suc (starts_below r.start all)
unfolding swept_from taken_by
opened r [] all = refl
opened r (q ∷ qs) all =
    by-test (λ l. taken_by l all ≡ suc (starts_below r.start all)) (lt_z r.end q.start) {x = r ∷ swept_from q qs} (λ _. refl) (λ _. opened (grown r q) qs all)

-- a stretch more, which ends before the first range too many
one_more : (q : Range) (rs all : List Range) → some q ≡ true → ends_before q rs ≡ true → suc (taken_by rs all) ≡ taken_by rs (q ∷ all)
unfolding taken_by
one_more q [] all s e = refl
one_more q (h ∷ t) all s e =
    let own : q.start <ℤ q.end = test-lt s in
    let past : q.end <ℤ h.start = test-lt e in
    ap suc (sym (count-more _ q all (lt_test (lt-lt own past))))

-- ---- the walk

abbrev ByRanges : Range → List Range → Type 0
ByRanges r qs = (m : ℕ) → taken_from r.end m qs ≡ taken_by (drop (suc m) (swept_from r qs)) qs

first_taken : (q : Range) (qs : List Range) → in_order q qs ≡ true → some q ≡ true → all_of some qs ≡ true → starts_below q.start (q ∷ qs) ≡ 0
first_taken q qs o s e = count_same _ q qs (ge-test (le_refl q.start)) ∙ none-sooner q.start q qs (le_refl q.start) (test-lt s) o e

taken-first : (q : Range) (qs : List Range) → in_order q qs ≡ true → some q ≡ true → all_of some qs ≡ true → ByRanges q qs
    → (m : ℕ) → taken_of m (q ∷ qs) ≡ taken_by (drop m (swept_from q qs)) (q ∷ qs)
unfolding taken_of
taken-first q qs o s e by zero = sym (opened q qs (q ∷ qs) ∙ ap suc (first_taken q qs o s e))
taken-first q qs o s e by (suc m) = ap suc (by m) ∙ one_more q _ qs s (from_past m q qs e)

none-taken : (e : ℤ) (m : ℕ) → taken_from e m [] ≡ taken_by (drop m []) []
unfolding taken_from taken_by
none-taken e zero = refl
none-taken e (suc m) = refl

taken-from : (r : Range) (qs : List Range) → in_order r qs ≡ true → all_of some qs ≡ true → ByRanges r qs
unfolding swept_from
taken-from r [] o e m = none-taken r.end m
taken-from r (q ∷ qs) o e m =
    let here : some q ≡ true = all_first some q qs e in
    let rest : all_of some qs ≡ true = all_rest some q qs e in
    split (lt_z r.end q.start)
    (λ d.
    let ordered : in_order q qs ≡ true = sym (order-opens r q qs d) ∙ o in
    taken-opens r.end q qs d m ∙ taken-first q qs ordered here rest (taken-from q qs ordered rest) m
    ∙ ap (λ (l : List Range). taken_by (drop (suc m) l) (q ∷ qs)) (sym (swept-opens r q qs d)))
    (λ d.
    let ordered : in_order (grown r q) qs ≡ true = and_right (le_z r.start q.start) _ (sym (order-extends r q qs d) ∙ o) in
    let past : ends_before q (drop (suc m) (swept_from (grown r q) qs)) ≡ true =
    before-sooner q (grown r q) (drop (suc m) (swept_from (grown r q) qs)) (greater-right r.end q.end) (from_past m (grown r q) qs rest) in
    taken-extends r.end q qs d m ∙ ap suc (taken-from (grown r q) qs ordered rest m) ∙ one_more q _ qs here past
    ∙ ap (λ (l : List Range). taken_by (drop (suc m) l) (q ∷ qs)) (sym (swept-extends r q qs d)))

pub taken-by : (room : ℕ) (l : List Range) → all_in_order l ≡ true → all_of some l ≡ true → taken_of room l ≡ taken_by (drop room (swept_ranges l)) l
unfolding swept_ranges taken_of taken_by
taken-by zero [] o e = refl
taken-by (suc room) [] o e = refl
taken-by room (q ∷ qs) o e = let rest = all_rest some q qs e in taken-first q qs o (all_first some q qs e) rest (taken-from q qs o rest) room

-- ---- other orders

-- tests and covered instants by counts
count_none : (p : Range → Bool) (l : List Range) → all_of p l ≡ true → count (λ q. not (p q)) l ≡ 0
count_none p [] e = none-counts (λ (q : Range). not (p q))
count_none p (q ∷ qs) e = count_same _ q qs (ap not (all_first p q qs e)) ∙ count_none p qs (all_rest p q qs e)

none-counted : (p : Range → Bool) (l : List Range) → count (λ q. not (p q)) l ≡ 0 → all_of p l ≡ true
none-counted p [] e = all_none p
none-counted p (q ∷ qs) e =
    split (p q)
    (λ t. all_more p q qs t (none-counted p qs (sym (count_same _ q qs (ap not t)) ∙ e)))
    (λ t. absurd (omega (arith, e, count-more (λ q. not (p q)) q qs (ap not t))))

lies-counted : (t : ℤ) (l : List Range) → in_ranges t l ≡ ltb 0 (count (lies_in t) l)
unfolding in_ranges
lies-counted t [] = sym (ap (ltb 0) (none-counts (lies_in t)))
lies-counted t (q ∷ qs) =
    split (lies_in t q)
    (λ e. rw e (sym (lt-ltb 0 (count (lies_in t) (q ∷ qs)) (omega (arith, count-more (lies_in t) q qs e)))))
    (λ e. rw e (lies-counted t qs ∙ sym (ap (ltb 0) (count_same (lies_in t) q qs e))))

module _ {l all : List Range} (a : Arranges l all) (e : all_of some all ≡ true) where
  pub arranged-some : all_of some l ≡ true
  arranged-some = none-counted some l (a.same (λ q. not (some q)) ∙ count_none some all e)

  arranged-length : length l ≡ length all
  unfolding count
  arranged-length = sym (total-ones l) ∙ a.same (λ q. true) ∙ total-ones all

  pub arranged-cover : (t : ℤ) → in_ranges t (swept_ranges l) ≡ in_ranges t all
  arranged-cover t = swept-cover t l a.order arranged-some ∙ lies-counted t l ∙ ap (ltb 0) (a.same (lies_in t)) ∙ sym (lies-counted t all)

  pub arranged-rise : is_rising (swept_ranges l) ≡ true
  arranged-rise = swept-rise l arranged-some

  pub arranged-taken : (room : ℕ) → taken_of room l ≡ taken_by (drop room (swept_ranges l)) all
  unfolding taken_by
  arranged-taken room = taken-by room l a.order arranged-some ∙ same (drop room (swept_ranges l))
    where
      same : (rs : List Range) → taken_by rs l ≡ taken_by rs all
      same [] = arranged-length
      same (q ∷ qs) = ap suc (a.same (λ r. lt_z r.start q.start))
