-- No two rising lists of ranges hold the same instants: where they first differ, the smaller start or end is an instant of one alone.
use mathlib.Core.Path.{◌≡◌, refl, sym, ◌∙◌}
use mathlib.Core.Bool.{true}
use mathlib.Core.List.{List, [], ◌∷◌}
use lib.IntN.{ℤ}
use lib.Signed.{lt_z, le_z, ◌<ℤ◌, ◌≤ℤ◌, <ℤ_irrefl, clash_ℤ}
use Rattle.laws.proofs.BoolLaws.{clash, by-test, and_left, and_right, and_both, or_cases, or_left, or_right}
use Rattle.laws.proofs.IntLaws.{test-lt, test-le, lt_test, le_test, test-ge, below_or_not, lt-lt, lt-le, le-lt, le_refl, weaken, le_antisym}
use Rattle.buffer_state.specs.Ranges.{Range, lies_in, in_ranges, ends_before, is_rising, lesser_of, greater_of}

-- ---- the lesser and the greater of two integers

module _ (a b : ℤ) where
  -- the lesser is at most the one
  pub lesser-left : lesser_of a b ≤ℤ a
  lesser-left = by-test (λ x. x ≤ℤ a) (lt_z b a) (λ e. weaken (test-lt e)) (λ e. le_refl a)

  -- and at most the other
  pub lesser-right : lesser_of a b ≤ℤ b
  lesser-right = by-test (λ x. x ≤ℤ b) (lt_z b a) (λ e. le_refl b) (λ e. test-ge e)

  -- what is below both is below the lesser
  pub below-lesser : {z : ℤ} → z <ℤ a → z <ℤ b → z <ℤ lesser_of a b
  below-lesser {z} h k = by-test (λ x. z <ℤ x) (lt_z b a) (λ e. k) (λ e. h)

  -- the lesser reached and the one not: the other is
  pub lesser-other : {z : ℤ} → lesser_of a b ≤ℤ z → z <ℤ a → b ≤ℤ z
  lesser-other {z} h k = by-test (λ x. x ≤ℤ z → b ≤ℤ z) (lt_z b a) (λ e l. l) (λ e l. clash_ℤ k l) h

  -- the greater is at least the one
  pub greater-left : a ≤ℤ greater_of a b
  greater-left = by-test (λ x. a ≤ℤ x) (lt_z a b) (λ e. weaken (test-lt e)) (λ e. le_refl a)

  -- and at least the other
  pub greater-right : b ≤ℤ greater_of a b
  greater-right = by-test (λ x. b ≤ℤ x) (lt_z a b) (λ e. le_refl b) (λ e. test-ge e)

  -- what both reach the greater reaches
  pub greater-reached : {z : ℤ} → a ≤ℤ z → b ≤ℤ z → greater_of a b ≤ℤ z
  greater-reached {z} h k = by-test (λ x. x ≤ℤ z) (lt_z a b) (λ e. k) (λ e. h)

  -- below the greater and not below the one: below the other
  pub greater-other : {z : ℤ} → z <ℤ greater_of a b → a ≤ℤ z → z <ℤ b
  greater-other {z} h k = by-test (λ x. z <ℤ x → z <ℤ b) (lt_z a b) (λ e l. l) (λ e l. clash_ℤ l k) h

-- ---- an instant in ranges

module _ (t : ℤ) (r : Range) where
  -- not before the start
  pub lies-from : lies_in t r ≡ true → r.start ≤ℤ t
  lies-from e = test-le (and_left _ _ e)

  -- before the end
  pub lies-to : lies_in t r ≡ true → t <ℤ r.end
  lies-to e = test-lt (and_right (le_z r.start t) _ e)

  -- and nothing more is asked
  pub lies-between : r.start ≤ℤ t → t <ℤ r.end → lies_in t r ≡ true
  lies-between h k = and_both (le_test h) (lt_test k)

module _ (t : ℤ) (r : Range) (rs : List Range) where
  -- an instant of the first range is one of the list
  pub in-first : r.start ≤ℤ t → t <ℤ r.end → in_ranges t (r ∷ rs) ≡ true
  unfolding in_ranges
  in-first h k = or_left _ _ (lies-between t r h k)

  -- so is an instant of the later ones
  pub in-later : in_ranges t rs ≡ true → in_ranges t (r ∷ rs) ≡ true
  unfolding in_ranges
  in-later = or_right (lies_in t r) _

  -- there are no others
  pub in-cases {ℓ} : {A : Type ℓ} → in_ranges t (r ∷ rs) ≡ true → (r.start ≤ℤ t → t <ℤ r.end → A) → (in_ranges t rs ≡ true → A) → A
  unfolding in_ranges
  in-cases i h k = or_cases (lies_in t r) (in_ranges t rs) i (λ l. h (lies-from t r l) (lies-to t r l)) k

-- no instant lies in no ranges
pub in-none {ℓ} : {A : Type ℓ} (t : ℤ) → in_ranges t [] ≡ true → A
unfolding in_ranges
in-none t i = clash (sym i)

-- ---- the parts of a rising list

module _ (r : Range) (rs : List Range) where
  -- its first range is not empty
  pub rise-some : is_rising (r ∷ rs) ≡ true → r.start <ℤ r.end
  unfolding is_rising
  rise-some e = test-lt (and_left _ _ e)

  -- it ends before the next starts
  pub rise-gap : is_rising (r ∷ rs) ≡ true → ends_before r rs ≡ true
  unfolding is_rising
  rise-gap e = and_left (ends_before r rs) (is_rising rs) (and_right (lt_z r.start r.end) _ e)

  -- the later ranges rise
  pub rise-tail : is_rising (r ∷ rs) ≡ true → is_rising rs ≡ true
  unfolding is_rising
  rise-tail e = and_right (ends_before r rs) (is_rising rs) (and_right (lt_z r.start r.end) _ e)

  -- and nothing more is asked
  pub rise-more : r.start <ℤ r.end → ends_before r rs ≡ true → is_rising rs ≡ true → is_rising (r ∷ rs) ≡ true
  unfolding is_rising
  rise-more h g e = and_both (lt_test h) (and_both g e)

-- what ends before the first range of a rising list ends before the second
pub before-next : (p q : Range) (qs : List Range) → p.end <ℤ q.start → is_rising (q ∷ qs) ≡ true → ends_before p qs ≡ true
before-next p q [] h e = refl
before-next p q (s ∷ qs) h e = lt_test (lt-lt h (lt-lt (rise-some q (s ∷ qs) e) (test-lt (rise-gap q (s ∷ qs) e))))

-- an instant of the later ranges is past the end of the first
pub past_first : (t : ℤ) (r : Range) (rs : List Range) → is_rising (r ∷ rs) ≡ true → in_ranges t rs ≡ true → r.end <ℤ t
past_first t r [] e i = in-none t i
past_first t r (q ∷ qs) e i =
    let gap : r.end <ℤ q.start = test-lt (rise-gap r (q ∷ qs) e) in
    let rest : is_rising (q ∷ qs) ≡ true = rise-tail r (q ∷ qs) e in
    in-cases t q qs i (λ h k. lt-le gap h) (λ l. lt-lt gap (lt-lt (rise-some q qs rest) (past_first t q qs rest l)))

-- ---- uniqueness

-- every instant of the one list is an instant of the other
abbrev pub Within : List Range → List Range → Type 0
Within rs qs = (t : ℤ) → in_ranges t rs ≡ true → in_ranges t qs ≡ true

module _ (r : Range) (rs : List Range) (e : is_rising (r ∷ rs) ≡ true) where
  -- the first start is an instant
  start-in : in_ranges r.start (r ∷ rs) ≡ true
  start-in = in-first r.start r rs (le_refl _) (rise-some r rs e)

  -- none is before it
  start-least : (t : ℤ) → in_ranges t (r ∷ rs) ≡ true → r.start ≤ℤ t
  start-least t i = in-cases t r rs i (λ h k. h) (λ l. weaken (lt-lt (rise-some r rs e) (past_first t r rs e l)))

  -- the first end is no instant
  end-out : in_ranges r.end (r ∷ rs) ≡ true → ⊥
  end-out i = in-cases r.end r rs i (λ h k. <ℤ_irrefl k) (λ l. <ℤ_irrefl (past_first r.end r rs e l))

  not_none : Within (r ∷ rs) [] → ⊥
  not_none w = in-none r.start (w r.start start-in)

module _ (r q : Range) (rs qs : List Range) (e : is_rising (r ∷ rs) ≡ true) (d : is_rising (q ∷ qs) ≡ true) (w : Within (r ∷ rs) (q ∷ qs)) where
  first-starts : q.start ≤ℤ r.start
  first-starts = start-least q qs d r.start (w r.start (start-in r rs e))

  first_ends : r.start ≤ℤ q.start → r.end ≤ℤ q.end
  first_ends h =
      below_or_not q.end r.end
      (λ l. absurd (end-out q qs d (w q.end (in-first q.end r rs (weaken (le-lt h (rise-some q qs d))) l))))
      (λ l. l)

  later-within : q.end ≤ℤ r.end → Within rs qs
  later-within h t i =
      in-cases t q qs (w t (in-later t r rs i))
      (λ m l. clash_ℤ (lt-le l h) (weaken (past_first t r rs e i)))
      (λ l. l)

-- two rising lists that hold each other's instants are one
pub within_both : (rs qs : List Range) → is_rising rs ≡ true → is_rising qs ≡ true → Within rs qs → Within qs rs → rs ≡ qs
within_both [] [] e d w v = refl
within_both [] (q ∷ qs) e d w v = absurd (not_none q qs d v)
within_both (r ∷ rs) [] e d w v = absurd (not_none r rs e w)
within_both (r ∷ rs) (q ∷ qs) e d w v =
    let from : q.start ≤ℤ r.start = first-starts r q rs qs e d w in
    let back : r.start ≤ℤ q.start = first-starts q r qs rs d e v in
    let to : r.end ≤ℤ q.end = first_ends r q rs qs e d w back in
    let fro : q.end ≤ℤ r.end = first_ends q r qs rs d e v from in
    let inner : Within rs qs = later-within r q rs qs e d w fro in
    let outer : Within qs rs = later-within q r qs rs d e v to in
    let tails : rs ≡ qs = within_both rs qs (rise-tail r rs e) (rise-tail q qs d) inner outer in
    λ j. record { start = le_antisym back from j; end = le_antisym to fro j } ∷ tails j

-- no two rising lists hold the same instants
pub unique : (rs qs : List Range) → is_rising rs ≡ true → is_rising qs ≡ true → ((t : ℤ) → in_ranges t rs ≡ in_ranges t qs) → rs ≡ qs
unique rs qs e d same = within_both rs qs e d (λ t i. sym (same t) ∙ i) (λ t i. same t ∙ i)
