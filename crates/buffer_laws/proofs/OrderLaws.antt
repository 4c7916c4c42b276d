-- Store order: `is_before` is transitive, no frame comes before itself, of two frames with different numbers one comes before the other, and
-- inserting keeps a list sorted, keeps its frames and what every frame passes, and adds the frame's weight.
use mathlib.Core.Path.{◌≡◌, refl, sym, ap, ◌∙◌}
use mathlib.Core.Bool.{Bool, true, false, not, ◌&&◌}
use mathlib.Core.List.{List, [], ◌∷◌}
use Prim.Native.Nat.{ℕ, suc, ◌+◌, ◌<◌, ◌≤◌}
use native.Mathlib.Omega.{arith}
use lib.Dec.{eqb}
use lib.ListN.{length}
use lib.Signed.{lt_z, ◌<ℤ◌, ◌≤ℤ◌, <ℤ_irrefl}
use borrow.Author.Tests.{ltb-true, ltb-false, eqb-true, eqb-false, lt-ltb, eq-eqb, ne_eqb, not-true}
use Rattle.laws.proofs.BoolLaws.{clash, both_ways, split, by-test, and_left, and_right, and_both, same_test}
use Rattle.laws.proofs.IntLaws.{test-lt, lt_test, test-ge, ge-test, below_or_not, lt-lt, le_refl, le_antisym}
use Rattle.buffer_state.specs.declared.Frame.{Frame}
use Rattle.buffer_state.specs.Seek.{some_of}
use Rattle.buffer_state.specs.Store.{is_before, insert_sorted}
use Rattle.buffer_state.specs.WellFormed.{all_of, pairwise, is_sorted}
use Rattle.buffer_state.specs.Run.{total}
use Rattle.buffer_laws.proofs.MemberLaws.{In, here, there, in_some, some-passing}
use Rattle.buffer_laws.proofs.TestLaws.{all_first, all_rest, all_more, all_none, all_weaker, pairs_first, pairs-rest, pairs-more, pairs-none}

-- ---- the order

-- why one frame comes before another
data Before (a b : Frame) : Type 0 where
  by_track : a.track < b.track → Before a b
  by_dts : a.track ≡ b.track → a.dts <ℤ b.dts → Before a b
  by_number : a.track ≡ b.track → a.dts ≡ b.dts → a.number < b.number → Before a b

before-why : (a b : Frame) → is_before a b ≡ true → Before a b
unfolding is_before
before-why a b =
    split (eqb a.track b.track)
    (λ t. split (lt_z a.dts b.dts)
    (λ d e. by_dts (eqb-true a.track b.track t) (test-lt d))
    (λ d. split (lt_z b.dts a.dts)
    (λ g e. clash (sym (rw (t, d, g) at e)))
    (λ g e. by_number (eqb-true a.track b.track t) (le_antisym (test-ge g) (test-ge d)) (ltb-true a.number b.number (rw (t, d, g) at e)))))
    (λ t e. by_track (ltb-true a.track b.track (rw t at e)))

why-before : (a b : Frame) → Before a b → is_before a b ≡ true
unfolding is_before
why-before a b (by_track h) = rw (ne_eqb a.track b.track (λ e. omega arith)) (lt-ltb a.track b.track h)
why-before a b (by_dts t h) = rw (eq-eqb a.track b.track t, lt_test h)
why-before a b (by_number t d h) =
    let le : a.dts ≤ℤ b.dts = rw d (le_refl b.dts) in
    let ge : b.dts ≤ℤ a.dts = rw d (le_refl b.dts) in
    rw (eq-eqb a.track b.track t, ge-test ge, ge-test le) (lt-ltb a.number b.number h)

chain : (a b c : Frame) → Before a b → Before b c → Before a c
chain a b c (by_track h) (by_track g) = by_track (omega arith)
chain a b c (by_track h) (by_dts t g) = by_track (omega arith)
chain a b c (by_track h) (by_number t d g) = by_track (omega arith)
chain a b c (by_dts t h) (by_track g) = by_track (omega arith)
chain a b c (by_dts t h) (by_dts u g) = by_dts (t ∙ u) (lt-lt h g)
chain a b c (by_dts t h) (by_number u d g) = by_dts (t ∙ u) (rw d at h)
chain a b c (by_number t d h) (by_track g) = by_track (omega arith)
chain a b c (by_number t d h) (by_dts u g) = by_dts (t ∙ u) (rw (sym d) at g)
chain a b c (by_number t d h) (by_number u e g) = by_number (t ∙ u) (d ∙ e) (omega arith)

pub before-trans : (a b c : Frame) → is_before a b ≡ true → is_before b c ≡ true → is_before a c ≡ true
before-trans a b c h g = why-before a c (chain a b c (before-why a b h) (before-why b c g))

-- no frame comes before itself
pub before_self : (a : Frame) → is_before a a ≡ false
before_self a = split (is_before a a) (λ e. absurd (circle (before-why a a e))) (λ e. e)
  where
    circle : Before a a → ⊥
    circle (by_track h) = omega arith
    circle (by_dts t h) = <ℤ_irrefl h
    circle (by_number t d h) = omega arith

-- nor before one that comes before it
pub before-turned : (a b : Frame) → is_before a b ≡ true → is_before b a ≡ false
before-turned a b h = split (is_before b a) (λ k. both_ways (before-trans a b a h k) (before_self a)) (λ k. k)

-- of two frames with different numbers, one comes before the other
pub before-total : (a b : Frame) → eqb a.number b.number ≡ false → is_before a b ≡ false → is_before b a ≡ true
unfolding is_before
before-total a b n =
    split (eqb a.track b.track)
    (λ t. split (lt_z a.dts b.dts)
    (λ d e. clash (rw (t, d) at e))
    (λ d. split (lt_z b.dts a.dts)
    (λ g e. why-before b a (by_dts (sym (eqb-true a.track b.track t)) (test-lt g)))
    (λ g e. let h : b.number ≤ a.number = ltb-false a.number b.number (rw (t, d, g) at e) in
    why-before b a (by_number (sym (eqb-true a.track b.track t)) (le_antisym (test-ge d) (test-ge g)) (omega (arith, eqb-false a.number b.number n))))))
    (λ t e. let h : b.track ≤ a.track = ltb-false a.track b.track (rw t at e) in
    why-before b a (by_track (omega (arith, eqb-false a.track b.track t))))

-- of two frames of one track, one that is decoded no later and has the smaller number comes before the other
pub before-later : (a b : Frame) → a.track ≡ b.track → a.dts ≤ℤ b.dts → a.number < b.number → is_before a b ≡ true
before-later a b t d n =
    below_or_not a.dts b.dts (λ h. why-before a b (by_dts t h)) (λ h. why-before a b (by_number t (le_antisym d h) n))

-- ---- neighbours decide

-- the first two, then the rest
pub sorted-next : (f g : Frame) (gs : List Frame) → is_sorted (f ∷ g ∷ gs) ≡ (is_before f g && is_sorted (g ∷ gs))
unfolding is_sorted
sorted-next f g gs =
    same_test _ _
    (λ e. and_both (all_first (is_before f) g gs (pairs_first is_before f (g ∷ gs) e)) (pairs-rest is_before f (g ∷ gs) e))
    (λ e.
    let next : is_before f g ≡ true = and_left _ _ e in
    let rest : pairwise is_before (g ∷ gs) ≡ true = and_right (is_before f g) _ e in
    let later = all_weaker (is_before g) (is_before f) (λ h. before-trans f g h next) gs (pairs_first is_before g gs rest) in
    pairs-more is_before f (g ∷ gs) (all_more (is_before f) g gs next later) rest)

pub sorted-few : (fs : List Frame) → length fs ≤ 1 → is_sorted fs ≡ true
unfolding is_sorted
sorted-few [] h = pairs-none is_before
sorted-few (f ∷ []) h = pairs-more is_before f [] (all_none (is_before f)) (pairs-none is_before)
sorted-few (f ∷ g ∷ gs) h = absurd (omega arith)

-- ---- insertion

module _ (f : Frame) where
  -- what every frame passes, the new one too
  pub insert_all : (p : Frame → Bool) (fs : List Frame) → p f ≡ true → all_of p fs ≡ true → all_of p (insert_sorted f fs) ≡ true
  unfolding insert_sorted
  insert_all p [] h e = all_more p f [] h e
  insert_all p (g ∷ gs) h e =
      by-test (λ l. all_of p l ≡ true) (is_before f g)
      (λ _. all_more p f (g ∷ gs) h e)
      (λ _. all_more p g (insert_sorted f gs) (all_first p g gs e) (insert_all p gs h (all_rest p g gs e)))

  -- a relation that goes both ways, and that the new frame has with every other
  pub insert-pairs : (r : Frame → Frame → Bool) → ((a b : Frame) → r a b ≡ true → r b a ≡ true) → (fs : List Frame)
      → all_of (r f) fs ≡ true → pairwise r fs ≡ true → pairwise r (insert_sorted f fs) ≡ true
  unfolding insert_sorted
  insert-pairs r flip [] h e = pairs-more r f [] h e
  insert-pairs r flip (g ∷ gs) h e =
      by-test (λ l. pairwise r l ≡ true) (is_before f g)
      (λ _. pairs-more r f (g ∷ gs) h e)
      (λ _. pairs-more r g (insert_sorted f gs) (insert_all (r g) gs (flip f g (all_first (r f) g gs h)) (pairs_first r g gs e))
      (insert-pairs r flip gs (all_rest (r f) g gs h) (pairs-rest r g gs e)))

  -- a sorted list stays sorted, if the new frame's number is none of its
  pub insert_sorted_lem : (fs : List Frame) → all_of (λ (g : Frame). not (eqb f.number g.number)) fs ≡ true → is_sorted fs ≡ true → is_sorted (insert_sorted f fs) ≡ true
  unfolding insert_sorted is_sorted
  insert_sorted_lem [] h e = pairs-more is_before f [] (all_none (is_before f)) e
  insert_sorted_lem (g ∷ gs) h e =
      let others : Frame → Bool = λ (x : Frame). not (eqb f.number x.number) in
      let after : all_of (is_before g) gs ≡ true = pairs_first is_before g gs e in
      by-test (λ l. pairwise is_before l ≡ true) (is_before f g)
      (λ b. pairs-more is_before f (g ∷ gs) (all_more (is_before f) g gs b (all_weaker (is_before g) (is_before f) (λ x. before-trans f g x b) gs after)) e)
      (λ b. pairs-more is_before g (insert_sorted f gs)
      (insert_all (is_before g) gs (before-total f g (not-true _ (all_first others g gs h)) b) after)
      (insert_sorted_lem gs (all_rest others g gs h) (pairs-rest is_before g gs e)))

  -- the new frame is there, and those that were
  pub insert-new : (fs : List Frame) → In f (insert_sorted f fs)
  unfolding insert_sorted
  insert-new [] = here refl
  insert-new (g ∷ gs) = by-test (In f) (is_before f g) (λ _. here refl) (λ _. there (insert-new gs))

  insert-in : {x : Frame} (fs : List Frame) → In x fs → In x (insert_sorted f fs)
  unfolding insert_sorted
  insert-in {x = x} [] x'' = elim x'' [ ]
  insert-in {x} (g ∷ gs) (here q) = by-test (In x) (is_before f g) (λ _. there (here q)) (λ _. here q)
  insert-in {x} (g ∷ gs) (there i) = by-test (In x) (is_before f g) (λ _. there (there i)) (λ _. there (insert-in gs i))

  pub insert-some : (p : Frame → Bool) (fs : List Frame) → some_of p fs ≡ true → some_of p (insert_sorted f fs) ≡ true
  insert-some p fs e = let found = some-passing p fs e in in_some p (insert_sorted f fs) (insert-in fs found.among) found.passes

  pub insert-length : (fs : List Frame) → length (insert_sorted f fs) ≡ suc (length fs)
  unfolding insert_sorted
  insert-length [] = refl
  insert-length (g ∷ gs) = by-test (λ (l : List Frame). length l ≡ suc (suc (length gs))) (is_before f g) (λ _. refl) (λ _. ap suc (insert-length gs))

  pub insert-total : (w : Frame → ℕ) (fs : List Frame) → total w (insert_sorted f fs) ≡ w f + total w fs
  unfolding insert_sorted total
  insert-total w [] = refl
  insert-total w (g ∷ gs) =
      by-test (λ l. total w l ≡ w f + (w g + total w gs)) (is_before f g) (λ _. refl) (λ _. omega (arith, insert-total w gs))
