-- Document 02, No. 6: the frames to decode are those that lead to the target, from the nearest flagged one on. What leads to it is cut in
-- two at its last flagged frame; the laws are of the second part.
use mathlib.Core.Path.{◌≡◌, refl, sym, ap, subst, ◌∙◌}
use mathlib.Core.Bool.{Bool, true, false, cond, not, ◌&&◌}
use mathlib.Core.List.{List, [], ◌∷◌, ◌++◌}
use Prim.Native.Nat.{◌+◌, ◌≤◌}
use native.Mathlib.Omega.{arith}
use lib.Dec.{eqb}
use lib.ListN.{length, length-append}
use borrow.Author.Tests.{eqb-true, eq-eqb, not-true}
use Rattle.laws.proofs.BoolLaws.{both_ways, by-test, and_left, and_both, or_cases}
use Rattle.buffer_state.specs.declared.Frame.{Frame}
use Rattle.buffer_state.specs.Run.{total, count}
use Rattle.buffer_state.specs.Seek.{leads_to, up_to, or_else, from_flagged, to_decode, some_of, leads, is_led, led_in}
use Rattle.buffer_state.specs.Store.{is_before, is_of}
use Rattle.buffer_state.specs.WellFormed.{all_of, pairwise, is_sorted}
use Rattle.buffer_laws.proofs.MemberLaws.{In, here, there, all_in, in_all, in-behind, some-passing, only, only-in, in-only, only-pairs, only-whole, only-nothing, only-both}
use Rattle.buffer_laws.proofs.OrderLaws.{before_self, before-turned}
use Rattle.buffer_laws.proofs.TestLaws.{all_more, all_none, all_weaker, pairs_first, pairs-rest}
use Rattle.buffer_laws.proofs.WalkLaws.{leads-facts}

-- ---- what leads to a frame

up_to-only : (f : Frame) (fs : List Frame) → up_to f fs ≡ only (leads_to f) fs
unfolding up_to only
up_to-only f [] = refl
up_to-only f (g ∷ gs) = ap (λ (l : List Frame). cond (leads_to f g) (g ∷ l) l) (up_to-only f gs)

leads-self : (f : Frame) → leads_to f f ≡ true
leads-self f =
    and_both (and_both (eq-eqb f.track f.track refl) (eq-eqb f.group f.group refl)) (ap not (before_self f))

up_to-length : (f : Frame) (fs : List Frame) → length (up_to f fs) ≤ count (λ (x : Frame). eqb f.track x.track) fs
unfolding up_to count total
up_to-length f [] = omega arith
up_to-length f (g ∷ gs) = go (leads_to f g) refl (up_to-length f gs)
  where
    own : leads_to f g ≡ true → eqb f.track g.track ≡ true
    own h = eq-eqb f.track g.track (sym (eqb-true g.track f.track (and_left _ _ (and_left _ _ h))))

    go : (b : Bool) → leads_to f g ≡ b → length (up_to f gs) ≤ count (λ (x : Frame). eqb f.track x.track) gs
        → length (cond b (g ∷ up_to f gs) (up_to f gs)) ≤ cond (eqb f.track g.track) 1 0 + count (λ (x : Frame). eqb f.track x.track) gs
    go true h rest = rw (own h) (omega arith)
    go false h rest = omega arith

-- ---- cut at the last flagged frame

abbrev plain : Frame → Bool
plain x = not x.flagged

-- the second part begins with a flagged frame and has no other
record Cut (whole : List Frame) (g : Frame) (gs : List Frame) : Type 0 where
  ahead : List Frame
  parts : whole ≡ ahead ++ (g ∷ gs)
  flagged : g.flagged ≡ true
  others : all_of plain gs ≡ true

-- without a flagged frame there is no second part
abbrev CutAs : List Frame → List Frame → Type 0
CutAs whole [] = all_of plain whole ≡ true
CutAs whole (g ∷ gs) = Cut whole g gs

cut : (fs : List Frame) → CutAs fs (from_flagged fs)
unfolding from_flagged
cut [] = all_none plain
cut (f ∷ fs) = go (from_flagged fs) f.flagged refl (cut fs)
  where
    go : (later : List Frame) (on : Bool) → f.flagged ≡ on → CutAs fs later → CutAs (f ∷ fs) (or_else later (cond on (f ∷ fs) []))
    go [] true e c = record { ahead = []; parts = refl; flagged = e; others = c }
    go [] false e c = all_more plain f fs (ap not e) c
    go (g ∷ gs) on e c = record { ahead = f ∷ c.ahead; parts = ap (λ (l : List Frame). f ∷ l) c.parts; flagged = c.flagged; others = c.others }

cut-length : (whole later : List Frame) → CutAs whole later → length later ≤ length whole
cut-length whole [] c = omega arith
cut-length whole (g ∷ gs) c = omega (arith, ap length c.parts, length-append c.ahead (g ∷ gs))

cut_in : {x : Frame} (whole later : List Frame) → CutAs whole later → In x later → In x whole
cut_in {x = x} whole [] c i = elim i [ ]
cut_in {x} whole (g ∷ gs) c i = subst (In x) (sym c.parts) (in-behind c.ahead (g ∷ gs) i)

-- ---- its order

-- in a sorted list the frames from g on are those not before it
rest-only : (g : Frame) (gs ahead : List Frame) → pairwise is_before (ahead ++ (g ∷ gs)) ≡ true → only (λ (x : Frame). not (is_before x g)) (ahead ++ (g ∷ gs)) ≡ g ∷ gs
unfolding only
rest-only g gs [] e =
    rw (before_self g)
    (ap (λ (l : List Frame). g ∷ l) (only-whole (λ (x : Frame). not (is_before x g)) gs
    (all_weaker (is_before g) (λ (x : Frame). not (is_before x g)) (λ x h. ap not (before-turned g x h)) gs (pairs_first is_before g gs e))))
rest-only g gs (x ∷ ahead) e =
    let earlier : is_before x g ≡ true = all_in (is_before x) (ahead ++ (g ∷ gs)) (pairs_first is_before x (ahead ++ (g ∷ gs)) e) (in-behind ahead (g ∷ gs) (here refl)) in
    rw earlier (rest-only g gs ahead (pairs-rest is_before x (ahead ++ (g ∷ gs)) e))

-- the last frame of a list, or where it is empty the one given
abbrev pub last_in : Frame → List Frame → Frame
last_in z [] = z
last_in z (f ∷ fs) = last_in f fs

last-behind : (z : Frame) (ahead : List Frame) (g : Frame) (gs : List Frame) → last_in z (ahead ++ (g ∷ gs)) ≡ last_in g gs
last-behind z [] g gs = refl
last-behind z (f ∷ ahead) g gs = last-behind f ahead g gs

up_to-self : (f : Frame) (fs : List Frame) → all_of (is_before f) fs ≡ true → up_to f (f ∷ fs) ≡ f ∷ []
unfolding up_to
up_to-self f fs e =
    let none : up_to f fs ≡ [] =
    up_to-only f fs ∙ only-nothing (leads_to f) fs (all_weaker (is_before f) _ (λ x h. rw h (neither (is_of f.track f.group x))) fs e) in
    rw (leads-self f) (ap (λ (l : List Frame). f ∷ l) none)
  where
    neither : (b : Bool) → not (b && false) ≡ true
    neither true = refl
    neither false = refl

up_to-last : (f : Frame) (fs : List Frame) → is_sorted fs ≡ true → In f fs → (z : Frame) → last_in z (up_to f fs) ≡ f
unfolding is_sorted up_to
up_to-last f [] e x'' z = elim x'' [ ]
up_to-last f (g ∷ gs) e (here q) z =
    subst (λ (x : Frame). last_in z (up_to x (g ∷ gs)) ≡ x) (sym q) (ap (last_in z) (up_to-self g gs (pairs_first is_before g gs e)))
up_to-last f (g ∷ gs) e (there i) z =
    let rest = up_to-last f gs (pairs-rest is_before g gs e) i in
    by-test (λ (l : List Frame). last_in z l ≡ f) (leads_to f g) (λ _. rest g) (λ _. rest z)

-- ---- the frames to decode

module _ (f : Frame) (fs : List Frame) where
  leading : {x : Frame} → In x (to_decode f fs) → In x (only (leads_to f) fs)
  unfolding to_decode
  leading {x} i = subst (In x) (up_to-only f fs) (cut_in (up_to f fs) (from_flagged (up_to f fs)) (cut (up_to f fs)) i)

  -- They are stored frames.
  pub decoded-stored : {x : Frame} → In x (to_decode f fs) → In x fs
  decoded-stored i = (only-in (leads_to f) fs (leading i)).among

  -- They are of the target's group and track, and at or before it in store order.
  pub decoded-lead : all_of (leads_to f) (to_decode f fs) ≡ true
  decoded-lead = in_all (leads_to f) (to_decode f fs) (λ x i. (only-in (leads_to f) fs (leading i)).passes)

  -- They are at most as many as the target's track has stored.
  pub decoded-length : length (to_decode f fs) ≤ count (λ (x : Frame). eqb f.track x.track) fs
  unfolding to_decode
  decoded-length = omega (arith, cut-length (up_to f fs) (from_flagged (up_to f fs)) (cut (up_to f fs)), up_to-length f fs)

  module _ (g : Frame) (gs : List Frame) (e : to_decode f fs ≡ g ∷ gs) where
    parted : Cut (up_to f fs) g gs
    unfolding to_decode
    parted = subst (CutAs (up_to f fs)) e (cut (up_to f fs))

    -- The first of them is flagged, and no other is.
    pub decoded-flagged : (g.flagged ≡ true) × (all_of (λ (x : Frame). not x.flagged) gs ≡ true)
    decoded-flagged = (parted.flagged, parted.others)

    module _ (order : is_sorted fs ≡ true) where
      -- They are all the frames of the target's group and track that are neither after it nor before the first of them.
      pub decoded-exactly : to_decode f fs ≡ only (λ (x : Frame). leads_to f x && not (is_before x g)) fs
      unfolding is_sorted
      decoded-exactly =
          let whole : only (leads_to f) fs ≡ parted.ahead ++ (g ∷ gs) = sym (up_to-only f fs) ∙ parted.parts in
          e ∙ sym (rest-only g gs parted.ahead (subst (λ (l : List Frame). pairwise is_before l ≡ true) whole (only-pairs (leads_to f) is_before fs order)))
          ∙ ap (only (λ (x : Frame). not (is_before x g))) (sym whole) ∙ only-both (leads_to f) (λ (x : Frame). not (is_before x g)) fs

      -- The last of them is the target, where that is a stored frame.
      pub decoded-last : In f fs → last_in g gs ≡ f
      decoded-last i = sym (last-behind g parted.ahead g gs) ∙ ap (last_in g) (sym parted.parts) ∙ up_to-last f fs order i g

-- ---- there are some

-- a list that is not empty
pub record HasSome (fs : List Frame) : Type 0 where
  pub first : Frame
  pub rest : List Frame
  pub is : fs ≡ first ∷ rest

cut-some : (whole later : List Frame) → CutAs whole later → {x : Frame} → In x whole → x.flagged ≡ true → HasSome later
cut-some whole [] c i e = both_ways e (not-true _ (all_in plain whole c i))
cut-some whole (g ∷ gs) c i e = record { first = g; rest = gs; is = refl }

-- Where every stored frame is led, there are frames to decode for each.
pub start-always : (f : Frame) (fs : List Frame) → is_led fs ≡ true → In f fs → HasSome (to_decode f fs)
unfolding to_decode is_led
start-always f fs l i =
    or_cases f.flagged (some_of (leads f) fs) (all_in (led_in fs) fs l i)
    (λ on. begin i (leads-self f) on)
    (λ h.
    let found = some-passing (leads f) fs h in
    let g = found.element in
    let facts = leads-facts f g found.passes in
    begin found.among (and_both facts.own (ap not (before-turned g f facts.earlier))) facts.flagged)
  where
    begin : {x : Frame} → In x fs → leads_to f x ≡ true → x.flagged ≡ true → HasSome (from_flagged (up_to f fs))
    begin {x} among leading on =
        cut-some (up_to f fs) (from_flagged (up_to f fs)) (cut (up_to f fs)) (subst (In x) (sym (up_to-only f fs)) (in-only (leads_to f) fs among leading)) on
