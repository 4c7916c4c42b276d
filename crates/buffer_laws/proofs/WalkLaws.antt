-- Lists in which every frame is led: step 8's walk leaves them so, and so does storing a frame that is led. In a sorted list the frames
-- before a frame are those that stand before it; where the walk leaves a frame that is not flagged, a flagged one of its group and track
-- stands before it and stays.
use mathlib.Core.Path.{◌≡◌, refl, sym, ap, subst}
use mathlib.Core.Bool.{Bool, true, false, cond, not, ◌&&◌, ◌||◌}
use mathlib.Core.List.{List, [], ◌∷◌}
use mathlib.Core.Logic.{◌⊎◌, inl, inr, ⊎_elim}
use Prim.Native.Nat.{ℕ}
use lib.Dec.{eqb}
use borrow.Author.Tests.{eqb-true, not-true}
use Rattle.laws.proofs.BoolLaws.{clash, both_ways, split, by-test, and_left, and_right, and_both, or_cases, or_left, or_right, or-none-left, or-none-right}
use Rattle.buffer_state.specs.declared.Frame.{Frame}
use Rattle.buffer_state.specs.Seek.{some_of, leads, led_in, is_led}
use Rattle.buffer_state.specs.Store.{Marked, is_taken, mark_where, is_of, is_before, insert_sorted, follows_taken, walk_one, walk_from, walk, kept}
use Rattle.buffer_state.specs.WellFormed.{all_of, pairwise, is_sorted}
use Rattle.buffer_laws.proofs.MemberLaws.{In, here, there, none_in, all_in, in_some, some-passing}
use Rattle.buffer_laws.proofs.OrderLaws.{before-trans, before_self, before-turned, insert_all, insert-some}
use Rattle.buffer_laws.proofs.StoreLaws.{frames_of, mark-frames, walk_one-frame, left-pairs}
use Rattle.buffer_laws.proofs.TestLaws.{all_first, all_rest, all_more, all_none, all_weaker, pairs_first, pairs-rest}

-- ---- a leader

-- what g is to f if it leads it
pub record Leads (f g : Frame) : Type 0 where
  pub flagged : g.flagged ≡ true
  pub own : is_of f.track f.group g ≡ true
  pub earlier : is_before g f ≡ true

module _ (f g : Frame) where
  pub leads-facts : leads f g ≡ true → Leads f g
  leads-facts e =
      let rest = and_right g.flagged _ e in
      record { flagged = and_left _ _ e; own = and_left _ _ rest; earlier = and_right (is_of f.track f.group g) _ rest }

  pub facts-leads : Leads f g → leads f g ≡ true
  facts-leads l = and_both l.flagged (and_both l.own l.earlier)

-- ---- led by place

-- g is flagged, and of f's group and track
abbrev heads : Frame → Frame → Bool
heads f g = g.flagged && is_of f.track f.group g

-- f is flagged, or such a frame is among these
abbrev headed : List Frame → Frame → Bool
headed walked f = f.flagged || some_of (heads f) walked

-- so it is for each, by the frames that stand before it; `walked` holds those before the list
abbrev Headed : List Frame → List Frame → Type 0
Headed walked [] = Unit {0}
Headed walked (f ∷ fs) = (headed walked f ≡ true) × Headed (f ∷ walked) fs

module _ (all : List Frame) where
  -- in a sorted list, a frame that is led is led by one that stands before it
  led-headed : (walked fs : List Frame) → ((g : Frame) → In g all → In g walked ⊎ In g fs) → pairwise is_before fs ≡ true → all_of (led_in all) fs ≡ true
      → Headed walked fs
  led-headed walked [] parts e l = tt
  led-headed walked (f ∷ fs) parts e l = (
    or_cases f.flagged (some_of (leads f) all) (all_first (led_in all) f fs l) (λ on. or_left _ _ on) (λ h. or_right f.flagged _ (by-leader h)),
    led-headed (f ∷ walked) fs (λ g i. onward g (parts g i)) (pairs-rest is_before f fs e) (all_rest (led_in all) f fs l),
  )
    where
      -- none from f on is before f
      later : all_of (λ (g : Frame). not (is_before g f)) (f ∷ fs) ≡ true
      later =
          all_more (λ (g : Frame). not (is_before g f)) f fs (ap not (before_self f))
          (all_weaker (is_before f) (λ (g : Frame). not (is_before g f)) (λ g h. ap not (before-turned f g h)) fs (pairs_first is_before f fs e))

      by-leader : some_of (leads f) all ≡ true → some_of (heads f) walked ≡ true
      by-leader h =
          let found = some-passing (leads f) all h in
          let g = found.element in
          let facts = leads-facts f g found.passes in
          ⊎_elim
          (λ i. in_some (heads f) walked i (and_both {a = g.flagged} facts.flagged facts.own))
          (λ i. both_ways facts.earlier (not-true _ (all_in (λ (x : Frame). not (is_before x f)) (f ∷ fs) later i)))
          (parts g found.among)

      onward : (g : Frame) → In g walked ⊎ In g (f ∷ fs) → In g (f ∷ walked) ⊎ In g fs
      onward g (inl i) = inl (there i)
      onward g (inr (here q)) = inl (here q)
      onward g (inr (there i)) = inr i

  -- and the other way round
  headed-led : (walked fs : List Frame) → ((g : Frame) → In g walked → In g all) → ((g : Frame) → In g fs → In g all)
      → ((g : Frame) → In g walked → all_of (is_before g) fs ≡ true) → pairwise is_before fs ≡ true → Headed walked fs → all_of (led_in all) fs ≡ true
  headed-led walked [] left right earlier e h = all_none (led_in all)
  headed-led walked (f ∷ fs) left right earlier e h =
      all_more (led_in all) f fs
      (or_cases f.flagged (some_of (heads f) walked) h.0 (λ on. or_left _ _ on) (λ some. or_right f.flagged _ (by-head some)))
      (headed-led (f ∷ walked) fs among (λ g i. right g (there i)) before-rest (pairs-rest is_before f fs e) h.1)
    where
      by-head : some_of (heads f) walked ≡ true → some_of (leads f) all ≡ true
      by-head some =
          let found = some-passing (heads f) walked some in
          let g = found.element in
          in_some (leads f) all (left g found.among) (facts-leads f g (record {
            flagged = and_left _ _ found.passes;
            own = and_right g.flagged _ found.passes;
            earlier = all_first (is_before g) f fs (earlier g found.among);
          }))

      among : (g : Frame) → In g (f ∷ walked) → In g all
      among g (here q) = right g (here q)
      among g (there i) = left g i

      before-rest : (g : Frame) → In g (f ∷ walked) → all_of (is_before g) fs ≡ true
      before-rest g (here q) = subst (λ (x : Frame). all_of (is_before x) fs ≡ true) (sym q) (pairs_first is_before f fs e)
      before-rest g (there i) = all_rest (is_before g) f fs (earlier g i)

-- ---- the walk

-- where a frame follows no taken one, a flagged frame of its group and track stays
head-stays : (f : Frame) (ms : List Marked) → follows_taken f.track f.group ms ≡ false → some_of (heads f) (frames_of ms) ≡ true
    → some_of (heads f) (kept ms) ≡ true
unfolding follows_taken kept some_of
head-stays f [] n e = e
head-stays f (m ∷ ms) n e =
    split (is_of f.track f.group m.frame)
    (λ own.
    let none = rw own at n in
    let stays : is_taken m ≡ false = or-none-left (is_taken m) _ none in
    rw stays
    (split m.frame.flagged (λ on. or_left _ _ (and_both on own))
    (λ off. or_right (heads f m.frame) _
    (head-stays f ms (rw off at (or-none-right (is_taken m) _ none)) (rw off at e)))))
    (λ other.
    let rest = head-stays f ms (rw other at n) (or_cases (heads f m.frame) _ e (λ h. both_ways (and_right m.frame.flagged _ h) other) (λ h. h)) in
    by-test (λ (l : List Frame). some_of (heads f) l ≡ true) (is_taken m) (λ _. rest) (λ _. or_right (heads f m.frame) _ rest))

walk_one-headed : (walked : List Marked) (m : Marked) → headed (frames_of walked) m.frame ≡ true
    → is_taken (walk_one walked m) ≡ false → headed (kept walked) (walk_one walked m).frame ≡ true
walk_one-headed walked m h =
    by-test (λ (n : Marked). is_taken n ≡ false → headed (kept walked) n.frame ≡ true)
    (not (is_taken m) && (not m.frame.flagged && follows_taken m.frame.track m.frame.group walked))
    (λ _ e. clash e)
    (λ t e. or_cases m.frame.flagged (some_of (heads m.frame) (frames_of walked)) h (λ on. or_left _ _ on)
    (λ some. split m.frame.flagged (λ on. or_left _ _ on)
    (λ off. or_right m.frame.flagged _ (head-stays m.frame walked (rw (e, off) at t) some))))

walk-headed : (walked ms : List Marked) → Headed (frames_of walked) (frames_of ms) → Headed (kept walked) (kept (walk_from walked ms))
unfolding walk_from kept
walk-headed walked [] h = tt
walk-headed walked (m ∷ ms) h =
    let n = walk_one walked m in
    go (is_taken n) refl
    (walk-headed (n ∷ walked) ms (subst (λ (f : Frame). Headed (f ∷ frames_of walked) (frames_of ms)) (sym (walk_one-frame walked m)) h.1))
  where
    go : (b : Bool) → is_taken (walk_one walked m) ≡ b
        → let n = walk_one walked m in let rest = kept (walk_from (n ∷ walked) ms) in
        Headed (cond b (kept walked) (n.frame ∷ kept walked)) rest → Headed (kept walked) (cond b rest (n.frame ∷ rest))
    go true e rest = rest
    go false e rest = (walk_one-headed walked m h.0 e, rest)

-- Frames taken out by any test, and the walk after them, leave a sorted list led.
pub left-led : (p : Frame → Bool) (c : ℕ) (fs : List Frame) → is_sorted fs ≡ true → is_led fs ≡ true → is_led (kept (walk (mark_where p c fs))) ≡ true
unfolding is_sorted is_led kept
left-led p c fs order l =
    let ms = mark_where p c fs in
    let placed : Headed [] (frames_of ms) = rw (mark-frames p c fs) (led-headed fs [] fs (λ g i. inr i) order l) in
    headed-led (kept (walk ms)) [] (kept (walk ms)) (λ g i. absurd (none_in i)) (λ g i. i) (λ g i. absurd (none_in i))
    (left-pairs p c fs is_before order) (walk-headed [] ms placed)

-- ---- one frame more

-- A frame that comes after one of its group and track is led by that one, or by the frame that leads it.
pub follows-led : (fs : List Frame) → is_led fs ≡ true → (x new : Frame) → In x fs → is_of new.track new.group x ≡ true → is_before x new ≡ true
    → some_of (leads new) fs ≡ true
unfolding is_led
follows-led fs l x new i own earlier =
    or_cases x.flagged (some_of (leads x) fs) (all_in (led_in fs) fs l i)
    (λ on. in_some (leads new) fs i (facts-leads new x (record { flagged = on; own = own; earlier = earlier })))
    (λ h.
    let found = some-passing (leads x) fs h in
    let g = found.element in
    let facts = leads-facts x g found.passes in
    in_some (leads new) fs found.among (facts-leads new g (record {
      flagged = facts.flagged;
      own = rw (sym same-track, sym same-group) facts.own;
      earlier = before-trans g x new facts.earlier earlier;
    })))
  where
    same-track : x.track ≡ new.track
    same-track = eqb-true x.track new.track (and_left _ _ own)

    same-group : x.group ≡ new.group
    same-group = eqb-true x.group new.group (and_right (eqb x.track new.track) _ own)

-- To store a frame that is led leaves every frame led.
pub insert-led : (new : Frame) (fs : List Frame) → led_in fs new ≡ true → is_led fs ≡ true → is_led (insert_sorted new fs) ≡ true
unfolding is_led
insert-led new fs h l = insert_all new (led_in (insert_sorted new fs)) fs (still new h) (all_weaker (led_in fs) (led_in (insert_sorted new fs)) still fs l)
  where
    still : (f : Frame) → led_in fs f ≡ true → led_in (insert_sorted new fs) f ≡ true
    still f e = or_cases f.flagged (some_of (leads f) fs) e (λ on. or_left _ _ on) (λ some. or_right f.flagged _ (insert-some new (leads f) fs some))
