-- Where a frame goes among sorted ones: what a comparison with one of them says of the place.
use mathlib.Core.Path.{◌≡◌, sym, ap, ◌∙◌}
use mathlib.Core.Bool.{Bool, true, false}
use mathlib.Core.List.{List, [], ◌∷◌, ◌++◌}
use Prim.Native.Nat.{ℕ, suc, ◌+◌, ◌≤◌, ◌<◌}
use native.Mathlib.Numerals.{add-one}
use lib.ListN.{length, take, drop, get_or}
use lib.Seq.{drop-cons, take-suc, append_snoc, split_at}
use Rattle.laws.proofs.BoolLaws.{split, both_ways}
use Rattle.laws.proofs.ListLaws.{first-end}
use Rattle.buffer_state.specs.declared.Frame.{Frame}
use Rattle.buffer_state.specs.Store.{is_before, insert_sorted}
use Rattle.buffer_state.specs.WellFormed.{all_of, is_sorted}
use Rattle.buffer_laws.proofs.OrderLaws.{before-trans}
use Rattle.buffer_laws.proofs.TestLaws.{all_first, all_rest, pairs_first, pairs-rest}
use Rattle.places.specs.Places.{GoesAt}

-- in a sorted list a frame that does not come before g comes before none that stands in front of g
all_middle : {A : Type 0} (p : A → Bool) (xs : List A) (y : A) (ys : List A) → all_of p (xs ++ y ∷ ys) ≡ true → p y ≡ true
all_middle p [] y ys e = all_first p y ys e
all_middle p (x ∷ xs) y ys e = all_middle p xs y ys (all_rest p x (xs ++ y ∷ ys) e)

insert-past : (f g : Frame) (p q : List Frame) → is_sorted (p ++ g ∷ q) ≡ true → is_before f g ≡ false
    → insert_sorted f (p ++ g ∷ q) ≡ p ++ g ∷ insert_sorted f q
unfolding insert_sorted is_sorted
insert-past f g [] q s e = rw e
insert-past f g (x ∷ p) q s e =
    split (is_before f x)
    (λ b. both_ways (before-trans f x g b (all_middle (is_before x) p g q (pairs_first is_before x (p ++ g ∷ q) s))) e)
    (λ b. rw b (ap (λ (l : List Frame). x ∷ l) (insert-past f g p q (pairs-rest is_before x (p ++ g ∷ q) s) e)))

module _ (f : Frame) (l : List Frame) where
  -- it goes in past the first p, or in front of what follows them
  abbrev pub Past : ℕ → Type 0
  Past p = insert_sorted f l ≡ take p l ++ insert_sorted f (drop p l)

  abbrev pub InFront : ℕ → Type 0
  InFront p = insert_sorted f (drop p l) ≡ f ∷ drop p l

  pub goes_at : (p : ℕ) → p ≤ length l → Past p → InFront p → GoesAt f l p
  goes_at p h a b = record { inside = h; put = sym (a ∙ ap (λ (r : List Frame). take p l ++ r) b) }

  -- a frame that f does not come before stands in front of it
  pub goes-past : (m : ℕ) (z : Frame) → m < length l → is_sorted l ≡ true → is_before f (get_or l m z) ≡ false → Past (m + 1)
  goes-past m z h s e =
      let cut = split_at l m z h in
      rw (add-one, take-suc l m z h, append_snoc)
      (ap (insert_sorted f) cut ∙ insert-past f (get_or l m z) (take m l) (drop (suc m) l) (rw cut at s) e)

  pub goes-front : (m : ℕ) (z : Frame) → m < length l → is_before f (get_or l m z) ≡ true → InFront m
  unfolding insert_sorted
  goes-front m z h e = rw (drop-cons l m z h, e)

-- at the end
pub ends-front : (f : Frame) (fs : List Frame) (n p : ℕ) → n ≤ length fs → n ≤ p → InFront f (take n fs) p
unfolding insert_sorted
ends-front f fs n p h k = rw (first-end fs n h p k)
