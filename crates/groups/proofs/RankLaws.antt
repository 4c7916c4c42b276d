-- A number's place in a list that rises, and slots by places.
use mathlib.Core.Path.{◌≡◌, sym, ap, ap₂, subst, ◌∙◌}
use mathlib.Core.Bool.{true, false}
use mathlib.Core.List.{List, [], ◌∷◌}
use Prim.Native.Nat.{ℕ, zero, suc, ◌+◌, ◌-◌, ◌≤◌, ◌<◌}
use native.Mathlib.Nat.{not-suc-le-zero}
use native.Mathlib.Omega.{arith}
use lib.Dec.{ltb, leb, eqb}
use lib.ListN.{length, take, get_or, set}
use lib.Seq.{get_or-take, length-take-le, get_or-set_same, get_or-set_other}
use borrow.Author.Tests.{eqb-true, eqb-false, ltb-true, ltb-false, leb-true}
use Rattle.std.specs.List.{AllWithin}
use Rattle.std.specs.List.Sorted.{IsPartitionedBy, IsPartitionPoint}
use Rattle.laws.proofs.BoolLaws.{split, and_left, and_right}
use Rattle.sorting.specs.Sorting.{most, rises, neighbours, following, occurrences, Sorts}
use Rattle.sorting.proofs.SortLaws.{occurs-none, occurs-first, occurs-later, following-rest, none_below}
use Rattle.groups.specs.Groups.{group_in, IsSlotted, group_numbers, key_of, key_in, IsKeyed, place_of}

-- ---- a number's place

following-at : (y : ℕ) (l : List ℕ) (m d : ℕ) → following leb y l ≡ true → m < length l → y ≤ get_or l m d
unfolding following
following-at y [] m d e h = absurd (not-suc-le-zero h)
following-at y (z ∷ l) zero d e h = leb-true y z (and_left (leb y z) (following leb z l) e)
following-at y (z ∷ l) (suc m) d e h =
    let a : y ≤ z = leb-true y z (and_left (leb y z) (following leb z l) e) in
    let b : z ≤ get_or l m d = following-at z l m d (and_right (leb y z) (following leb z l) e) (omega arith) in
    omega arith

place-below : (x : ℕ) (l : List ℕ) (m d : ℕ) → m < length l → x ≤ get_or l m d → place_of x l ≤ m
unfolding place_of
place-below x [] m d h e = absurd (not-suc-le-zero h)
place-below x (y ∷ l) zero d h e = split (ltb y x) (λ q. absurd (omega (arith, ltb-true y x q))) (λ q. rw q (omega arith))
place-below x (y ∷ l) (suc m) d h e =
    let r : place_of x l ≤ m = place-below x l m d (omega arith) e in
    split (ltb y x) (λ q. rw q (omega arith)) (λ q. rw q (omega arith))

place-above : (x : ℕ) (l : List ℕ) (m d : ℕ) → rises l ≡ true → m < length l → get_or l m d < x → m + 1 ≤ place_of x l
unfolding place_of neighbours
place-above x [] m d s h e = absurd (not-suc-le-zero h)
place-above x (y ∷ l) zero d s h e = split (ltb y x) (λ q. rw q (omega arith)) (λ q. absurd (omega (arith, ltb-false y x q)))
place-above x (y ∷ l) (suc m) d s h e =
    let r : m + 1 ≤ place_of x l = place-above x l m d (following-rest leb y l s) (omega arith) e in
    let a : y ≤ get_or l m d = following-at y l m d s (omega arith) in
    split (ltb y x) (λ q. rw q (omega arith)) (λ q. absurd (omega (arith, ltb-false y x q)))

place-most : (x : ℕ) (l : List ℕ) → place_of x l ≤ length l
unfolding place_of
place-most x [] = omega arith
place-most x (y ∷ l) = let r : place_of x l ≤ length l = place-most x l in split (ltb y x) (λ q. rw q (omega arith)) (λ q. rw q (omega arith))

-- those below x stand before the others
pub below-first : (x : ℕ) (l : List ℕ) → rises l ≡ true → IsPartitionedBy (λ y. ltb y x) l
below-first x l s i j d le h e =
    let up : j + 1 ≤ place_of x l = place-above x l j d s h (ltb-true (get_or l j d) x e) in
    split (ltb (get_or l i d) x) (λ q. q) (λ q. absurd (omega (arith, le, up, place-below x l i d (omega arith) (ltb-false (get_or l i d) x q))))

-- so their end is the place
pub place-parted : (x : ℕ) (l : List ℕ) (i : ℕ) → rises l ≡ true → i ≤ length l
    → IsPartitionPoint (λ y. ltb y x ≡ true) (λ y. ltb y x ≡ false) l i → place_of x l ≡ i
place-parted x l i s h p =
    let most : place_of x l ≤ i =
    split (ltb i (length l))
    (λ q. let k = ltb-true i (length l) q in place-below x l i 0 k (ltb-false (get_or l i 0) x (p.1 i 0 (omega arith) k)))
    (λ q. omega (arith, place-most x l, ltb-false i (length l) q)) in
    omega (arith, most, least i h p.0)
  where
    least : (n : ℕ) → n ≤ length l → AllWithin (λ y. ltb y x ≡ true) l 0 n → n ≤ place_of x l
    least zero k q = omega arith
    least (suc n) k q = let r : n + 1 ≤ place_of x l = place-above x l n 0 s (omega arith) (ltb-true (get_or l n 0) x (q n 0 (omega arith) (omega arith))) in omega arith

-- a number of the list stands at its place
place_here : (x : ℕ) (l : List ℕ) → rises l ≡ true → 1 ≤ occurrences x l → (place_of x l < length l) × (get_or l (place_of x l) 0 ≡ x)
unfolding place_of neighbours
place_here x [] s h = absurd (omega (arith, occurs-none x))
place_here x (y ∷ l) s h =
    split (ltb y x)
    (λ q.
    let d : x ≡ y → ⊥ = λ e. omega (arith, ltb-true y x q) in
    let r = place_here x l (following-rest leb y l s) (omega (arith, occurs-later x y l d)) in
    rw q (omega (arith, r.0), r.1))
    (λ q.
    split (eqb x y)
    (λ e. rw q (omega arith, sym (eqb-true x y e)))
    (λ e.
    let d : x ≡ y → ⊥ = eqb-false x y e in
    let k : x < y = omega (arith, ltb-false y x q) in
    absurd (omega (arith, occurs-later x y l d, none_below x y l s k))))

occurs-at : (l : List ℕ) (m : ℕ) → m < length l → 1 ≤ occurrences (get_or l m 0) l
occurs-at [] m h = absurd (not-suc-le-zero h)
occurs-at (y ∷ l) zero h = omega (arith, occurs-first y l)
occurs-at (y ∷ l) (suc m) h =
    let r : 1 ≤ occurrences (get_or l m 0) l = occurs-at l m (omega arith) in
    split (eqb (get_or l m 0) y)
    (λ e. rw (eqb-true (get_or l m 0) y e) (omega (arith, occurs-first y l)))
    (λ e. omega (arith, occurs-later (get_or l m 0) y l (eqb-false (get_or l m 0) y e)))

-- ---- keys

module _ (gs : List (List ℕ)) (first : ℕ) where
  pub keyed-none : (ks : List ℕ) → IsKeyed gs first first ks
  keyed-none ks = record { keys = λ i b h. absurd (omega arith); fits = λ i b h. absurd (omega arith) }

  -- the key of one row more
  pub keyed-more : (ks : List ℕ) (i x : ℕ) → first ≤ i → i - first < length ks → IsKeyed gs first i ks → x ≡ key_in (get_or gs i []) → group_in (get_or gs i []) < group_numbers
      → IsKeyed gs first (i + 1) (set ks (i - first) x)
  keyed-more ks i x b inside w e small = record {
    keys = λ j c h. split (eqb j i)
        (λ q. rw (eqb-true j i q) (get_or-set_same ks (i - first) x 0 inside ∙ e))
        (λ q. get_or-set_other ks (i - first) (j - first) x 0 (λ z. eqb-false j i q (omega (arith, z))) ∙ w.keys j c (omega (arith, eqb-false j i q)));
    fits = λ j c h. split (eqb j i)
        (λ q. rw (eqb-true j i q) small)
        (λ q. w.fits j c (omega (arith, eqb-false j i q)));
  }

-- ---- slots

-- one more is set, of those from the first on
pub set_more : (f : ℕ → ℕ) (first : ℕ) (l : List ℕ) (i x : ℕ) → i < length l → ((j : ℕ) → first ≤ j → j < i → get_or l j 0 ≡ f j) → x ≡ f i
    → (j : ℕ) → first ≤ j → j < i + 1 → get_or (set l i x) j 0 ≡ f j
set_more f first l i x h w e j a g =
    split (eqb j i)
    (λ q. rw (eqb-true j i q, get_or-set_same l i x 0 h) e)
    (λ q. rw (get_or-set_other l i j x 0 (eqb-false j i q)) (w j a (omega (arith, eqb-false j i q))))

module _ (gs : List (List ℕ)) (first n : ℕ) (few : n ≤ most) (ks a ss : List ℕ) (made : IsKeyed gs first n ks) (full : length ks ≡ most) (long : length a ≡ most)
    (s : Sorts (n - first) ks a) (placed : (i : ℕ) → first ≤ i → i < n → get_or ss i 0 ≡ place_of (key_in (get_or gs i [])) (take (n - first) a)) where
  abbrev ranks : List ℕ
  ranks = take (n - first) a

  abbrev key : ℕ → ℕ
  key i = key_in (get_or gs i [])

  stands : (i : ℕ) → first ≤ i → i < n → (place_of (key i) ranks < length ranks) × (get_or ranks (place_of (key i) ranks) 0 ≡ key i)
  stands i b h =
      let m = n - first in
      let j = i - first in
      let e : get_or (take m ks) j 0 ≡ key i = get_or-take m ks j 0 (omega arith) ∙ made.keys i b h in
      let o : 1 ≤ occurrences (get_or (take m ks) j 0) (take m ks) = occurs-at (take m ks) j (omega (arith, length-take-le m ks (omega arith))) in
      let p : 1 ≤ occurrences (key i) (take m ks) = subst (λ (x : ℕ). 1 ≤ occurrences x (take m ks)) e o in
      place_here (key i) ranks s.rising (omega (arith, s.kept (key i)))

  pub ranked : IsSlotted gs first n ss
  ranked = record {
    small = λ i b h. omega (arith, placed i b h, (stands i b h).0, length-take-le (n - first) a (omega arith));
    apart = λ i j b h c g e.
        let f : place_of (key i) ranks ≡ place_of (key j) ranks = sym (placed i b h) ∙ e ∙ placed j c g in
        let q : key i ≡ key j = sym (stands i b h).1 ∙ ap (λ (m : ℕ). get_or ranks m 0) f ∙ (stands j c g).1 in
        (omega (arith, made.fits i b h, made.fits j c g), omega (arith, made.fits i b h, made.fits j c g));
    alike = λ i j b h c g like.
        let e : key i ≡ key j = ap₂ key_of like.0 like.1 in
        placed i b h ∙ ap (λ (x : ℕ). place_of x ranks) e ∙ sym (placed j c g);
  }
