-- The keys of frames that stand from a place on, in rising order: the frames that they name are the same ones, and start in rising order.
-- What holds of each key, and how many pass a test, depend on the occurrences alone.
use mathlib.Core.Path.{◌≡◌, refl, sym, ap, ◌∙◌}
use mathlib.Core.Bool.{Bool, true, cond, ◌&&◌}
use mathlib.Core.List.{List, [], ◌∷◌, ◌++◌, map, append-nil}
use Prim.Native.Nat.{ℕ, zero, suc, ◌+◌, ◌-◌, ◌/◌, ◌%◌, ◌≤◌, ◌<◌}
use native.Mathlib.Omega.{arith}
use lib.Dec.{leb, eqb}
use lib.IntN.{pos, nat_abs}
use lib.ListN.{length, take, get_or, set, length-set}
use lib.Signed.{le_z}
use borrow.Author.Tests.{eqb-true, eqb-false, eq-eqb, leb-true, le-leb}
use Rattle.laws.proofs.BoolLaws.{split, and_left, and_right, and_both}
use Rattle.sorting.specs.Sorting.{following, neighbours, rises, occurrences}
use Rattle.sorting.proofs.SortLaws.{occurs-first, occurs-later}
use Rattle.buffer_state.specs.declared.Frame.{Frame}
use Rattle.buffer_state.specs.Layout.{zero_frame}
use Rattle.buffer_state.specs.Limits.{places}
use Rattle.buffer_state.specs.Ranges.{Range}
use Rattle.buffer_state.specs.Run.{total, count}
use Rattle.buffer_state.specs.Walked.{interval_of}
use Rattle.buffer_state.specs.WellFormed.{all_of}
use Rattle.buffer_laws.proofs.TestLaws.{all_first, all_rest, all_more, all_none, all_map}
use Rattle.ranges.specs.Sweep.{is_timely, is_sound, key_of, starts_from, starts_rise}
use Rattle.ranges.specs.Walks.{up_from, sound_at, stretch_at, standing_ranges, keys_of, Arranges}
use Rattle.ranges.proofs.BarLaws.{all-at, more}
use Rattle.ranges.proofs.TimeLaws.{timely-natural}
use Rattle.ranges.proofs.SweepLaws.{rise-in_order}

-- ---- lists with the same occurrences

-- a list without the first k in it
unfoldable without : ℕ → List ℕ → List ℕ
without k [] = []
without k (x ∷ l) = let rest = without k l in cond (eqb k x) l (x ∷ rest)

module _ (p : ℕ → Bool) (k : ℕ) where
  without-count : (l : List ℕ) → 0 < occurrences k l → count p l ≡ cond (p k) 1 0 + count p (without k l)
  unfolding occurrences without count total
  without-count [] h = absurd (omega arith)
  without-count (x ∷ l) h =
      split (eqb k x)
      (λ t. let e : k ≡ x = eqb-true k x t in rw (t, e))
      (λ t. rw t (omega (arith, without-count l (omega (arith, h, occurs-later k x l (eqb-false k x t))))))

occurs-count : (k : ℕ) (l : List ℕ) → occurrences k l ≡ count (eqb k) l
unfolding occurrences count total
occurs-count k [] = refl
occurs-count k (x ∷ l) = ap (λ (n : ℕ). cond (eqb k x) 1 0 + n) (occurs-count k l)

abbrev Same : List ℕ → List ℕ → Type 0
Same l m = (k : ℕ) → occurrences k l ≡ occurrences k m

same_rest : (x : ℕ) (l m : List ℕ) → Same (x ∷ l) m → Same l (without x m)
unfolding occurrences
same_rest x l m same k =
    let some : 0 < occurrences x m = omega (arith, occurs-first x l, same x) in
    omega (arith, same k, occurs-count k m, occurs-count k (without x m), without-count (eqb k) x m some)

same_count : (p : ℕ → Bool) (l m : List ℕ) → Same l m → count p l ≡ count p m
unfolding occurrences count total
same_count p [] [] same = refl
same_count p [] (y ∷ m) same = absurd (omega (arith, occurs-first y m, same y))
same_count p (x ∷ l) m same =
    let some : 0 < occurrences x m = omega (arith, occurs-first x l, same x) in
    omega (arith, same_count p l (without x m) (same_rest x l m same), without-count p x m some)

count_map : {A B : Type 0} (p : B → Bool) (g : A → B) (l : List A) → count p (map g l) ≡ count (λ (x : A). p (g x)) l
unfolding count total
count_map p g [] = refl
count_map p g (x ∷ l) = ap (λ (n : ℕ). cond (p (g x)) 1 0 + n) (count_map p g l)

module _ (p : ℕ → Bool) where
  all-occurring : (l : List ℕ) → ((k : ℕ) → 0 < occurrences k l → p k ≡ true) → all_of p l ≡ true
  unfolding occurrences
  all-occurring [] h = all_none p
  all-occurring (x ∷ l) h = all_more p x l (h x (omega (arith, occurs-first x l))) (all-occurring l (λ k o. h k (omega arith)))

  occurring-all : (k : ℕ) (l : List ℕ) → all_of p l ≡ true → 0 < occurrences k l → p k ≡ true
  unfolding occurrences
  occurring-all k [] e o = absurd (omega arith)
  occurring-all k (x ∷ l) e o =
      split (eqb k x)
      (λ t. rw (eqb-true k x t) (all_first p x l e))
      (λ t. occurring-all k l (all_rest p x l e) (omega (arith, o, occurs-later k x l (eqb-false k x t))))

  same-all : (l m : List ℕ) → Same l m → all_of p m ≡ true → all_of p l ≡ true
  same-all l m same e = all-occurring l (λ k o. occurring-all k m e (omega (arith, same k)))

-- ---- places from one on

pub up-all : (p : ℕ → Bool) (n first : ℕ) → ((i : ℕ) → first ≤ i → i < first + n → p i ≡ true) → all_of p (up_from n first) ≡ true
unfolding up_from
up-all p zero first h = all_none p
up-all p (suc n) first h = all_more p first _ (h first (omega arith) (omega arith)) (up-all p n (suc first) (λ i l k. h i (omega arith) (omega arith)))

pub up_at : (n first i : ℕ) → i < n → get_or (up_from n first) i 0 ≡ first + i
unfolding up_from
up_at zero first i h = absurd (omega arith)
up_at (suc n) first zero h = omega arith
up_at (suc n) first (suc i) h = let e : suc first + i ≡ first + suc i = omega arith in up_at n (suc first) i (omega arith) ∙ e

pub up-length : (n first : ℕ) → length (up_from n first) ≡ n
unfolding up_from
up-length zero first = refl
up-length (suc n) first = ap suc (up-length n (suc first))

-- the frames there, where all are sound
pub up-sound : (fs : List Frame) (first n : ℕ) → all_of (sound_at fs) (up_from n first) ≡ true → (i : ℕ) → i < n → is_sound (get_or fs (first + i) zero_frame) ≡ true
up-sound fs first n e i h =
    ap (sound_at fs) (sym (up_at n first i h)) ∙ all-at (sound_at fs) (up_from n first) i 0 (rw up-length h) e

-- ---- keys

module _ (fs : List Frame) where
  -- the frame that a key names
  abbrev named : ℕ → Frame
  named key = get_or fs (key % places) zero_frame

  -- it is sound, and the key has its time
  abbrev proper : ℕ → Bool
  proper key = is_sound (named key) && eqb (nat_abs (named key).pts) (key / places)

  proper-time : (key : ℕ) → proper key ≡ true → (named key).pts ≡ pos (key / places)
  proper-time key e =
      let f = named key in
      timely-natural f (and_left (is_timely f) _ (and_left (is_sound f) _ e)) ∙ ap pos (eqb-true (nat_abs f.pts) (key / places) (and_right (is_sound f) _ e))

  module _ (place : ℕ) (h : place < places) where
    abbrev key : ℕ
    key = key_of place (get_or fs place zero_frame)

    key-place : key % places ≡ place
    key-place = omega arith

    key-proper : sound_at fs place ≡ true → proper key ≡ true
    key-proper s =
        let f = get_or fs place zero_frame in
        let e : eqb (nat_abs f.pts) (key / places) ≡ true = eq-eqb (nat_abs f.pts) (key / places) (omega arith) in
        rw key-place (and_both s e)

  keys-places : (n first : ℕ) → first + n ≤ places → map (λ key. key % places) (keys_of fs n first) ≡ up_from n first
  unfolding up_from
  keys-places zero first h = refl
  keys-places (suc n) first h =
      let rest : map (λ key. key % places) (keys_of fs n (suc first)) ≡ up_from n (suc first) = keys-places n (suc first) (omega arith) in
      rw (key-place first (omega arith), rest)

  keys-proper : (n first : ℕ) → first + n ≤ places → all_of (sound_at fs) (up_from n first) ≡ true → all_of proper (keys_of fs n first) ≡ true
  unfolding up_from
  keys-proper zero first h e = all_none proper
  keys-proper (suc n) first h e =
      all_more proper _ _ (key-proper first (omega arith) (all_first (sound_at fs) first (up_from n (suc first)) e))
      (keys-proper n (suc first) (omega arith) (all_rest (sound_at fs) first (up_from n (suc first)) e))

  -- keys in rising order name frames in the order of their times
  keys_from : (x : ℕ) (l : List ℕ) → following leb x l ≡ true → proper x ≡ true → all_of proper l ≡ true
      → starts_from (interval_of (named x)) (map (λ key. interval_of (named key)) l) ≡ true
  unfolding following starts_from
  keys_from x [] r p e = refl
  keys_from x (y ∷ l) r p e =
      let q : proper y ≡ true = all_first proper y l e in
      let h : x ≤ y = leb-true x y (and_left (leb x y) _ r) in
      let first : le_z (named x).pts (named y).pts ≡ true = rw (proper-time x p, proper-time y q) (le-leb (x / places) (y / places) (omega arith)) in
      and_both first (keys_from y l (and_right (leb x y) _ r) q (all_rest proper y l e))

  keys-rise : (l : List ℕ) → rises l ≡ true → all_of proper l ≡ true → starts_rise (map (λ key. interval_of (named key)) l) ≡ true
  unfolding neighbours
  keys-rise [] r e = refl
  keys-rise (x ∷ l) r e = keys_from x l r (all_first proper x l e) (all_rest proper x l e)

-- ---- the keys of n frames from a place on, sorted

map-twice : {A B C : Type 0} (f : B → C) (g : A → B) (l : List A) → map f (map g l) ≡ map (λ (x : A). f (g x)) l
map-twice f g [] = refl
map-twice f g (x ∷ l) = ap (λ m. f (g x) ∷ m) (map-twice f g l)

module _ (fs : List Frame) (first n : ℕ) (fits : first + n ≤ places) (good : all_of (sound_at fs) (up_from n first) ≡ true)
    (l : List ℕ) (rise : rises l ≡ true) (same : (k : ℕ) → occurrences k l ≡ occurrences k (keys_of fs n first)) where
  abbrev sorted_places : List ℕ
  sorted_places = map (λ key. key % places) l

  sorted-proper : all_of (proper fs) l ≡ true
  sorted-proper = same-all (proper fs) l (keys_of fs n first) same (keys-proper fs n first fits good)

  pub sorted-sound : all_of (sound_at fs) sorted_places ≡ true
  sorted-sound = all_map (proper fs) (sound_at fs) (λ key. key % places) (λ key e. and_left (is_sound (named fs key)) _ e) l sorted-proper

  sorted-count : (p : Range → Bool) → count p (map (stretch_at fs) sorted_places) ≡ count p (standing_ranges fs first n)
  sorted-count p =
      let q : ℕ → Bool = λ key. p (stretch_at fs (key % places)) in
      ap (count p) (map-twice (stretch_at fs) (λ key. key % places) l) ∙ count_map p _ l ∙ same_count q l (keys_of fs n first) same
      ∙ sym (ap (count p) (map-twice (stretch_at fs) (λ key. key % places) (keys_of fs n first)) ∙ count_map p _ (keys_of fs n first))
      ∙ ap (λ (m : List ℕ). count p (map (stretch_at fs) m)) (keys-places fs n first fits)

  pub sorted-arranges : Arranges (map (stretch_at fs) sorted_places) (standing_ranges fs first n)
  sorted-arranges = record {
    same = sorted-count;
    order = rise-in_order (map (stretch_at fs) sorted_places) (ap starts_rise (map-twice (stretch_at fs) (λ key. key % places) l) ∙ keys-rise fs l rise sorted-proper);
  }

-- ---- the loop that makes them

-- the first k keys, with those of the frames behind, are all
pub record IsKeyed (fs : List Frame) (first n : ℕ) (keys : List ℕ) (k : ℕ) : Type 0 where
  pub size : length keys ≡ places
  pub all : take k keys ++ keys_of fs (n - k) (first + k) ≡ keys_of fs n first

pub none-keyed : (fs : List Frame) (first n : ℕ) (keys : List ℕ) → length keys ≡ places → IsKeyed fs first n keys 0
none-keyed fs first n keys size =
    let e : first + 0 ≡ first = omega arith in
    let m : n - 0 ≡ n = omega arith in
    record { size = size; all = rw (e, m) }

module _ {fs : List Frame} {first n : ℕ} {keys : List ℕ} {k : ℕ} (inv : IsKeyed fs first n keys k) where
  pub one-keyed : k < n → k < places → (key : ℕ) → key ≡ key_of (first + k) (get_or fs (first + k) zero_frame) → IsKeyed fs first n (set keys k key) (k + 1)
  unfolding up_from
  one-keyed h room key q =
      let e : n - k ≡ suc (n - (k + 1)) = omega arith in
      let s : suc (first + k) ≡ first + (k + 1) = omega arith in
      record {
        size = length-set keys k key ∙ inv.size;
        all = rw (more keys k key (keys_of fs (n - (k + 1)) (first + (k + 1))) (omega (arith, inv.size)), q) (rw (e, s) at inv.all);
      }

  pub all-keyed : n ≤ k → k ≤ n → take n keys ≡ keys_of fs n first
  unfolding up_from
  all-keyed h g =
      let e : n - k ≡ 0 = omega arith in
      let m : k ≡ n = omega arith in
      rw (append-nil, m) at (rw e at inv.all)
