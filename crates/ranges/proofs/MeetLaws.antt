-- What two rising lists have in common, found from the left: of the two first ranges the one that ends sooner meets nothing behind the
-- other, so that it is done with once their overlap is taken.
use mathlib.Core.Path.{◌≡◌, refl, sym, ap, ap₂, ◌∙◌}
use mathlib.Core.Bool.{Bool, true, false, cond}
use mathlib.Core.List.{List, [], ◌∷◌, ◌++◌, append_assoc, append-nil}
use Prim.Native.Nat.{ℕ, ◌+◌, ◌-◌, ◌≤◌, ◌<◌}
use native.Mathlib.Numerals.{add-one}
use native.Mathlib.Omega.{arith}
use lib.IntN.{ℤ}
use lib.ListN.{length, take, drop, get_or, set, length-set, drop_of_length-le}
use lib.Seq.{slice, length-take-le, drop_at, drop-cons, take-set-le, drop-set-lt}
use lib.Signed.{lt_z, ◌≤ℤ◌, ◌<ℤ◌}
use mir.Val.{bool_byte}
use Rattle.std.specs.List.{copy_within}
use Rattle.laws.proofs.BoolLaws.{by-test}
use Rattle.laws.proofs.IntLaws.{test-lt, test-ge, ge-test, lt-le, le-lt, le-le, weaken}
use Rattle.buffer_state.specs.Answers.{laid_ranges}
use Rattle.buffer_state.specs.Limits.{places}
use Rattle.buffer_state.specs.Ranges.{Range, is_rising, overlap, clipped_ranges, common_of}
use Rattle.buffer_laws.proofs.RisingLaws.{lesser-left, lesser-right, greater-left, greater-right, rise-some, rise-gap, rise-tail}
use Rattle.buffer_laws.proofs.CommonLaws.{shared}
use Rattle.ranges.specs.Bars.{range_in, row_of, Shows}
use Rattle.ranges.specs.Read.{ranges_in}
use Rattle.ranges.proofs.BarLaws.{next, done, more, shows}

-- ---- ranges that do not meet

module _ (r q : Range) where
  before-apart : r.end ≤ℤ q.start → overlap r q ≡ []
  before-apart h = rw (ge-test (le-le (lesser-left r.end q.end) (le-le h (greater-right r.start q.start))))

  after-apart : q.end ≤ℤ r.start → overlap r q ≡ []
  after-apart h = rw (ge-test (le-le (lesser-right r.end q.end) (le-le h (greater-left r.start q.start))))

-- a range meets nothing behind one that ends no sooner
clipped-none : (r p : Range) (qs : List Range) → r.end ≤ℤ p.end → is_rising (p ∷ qs) ≡ true → clipped_ranges r qs ≡ []
unfolding clipped_ranges
clipped-none r p [] h e = refl
clipped-none r p (q ∷ qs) h e =
    let sooner : r.end <ℤ q.start = le-lt h (test-lt (rise-gap p (q ∷ qs) e)) in
    let tail : is_rising (q ∷ qs) ≡ true = rise-tail p (q ∷ qs) e in
    ap₂ ◌++◌ (before-apart r q (weaken sooner)) (clipped-none r q qs (weaken (lt-le sooner (weaken (rise-some q qs tail)))) tail)

-- nothing behind a range meets one that ends no later
common-skip : (q p : Range) (rs qs : List Range) → q.end ≤ℤ p.end → is_rising (p ∷ rs) ≡ true → common_of rs (q ∷ qs) ≡ common_of rs qs
unfolding common_of clipped_ranges
common-skip q p [] qs h e = refl
common-skip q p (r ∷ rs) qs h e =
    let sooner : q.end <ℤ r.start = le-lt h (test-lt (rise-gap p (r ∷ rs) e)) in
    let tail : is_rising (r ∷ rs) ≡ true = rise-tail p (r ∷ rs) e in
    ap₂ (λ (l m : List Range). (l ++ clipped_ranges r qs) ++ m) (after-apart r q (weaken sooner))
    (common-skip q r rs qs (weaken (lt-le sooner (weaken (rise-some r rs tail)))) tail)

-- ---- one range done with

module _ (r q : Range) (rs qs : List Range) where
  left-done : r.end ≤ℤ q.end → is_rising (q ∷ qs) ≡ true → common_of (r ∷ rs) (q ∷ qs) ≡ overlap r q ++ common_of rs (q ∷ qs)
  unfolding common_of clipped_ranges
  left-done h e =
      ap (λ (l : List Range). (overlap r q ++ l) ++ common_of rs (q ∷ qs)) (clipped-none r q qs h e)
      ∙ ap (λ (l : List Range). l ++ common_of rs (q ∷ qs)) (append-nil (overlap r q))

  right-done : q.end ≤ℤ r.end → is_rising (r ∷ rs) ≡ true → common_of (r ∷ rs) (q ∷ qs) ≡ overlap r q ++ common_of (r ∷ rs) qs
  unfolding common_of clipped_ranges
  right-done h e =
      ap (λ (l : List Range). (overlap r q ++ clipped_ranges r qs) ++ l) (common-skip q r rs qs h e) ∙ append_assoc (overlap r q) (clipped_ranges r qs) (common_of rs qs)

common-none : (rs : List Range) → common_of rs [] ≡ []
unfolding common_of clipped_ranges
common-none [] = refl
common-none (r ∷ rs) = common-none rs

-- ---- the spans at the end of their array

-- the first m of n rows, copied to the end, are the last
pub moved-end : {A : Type 0} (xs : List A) (m n : ℕ) → length xs ≡ n → m ≤ n → drop (n - m) (copy_within xs 0 m (n - m)) ≡ take m xs
moved-end xs m n e h =
    let front : length (take (n - m) xs) ≡ n - m = length-take-le (n - m) xs (omega (arith, e)) in
    let all : m - 0 ≡ m = omega arith in
    let past : n - m + m ≡ n = omega arith in
    let none : drop n xs ≡ [] = drop_of_length-le xs {i = n} (omega (arith, e)) in
    rw (all, past, none) (ap (drop (n - m)) (append-nil (take (n - m) xs ++ take m xs)) ∙ drop_at (take (n - m) xs) (take m xs) (n - m) front)

-- ---- the loop

-- the ranges from the one at j on, of the first n rows
abbrev pub from : ℕ → ℕ → List (List ℤ) → List Range
from j n ys = ranges_in (slice j n ys)

-- the ranges from the one at i on, of all rows
abbrev pub rest : ℕ → List (List ℤ) → List Range
rest i spans = ranges_in (drop i spans)

-- the first k rows, with what the rows from i on and the other list from j on have in common, are all
pub record Meeting (spans : List (List ℤ)) (k i : ℕ) (ys : List (List ℤ)) (n j : ℕ) (all : List Range) : Type 0 where
  pub right_full : n ≤ length ys
  pub size : length spans ≡ places
  pub left : is_rising (rest i spans) ≡ true
  pub right : is_rising (from j n ys) ≡ true
  pub rows : take k spans ++ laid_ranges (common_of (rest i spans) (from j n ys)) ≡ laid_ranges all

-- a stretch is found if it has an instant
kept_more : (spans : List (List ℤ)) (k : ℕ) (z : Range) (others : List Range) → k < length spans → (t : Bool)
    → take (k + cond t 1 0) (set spans k (row_of z)) ++ laid_ranges others ≡ take k spans ++ laid_ranges (cond t (z ∷ []) [] ++ others)
kept_more spans k z others h true = more spans k (row_of z) (laid_ranges others) h
kept_more spans k z others h false =
    let e : k + 0 ≡ k = omega arith in
    rw (e, take-set-le k spans k (row_of z) (omega arith))

-- the count of instants as the code has it
pub some_count : (z : Range) {l : ℕ} {t : Bool} → l ≡ bool_byte t → t ≡ lt_z z.start z.end → l ≡ cond (lt_z z.start z.end) 1 0
some_count z e t = e ∙ ap bool_byte t ∙ byte (lt_z z.start z.end)
  where
    byte : (b : Bool) → bool_byte b ≡ cond b 1 0
    byte true = refl
    byte false = refl

pub one_at_most : (l : ℕ) (z : Range) → l ≡ cond (lt_z z.start z.end) 1 0 → l ≤ 1
one_at_most l z e = rw e (by-test (λ n. n ≤ 1) (lt_z z.start z.end) {x = 1} {y = 0} (λ _. omega arith) (λ _. omega arith))

module _ {spans : List (List ℤ)} {k i : ℕ} {ys : List (List ℤ)} {n j : ℕ} {all : List Range} (inv : Meeting spans k i ys n j all) where
  module _ (h : i < places) (g : j < n) (room : k < i) (x y z : Range) (ex : x ≡ range_in (get_or spans i [])) (ey : y ≡ range_in (get_or ys j []))
      (e : z ≡ shared x y) (after : List (List ℤ)) (w : after ≡ set spans k (row_of z)) (l : ℕ) (p : l ≡ cond (lt_z z.start z.end) 1 0) where
    from-x : rest i spans ≡ x ∷ rest (i + 1) spans
    from-x = rw (add-one i, ex) (ap ranges_in (drop-cons spans i [] (omega (arith, inv.size))))

    from-y : from j n ys ≡ y ∷ from (j + 1) n ys
    from-y = ap ranges_in (next ys j n [] g inv.right_full) ∙ ap (λ (r : Range). r ∷ from (j + 1) n ys) (sym ey)

    rise-x : is_rising (x ∷ rest (i + 1) spans) ≡ true
    rise-x = sym (ap is_rising from-x) ∙ inv.left

    rise-y : is_rising (y ∷ from (j + 1) n ys) ≡ true
    rise-y = sym (ap is_rising from-y) ∙ inv.right

    size-after : length after ≡ places
    size-after = ap length w ∙ length-set spans k (row_of z) ∙ inv.size

    -- a row is written in front of those that are not read
    unread : (m : ℕ) → i ≤ m → rest m after ≡ rest m spans
    unread m f = rw w (ap ranges_in (drop-set-lt m spans k (row_of z) (omega arith)))

    more-found : (others : List Range) → common_of (x ∷ rest (i + 1) spans) (y ∷ from (j + 1) n ys) ≡ overlap x y ++ others
        → take (k + l) after ++ laid_ranges others ≡ laid_ranges all
    more-found others d =
        rw (p, w) (kept_more spans k z others (omega (arith, inv.size)) (lt_z z.start z.end))
        ∙ (ap (λ (r : Range). take k spans ++ laid_ranges (cond (lt_z r.start r.end) (r ∷ []) [] ++ others)) e
        ∙ (ap (λ (l : List Range). take k spans ++ laid_ranges l) (sym (ap₂ common_of from-x from-y ∙ d)) ∙ inv.rows))

    pub left-more : lt_z x.end y.end ≡ true → Meeting after (k + l) (i + 1) ys n j all
    left-more t =
        let same : rest (i + 1) after ≡ rest (i + 1) spans = unread (i + 1) (omega arith) in
        record {
          right_full = inv.right_full;
          size = size-after;
          left = ap is_rising same ∙ rise-tail x _ rise-x;
          right = inv.right;
          rows =
              ap (λ (l' : List Range). take (k + l) after ++ laid_ranges (common_of l' (from j n ys))) same
              ∙ more-found (common_of (rest (i + 1) spans) (from j n ys))
              (left-done x y _ _ (weaken (test-lt t)) rise-y ∙ ap (λ (l : List Range). overlap x y ++ common_of (rest (i + 1) spans) l) (sym from-y));
        }

    pub right-more : lt_z x.end y.end ≡ false → Meeting after (k + l) i ys n (j + 1) all
    right-more t =
        let same : rest i after ≡ rest i spans = unread i (omega arith) in
        record {
          right_full = inv.right_full;
          size = size-after;
          left = ap is_rising same ∙ inv.left;
          right = rise-tail y _ rise-y;
          rows =
              ap (λ (l' : List Range). take (k + l) after ++ laid_ranges (common_of l' (from (j + 1) n ys))) same
              ∙ more-found (common_of (rest i spans) (from (j + 1) n ys))
              (right-done x y _ _ (test-ge t) rise-x ∙ ap (λ (l : List Range). overlap x y ++ common_of l (from (j + 1) n ys)) (sym from-x));
        }

  all-met : common_of (rest i spans) (from j n ys) ≡ [] → k ≤ places → Shows spans k all
  all-met none room =
      shows spans k _ (sym (append-nil (take k spans)) ∙ (rw none at inv.rows)) (omega (arith, inv.size)) room

  pub left_over : places ≤ i → k ≤ places → Shows spans k all
  unfolding common_of
  left_over h = all-met (ap (λ (l : List (List ℤ)). common_of (ranges_in l) (from j n ys)) (drop_of_length-le spans {i = i} (omega (arith, inv.size))))

  pub right-over : n ≤ j → k ≤ places → Shows spans k all
  right-over h = all-met (ap (λ (l : List (List ℤ)). common_of (rest i spans) (ranges_in l)) (done ys j n h) ∙ common-none (rest i spans))
