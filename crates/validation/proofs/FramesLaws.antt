-- The test of the frames, from its parts: rows in use, rows of zeros past them, numbers.
use mathlib.Core.Path.{◌≡◌, refl, sym, ap, ap₂, ◌∙◌}
use mathlib.Core.Bool.{Bool, true, false, not, ◌&&◌, and-true, and-false, and_assoc}
use mathlib.Core.List.{List, [], ◌∷◌}
use Prim.Native.Nat.{ℕ, zero, suc, ◌≤◌}
use native.Mathlib.Omega.{arith}
use lib.Dec.{leb, eqb}
use lib.IntN.{ℤ, pos}
use lib.ListN.{length, take, drop, get_or, length-take, length-drop}
use borrow.Author.Tests.{leb-true, eqb-true, eqb-false}
use Rattle.laws.proofs.BoolLaws.{split, and_left, and_right}
use Rattle.sorting.specs.Sorting.{occurrences}
use Rattle.buffer_state.specs.declared.Frame.{Frame}
use Rattle.buffer_state.specs.Layout.{zero_frame, is_zero_frame}
use Rattle.buffer_state.specs.Lent.{frame_of, frames_of, Lengths, plain_time, plain_tag}
use Rattle.buffer_state.specs.Limits.{places}
use Rattle.buffer_state.specs.WellFormed.{all_of, zero_int, good_frame, is_sorted, distinct_numbers}
use Rattle.numbers.specs.Numbers.{numbers_of, no_repeat}
use Rattle.numbers.proofs.NumberLaws.{numbers-take}
use Rattle.validation.specs.Tests.{frames_test, is_zero_time, is_zero_tag, rows_from}
use Rattle.validation.proofs.DistinctLaws.{distinct_numbers_lem, numbers-from-one}
use Rattle.validation.proofs.ExamineLaws.{zero-first, rows-frames}
use Rattle.validation.proofs.PlaceLaws.{placed-parts}

-- ---- the parts of two arrays

pub frames-take : (n : ℕ) (ts : List (List ℤ)) (gs : List (List ℕ)) → take n (frames_of ts gs) ≡ frames_of (take n ts) (take n gs)
unfolding frames_of
frames-take zero ts gs = refl
frames-take (suc n) [] gs = refl
frames-take (suc n) (t ∷ ts) [] = refl
frames-take (suc n) (t ∷ ts) (g ∷ gs) = ap (λ (l : List Frame). frame_of t g ∷ l) (frames-take n ts gs)

pub frames-drop : (n : ℕ) (ts : List (List ℤ)) (gs : List (List ℕ)) → length ts ≡ length gs → drop n (frames_of ts gs) ≡ frames_of (drop n ts) (drop n gs)
unfolding frames_of
frames-drop zero ts gs e = refl
frames-drop (suc n) [] [] e = refl
frames-drop (suc n) [] (g ∷ gs) e = absurd (omega arith)
frames-drop (suc n) (t ∷ ts) [] e = absurd (omega arith)
frames-drop (suc n) (t ∷ ts) (g ∷ gs) e = frames-drop n ts gs (omega arith)

all-parts : {A : Type 0} (p : A → Bool) (n : ℕ) (l : List A) → all_of p l ≡ (all_of p (take n l) && all_of p (drop n l))
unfolding all_of
all-parts p zero l = refl
all-parts p (suc n) [] = refl
all-parts p (suc n) (x ∷ l) = ap (λ (b : Bool). p x && b) (all-parts p n l) ∙ sym (and_assoc (p x) (all_of p (take n l)) (all_of p (drop n l)))

-- ---- rows of zeros

flag_off : (x : ℕ) → (leb x 1 && not (eqb x 1)) ≡ eqb x 0
flag_off x =
    split (eqb x 0)
    (λ e. rw (eqb-true x 0 e))
    (λ e.
    split (leb x 1)
    (λ k. let one : x ≡ 1 = omega (arith, eqb-false x 0 e, leb-true x 1 k) in rw one)
    (λ k. rw (k, e)))

-- the order of the tests of a row of zeros
zero_row : (t x y g a f d n k : Bool) (l u : Bool) → (l && u) ≡ f
    → ((t && (x && y)) && (g && (((a && f) && (d && n)) && k))) ≡ (t && ((g && l) && (a && (u && (d && (n && (k && (x && y))))))))
zero_row false x y g a f d n k l u e = refl
zero_row true x y false a f d n k l u e = and-false (x && y)
zero_row true x y true false f d n k false u e = and-false (x && y)
zero_row true x y true false f d n k true u e = and-false (x && y)
zero_row true x y true true f d n k false u e = rw (← e) (and-false (x && y))
zero_row true x y true true f d n k true false e = rw (← e) (and-false (x && y))
zero_row true x y true true f false n k true true e = rw (← e) (and-false (x && y))
zero_row true x y true true f true false k true true e = rw (← e) (and-false (x && y))
zero_row true x y true true f true true false true true e = rw (← e) (and-false (x && y))
zero_row true x y true true f true true true true true e = rw (← e) (and-true (x && y))

zero-both : (t : List ℤ) (g : List ℕ) → (is_zero_time t && is_zero_tag g) ≡ (plain_time t && (plain_tag g && is_zero_frame (frame_of t g)))
zero-both t g =
    zero_row (eqb (length t) 2) (zero_int (get_or t 0 (pos 0))) (zero_int (get_or t 1 (pos 0))) (eqb (length g) 5) (eqb (get_or g 0 0) 0) (eqb (get_or g 1 0) 0) (eqb (get_or g 2 0) 0)
    (eqb (get_or g 3 0) 0) (eqb (get_or g 4 0) 0) (leb (get_or g 1 0) 1) (not (eqb (get_or g 1 0) 1)) (flag_off (get_or g 1 0))

-- one row more
zeros-mixed : (a b a' b' p q z p' q' z' : Bool) → (a && b) ≡ (p && (q && z)) → (a' && b') ≡ (p' && (q' && z'))
    → ((a && a') && (b && b')) ≡ ((p && p') && ((q && q') && (z && z')))
zeros-mixed a b a' b' p q z p' q' z' e e' = swap a a' b b' ∙ ap₂ (λ (x y : Bool). x && y) e e' ∙ swap p (q && z) p' (q' && z') ∙ ap (λ (x : Bool). (p && p') && x) (swap q z q' z')
  where
    swap : (a x b y : Bool) → ((a && x) && (b && y)) ≡ ((a && b) && (x && y))
    swap false x b y = refl
    swap true true b y = refl
    swap true false true y = refl
    swap true false false y = refl

zeros-frames : (ts : List (List ℤ)) (gs : List (List ℕ)) → length ts ≡ length gs
    → (all_of is_zero_time ts && all_of is_zero_tag gs) ≡ (all_of plain_time ts && (all_of plain_tag gs && all_of is_zero_frame (frames_of ts gs)))
unfolding all_of frames_of
zeros-frames [] [] e = refl
zeros-frames [] (g ∷ gs) e = absurd (omega arith)
zeros-frames (t ∷ ts) [] e = absurd (omega arith)
zeros-frames (t ∷ ts) (g ∷ gs) e =
    zeros-mixed (is_zero_time t) (is_zero_tag g) (all_of is_zero_time ts) (all_of is_zero_tag gs) (plain_time t) (plain_tag g) (is_zero_frame (frame_of t g))
    (all_of plain_time ts) (all_of plain_tag gs) (all_of is_zero_frame (frames_of ts gs)) (zero-both t g) (zeros-frames ts gs (omega arith))

-- ---- the frames

-- the order in which the tests are made: t, g times and tags, f and z frames in use and past them, s their order, d their numbers
ordered : (t t' g g' f z s d : Bool) → ((t && t') && ((g && g') && (((f && z) && s) && d))) ≡ ((t' && (g' && z)) && ((t && (g && (f && s))) && d))
ordered t false g g' f z s d = rw (and-false t)
ordered t true g false f z s d = rw (and-false g) (and-false (t && true))
ordered t true g true f false s d = rw (and-false f, and-false (g && true)) (and-false (t && true))
ordered false true g true f true s d = refl
ordered true true false true f true s d = refl
ordered true true true true false true s d = refl
ordered true true true true true true s d = refl

module _ (n tracks last group : ℕ) (ts : List (List ℤ)) (gs : List (List ℕ)) (k : Lengths ts gs) (few : n ≤ places) where
  same-take : length (take n ts) ≡ length (take n gs)
  same-take = rw (length-take, length-take, k.0, k.1)

  same_drop : length (drop n ts) ≡ length (drop n gs)
  same_drop = rw (length-drop, length-drop, k.0, k.1)

  same-all : length ts ≡ length gs
  same-all = k.0 ∙ sym k.1

  -- what a pass over the rows in use says
  in_use : rows_from tracks last group zero_frame (take n ts) (take n gs)
      ≡ (all_of plain_time (take n ts) && (all_of plain_tag (take n gs) && (all_of (good_frame tracks last group) (take n (frames_of ts gs)) && is_sorted (take n (frames_of ts gs)))))
  in_use =
      let fs = frames_of (take n ts) (take n gs) in
      let first : (all_of (good_frame tracks last group) fs && is_sorted (zero_frame ∷ fs)) ≡ (all_of (good_frame tracks last group) fs && is_sorted fs) =
      split (all_of (good_frame tracks last group) fs) (λ e. rw (e, zero-first tracks last group fs e)) (λ e. rw e) in
      rows-frames tracks last group zero_frame (take n ts) (take n gs) same-take
      ∙ rw (frames-take n ts gs) (ap (λ (b : Bool). all_of plain_time (take n ts) && (all_of plain_tag (take n gs) && b)) first)

  pub frames-whole : frames_test n tracks last group ts gs
      ≡ ((all_of is_zero_time (drop n ts) && all_of is_zero_tag (drop n gs)) && (rows_from tracks last group zero_frame (take n ts) (take n gs) && no_repeat (take n (numbers_of gs))))
  unfolding frames_test
  frames-whole =
      let fs = frames_of ts gs in
      let d : distinct_numbers (take n fs) ≡ no_repeat (take n (numbers_of gs)) =
      ap distinct_numbers (frames-take n ts gs) ∙ distinct_numbers_lem (take n ts) (take n gs) same-take ∙ ap no_repeat (numbers-take n gs) in
      let z : (all_of is_zero_time (drop n ts) && all_of is_zero_tag (drop n gs)) ≡ (all_of plain_time (drop n ts) && (all_of plain_tag (drop n gs) && all_of is_zero_frame (drop n fs))) =
      zeros-frames (drop n ts) (drop n gs) same_drop ∙ rw (frames-drop n ts gs same-all) in
      rw (all-parts plain_time n ts, all-parts plain_tag n gs, placed-parts (good_frame tracks last group) is_zero_frame n fs, d, z, in_use)
      (ordered (all_of plain_time (take n ts)) (all_of plain_time (drop n ts)) (all_of plain_tag (take n gs)) (all_of plain_tag (drop n gs))
      (all_of (good_frame tracks last group) (take n fs)) (all_of is_zero_frame (drop n fs)) (is_sorted (take n fs)) (no_repeat (take n (numbers_of gs))))

  -- the numbers of good rows are from 1
  pub rows-numbers : rows_from tracks last group zero_frame (take n ts) (take n gs) ≡ true → occurrences 0 (take n (numbers_of gs)) ≡ 0
  rows-numbers e =
      let all = rw (rows-frames tracks last group zero_frame (take n ts) (take n gs) same-take) at e in
      ap (occurrences 0) (sym (numbers-take n gs))
      ∙ numbers-from-one tracks last group (take n ts) (take n gs) same-take (and_left _ _ (and_right (all_of plain_tag (take n gs)) _ (and_right (all_of plain_time (take n ts)) _ all)))
