-- One pass over the rows in use: a turn of the loop, and what the pass says of the frames that the rows hold.
use mathlib.Core.Path.{◌≡◌, refl, sym, ap, ◌∙◌}
use mathlib.Core.Bool.{Bool, true, false, ◌&&◌, and-true, and-false, and_assoc}
use mathlib.Core.List.{List, [], ◌∷◌}
use Prim.Native.Nat.{ℕ, ◌+◌, ◌-◌, ◌≤◌, ◌<◌}
use native.Mathlib.Omega.{arith}
use lib.Dec.{ltb, leb}
use lib.IntN.{ℤ, pos, negsuc, ◌+ℤ◌}
use lib.ListN.{length, take, drop, get_or}
use lib.Signed.{le_z}
use borrow.Author.Tests.{leb-true, le-leb, lt-ltb, ne_eqb}
use Rattle.laws.proofs.BoolLaws.{and_left, and_right, and_both, same_test}
use Rattle.laws.proofs.ListLaws.{first_next, first-end}
use Rattle.buffer_state.specs.declared.Frame.{Frame}
use Rattle.buffer_state.specs.Buffer.{end_of}
use Rattle.buffer_state.specs.Layout.{zero_frame}
use Rattle.buffer_state.specs.Limits.{result_time, good_duration}
use Rattle.buffer_state.specs.Store.{is_before}
use Rattle.buffer_state.specs.WellFormed.{all_of, good_frame, is_sorted}
use Rattle.buffer_laws.proofs.GoodLaws.{frame-facts}
use Rattle.buffer_laws.proofs.OrderLaws.{sorted-next, sorted-few}
use Rattle.buffer_laws.proofs.TestLaws.{all_first}
use Rattle.sorting.specs.Sorting.{following}
use Rattle.buffer_state.specs.Lent.{frame_of, frames_of, plain_time, plain_tag}
use Rattle.numbers.specs.Numbers.{number_in, numbers_of}
use Rattle.validation.specs.Tests.{good_row, rows_from}

module _ (tracks last group : ℕ) where
  -- ---- a turn

  module _ (ts : List (List ℤ)) (gs : List (List ℕ)) (n : ℕ) (kt : n ≤ length ts) (kg : n ≤ length gs) (i : ℕ) (p : Frame) where
    abbrev pub rows_left : Bool
    rows_left = rows_from tracks last group p (drop i (take n ts)) (drop i (take n gs))

    abbrev here : Frame
    here = frame_of (get_or ts i []) (get_or gs i [])

    rows_next : i < n → rows_left
        ≡ ((good_row tracks last group (get_or ts i []) (get_or gs i []) && is_before p here) && rows_from tracks last group here (drop (i + 1) (take n ts)) (drop (i + 1) (take n gs)))
    unfolding rows_from
    rows_next h = rw (first_next ts n kt i [] h, first_next gs n kg i [] h)

    -- a row that fails a test, and one that passes both
    pub fail-row : i < n → good_row tracks last group (get_or ts i []) (get_or gs i []) ≡ false → rows_left ≡ false
    fail-row h e = rows_next h ∙ rw e

    pub fail-order : i < n → is_before p here ≡ false → rows_left ≡ false
    fail-order h e = rows_next h ∙ rw (e, and-false (good_row tracks last group (get_or ts i []) (get_or gs i [])))

    pub rows_pass : i < n → good_row tracks last group (get_or ts i []) (get_or gs i []) ≡ true → is_before p here ≡ true
        → rows_left ≡ rows_from tracks last group here (drop (i + 1) (take n ts)) (drop (i + 1) (take n gs))
    rows_pass h e b = rows_next h ∙ rw (e, b)

    -- the numbers
    pub numbers-next : (rising : Bool) → i < n
        → ((rising && ltb p.number (number_in (get_or gs i []))) && following ltb (number_in (get_or gs i [])) (numbers_of (drop (i + 1) (take n gs))))
        ≡ (rising && following ltb p.number (numbers_of (drop i (take n gs))))
    unfolding following numbers_of
    numbers-next rising h = rw (first_next gs n kg i [] h) (and_assoc rising _ _)

    pub rows_end : n ≤ i → rows_left ≡ true
    unfolding rows_from
    rows_end h = rw (first-end ts n kt i h)

    pub numbers-end : (m : ℕ) → n ≤ i → following ltb m (numbers_of (drop i (take n gs))) ≡ true
    unfolding following numbers_of
    numbers-end m h = rw (first-end gs n kg i h)

  -- ---- a frame

  -- its tests, in the order in which they are made
  regrouped : (a b c d e p q r s u : Bool)
      → (a && (b && (c && (d && (e && (p && (q && (r && (s && u))))))))) ≡ ((a && b) && ((c && d) && (e && (u && (r && (p && (q && s)))))))
  regrouped false b c d e p q r s u = refl
  regrouped true false c d e p q r s u = refl
  regrouped true true false d e p q r s u = refl
  regrouped true true true false e p q r s u = refl
  regrouped true true true true false p q r s u = refl
  regrouped true true true true true p q r s false = rw (and-false s, and-false r, and-false q) (and-false p)
  regrouped true true true true true p q false s true = rw (and-false q) (and-false p)
  regrouped true true true true true p q true s true = rw (and-true s)

  pub frame-in-order : (f : Frame) → good_frame tracks last group f
      ≡ ((leb 1 f.track && leb f.track tracks)
      && ((leb 1 f.number && leb f.number last)
      && (leb f.group group
      && (good_duration f.duration && (result_time f.dts && (le_z (pos 0) f.pts && (result_time f.pts && result_time (end_of f))))))))
  unfolding good_frame
  frame-in-order f =
      regrouped (leb 1 f.track) (leb f.track tracks) (leb 1 f.number) (leb f.number last) (leb f.group group) (le_z (pos 0) f.pts) (result_time f.pts)
      (result_time f.dts) (result_time (end_of f)) (good_duration f.duration)

  -- a zero frame comes before every good one, its track being none
  zero-before : (f : Frame) → good_frame tracks last group f ≡ true → is_before zero_frame f ≡ true
  unfolding good_frame is_before
  zero-before f e =
      let h : 1 ≤ f.track = leb-true 1 f.track (and_left _ _ e) in
      rw (ne_eqb 0 f.track (λ q. omega arith)) (lt-ltb 0 f.track (omega arith))

  pub zero-first : (l : List Frame) → all_of (good_frame tracks last group) l ≡ true → is_sorted (zero_frame ∷ l) ≡ is_sorted l
  zero-first [] e = sorted-few (zero_frame ∷ []) (omega arith) ∙ sym (sorted-few [] (omega arith))
  zero-first (f ∷ l) e = rw (sorted-next, zero-before f (all_first (good_frame tracks last group) f l e))

  -- the first row: a zero frame comes before it, and its number is from 1
  module _ (t : List ℤ) (g : List ℕ) (e : good_row tracks last group t g ≡ true) where
    in_row : good_frame tracks last group (frame_of t g) ≡ true
    unfolding good_row
    in_row = and_right (plain_time t && plain_tag g) _ e

    pub first-before : is_before zero_frame (frame_of t g) ≡ true
    first-before = zero-before (frame_of t g) in_row

    pub first-number : ltb 0 (number_in g) ≡ true
    first-number = let k = (frame-facts tracks last group (frame_of t g) in_row).number_from in lt-ltb 0 (number_in g) (omega (arith, k))

  -- ---- the whole pass

  -- the order in which the tests of a row are made
  mixed : (t g f b t' g' f' s : Bool) → ((((t && g) && f) && b) && (t' && (g' && (f' && s)))) ≡ ((t && t') && ((g && g') && ((f && f') && (b && s))))
  mixed false g f b t' g' f' s = refl
  mixed true false f b false g' f' s = refl
  mixed true false f b true g' f' s = refl
  mixed true true false b false g' f' s = refl
  mixed true true false b true false f' s = refl
  mixed true true false b true true f' s = refl
  mixed true true true false false g' f' s = refl
  mixed true true true false true false f' s = refl
  mixed true true true false true true false s = refl
  mixed true true true false true true true s = refl
  mixed true true true true t' g' f' s = refl

  pub rows-frames : (p : Frame) (ts : List (List ℤ)) (gs : List (List ℕ)) → length ts ≡ length gs → rows_from tracks last group p ts gs
      ≡ (all_of plain_time ts && (all_of plain_tag gs && (all_of (good_frame tracks last group) (frames_of ts gs) && is_sorted (p ∷ frames_of ts gs))))
  unfolding good_row rows_from all_of frames_of
  rows-frames p [] [] e = sym (sorted-few (p ∷ []) (omega arith))
  rows-frames p [] (g ∷ gs) e = absurd (omega arith)
  rows-frames p (t ∷ ts) [] e = absurd (omega arith)
  rows-frames p (t ∷ ts) (g ∷ gs) e =
      let f = frame_of t g in
      let fs = frames_of ts gs in
      ap (λ (b : Bool). (good_row tracks last group t g && is_before p f) && b) (rows-frames f ts gs (omega arith))
      ∙ mixed (plain_time t) (plain_tag g) (good_frame tracks last group f) (is_before p f) (all_of plain_time ts) (all_of plain_tag gs) (all_of (good_frame tracks last group) fs) (is_sorted (f ∷ fs))
      ∙ ap
      (λ (b : Bool). (plain_time t && all_of plain_time ts) && ((plain_tag g && all_of plain_tag gs) && ((good_frame tracks last group f && all_of (good_frame tracks last group) fs) && b)))
      (sym (sorted-next p f fs))

-- ---- the presentation time

start-ends : (m d : ℕ) → d ≤ 4000000000000 → leb m (4000000000000 - d) ≡ (leb m 4000000000000 && leb (m + d) 4000000000000)
start-ends m d h =
    same_test _ _
    (λ e.
    let k : m ≤ 4000000000000 - d = leb-true m (4000000000000 - d) e in
    and_both (le-leb m 4000000000000 (omega arith)) (le-leb (m + d) 4000000000000 (omega arith)))
    (λ e.
    let k : m + d ≤ 4000000000000 = leb-true (m + d) 4000000000000 (and_right (leb m 4000000000000) _ e) in
    le-leb m (4000000000000 - d) (omega arith))

pub span-tests : (p : ℤ) (d : ℕ) → d ≤ 4000000000000
    → (le_z (pos 0) p && le_z p (pos (4000000000000 - d))) ≡ (le_z (pos 0) p && (result_time p && result_time (p +ℤ pos d)))
unfolding result_time
span-tests (pos m) d h = ap (λ (b : Bool). leb 0 m && b) (start-ends m d h)
span-tests (negsuc m) d h = refl
