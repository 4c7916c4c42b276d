-- No two frames have one number exactly when no number stands twice in the column of the tags; and none there is zero.
use mathlib.Core.Path.{◌≡◌, refl, sym, ap, ◌∙◌}
use mathlib.Core.Bool.{Bool, true, not}
use mathlib.Core.List.{List, [], ◌∷◌, map}
use Prim.Native.Nat.{ℕ, ◌≤◌}
use native.Mathlib.Omega.{arith}
use lib.Dec.{eqb}
use lib.IntN.{ℤ}
use lib.ListN.{length}
use borrow.Author.Tests.{eqb-true, eqb-false, eq-eqb, not-true}
use Rattle.laws.proofs.BoolLaws.{split, both_ways, same_test}
use Rattle.sorting.specs.Sorting.{occurrences}
use Rattle.sorting.proofs.SortLaws.{occurs-none, occurs-first, occurs-later}
use Rattle.buffer_state.specs.declared.Frame.{Frame}
use Rattle.buffer_state.specs.Lent.{frames_of}
use Rattle.buffer_state.specs.WellFormed.{all_of, good_frame, distinct_numbers}
use Rattle.buffer_laws.proofs.GoodLaws.{frame-facts}
use Rattle.buffer_laws.proofs.TestLaws.{all_first, all_rest, all_more, all_none, pairs_first, pairs-rest, pairs-more, pairs-none}
use Rattle.numbers.specs.Numbers.{number_in, numbers_of, no_repeat}
use Rattle.numbers.proofs.OnceLaws.{each-once, once-each}

abbrev number_of : Frame → ℕ
number_of f = f.number

-- a frame with another number
abbrev other : ℕ → Frame → Bool
other k f = not (eqb k f.number)

none_found : (k : ℕ) (fs : List Frame) → all_of (other k) fs ≡ true → occurrences k (map number_of fs) ≡ 0
none_found k [] e = occurs-none k
none_found k (f ∷ fs) e =
    occurs-later k f.number (map number_of fs) (λ q. both_ways (eq-eqb k f.number q) (not-true _ (all_first (other k) f fs e)))
    ∙ none_found k fs (all_rest (other k) f fs e)

found_none : (k : ℕ) (fs : List Frame) → occurrences k (map number_of fs) ≡ 0 → all_of (other k) fs ≡ true
found_none k [] e = all_none (other k)
found_none k (f ∷ fs) e =
    split (eqb k f.number)
    (λ q. absurd (omega (arith, rw (eqb-true k f.number q) at e, occurs-first f.number (map number_of fs))))
    (λ q. all_more (other k) f fs (rw q) (found_none k fs (sym (occurs-later k f.number (map number_of fs) (eqb-false k f.number q)) ∙ e)))

distinct-once : (fs : List Frame) → distinct_numbers fs ≡ true → (k : ℕ) → occurrences k (map number_of fs) ≤ 1
unfolding distinct_numbers
distinct-once [] e k = omega (arith, occurs-none k)
distinct-once (f ∷ fs) e k =
    split (eqb k f.number)
    (λ q. rw (eqb-true k f.number q) (omega (arith, occurs-first f.number (map number_of fs), none_found f.number fs (pairs_first (λ (a b : Frame). other a.number b) f fs e))))
    (λ q. omega (arith, occurs-later k f.number (map number_of fs) (eqb-false k f.number q), distinct-once fs (pairs-rest (λ (a b : Frame). other a.number b) f fs e) k))

once-distinct : (fs : List Frame) → ((k : ℕ) → occurrences k (map number_of fs) ≤ 1) → distinct_numbers fs ≡ true
unfolding distinct_numbers
once-distinct [] h = pairs-none (λ (a b : Frame). other a.number b)
once-distinct (f ∷ fs) h =
    pairs-more (λ (a b : Frame). other a.number b) f fs
    (found_none f.number fs (omega (arith, h f.number, occurs-first f.number (map number_of fs))))
    (once-distinct fs (λ k. fewer k))
  where
    fewer : (k : ℕ) → occurrences k (map number_of fs) ≤ 1
    fewer k =
        split (eqb k f.number)
        (λ q. rw (eqb-true k f.number q) (omega (arith, h f.number, occurs-first f.number (map number_of fs))))
        (λ q. omega (arith, h k, occurs-later k f.number (map number_of fs) (eqb-false k f.number q)))

-- the numbers of the frames that two arrays hold
frame-numbers : (ts : List (List ℤ)) (gs : List (List ℕ)) → length ts ≡ length gs → map number_of (frames_of ts gs) ≡ numbers_of gs
unfolding frames_of numbers_of
frame-numbers [] [] e = refl
frame-numbers [] (g ∷ gs) e = absurd (omega arith)
frame-numbers (t ∷ ts) [] e = absurd (omega arith)
frame-numbers (t ∷ ts) (g ∷ gs) e = ap (λ (l : List ℕ). number_in g ∷ l) (frame-numbers ts gs (omega arith))

pub distinct_numbers_lem : (ts : List (List ℤ)) (gs : List (List ℕ)) → length ts ≡ length gs → distinct_numbers (frames_of ts gs) ≡ no_repeat (numbers_of gs)
distinct_numbers_lem ts gs e =
    let same = frame-numbers ts gs e in
    same_test _ _
    (λ d. each-once (numbers_of gs) (λ k. omega (arith, ap (occurrences k) same, distinct-once (frames_of ts gs) d k)))
    (λ d. once-distinct (frames_of ts gs) (λ k. omega (arith, ap (occurrences k) same, once-each (numbers_of gs) d k)))

-- none is zero
no_zero : (tracks last group : ℕ) (fs : List Frame) → all_of (good_frame tracks last group) fs ≡ true → occurrences 0 (map number_of fs) ≡ 0
no_zero tracks last group [] e = occurs-none 0
no_zero tracks last group (f ∷ fs) e =
    let g = frame-facts tracks last group f (all_first (good_frame tracks last group) f fs e) in
    occurs-later 0 f.number (map number_of fs) (λ q. omega (arith, g.number_from, q)) ∙ no_zero tracks last group fs (all_rest (good_frame tracks last group) f fs e)

pub numbers-from-one : (tracks last group : ℕ) (ts : List (List ℤ)) (gs : List (List ℕ)) → length ts ≡ length gs
    → all_of (good_frame tracks last group) (frames_of ts gs) ≡ true → occurrences 0 (numbers_of gs) ≡ 0
numbers-from-one tracks last group ts gs e g = ap (occurrences 0) (sym (frame-numbers ts gs e)) ∙ no_zero tracks last group (frames_of ts gs) g
