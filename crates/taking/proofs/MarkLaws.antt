-- Frames with the causes at their places: the next of them, one set, and those that stay.
use mathlib.Core.Path.{◌≡◌, refl, ap, ap₂, ◌∙◌}
use mathlib.Core.List.{List, [], ◌∷◌, ◌++◌, map}
use Prim.Native.Nat.{ℕ, zero, suc, ◌+◌, ◌≤◌, ◌<◌}
use native.Mathlib.Nat.{not-suc-le-zero}
use native.Mathlib.Numerals.{add-one}
use native.Mathlib.Omega.{arith}
use lib.ListN.{length, take, drop, get_or, set, drop_of_length-le}
use lib.Seq.{drop-cons, get_or-take, take-suc-set}
use Rattle.laws.proofs.ListLaws.{first-length}
use Rattle.buffer_state.specs.declared.Frame.{Frame}
use Rattle.buffer_state.specs.Layout.{zero_frame}
use Rattle.buffer_state.specs.Store.{Marked, kept, lines_of}
use Rattle.taking.specs.Marks.{mark, marked_by, NoneBefore}

-- a frame that stays
abbrev pub still : Frame → Marked
still g = mark g 0

pub marked-length : (l : List Frame) (cs : List ℕ) → length l ≤ length cs → length (marked_by l cs) ≡ length l
unfolding marked_by
marked-length [] cs h = refl
marked-length (f ∷ l) [] h = absurd (not-suc-le-zero h)
marked-length (f ∷ l) (c ∷ cs) h = ap suc (marked-length l cs (omega arith))

marked-at : (l : List Frame) (cs : List ℕ) (i : ℕ) → i < length l → length l ≤ length cs → get_or (marked_by l cs) i (still zero_frame) ≡ mark (get_or l i zero_frame) (get_or cs i 0)
unfolding marked_by
marked-at [] cs i h k = absurd (not-suc-le-zero h)
marked-at (f ∷ l) [] i h k = absurd (not-suc-le-zero k)
marked-at (f ∷ l) (c ∷ cs) zero h k = refl
marked-at (f ∷ l) (c ∷ cs) (suc i) h k = marked-at l cs i (omega arith) (omega arith)

marked-set : (l : List Frame) (cs : List ℕ) (i c : ℕ) → i < length l → marked_by l (set cs i c) ≡ set (marked_by l cs) i (mark (get_or l i zero_frame) c)
unfolding marked_by
marked-set [] cs i c h = absurd (not-suc-le-zero h)
marked-set (f ∷ l) [] i c h = refl
marked-set (f ∷ l) (d ∷ cs) zero c h = refl
marked-set (f ∷ l) (d ∷ cs) (suc i) c h = ap (λ (ms : List Marked). mark f d ∷ ms) (marked-set l cs i c (omega arith))

-- ---- a turn of a loop over the first n frames

module _ (fs : List Frame) (cs : List ℕ) (n : ℕ) (full : n ≤ length fs) (wide : n ≤ length cs) where
  abbrev marks : List Marked
  marks = marked_by (take n fs) cs

  pub marks-length : length marks ≡ n
  marks-length = marked-length (take n fs) cs (omega (arith, first-length fs n full)) ∙ first-length fs n full

  module _ (i : ℕ) (h : i < n) where
    pub marks-next : drop i marks ≡ mark (get_or fs i zero_frame) (get_or cs i 0) ∷ drop (i + 1) marks
    marks-next =
        let here = marked-at (take n fs) cs i (omega (arith, first-length fs n full)) (omega (arith, first-length fs n full))
        ∙ ap (λ (f : Frame). mark f (get_or cs i 0)) (get_or-take n fs i zero_frame h) in
        rw (add-one i) (drop-cons marks i (still zero_frame) (omega (arith, marks-length)) ∙ ap (λ (m : Marked). m ∷ drop (suc i) marks) here)

    -- the next has its cause
    pub marks-more : (c : ℕ) → take (i + 1) (marked_by (take n fs) (set cs i c)) ≡ take i marks ++ (mark (get_or fs i zero_frame) c ∷ [])
    marks-more c =
        let one = marked-set (take n fs) cs i c (omega (arith, first-length fs n full))
        ∙ ap (λ (f : Frame). set marks i (mark f c)) (get_or-take n fs i zero_frame h) in
        rw (add-one i, one) (take-suc-set marks i (mark (get_or fs i zero_frame) c) (omega (arith, marks-length)))

  pub marks-end : (i : ℕ) → n ≤ i → drop i marks ≡ []
  marks-end i h = drop_of_length-le marks {i = i} (omega (arith, marks-length))

-- ---- frames that stay

-- those before the first
pub front-still : (first : ℕ) (l : List Frame) (cs : List ℕ) → length l ≤ length cs → NoneBefore first cs → take first (marked_by l cs) ≡ map still (take first l)
unfolding marked_by
front-still zero l cs h none = refl
front-still (suc first) [] cs h none = refl
front-still (suc first) (f ∷ l) [] h none = absurd (not-suc-le-zero h)
front-still (suc first) (f ∷ l) (c ∷ cs) h none =
    ap₂ (λ (d : ℕ) (ms : List Marked). mark f d ∷ ms) (none 0 (omega arith)) (front-still first l cs (omega arith) (λ i k. none (suc i) (omega arith)))

pub kept-still : (l : List Frame) (ms : List Marked) → kept (map still l ++ ms) ≡ l ++ kept ms
unfolding kept
kept-still [] ms = refl
kept-still (f ∷ l) ms = ap (λ (r : List Frame). f ∷ r) (kept-still l ms)

pub lines-still : (l : List Frame) (ms : List Marked) → lines_of (map still l ++ ms) ≡ lines_of ms
unfolding lines_of
lines-still [] ms = refl
lines-still (f ∷ l) ms = lines-still l ms
