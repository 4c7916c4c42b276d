-- Taking frames out: a walk changes no frame; what is kept is some of the stored frames, in their order; and each stored frame is
-- either kept or on one line.
use mathlib.Core.Path.{◌≡◌, refl, ap, ◌∙◌}
use mathlib.Core.Bool.{Bool, true, false, cond, not, ◌&&◌, ◌||◌}
use mathlib.Core.List.{List, [], ◌∷◌, map}
use Prim.Native.Nat.{ℕ, suc, ◌+◌, ◌≤◌}
use native.Mathlib.Omega.{arith}
use lib.Dec.{eqb}
use lib.ListN.{length}
use borrow.Author.Tests.{not-true}
use Rattle.laws.proofs.BoolLaws.{by-test, or_left, or_right, or_cases, both_ways}
use Rattle.buffer_state.specs.declared.Frame.{Frame}
use Rattle.buffer_state.specs.Seek.{some_of}
use Rattle.buffer_state.specs.Store.{Marked, is_taken, mark_where, follows_taken, walk_one, walk_from, walk, kept, Line, lines_of}
use Rattle.buffer_state.specs.WellFormed.{all_of, pairwise}
use Rattle.buffer_state.specs.Run.{total}
use Rattle.buffer_laws.proofs.TestLaws.{all_first, all_rest, all_more, all_none, pairs_first, pairs-rest, pairs-more}

abbrev pub frame_of : Marked → Frame
frame_of m = m.frame

abbrev pub frames_of : List Marked → List Frame
frames_of = map frame_of

-- ---- marking and walking change no frame

pub mark-frames : (p : Frame → Bool) (c : ℕ) (fs : List Frame) → frames_of (mark_where p c fs) ≡ fs
mark-frames p c [] = refl
mark-frames p c (f ∷ fs) = ap (λ (l : List Frame). f ∷ l) (mark-frames p c fs)

pub walk_one-frame : (walked : List Marked) (m : Marked) → (walk_one walked m).frame ≡ m.frame
walk_one-frame walked m =
    by-test (λ (n : Marked). n.frame ≡ m.frame)
    (not (is_taken m) && (not m.frame.flagged && follows_taken m.frame.track m.frame.group walked)) (λ _. refl) (λ _. refl)

walk_from-frames : (walked ms : List Marked) → frames_of (walk_from walked ms) ≡ frames_of ms
unfolding walk_from
walk_from-frames walked [] = refl
walk_from-frames walked (m ∷ ms) =
    let f = walk_one-frame walked m in
    let rest = walk_from-frames (walk_one walked m ∷ walked) ms in
    λ i. f i ∷ rest i

-- ---- what is kept

pub kept-all : (p : Frame → Bool) (ms : List Marked) → all_of p (frames_of ms) ≡ true → all_of p (kept ms) ≡ true
unfolding kept
kept-all p [] e = e
kept-all p (m ∷ ms) e =
    let rest = kept-all p ms (all_rest p m.frame (frames_of ms) e) in
    by-test (λ l. all_of p l ≡ true) (is_taken m) (λ _. rest) (λ _. all_more p m.frame (kept ms) (all_first p m.frame (frames_of ms) e) rest)

pub kept-pairs : (r : Frame → Frame → Bool) (ms : List Marked) → pairwise r (frames_of ms) ≡ true → pairwise r (kept ms) ≡ true
unfolding kept
kept-pairs r [] e = e
kept-pairs r (m ∷ ms) e =
    let rest = kept-pairs r ms (pairs-rest r m.frame (frames_of ms) e) in
    by-test (λ l. pairwise r l ≡ true) (is_taken m) (λ _. rest)
    (λ _. pairs-more r m.frame (kept ms) (kept-all (r m.frame) ms (pairs_first r m.frame (frames_of ms) e)) rest)

-- where none that passes is taken, one that passes stays
pub kept-some : (p : Frame → Bool) (ms : List Marked) → all_of (λ (m : Marked). not (p m.frame) || not (is_taken m)) ms ≡ true
    → some_of p (frames_of ms) ≡ true → some_of p (kept ms) ≡ true
unfolding kept some_of
kept-some p [] s e = e
kept-some p (m ∷ ms) s e =
    let free : Marked → Bool = λ m. not (p m.frame) || not (is_taken m) in
    or_cases (p m.frame) (some_of p (frames_of ms)) e
    (λ h. let stays : is_taken m ≡ false = not-true _ (rw h at (all_first free m ms s)) in rw stays (or_left _ _ h))
    (λ h. let rest = kept-some p ms (all_rest free m ms s) h in by-test (λ (l : List Frame). some_of p l ≡ true) (is_taken m) (λ _. rest) (λ _. or_right (p m.frame) _ rest))

pub kept-length : (ms : List Marked) → length (kept ms) ≤ length (frames_of ms)
unfolding kept
kept-length [] = omega arith
kept-length (m ∷ ms) = go (is_taken m) (kept-length ms)
  where
    go : (t : Bool) → length (kept ms) ≤ length (frames_of ms) → length (cond t (kept ms) (m.frame ∷ kept ms)) ≤ suc (length (frames_of ms))
    go true rest = omega arith
    go false rest = omega arith

-- ---- what is kept and what is told, together

-- the total of a weight of the numbers: of frames, and of lines
abbrev pub frame_weight : (ℕ → ℕ) → List Frame → ℕ
frame_weight w = total (λ (f : Frame). w f.number)

abbrev pub line_weight : (ℕ → ℕ) → List Line → ℕ
line_weight w = total (λ (l : Line). w l.number)

-- Each frame is kept or on one line: for any weight of a number the two totals are the total before.
pub kept-and-told : (w : ℕ → ℕ) (ms : List Marked) → frame_weight w (kept ms) + line_weight w (lines_of ms) ≡ frame_weight w (frames_of ms)
unfolding kept lines_of total
kept-and-told w [] = refl
kept-and-told w (m ∷ ms) = go (is_taken m) (kept-and-told w ms)
  where
    go : (t : Bool) → frame_weight w (kept ms) + line_weight w (lines_of ms) ≡ frame_weight w (frames_of ms)
        → frame_weight w (cond t (kept ms) (m.frame ∷ kept ms))
        + line_weight w (cond t (record { number = m.frame.number; cause = m.cause } ∷ lines_of ms) (lines_of ms))
        ≡ w m.frame.number + frame_weight w (frames_of ms)
    go true rest = omega arith
    go false rest = omega arith

-- ---- the causes told

-- a stored frame's cause passes a test, if it is taken
abbrev cause_if : (ℕ → Bool) → Marked → Bool
cause_if p m = not (is_taken m) || p m.cause

told-causes : (p : ℕ → Bool) (ms : List Marked) → all_of (cause_if p) ms ≡ true → all_of (λ (l : Line). p l.cause) (lines_of ms) ≡ true
unfolding lines_of
told-causes p [] e = all_none (λ (l : Line). p l.cause)
told-causes p (m ∷ ms) e =
    let rest = told-causes p ms (all_rest (cause_if p) m ms e) in
    by-test (λ l. all_of (λ (l : Line). p l.cause) l ≡ true) (is_taken m)
    (λ t. all_more (λ (l : Line). p l.cause) _ (lines_of ms) (if-taken t (all_first (cause_if p) m ms e)) rest)
    (λ _. rest)
  where
    if-taken : is_taken m ≡ true → cause_if p m ≡ true → p m.cause ≡ true
    if-taken t e = or_cases (not (is_taken m)) (p m.cause) e (λ f. both_ways t (not-true _ f)) (λ h. h)

-- ---- frames that pass a test are taken by a cause, then the walk: what both calls that take frames out do

marked-causes : (p : Frame → Bool) (c : ℕ) (fs : List Frame) (q : ℕ → Bool) → q c ≡ true → all_of (cause_if q) (mark_where p c fs) ≡ true
marked-causes p c [] q h = all_none (cause_if q)
marked-causes p c (f ∷ fs) q h =
    all_more (cause_if q) (record { frame = f; cause = cond (p f) c 0 }) (mark_where p c fs)
    (by-test (λ (n : ℕ). cause_if q (record { frame = f; cause = n }) ≡ true) (p f) (λ _. or_right (not (not (eqb c 0))) (q c) h) (λ _. refl))
    (marked-causes p c fs q h)

walked-causes : (q : ℕ → Bool) → q 5 ≡ true → (walked ms : List Marked) → all_of (cause_if q) ms ≡ true → all_of (cause_if q) (walk_from walked ms) ≡ true
unfolding walk_from
walked-causes q h walked [] e = e
walked-causes q h walked (m ∷ ms) e =
    all_more (cause_if q) (walk_one walked m) (walk_from (walk_one walked m ∷ walked) ms)
    (by-test (λ (n : Marked). cause_if q n ≡ true) (not (is_taken m) && (not m.frame.flagged && follows_taken m.frame.track m.frame.group walked))
    (λ _. h) (λ _. all_first (cause_if q) m ms e))
    (walked-causes q h (walk_one walked m ∷ walked) ms (all_rest (cause_if q) m ms e))

module _ (p : Frame → Bool) (c : ℕ) (fs : List Frame) where
  pub marks-frames : frames_of (walk (mark_where p c fs)) ≡ fs
  marks-frames = walk_from-frames [] (mark_where p c fs) ∙ mark-frames p c fs

  -- some of the stored frames are left, in their order
  pub left-all : (q : Frame → Bool) → all_of q fs ≡ true → all_of q (kept (walk (mark_where p c fs))) ≡ true
  left-all q e = kept-all q (walk (mark_where p c fs)) (rw marks-frames e)

  pub left-pairs : (r : Frame → Frame → Bool) → pairwise r fs ≡ true → pairwise r (kept (walk (mark_where p c fs))) ≡ true
  left-pairs r e = kept-pairs r (walk (mark_where p c fs)) (rw marks-frames e)

  pub left-length : length (kept (walk (mark_where p c fs))) ≤ length fs
  left-length = omega (arith, kept-length (walk (mark_where p c fs)), ap length marks-frames)

  -- each stored frame is left or on one line
  pub left-and-told : (w : ℕ → ℕ) → frame_weight w (kept (walk (mark_where p c fs))) + line_weight w (lines_of (walk (mark_where p c fs))) ≡ frame_weight w fs
  left-and-told w = kept-and-told w (walk (mark_where p c fs)) ∙ ap (frame_weight w) marks-frames

  -- the lines tell the cause, or 5
  pub told-cause : (q : ℕ → Bool) → q c ≡ true → q 5 ≡ true → all_of (λ (l : Line). q l.cause) (lines_of (walk (mark_where p c fs))) ≡ true
  told-cause q h k = told-causes q (walk (mark_where p c fs)) (walked-causes q k [] (mark_where p c fs) (marked-causes p c fs q h))
