-- A frame and its two rows, a list of frames and two arrays: lengths, the one at a place, a row set, and the way there and back.
use mathlib.Core.Path.{◌≡◌, refl, sym, ap, ap₂}
use mathlib.Core.Bool.{Bool, true, false}
use mathlib.Core.List.{List, [], ◌∷◌}
use Prim.Native.Nat.{ℕ, zero, suc, ◌≤◌, ◌<◌}
use native.Mathlib.Nat.{not-suc-le-zero}
use native.Mathlib.Omega.{arith}
use lib.Dec.{eqb}
use lib.IntN.{ℤ}
use lib.ListN.{length, get_or, set, length-map}
use borrow.Author.Tests.{eqb-true, leb-true, le-leb}
use Rattle.laws.proofs.BoolLaws.{and_left, and_right}
use Rattle.buffer_state.specs.declared.Frame.{Frame}
use Rattle.buffer_state.specs.Layout.{zero_frame}
use Rattle.buffer_state.specs.Lent.{flag_out, time_of, tag_of, frame_of, frames_of, times_of, tags_of, plain_time, plain_tag}
use Rattle.buffer_state.specs.WellFormed.{all_of}
use Rattle.buffer_laws.proofs.TestLaws.{all_none, all_first, all_rest, all_more}

-- ---- two arrays of one length

pub frames-length : (ts : List (List ℤ)) (gs : List (List ℕ)) → length ts ≡ length gs → length (frames_of ts gs) ≡ length ts
unfolding frames_of
frames-length [] gs e = refl
frames-length (t ∷ ts) [] e = sym e
frames-length (t ∷ ts) (g ∷ gs) e = ap suc (frames-length ts gs (omega arith))

pub frames-at : (ts : List (List ℤ)) (gs : List (List ℕ)) (i : ℕ) (z : List ℤ) (y : List ℕ) → i < length ts → i < length gs
    → get_or (frames_of ts gs) i zero_frame ≡ frame_of (get_or ts i z) (get_or gs i y)
unfolding frames_of
frames-at [] gs i z y h k = absurd (not-suc-le-zero h)
frames-at (t ∷ ts) [] i z y h k = absurd (not-suc-le-zero k)
frames-at (t ∷ ts) (g ∷ gs) zero z y h k = refl
frames-at (t ∷ ts) (g ∷ gs) (suc i) z y h k = frames-at ts gs i z y (omega arith) (omega arith)

pub frames-set : (ts : List (List ℤ)) (gs : List (List ℕ)) (i : ℕ) (t : List ℤ) (g : List ℕ)
    → frames_of (set ts i t) (set gs i g) ≡ set (frames_of ts gs) i (frame_of t g)
unfolding frames_of
frames-set [] gs i t g = refl
frames-set (u ∷ ts) [] zero t g = refl
frames-set (u ∷ ts) [] (suc i) t g = refl
frames-set (u ∷ ts) (v ∷ gs) zero t g = refl
frames-set (u ∷ ts) (v ∷ gs) (suc i) t g = ap (λ (l : List Frame). frame_of u v ∷ l) (frames-set ts gs i t g)

-- ---- there and back

flag-back : (b : Bool) → eqb (flag_out b) 1 ≡ b
flag-back true = refl
flag-back false = refl

pub row_back : (f : Frame) → frame_of (time_of f) (tag_of f) ≡ f
row_back f = λ j. record {
  track = f.track;
  flagged = flag-back f.flagged j;
  duration = f.duration;
  number = f.number;
  group = f.group;
  pts = f.pts;
  dts = f.dts;
}

pub frames-back : (l : List Frame) → frames_of (times_of l) (tags_of l) ≡ l
unfolding frames_of times_of tags_of
frames-back [] = refl
frames-back (f ∷ l) = ap₂ (λ (x : Frame) (r : List Frame). x ∷ r) (row_back f) (frames-back l)

pub times-length : (l : List Frame) → length (times_of l) ≡ length l
unfolding times_of
times-length l = length-map l time_of

pub tags-length : (l : List Frame) → length (tags_of l) ≡ length l
unfolding tags_of
tags-length l = length-map l tag_of

-- ---- arrays that hold frames and nothing besides

time-back : (t : List ℤ) (g : List ℕ) → length t ≡ 2 → t ≡ time_of (frame_of t g)
time-back [] g e = absurd (omega (arith, e))
time-back (a ∷ []) g e = absurd (omega (arith, e))
time-back (a ∷ b ∷ []) g e = refl
time-back (a ∷ b ∷ c ∷ t) g e = absurd (omega (arith, e))

flag_out_lem : (n : ℕ) → n ≤ 1 → n ≡ flag_out (eqb n 1)
flag_out_lem zero h = refl
flag_out_lem (suc zero) h = refl
flag_out_lem (suc (suc n)) h = absurd (omega arith)

tag_back : (t : List ℤ) (g : List ℕ) → length g ≡ 5 → get_or g 1 0 ≤ 1 → g ≡ tag_of (frame_of t g)
tag_back t [] e h = absurd (omega (arith, e))
tag_back t (a ∷ []) e h = absurd (omega (arith, e))
tag_back t (a ∷ b ∷ []) e h = absurd (omega (arith, e))
tag_back t (a ∷ b ∷ c ∷ []) e h = absurd (omega (arith, e))
tag_back t (a ∷ b ∷ c ∷ d ∷ []) e h = absurd (omega (arith, e))
tag_back t (a ∷ b ∷ c ∷ d ∷ k ∷ []) e h = ap (λ (x : ℕ). a ∷ x ∷ c ∷ d ∷ k ∷ []) (flag_out_lem b h)
tag_back t (a ∷ b ∷ c ∷ d ∷ k ∷ x ∷ g) e h = absurd (omega (arith, e))

pub rows_back : (ts : List (List ℤ)) (gs : List (List ℕ)) → length ts ≡ length gs → all_of plain_time ts ≡ true → all_of plain_tag gs ≡ true
    → (ts ≡ times_of (frames_of ts gs)) × (gs ≡ tags_of (frames_of ts gs))
unfolding frames_of times_of tags_of
rows_back [] [] e a b = (refl, refl)
rows_back [] (g ∷ gs) e a b = absurd (omega (arith, e))
rows_back (t ∷ ts) [] e a b = absurd (omega (arith, e))
rows_back (t ∷ ts) (g ∷ gs) e a b =
    let known = all_first plain_tag g gs b in
    let p = time-back t g (eqb-true (length t) 2 (all_first plain_time t ts a)) in
    let q = tag_back t g (eqb-true (length g) 5 (and_left _ _ known)) (leb-true (get_or g 1 0) 1 (and_right (eqb (length g) 5) _ known)) in
    let r = rows_back ts gs (omega (arith, e)) (all_rest plain_time t ts a) (all_rest plain_tag g gs b) in
    (λ j. p j ∷ r.0 j, λ j. q j ∷ r.1 j)

small-flag : (b : Bool) → flag_out b ≤ 1
small-flag true = omega arith
small-flag false = omega arith

-- the rows of frames are plain
pub plain-times : (l : List Frame) → all_of plain_time (times_of l) ≡ true
unfolding times_of
plain-times [] = all_none plain_time
plain-times (f ∷ l) = all_more plain_time (time_of f) (times_of l) refl (plain-times l)

pub plain-tags : (l : List Frame) → all_of plain_tag (tags_of l) ≡ true
unfolding tags_of
plain-tags [] = all_none plain_tag
plain-tags (f ∷ l) = all_more plain_tag (tag_of f) (tags_of l) (le-leb (flag_out f.flagged) 1 (small-flag f.flagged)) (plain-tags l)
