-- A track has at most as many ranges as frames, and the tracks' frames are apart: there are places for what all tracks have in common.
use mathlib.Core.Path.{◌≡◌, refl, ap}
use mathlib.Core.Bool.{Bool, true, false, cond}
use mathlib.Core.List.{List, [], ◌∷◌}
use Prim.Native.Nat.{ℕ, zero, suc, ◌+◌, ◌≤◌, ◌<◌}
use native.Mathlib.Numerals.{add-one}
use native.Mathlib.Omega.{arith}
use lib.Dec.{leb, eqb}
use lib.IntN.{ℤ}
use lib.ListN.{length}
use lib.Signed.{lt_z}
use borrow.Author.Tests.{leb-true, leb-false, le-leb, lt-leb, eqb-true, eqb-false, ne_eqb}
use Rattle.laws.proofs.BoolLaws.{split, by-test}
use Rattle.buffer_state.specs.declared.Frame.{Frame}
use Rattle.buffer_state.specs.Buffer.{end_of}
use Rattle.buffer_state.specs.Ranges.{Range, joined_ranges, common_of, ranges_of, common_ranges_of}
use Rattle.buffer_state.specs.Run.{total, count}
use Rattle.buffer_laws.proofs.RangeLaws.{hull}
use Rattle.ranges.specs.Bars.{Shows}

-- how many frames are on a track, and on tracks up to one
abbrev on_track : ℕ → List Frame → ℕ
on_track t = count (λ (f : Frame). eqb f.track t)

abbrev pub up_to : ℕ → List Frame → ℕ
up_to t = count (λ (f : Frame). leb f.track t)

one_more : (x t : ℕ) → cond (leb x (t + 1)) 1 0 ≡ cond (leb x t) 1 0 + cond (eqb x (t + 1)) 1 0
one_more x t =
    split (leb x t)
    (λ a. let h : x ≤ t = leb-true x t a in rw (a, le-leb x (t + 1) (omega arith), ne_eqb x (t + 1) (omega arith)))
    (λ a. let h : t < x = leb-false x t a in
    split (eqb x (t + 1))
    (λ b. let e : x ≡ t + 1 = eqb-true x (t + 1) b in rw (a, b, le-leb x (t + 1) (omega arith)))
    (λ b. let e : x ≡ t + 1 → ⊥ = eqb-false x (t + 1) b in rw (a, b, lt-leb x (t + 1) (omega arith))))

-- each frame counts on one track
up_next : (t : ℕ) (fs : List Frame) → up_to (t + 1) fs ≡ up_to t fs + on_track (t + 1) fs
unfolding count total
up_next t [] = refl
up_next t (f ∷ fs) = omega (arith, up_next t fs, one_more f.track t)

counted-few : (p : Frame → Bool) (fs : List Frame) → count p fs ≤ length fs
unfolding count total
counted-few p [] = omega arith
counted-few p (f ∷ fs) =
    by-test (λ n. n + count p fs ≤ suc (length fs)) (p f) {x = 1} {y = 0} (λ _. omega (arith, counted-few p fs)) (λ _. omega (arith, counted-few p fs))

pub up-all : (t : ℕ) (fs : List Frame) → up_to t fs ≤ length fs
up-all t = counted-few (λ (f : Frame). leb f.track t)

-- ---- ranges and frames

joined-few : (r : Range) (qs : List Range) → length (joined_ranges r qs) ≤ suc (length qs)
unfolding joined_ranges
joined-few r [] = omega arith
joined-few r (q ∷ qs) =
    let Few : List Range → Type 0 = λ l. length l ≤ suc (suc (length qs)) in
    by-test Few (lt_z r.end q.start) {x = r ∷ q ∷ qs} (λ _. omega arith) (λ _.
    by-test Few (lt_z q.end r.start) {x = q ∷ joined_ranges r qs} {y = joined_ranges (hull r q) qs}
    (λ _. omega (arith, joined-few r qs)) (λ _. omega (arith, joined-few (hull r q) qs)))

if-few : (b : Bool) (r : Range) (qs : List Range) (n : ℕ) → length qs ≤ n → length (cond b (joined_ranges r qs) qs) ≤ cond b 1 0 + n
if-few true r qs n h = omega (arith, joined-few r qs)
if-few false r qs n h = omega arith

ranges-few : (t : ℕ) (fs : List Frame) → length (ranges_of t fs) ≤ on_track t fs
unfolding ranges_of count total
ranges-few t [] = omega arith
ranges-few t (f ∷ fs) = if-few (eqb f.track t) (record { start = f.pts; end = end_of f }) (ranges_of t fs) _ (ranges-few t fs)

pub track-few : (t : ℕ) (fs : List Frame) → length (ranges_of t fs) ≤ length fs
track-few t fs = omega (arith, ranges-few t fs, counted-few (λ (f : Frame). eqb f.track t) fs)

pub first-few : (fs : List Frame) → length (ranges_of 1 fs) ≤ up_to 1 fs
first-few fs = omega (arith, up_next 0 fs, ranges-few 1 fs)

pub next-few : (t : ℕ) (fs : List Frame) → up_to t fs + length (ranges_of (t + 1) fs) ≤ up_to (t + 1) fs
next-few t fs = omega (arith, up_next t fs, ranges-few (t + 1) fs)

-- ---- one track more

pub common-next : (t : ℕ) (fs : List Frame) → 1 ≤ t → common_ranges_of (t + 1) fs ≡ common_of (common_ranges_of t fs) (ranges_of (t + 1) fs)
unfolding common_ranges_of
common-next zero fs h = absurd (omega arith)
common-next (suc t) fs h = rw (add-one (suc t))

-- where the first track has no range, all have none in common
none-common : (t : ℕ) (fs : List Frame) → ranges_of 1 fs ≡ [] → common_ranges_of (suc t) fs ≡ []
unfolding common_ranges_of common_of
none-common zero fs e = e
none-common (suc t) fs e = ap (λ (rs : List Range). common_of rs (ranges_of (suc (suc t)) fs)) (none-common t fs e)

empty : {A : Type 0} (l : List A) → 0 ≡ length l → l ≡ []
empty [] e = refl
empty (x ∷ l) e = absurd (omega (arith, e))

pub none-shown : (spans : List (List ℤ)) (t : ℕ) (fs : List Frame) → 1 ≤ t → 0 ≡ length (ranges_of 1 fs) → Shows spans 0 (common_ranges_of t fs)
none-shown spans zero fs h e = absurd (omega arith)
none-shown spans (suc t) fs h e = rw (none-common t fs (empty (ranges_of 1 fs) e)) (record { rows = refl; count = refl; few = omega arith })

pub one-common : (t : ℕ) (fs : List Frame) → t ≡ 1 → common_ranges_of t fs ≡ ranges_of 1 fs
unfolding common_ranges_of
one-common t fs e = rw e
