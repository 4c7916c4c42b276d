-- A walk that stands at samples, moved on by a sample, by many, or lost; and what a walk that stands somewhere may be asked. Assumes nothing.
use mathlib.Core.Path.{◌≡◌, refl, sym, ap, ◌∙◌}
use mathlib.Core.Bool.{Bool, true, false, cond}
use mathlib.Core.List.{List, ◌++◌}
use Prim.Native.Nat.{ℕ, ◌+◌, ◌-◌, ◌≤◌, ◌<◌}
use native.Mathlib.Omega.{arith}
use lib.IntN.{ℤ}
use lib.ListN.{length, length-append}
use lib.Dec.{ltb, leb}
use borrow.Author.Tests.{leb-true, leb-false, le-leb, lt-leb, lt-ltb, le-ltb}
use Rattle.laws.proofs.BoolLaws.{split}
use Rattle.buffer_state.specs.WellFormed.{all_of}
use Rattle.media_times.specs.MediaTimes.{good_scale, in_limits}
use Rattle.media_times.specs.declared.Sample.{Sample}
use Rattle.segments.specs.Segments.{all_in_limits}
use Rattle.segments.specs.Walks.{Known, lost_walk, least_of, walk_at, moved_by, Standing, Somewhere}
use Rattle.segments.specs.declared.SegmentTrack.{SegmentTrack}
use Rattle.segments.proofs.SampleLaws.{scale_in, more-in}

-- ---- what a walk at samples knows

module _ (scale places : ℕ) (l : List Sample) (t : ℕ) where
  pub walk-in : all_in_limits scale l ≡ true
      → walk_at scale places l t ≡ record { good = true; over = ltb places (length l); count = least_of (length l) places; time = t }
  unfolding walk_at
  walk-in e = rw e

  pub walk-out : all_in_limits scale l ≡ false → walk_at scale places l t ≡ lost_walk
  unfolding walk_at
  walk-out e = rw e

-- a walk knows whether all was in its limits
pub walk-good : (scale places : ℕ) (l : List Sample) (t : ℕ) → (walk_at scale places l t).good ≡ all_in_limits scale l
unfolding walk_at
walk-good scale places l t = go (all_in_limits scale l)
  where
    go : (b : Bool) → (cond b (record { good = true; over = ltb places (length l); count = least_of (length l) places; time = t }) lost_walk).good ≡ b
    go true = refl
    go false = refl

least-most : (a b : ℕ) → least_of a b ≤ b
least-most a b = split (leb a b) (λ e. rw e (leb-true a b e)) (λ e. rw e (omega arith))

walk-count : (scale places : ℕ) (l : List Sample) (t : ℕ) → (walk_at scale places l t).count ≤ places
walk-count scale places l t =
    split (all_in_limits scale l)
    (λ e. rw (walk-in scale places l t e) (least-most (length l) places))
    (λ e. rw (walk-out scale places l t e) (omega arith))

-- ---- what a walk that stands somewhere may be asked

module _ (of : SegmentTrack) (write : Bool) (w : Known) (list : List (List ℤ)) (s : Somewhere of write w list) where
  stands : Standing of write s.before s.samples w list
  stands = s.standing

  pub somewhere-count : w.count ≤ length list
  somewhere-count = rw stands.places (rw stands.knows (walk-count of.timescale (length s.before) s.samples w.time))

  pub somewhere-scale : w.good ≡ true → good_scale of.timescale ≡ true
  somewhere-scale g =
      scale_in of.timescale s.samples
      (sym (ap (λ (v : Known). v.good) stands.knows ∙ walk-good of.timescale (length s.before) s.samples w.time) ∙ g)

-- ---- moved on

-- a walk by its count, with all in its limits
abbrev at_count : ℕ → ℕ → ℕ → Known
at_count places k t = record { good = true; over = ltb places k; count = least_of k places; time = t }

same-walk : {a b : Bool} {m n : ℕ} (t : ℕ) → a ≡ b → m ≡ n
    → ◌≡◌ {A = Known} (record { good = true; over = a; count = m; time = t }) (record { good = true; over = b; count = n; time = t })
same-walk t p q = λ i. record { good = true; over = p i; count = q i; time = t }

-- n more samples
module _ (places k n t t' : ℕ) where
  full : places < k → moved_by places (at_count places k t) n t' ≡ at_count places (k + n) t'
  full h =
      let m : places < k + n = omega arith in
      split (leb n (places - places))
      (λ e. let z : n ≤ 0 = leb-true n 0 (let s : places - places ≡ 0 = omega arith in rw s at e) in
      rw (lt-leb k places h, e, lt-ltb places k h, lt-ltb places (k + n) m, lt-leb (k + n) places m) (same-walk t' refl (omega arith)))
      (λ e. rw (lt-leb k places h, e, lt-ltb places (k + n) m, lt-leb (k + n) places m))

  not_full : k ≤ places → moved_by places (at_count places k t) n t' ≡ at_count places (k + n) t'
  not_full h =
      split (leb n (places - k))
      (λ e. let l : n ≤ places - k = leb-true n (places - k) e in
      let m : k + n ≤ places = omega arith in
      rw (le-leb k places h, e, le-ltb places k h, le-ltb places (k + n) m, le-leb (k + n) places m))
      (λ e. let l : places - k < n = leb-false n (places - k) e in
      let m : places < k + n = omega arith in
      rw (le-leb k places h, e, lt-ltb places (k + n) m, lt-leb (k + n) places m))

  moved-count : moved_by places (at_count places k t) n t' ≡ at_count places (k + n) t'
  moved-count = split (leb k places) (λ e. not_full (leb-true k places e)) (λ e. full (leb-false k places e))

pub moved_on : (scale places : ℕ) (l m : List Sample) (t t' : ℕ) → all_in_limits scale l ≡ true → all_of (in_limits scale) m ≡ true
    → moved_by places (walk_at scale places l t) (length m) t' ≡ walk_at scale places (l ++ m) t'
moved_on scale places l m t t' p q =
    ap (λ w. moved_by places w (length m) t') (walk-in scale places l t p)
    ∙ moved-count places (length l) (length m) t t'
    ∙ ap (λ k. at_count places k t') (sym (length-append l m))
    ∙ sym (walk-in scale places (l ++ m) t' (more-in scale l m p q))
