-- Samples one after another: their limits, their time and their rows. Assumes nothing.
use mathlib.Core.Path.{◌≡◌, refl, sym, ap, ◌∙◌}
use mathlib.Core.Bool.{Bool, true, false, ◌&&◌, and-true, and-false, and_assoc}
use mathlib.Core.List.{List, [], ◌∷◌, ◌++◌}
use Prim.Native.Nat.{ℕ, ◌+◌}
use native.Mathlib.Omega.{arith}
use lib.IntN.{ℤ}
use lib.ListN.{length, length-map}
use Rattle.laws.proofs.BoolLaws.{and_left, and_both}
use Rattle.buffer_state.specs.WellFormed.{all_of}
use Rattle.media_times.specs.MediaTimes.{good_scale, in_limits, row_of}
use Rattle.media_times.specs.declared.Sample.{Sample}
use Rattle.segments.specs.Listings.{total}
use Rattle.segments.specs.Segments.{all_in_limits, rows_of}
use Rattle.segments.specs.declared.SegmentTrack.{SegmentTrack}

-- ---- limits

pub all_both : (p : Sample → Bool) (l m : List Sample) → all_of p (l ++ m) ≡ (all_of p l && all_of p m)
unfolding all_of
all_both p [] m = refl
all_both p (s ∷ l) m = ap (λ b. p s && b) (all_both p l m) ∙ sym (and_assoc (p s) (all_of p l) (all_of p m))

module _ (scale : ℕ) where
  pub both-in : (l m : List Sample) → all_in_limits scale (l ++ m) ≡ (all_in_limits scale l && all_of (in_limits scale) m)
  unfolding all_in_limits
  both-in l m = ap (λ b. good_scale scale && b) (all_both (in_limits scale) l m) ∙ sym (and_assoc (good_scale scale) (all_of (in_limits scale) l) (all_of (in_limits scale) m))

  pub scale_in : (l : List Sample) → all_in_limits scale l ≡ true → good_scale scale ≡ true
  unfolding all_in_limits
  scale_in l e = and_left (good_scale scale) (all_of (in_limits scale) l) e

  pub none_in : good_scale scale ≡ all_in_limits scale []
  unfolding all_in_limits all_of
  none_in = sym (and-true (good_scale scale))

  -- more samples in their limits
  pub more-in : (l m : List Sample) → all_in_limits scale l ≡ true → all_of (in_limits scale) m ≡ true → all_in_limits scale (l ++ m) ≡ true
  more-in l m p q = both-in l m ∙ and_both p q

  -- what is outside its limits stays so, whatever follows it
  pub stays_out : (l m : List Sample) → all_in_limits scale l ≡ false → all_in_limits scale (l ++ m) ≡ false
  stays_out l m p = both-in l m ∙ rw p

  -- one sample that is outside
  pub one_out : (l : List Sample) (s : Sample) → in_limits scale s ≡ false → all_in_limits scale (l ++ (s ∷ [])) ≡ false
  unfolding all_of
  one_out l s p = both-in l (s ∷ []) ∙ rw p (and-false (all_in_limits scale l))

  pub one_in : (s : Sample) → in_limits scale s ≡ true → all_of (in_limits scale) (s ∷ []) ≡ true
  unfolding all_of
  one_in s p = rw p

-- ---- time

pub total-both : (l m : List Sample) → total (l ++ m) ≡ total l + total m
total-both [] m = omega arith
total-both (s ∷ l) m = let e = total-both l m in omega (arith, e)

-- ---- rows

pub rows_both : (of : SegmentTrack) (l m : List Sample) → rows_of of (l ++ m) ≡ rows_of of l ++ rows_of of m
rows_both of [] m = refl
rows_both of (s ∷ l) m = ap {B = List (List ℤ)} (λ t. row_of of.track of.timescale s ∷ t) (rows_both of l m)

pub rows-length : (of : SegmentTrack) (l : List Sample) → length (rows_of of l) ≡ length l
rows-length of l = length-map l (row_of of.track of.timescale)
