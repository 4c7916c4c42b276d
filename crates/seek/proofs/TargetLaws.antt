-- The target of the frames from a place on, from the last place back to the first.
use mathlib.Core.Path.{◌≡◌, refl, ap, ◌∙◌}
use mathlib.Core.Bool.{Bool, true, false, cond, ◌&&◌}
use mathlib.Core.List.{List, ◌∷◌}
use Prim.Native.Nat.{ℕ, ◌+◌, ◌-◌, ◌≤◌, ◌<◌}
use native.Mathlib.Omega.{arith}
use lib.Dec.{ltb, eqb}
use lib.IntN.{ℤ}
use lib.ListN.{length, take, drop, get_or}
use lib.Seq.{get_or-take}
use lib.Signed.{lt_z}
use Rattle.std.specs.declared.cmp.Ordering.TheVariants.{Less, Equal, Greater}
use Rattle.std.specs.Ordering.{nat_cmp, int_cmp, ordering_then, is_lt}
use Rattle.laws.proofs.ListLaws.{first_next, first-end}
use Rattle.buffer_state.specs.declared.Frame.{Frame}
use Rattle.buffer_state.specs.Layout.{zero_frame}
use Rattle.buffer_state.specs.Limits.{result_time}
use Rattle.buffer_state.specs.Ranges.{covers}
use Rattle.buffer_state.specs.Seek.{Target, none, over, pick, target_of}
use Rattle.buffer_state.specs.WellFormed.{all_of}
use Rattle.buffer_laws.proofs.TestLaws.{all_get_d}
use Rattle.seek.specs.Places.{is_timed}

-- ---- a frame whose time is known

zero-timed : is_timed zero_frame ≡ true
unfolding result_time
zero-timed = refl

pub timed-at : (fs : List Frame) (n i : ℕ) → i < n → all_of is_timed (take n fs) ≡ true → is_timed (get_or fs i zero_frame) ≡ true
timed-at fs n i h e = rw (get_or-take n fs i zero_frame h) at (all_get_d is_timed (take n fs) i zero_frame zero-timed e)

-- ---- which of two

-- by the times, then the numbers, as the definition has it
pub over_lem : (f g : Frame) → is_lt (ordering_then (int_cmp g.pts f.pts) (nat_cmp g.number f.number)) ≡ over f g
unfolding over
over_lem f g = tests (lt_z g.pts f.pts) (lt_z f.pts g.pts) (ltb g.number f.number) (eqb g.number f.number)
  where
    tests : (a b n e : Bool) → is_lt (ordering_then (cond a Less (cond b Greater Equal)) (cond n Less (cond e Equal Greater))) ≡ cond a true (cond b false n)
    tests true b n e = refl
    tests false true n e = refl
    tests false false true e = refl
    tests false false false true = refl
    tests false false false false = refl

-- ---- the walk

module _ (track : ℕ) (t : ℤ) (fs : List Frame) (n : ℕ) (k : n ≤ length fs) where
  -- what the frames from a place on come to
  abbrev from : ℕ → Target
  from i = target_of track t (drop i (take n fs))

  pub target-end : from n ≡ none
  unfolding target_of
  target-end = ap (target_of track t) (first-end fs n k n (omega arith))

  module _ (i : ℕ) (some : 0 < i) (here : i ≤ n) where
    next : drop (i - 1) (take n fs) ≡ get_or fs (i - 1) zero_frame ∷ drop i (take n fs)
    next =
        let step : (i - 1) + 1 ≡ i = omega arith in
        first_next fs n k (i - 1) zero_frame (omega arith) ∙ ap (λ (j : ℕ). get_or fs (i - 1) zero_frame ∷ drop j (take n fs)) step

    module _ (shown : Bool) (is : shown ≡ (eqb (get_or fs (i - 1) zero_frame).track track && covers t (get_or fs (i - 1) zero_frame))) where
      pub target_more : shown ≡ true → from (i - 1) ≡ pick (get_or fs (i - 1) zero_frame) (from i)
      unfolding target_of
      target_more e = ap (target_of track t) next ∙ rw (← is, e)

      pub target-same : shown ≡ false → from (i - 1) ≡ from i
      unfolding target_of
      target-same e = ap (target_of track t) next ∙ rw (← is, e)
