-- The frames to decode, found from the target back: one frame more at the end of a list.
use Rattle.std.specs.Prelude.{Ok, Err}
use mathlib.Core.Path.{◌≡◌, refl, ap, ◌∙◌}
use mathlib.Core.Bool.{Bool, true, false, cond}
use mathlib.Core.List.{List, [], ◌∷◌, ◌++◌, append-nil}
use Prim.Native.Nat.{ℕ, suc, ◌+◌, ◌-◌, ◌≤◌, ◌<◌}
use native.Mathlib.Omega.{arith}
use lib.ListN.{length, take, get_or, length-append}
use lib.Seq.{take-suc}
use Rattle.buffer_state.specs.declared.Frame.{Frame}
use Rattle.buffer_state.specs.declared.Refusal.TheVariants.{NoStart}
use Rattle.buffer_state.specs.Refusals.{CallResult}
use Rattle.buffer_state.specs.declared.Start.{Start}
use Rattle.buffer_state.specs.Seek.{or_else, from_flagged, start_by}
use Rattle.buffer_state.specs.Store.{is_of}
use Rattle.seek.specs.Places.{same_group}

-- ---- one frame more at the end

group-append : (f : Frame) (xs ys : List Frame) → same_group f (xs ++ ys) ≡ same_group f xs ++ same_group f ys
unfolding same_group
group-append f [] ys = refl
group-append f (x ∷ xs) ys = go (is_of f.track f.group x) (group-append f xs ys)
  where
    go : (b : Bool) → same_group f (xs ++ ys) ≡ same_group f xs ++ same_group f ys
        → cond b (x ∷ same_group f (xs ++ ys)) (same_group f (xs ++ ys)) ≡ cond b (x ∷ same_group f xs) (same_group f xs) ++ same_group f ys
    go true rest = ap (λ (l : List Frame). x ∷ l) rest
    go false rest = rest

-- a flagged one is the start
flagged-last : (g : Frame) → g.flagged ≡ true → (xs : List Frame) → from_flagged (xs ++ (g ∷ [])) ≡ g ∷ []
unfolding from_flagged
flagged-last g e [] = rw e
flagged-last g e (x ∷ xs) = rw (flagged-last g e xs)

-- one that is not belongs to those that a flagged one before it leads
abbrev with : Frame → List Frame → List Frame
with g [] = []
with g (x ∷ xs) = x ∷ (xs ++ (g ∷ []))

plain-last : (g : Frame) → g.flagged ≡ false → (xs : List Frame) → from_flagged (xs ++ (g ∷ [])) ≡ with g (from_flagged xs)
unfolding from_flagged
plain-last g e [] = rw e
plain-last g e (x ∷ xs) = ap (λ (l : List Frame). or_else l (cond x.flagged (x ∷ (xs ++ (g ∷ []))) [])) (plain-last g e xs) ∙ go (from_flagged xs) x.flagged
  where
    go : (later : List Frame) (on : Bool) → or_else (with g later) (cond on (x ∷ (xs ++ (g ∷ []))) []) ≡ with g (or_else later (cond on (x ∷ xs) []))
    go [] true = refl
    go [] false = refl
    go (y ∷ ys) on = refl

-- ---- the walk back

-- to a target by the frames to decode that are still to be walked, with so many walked
abbrev pub start_with : ℕ → Frame → List Frame → CallResult Start
start_with walked f [] = Err NoStart
start_with walked f (g ∷ gs) = Ok (record { target = f.number; flagged = g.number; count = length (g ∷ gs) + walked })

pub none-walked : (f : Frame) (xs : List Frame) → start_by f xs ≡ start_with 0 f xs
none-walked f [] = refl
none-walked f (g ∷ gs) =
    let same : length (g ∷ gs) ≡ length (g ∷ gs) + 0 = omega arith in
    ap (λ (n : ℕ). Ok (record { target = f.number; flagged = g.number; count = n })) same

one-walked : (walked : ℕ) (f g : Frame) (xs : List Frame) → start_with walked f (with g xs) ≡ start_with (walked + 1) f xs
one-walked walked f g [] = refl
one-walked walked f g (x ∷ xs) =
    let same : length (x ∷ (xs ++ (g ∷ []))) + walked ≡ length (x ∷ xs) + (walked + 1) = omega (arith, length-append xs (g ∷ [])) in
    ap (λ (n : ℕ). Ok (record { target = f.number; flagged = x.number; count = n })) same

module _ (f : Frame) (fs : List Frame) (z : Frame) (i : ℕ) (some : 0 < i) (here : i ≤ length fs) (walked : ℕ) where
  -- what the walk from a place back comes to
  abbrev back : ℕ → ℕ → CallResult Start
  back n j = start_with n f (from_flagged (same_group f (take j fs)))

  abbrev last : Frame
  last = get_or fs (i - 1) z

  front : same_group f (take i fs) ≡ same_group f (take (i - 1) fs) ++ same_group f (get_or fs (i - 1) z ∷ [])
  front =
      let step : i ≡ suc (i - 1) = omega arith in
      ap (λ (n : ℕ). same_group f (take n fs)) step ∙ ap (same_group f) (take-suc fs (i - 1) z (omega arith))
      ∙ group-append f (take (i - 1) fs) (get_or fs (i - 1) z ∷ [])

  module _ (own : Bool) (is : own ≡ is_of f.track f.group (get_or fs (i - 1) z)) where
    pub walk-past : own ≡ false → back walked i ≡ back walked (i - 1)
    unfolding same_group
    walk-past e = ap (λ (l : List Frame). start_with walked f (from_flagged l)) (front ∙ rw (← is, e) (append-nil (same_group f (take (i - 1) fs))))

    module _ (e : own ≡ true) where
      own-last : same_group f (take i fs) ≡ same_group f (take (i - 1) fs) ++ (get_or fs (i - 1) z ∷ [])
      unfolding same_group
      own-last = front ∙ rw (← is, e) refl

      pub walk-on : (get_or fs (i - 1) z).flagged ≡ false → back walked i ≡ back (walked + 1) (i - 1)
      walk-on g =
          ap (λ (l : List Frame). start_with walked f (from_flagged l)) own-last
          ∙ ap (start_with walked f) (plain-last last g (same_group f (take (i - 1) fs)))
          ∙ one-walked walked f last (from_flagged (same_group f (take (i - 1) fs)))

      pub walk-found : (get_or fs (i - 1) z).flagged ≡ true
          → back walked i ≡ Ok (record { target = f.number; flagged = (get_or fs (i - 1) z).number; count = 1 + walked })
      walk-found g =
          ap (λ (l : List Frame). start_with walked f (from_flagged l)) own-last
          ∙ ap (start_with walked f) (flagged-last last g (same_group f (take (i - 1) fs)))

pub walk-over : (f : Frame) (fs : List Frame) (walked : ℕ) → start_with walked f (from_flagged (same_group f (take 0 fs))) ≡ Err NoStart
unfolding from_flagged same_group
walk-over f fs walked = refl
