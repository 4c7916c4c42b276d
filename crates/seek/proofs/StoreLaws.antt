-- Store order by places: the frames that lead to the one at a place are those of its group and track up to that place.
use mathlib.Core.Path.{◌≡◌, refl, sym, ap, ◌∙◌}
use mathlib.Core.Bool.{Bool, true, false, cond, ◌&&◌}
use mathlib.Core.List.{List, [], ◌∷◌}
use Prim.Native.Nat.{ℕ, zero, suc, ◌+◌, ◌≤◌, ◌<◌}
use native.Mathlib.Omega.{arith}
use lib.ListN.{length, take, get_or}
use lib.Seq.{length-take-le, get_or-take, take-take}
use Rattle.buffer_state.specs.declared.Frame.{Frame}
use Rattle.buffer_state.specs.Seek.{leads_to, up_to}
use Rattle.buffer_state.specs.Store.{is_before, is_of}
use Rattle.buffer_state.specs.WellFormed.{all_of, is_sorted}
use Rattle.buffer_laws.proofs.OrderLaws.{before_self, before-turned}
use Rattle.buffer_laws.proofs.TestLaws.{all_first, all_rest, all-place, pairs_first, pairs-rest}
use Rattle.seek.specs.Places.{same_group}

-- a frame that the other does not come before leads to it by its group and track alone
not_after : (f g : Frame) → is_before f g ≡ false → leads_to f g ≡ is_of f.track f.group g
not_after f g e = rw e (plain (is_of f.track f.group g))
  where
    plain : (b : Bool) → (b && true) ≡ b
    plain true = refl
    plain false = refl

-- frames that stand behind it do not
none-behind : (f : Frame) (fs : List Frame) → all_of (is_before f) fs ≡ true → up_to f fs ≡ []
unfolding up_to
none-behind f [] e = refl
none-behind f (g ∷ gs) e =
    rw (all_first (is_before f) g gs e) (out (is_of f.track f.group g) (none-behind f gs (all_rest (is_before f) g gs e)))
  where
    out : (b : Bool) → up_to f gs ≡ [] → cond (b && false) (g ∷ up_to f gs) (up_to f gs) ≡ []
    out true rest = rest
    out false rest = rest

up_to-place : (z : Frame) (fs : List Frame) (at : ℕ) → at < length fs → is_sorted fs ≡ true
    → up_to (get_or fs at z) fs ≡ same_group (get_or fs at z) (take (suc at) fs)
unfolding up_to same_group is_sorted
up_to-place z [] at h e = absurd (omega arith)
up_to-place z (f ∷ fs) zero h e =
    rw (not_after f f (before_self f), none-behind f fs (pairs_first is_before f fs e)) refl
up_to-place z (f ∷ fs) (suc at) h e =
    let g = get_or fs at z in
    let front : is_before g f ≡ false = before-turned f g (all-place (is_before f) fs at z (omega arith) (pairs_first is_before f fs e)) in
    rw (not_after g f front, up_to-place z fs at (omega arith) (pairs-rest is_before f fs e)) refl

-- the same among the first n places of a longer list
pub up_to-at : (z : Frame) (fs : List Frame) (n at : ℕ) → n ≤ length fs → at < n → is_sorted (take n fs) ≡ true
    → up_to (get_or fs at z) (take n fs) ≡ same_group (get_or fs at z) (take (at + 1) fs)
up_to-at z fs n at k h e =
    let here : get_or (take n fs) at z ≡ get_or fs at z = get_or-take n fs at z h in
    let long : at < length (take n fs) = omega (arith, length-take-le n fs k) in
    let place : suc at ≡ at + 1 = omega arith in
    ap (λ (f : Frame). up_to f (take n fs)) (sym here) ∙ up_to-place z (take n fs) at long e
    ∙ ap (λ (f : Frame). same_group f (take (suc at) (take n fs))) here
    ∙ ap (same_group (get_or fs at z)) (take-take (suc at) n fs (omega arith))
    ∙ ap (λ (i : ℕ). same_group (get_or fs at z) (take i fs)) place
