-- A step of step 8's walk: the frame's cause after it, and what the walk then knows of each track and group. Of a frame's own, that is
-- whether the frame goes.
use mathlib.Core.Path.{◌≡◌, refl}
use mathlib.Core.Bool.{Bool, true, false, cond, not, ◌&&◌, ◌||◌, or-false}
use mathlib.Core.List.{List, ◌∷◌}
use Prim.Native.Nat.{ℕ}
use lib.Dec.{eqb}
use borrow.Author.Tests.{eqb-true, eq-eqb}
use Rattle.laws.proofs.BoolLaws.{split, and_left, and_right}
use Rattle.buffer_state.specs.declared.Frame.{Frame}
use Rattle.buffer_state.specs.Store.{Marked, is_taken, is_of, follows_taken, walk_one}
use Rattle.taking.specs.Marks.{mark, cause_after}

-- the walk changes causes alone
pub walk_one_lem : (walked : List Marked) (f : Frame) (c : ℕ) → walk_one walked (mark f c) ≡ mark f (cause_after (follows_taken f.track f.group walked) f c)
walk_one_lem walked f c = go (not (not (eqb c 0)) && (not f.flagged && follows_taken f.track f.group walked))
  where
    go : (t : Bool) → cond t (mark f 5) (mark f c) ≡ mark f (cond t 5 c)
    go true = refl
    go false = refl

-- what the walk reaches, and does not stop at, is taken after it
taken-if : (f : Frame) (c : ℕ) (reached : Bool) → (is_taken (mark f (cause_after reached f c)) || (not f.flagged && reached)) ≡ is_taken (mark f (cause_after reached f c))
taken-if f c reached = go (not f.flagged && reached)
  where
    go : (t : Bool) → (not (eqb (cond (not (not (eqb c 0)) && t) 5 c) 0) || t) ≡ not (eqb (cond (not (not (eqb c 0)) && t) 5 c) 0)
    go true = split (eqb c 0) (λ e. rw e) (λ e. rw (e, e))
    go false = or-false _

-- after a frame, of its own track and group
pub follows-own : (walked : List Marked) (f : Frame) (c : ℕ) → let d = cause_after (follows_taken f.track f.group walked) f c in
    follows_taken f.track f.group (mark f d ∷ walked) ≡ not (eqb d 0)
unfolding follows_taken
follows-own walked f c = rw (eq-eqb f.track f.track refl, eq-eqb f.group f.group refl) (taken-if f c (follows_taken f.track f.group walked))

-- and of others
pub follows-other : (walked : List Marked) (f : Frame) (d track group : ℕ) → (f.track ≡ track → f.group ≡ group → ⊥)
    → follows_taken track group (mark f d ∷ walked) ≡ follows_taken track group walked
unfolding follows_taken
follows-other walked f d track group other =
    split (is_of track group f)
    (λ e. absurd (other (eqb-true f.track track (and_left (eqb f.track track) (eqb f.group group) e)) (eqb-true f.group group (and_right (eqb f.track track) (eqb f.group group) e))))
    (λ e. rw e)
