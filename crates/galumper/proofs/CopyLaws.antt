-- A test of every element, in std's words and in the buffer's.
use mathlib.Core.Path.{◌≡◌, refl, ap}
use mathlib.Core.Bool.{Bool, ◌&&◌}
use mathlib.Core.List.{List, [], ◌∷◌}
use Rattle.std.specs.List.{list_all}
use Rattle.buffer_state.specs.WellFormed.{all_of}

pub all_listed : {A : Type 0} (p : A → Bool) (l : List A) → list_all p l ≡ all_of p l
unfolding all_of
all_listed p [] = refl
all_listed p (x ∷ l) = ap (λ (t : Bool). p x && t) (all_listed p l)
