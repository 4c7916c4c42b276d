-- However bytes are cut, the reading is the same: one law on folds. Assumes nothing.
use mathlib.Core.Path.{◌≡◌, refl}
use mathlib.Core.List.{List, [], ◌∷◌, ◌++◌}
use Prim.Native.Nat.{ℕ}
use Rattle.lumps.specs.Readings.{Reading, step, run}

-- two lumps are one
pub run-append : (x : Reading) (s t : List ℕ) → run x (s ++ t) ≡ run (run x s) t
run-append x [] t = refl
run-append x (b ∷ s) t = run-append (step x b) s t
