-- Rows written over the first places of a list: one more row, rows that find no place, and all of them. Assumes nothing.
use mathlib.Core.Path.{◌≡◌, refl, ap}
use mathlib.Core.List.{List, [], ◌∷◌, ◌++◌}
use Prim.Native.Nat.{ℕ, zero, suc, ◌≤◌}
use native.Mathlib.Omega.{arith}
use lib.IntN.{ℤ}
use lib.ListN.{length, drop, set}
use Rattle.segments.specs.Walks.{laid_rows}

abbrev Rows : Type 0
Rows = List (List ℤ)

-- one more row is put at the place after the others
pub laid_more : (rs l : Rows) (r : List ℤ) → laid_rows (rs ++ (r ∷ [])) l ≡ set (laid_rows rs l) (length rs) r
laid_more [] [] r = refl
laid_more [] (x ∷ l) r = refl
laid_more (q ∷ rs) [] r = refl
laid_more (q ∷ rs) (x ∷ l) r = ap {B = Rows} (λ t. q ∷ t) (laid_more rs l r)

-- what would be put past the end is not
pub set_past : (l : Rows) (k : ℕ) (r : List ℤ) → length l ≤ k → set l k r ≡ l
set_past [] k r h = refl
set_past (x ∷ l) zero r h = absurd (omega arith)
set_past (x ∷ l) (suc k) r h = ap {B = Rows} (λ t. x ∷ t) (set_past l k r (omega arith))

pub laid-length : (rs l : Rows) → length (laid_rows rs l) ≡ length l
laid-length [] l = refl
laid-length (r ∷ rs) [] = refl
laid-length (r ∷ rs) (x ∷ l) = ap suc (laid-length rs l)

-- once the places are full, more rows change nothing
pub laid-full : (rs qs l : Rows) → length l ≤ length rs → laid_rows (rs ++ qs) l ≡ laid_rows rs l
laid-full [] [] l h = refl
laid-full [] (q ∷ qs) [] h = refl
laid-full [] (q ∷ qs) (x ∷ l) h = absurd (omega arith)
laid-full (r ∷ rs) qs [] h = refl
laid-full (r ∷ rs) qs (x ∷ l) h = ap {B = Rows} (λ t. r ∷ t) (laid-full rs qs l (omega arith))

-- where there are places for all, the rows and then what stood after them
pub laid-all : (rs l : Rows) → length rs ≤ length l → laid_rows rs l ≡ rs ++ drop (length rs) l
laid-all [] l h = refl
laid-all (r ∷ rs) [] h = absurd (omega arith)
laid-all (r ∷ rs) (x ∷ l) h = ap {B = Rows} (λ t. r ∷ t) (laid-all rs l (omega arith))
