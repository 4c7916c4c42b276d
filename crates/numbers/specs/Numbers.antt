-- The frame numbers, which are a column of the tags, and that none of a list stands twice.
use Rattle.std.specs.Prelude.{Bool, true, ◌&&◌, List, [], ◌∷◌, map, ℕ, ◌*◌, eqb, get_or}
use Rattle.sorting.specs.Sorting.{most, occurrences}

abbrev pub number_in : List ℕ → ℕ
number_in g = get_or g 3 0

unfoldable pub numbers_of : List (List ℕ) → List ℕ
numbers_of = map number_in

-- slots of the table of numbers: twice as many as there can be numbers
abbrev pub slots : ℕ
slots = 2 * most

unfoldable pub no_repeat : List ℕ → Bool
no_repeat [] = true
no_repeat (x ∷ xs) = eqb (occurrences x xs) 0 && no_repeat xs
