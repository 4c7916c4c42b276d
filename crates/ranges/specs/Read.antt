-- A report as its reader has it: the places of a lent list, up to the count, as ranges.
use Rattle.std.specs.Prelude.{List, map, ℤ, pos, get_or}
use Rattle.buffer_state.specs.Ranges.{Range}

abbrev pub ranges_in : List (List ℤ) → List Range
ranges_in = map (λ (place : List ℤ). record { start = get_or place 0 (pos 0); end = get_or place 1 (pos 0) })
