-- The same bytes by where they start and how many they are, for programs to which no slice can be handed back.
use Rattle.std.specs.Prelude.{Bool, cond, List, ℕ, ◌+◌, ◌-◌, take, drop}
use Rattle.feed.specs.declared.Part.{Part}
use Rattle.feed.specs.Feed.{is_within, Pointer}

abbrev pub part_of : Bool → ℕ → ℕ → ℕ → ℕ → Part
part_of whole initialization n start end =
    cond whole (record { start = 0; length = initialization })
    (cond (is_within n start end) (record { start = start; length = end - start }) (record { start = 0; length = 0 }))

-- the bytes of a part, and where they stand
abbrev pub bytes_in : Part → List ℕ → List ℕ
bytes_in p bytes = take p.length (drop p.start bytes)

abbrev pub pointer_in : Part → Pointer → Pointer
pointer_in p at = (at.0, p.start + at.1)
