-- What a loop over boxes meets: the boxes one by one, and last the fault where bytes are left that are no box.
use Rattle.std.specs.Prelude.{List, [], ◌∷◌, ℕ, zero, suc, ◌-◌, Option, Some, None, Result, Ok, Err}
use Rattle.boxes.specs.declared.BoxPart.{BoxPart}
use Rattle.boxes.specs.declared.Header.{Header}
use Rattle.boxes.specs.declared.Malformed.{Malformed}
use Rattle.boxes.specs.Boxes.{Mp4Box, refused, front_of, box_of, onto, part_of}

abbrev pub following_items : List ℕ → Result (Option Header) Malformed → (ℕ → List (Result Mp4Box Malformed)) → List (Result Mp4Box Malformed)
following_items s (Ok None) rest = []
following_items s (Err e) rest = Err e ∷ []
following_items s (Ok (Some h)) rest = Ok (box_of s h) ∷ rest (h.size - 1)

-- by the same recursion as `skipping`
unfoldable pub items_past : List ℕ → ℕ → List (Result Mp4Box Malformed)
items_past [] zero = []
items_past [] (suc k) = refused ∷ []
items_past (b ∷ s) zero = following_items (b ∷ s) (front_of (b ∷ s)) (λ k. items_past s k)
items_past (b ∷ s) (suc k) = items_past s k

abbrev pub items_of : List ℕ → List (Result Mp4Box Malformed)
items_of s = items_past s 0

abbrev pub item_of : Result BoxPart Malformed → Result Mp4Box Malformed
item_of (Ok part) = Ok (part_of part)
item_of (Err e) = Err e

-- the boxes that the items are, or the fault among them
abbrev pub collected : List (Result Mp4Box Malformed) → Result (List Mp4Box) Malformed
collected [] = Ok []
collected (Err e ∷ l) = Err e
collected (Ok x ∷ l) = onto x (collected l)
