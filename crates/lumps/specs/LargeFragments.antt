-- Document 02, No. 5: "if each of its movie fragment boxes is at most 65,536 bytes", said of the whole segment. A movie fragment box counts
-- from the byte at which its size is whole, also where it is cut off after that, and as far as boxes can be told: a size under its header ends
-- the search.
use Rattle.std.specs.Prelude.{Bool, true, false, cond, List, [], ◌∷◌, ℕ, zero, suc, ◌-◌, length, drop, ltb, eqb}
use Rattle.boxes.specs.Boxes.{be4, be8}
use Rattle.segments.specs.Listings.{moof_kind}
use Rattle.lumps.specs.Readings.{most}

-- a box of this header length and size is such a movie fragment box, or one comes after it
abbrev pub large_sized : List ℕ → ℕ → ℕ → (ℕ → Bool) → Bool
large_sized s header size rest = cond (ltb size header) false (cond (eqb (be4 (drop 4 s)) moof_kind) (cond (ltb most size) true (rest (size - 1))) (rest (size - 1)))

abbrev pub large_front : List ℕ → (ℕ → Bool) → Bool
large_front s rest =
    cond (ltb (length s) 8) false
    (cond (eqb (be4 s) 1) (cond (ltb (length s) 16) false (large_sized s 16 (be8 (drop 8 s)) rest)) (large_sized s 8 (be4 s) rest))

-- one begins in s, past its first k bytes
unfoldable pub large_past : List ℕ → ℕ → Bool
large_past [] k = false
large_past (b ∷ s) zero = large_front (b ∷ s) (λ k. large_past s k)
large_past (b ∷ s) (suc k) = large_past s k

abbrev pub has_large : List ℕ → Bool
has_large s = large_past s 0
