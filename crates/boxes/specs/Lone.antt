-- Document 02, No. 1: a box that must be there once, "missing, doubled or after a run".
use Rattle.std.specs.Prelude.{◌≡◌, Bool, false, cond, ◌||◌, ◌&&◌, List, [], ◌∷◌, ℕ, zero, suc, ◌+◌, ◌-◌, ◌≤◌, length, take, drop, eqb, Option, Some, None, is_some, is_none, Result, Ok, Err}
use Rattle.std.specs.Borrow.{Bor}
use Rattle.boxes.specs.declared.Header.{Header}
use Rattle.boxes.specs.declared.Malformed.{Malformed}
use Rattle.boxes.specs.Boxes.{Mp4Box, refused, front_of, Pointer, moved_by}

-- whether there is a box of this type
abbrev pub has : ℕ → List Mp4Box → Bool
has k [] = false
has k (x ∷ l) = eqb x.kind k || has k l

-- the body of the one box of type k, and no box of type r before it
abbrev pub lone_of : ℕ → ℕ → List Mp4Box → Result (List ℕ) Malformed
lone_of k r [] = refused
lone_of k r (x ∷ l) = cond (eqb x.kind k) (cond (has k l) refused (Ok x.body)) (cond (eqb x.kind r) refused (lone_of k r l))

-- the same of a body; where it is not made of boxes, refused
abbrev pub lone_in : ℕ → ℕ → Result (List Mp4Box) Malformed → Result (List ℕ) Malformed
lone_in k r (Err e) = Err e
lone_in k r (Ok l) = lone_of k r l

-- the same by the items of a loop, where found is the body met so far
abbrev pub body_or_refused : Option (List ℕ) → Result (List ℕ) Malformed
body_or_refused None = refused
body_or_refused (Some body) = Ok body

unfoldable pub lone_among : ℕ → ℕ → Option (List ℕ) → List (Result Mp4Box Malformed) → Result (List ℕ) Malformed
lone_among k r found [] = body_or_refused found
lone_among k r found (Err e ∷ items) = Err e
lone_among k r found (Ok x ∷ items) =
    cond (eqb x.kind k)
    (cond (is_some found) refused (lone_among k r (Some x.body) items))
    (cond (eqb x.kind r && is_none found) refused (lone_among k r found items))

-- where the first box of type k begins, by the recursion of `skipping`; 0 where there is none
abbrev pub place_from : ℕ → Result (Option Header) Malformed → (ℕ → ℕ) → ℕ
place_from k (Ok None) rest = 0
place_from k (Err e) rest = 0
place_from k (Ok (Some h)) rest = cond (eqb h.kind k) 0 (suc (rest (h.size - 1)))

unfoldable pub place_past : ℕ → List ℕ → ℕ → ℕ
place_past k [] n = 0
place_past k (b ∷ s) zero = place_from k (front_of (b ∷ s)) (λ n. place_past k s n)
place_past k (b ∷ s) (suc n) = suc (place_past k s n)

abbrev pub place_of : ℕ → List ℕ → ℕ
place_of k s = place_past k s 0

-- lent bytes are the part of a slice from a place in it on, where the slice stands at p
pub record IsPart (p : Pointer) (s : List ℕ) (start : ℕ) (part : Bor (List ℕ)) : Type 0 where
  pub within : start + length part.now ≤ length s
  pub bytes : part.now ≡ take (length part.now) (drop start s)
  pub stands : part.ref_ptr ≡ moved_by start p
