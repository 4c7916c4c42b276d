-- Document 02, No. 1: boxes of ISO/IEC 14496-12 (4.2), on lists of bytes. A box begins with its size in 4 bytes and its type in 4, both
-- big-endian. Size 1 says that the size stands in 8 bytes after the type. The size counts the header. Size 0, which the standard reads as
-- "up to the end", is refused here, and so are a size under its header, a size that overruns what the box stands in, and fewer than 8
-- stray bytes.
use Rattle.std.specs.Prelude.{◌≡◌, cond, List, [], ◌∷◌, ℕ, zero, suc, ◌+◌, ◌*◌, ◌-◌, length, get_or, take, drop, ltb, leb, eqb, Option, Some, None, Result, Ok, Err}
use Rattle.boxes.specs.declared.BoxPart.{BoxPart}
use Rattle.boxes.specs.declared.Header.{Header}
use Rattle.boxes.specs.declared.Malformed.{Malformed}

-- the number in the first 4 bytes, and in the first 8
unfoldable pub be4 : List ℕ → ℕ
be4 s = get_or s 0 0 * 16777216 + get_or s 1 0 * 65536 + get_or s 2 0 * 256 + get_or s 3 0

unfoldable pub be8 : List ℕ → ℕ
be8 s = be4 s * 4294967296 + be4 (drop 4 s)

-- what is not well-formed is refused
abbrev pub refused : {A : Type 0} → Result A Malformed
refused = Err (record {})

-- a box of this header length and size: its header and it fit, else it is refused
abbrev pub sized_of : List ℕ → ℕ → ℕ → Result (Option Header) Malformed
sized_of s header size =
    cond (leb header size)
    (cond (leb size (length s)) (Ok (Some (record { kind = be4 (drop 4 s); length = header; size = size }))) refused)
    refused

-- the box at the front: none where nothing is left; under 8 stray bytes, refused; size 1, the 64-bit size
abbrev pub front_of : List ℕ → Result (Option Header) Malformed
front_of s =
    cond (eqb (length s) 0) (Ok None)
    (cond (ltb (length s) 8) refused
    (cond (eqb (be4 s) 1)
    (cond (ltb (length s) 16) refused (sized_of s 16 (be8 (drop 8 s))))
    (sized_of s 8 (be4 s))))

-- a box as its parser sees it
pub record Mp4Box : Type 0 where
  pub kind : ℕ
  pub body : List ℕ

-- the box of this header at the front of s, with its body from the body's first byte to its end
abbrev pub box_of : List ℕ → Header → Mp4Box
box_of s h = record { kind = h.kind; body = take (h.size - h.length) (drop h.length s) }

-- the boxes that a list of bytes is made of, or the refusal
abbrev pub onto : Mp4Box → Result (List Mp4Box) Malformed → Result (List Mp4Box) Malformed
onto x (Err e) = Err e
onto x (Ok l) = Ok (x ∷ l)

-- A recursion that ends because the rest gets shorter, structural on the bytes with a count of bytes to skip: `skipping s k` are the boxes
-- of s after its first k bytes, refused where it has fewer; a box at the front is followed by what stands after the rest of it.
abbrev pub following_boxes : List ℕ → Result (Option Header) Malformed → (ℕ → Result (List Mp4Box) Malformed) → Result (List Mp4Box) Malformed
following_boxes s (Ok None) rest = Ok []
following_boxes s (Err e) rest = Err e
following_boxes s (Ok (Some h)) rest = onto (box_of s h) (rest (h.size - 1))

unfoldable pub skipping : List ℕ → ℕ → Result (List Mp4Box) Malformed
skipping [] zero = Ok []
skipping [] (suc k) = refused
skipping (b ∷ s) zero = following_boxes (b ∷ s) (front_of (b ∷ s)) (λ k. skipping s k)
skipping (b ∷ s) (suc k) = skipping s k

abbrev pub boxes_of : List ℕ → Result (List Mp4Box) Malformed
boxes_of s = skipping s 0

-- ---- one box after another

-- the box at the front and the bytes after it, or none where nothing is left
abbrev pub split_front : List ℕ → Result (Option Header) Malformed → Result (Option (Mp4Box × List ℕ)) Malformed
split_front s (Ok None) = Ok None
split_front s (Err e) = Err e
split_front s (Ok (Some h)) = Ok (Some (box_of s h, drop h.size s))

abbrev pub step_of : List ℕ → Result (Option (Mp4Box × List ℕ)) Malformed
step_of s = split_front s (front_of s)

-- how many bytes the box at the front takes; none where there is no box
abbrev pub size_by : Result (Option Header) Malformed → ℕ
size_by (Ok None) = 0
size_by (Err e) = 0
size_by (Ok (Some h)) = h.size

abbrev pub past_front : List ℕ → ℕ
past_front s = size_by (front_of s)

-- how many bytes of header stand before the body of the box at the front; none where there is no box
abbrev pub length_by : Result (Option Header) Malformed → ℕ
length_by (Ok None) = 0
length_by (Err e) = 0
length_by (Ok (Some h)) = h.length

abbrev pub before_body : List ℕ → ℕ
before_body s = length_by (front_of s)

-- a box that was handed out, without where it lies in memory
abbrev pub part_of : BoxPart → Mp4Box
part_of p = record { kind = p.kind; body = p.body.now }

-- what a call returned that found these bytes and left those: the step, and else the same bytes
abbrev pub Takes : Result (Option BoxPart) Malformed → List ℕ → List ℕ → Type 0
Takes (Ok None) old new = (step_of old ≡ Ok None) × (new ≡ old)
Takes (Ok (Some part)) old new = step_of old ≡ Ok (Some (part_of part, new))
Takes (Err e) old new = (step_of old ≡ Err e) × (new ≡ old)

-- what a call returned, seen by view, is what the definition gives
abbrev pub Gives : {X Y : Type 0} → (X → Y) → Result X Malformed → Result Y Malformed → Type 0
Gives view (Ok x) y = y ≡ Ok (view x)
Gives view (Err e) y = y ≡ Err e

-- ---- where a body stands: in the slice itself, never a copy

-- where bytes stand in memory: a block and a place in it
abbrev pub Pointer : Type 0
Pointer = ℕ × ℕ

-- so many bytes further on
abbrev pub moved_by : ℕ → Pointer → Pointer
moved_by n p = (p.0, n + p.1)

-- where the body of the box at a place begins, and where it stands in a slice that stands at p
abbrev pub body_start : List ℕ → ℕ → ℕ
body_start s at = at + before_body (drop at s)

abbrev pub body_at : Pointer → List ℕ → ℕ → Pointer
body_at p s at = moved_by (body_start s at) p

-- the body of a box that a call found stands there
abbrev pub Stands : Result (Option BoxPart) Malformed → Pointer → Type 0
Stands (Ok None) p = Unit {0}
Stands (Ok (Some part)) p = part.body.ref_ptr ≡ p
Stands (Err e) p = Unit {0}
