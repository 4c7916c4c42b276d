-- Numbers that are bytes, and what they say in fours and eights. Assumes nothing.
use mathlib.Core.List.{List, [], ◌∷◌, ◌++◌}
use Prim.Native.Nat.{ℕ, zero, suc, ◌+◌, ◌<◌}
use native.Mathlib.Omega.{arith}
use lib.ListN.{get_or, take, drop}
use Rattle.boxes.specs.Boxes.{be4, be8}
use Rattle.boxes.proofs.BoxLaws.{be4-at, be8-at}
use Rattle.lumps.specs.Cuts.{IsBytes}

pub bytes-append : (s l : List ℕ) → IsBytes s → IsBytes l → IsBytes (s ++ l)
bytes-append [] l a b = b
bytes-append (v ∷ s) l a b = (a.0, bytes-append s l a.1 b)

pub bytes_take : (n : ℕ) (l : List ℕ) → IsBytes l → IsBytes (take n l)
bytes_take zero l h = tt
bytes_take (suc n) [] h = tt
bytes_take (suc n) (b ∷ l) h = (h.0, bytes_take n l h.1)

byte_at : (l : List ℕ) (i : ℕ) → IsBytes l → get_or l i 0 < 256
byte_at [] i h = omega arith
byte_at (b ∷ l) zero h = h.0
byte_at (b ∷ l) (suc i) h = byte_at l i h.1

pub be4-bound : (l : List ℕ) (at : ℕ) → IsBytes l → be4 (drop at l) < 4294967296
be4-bound l at h =
    let b₀ = byte_at l at h in
    let b₁ = byte_at l (at + 1) h in
    let b₂ = byte_at l (at + 2) h in
    let b₃ = byte_at l (at + 3) h in
    rw (be4-at l at) (omega (arith, b₀, b₁, b₂, b₃))

pub be8-bound : (l : List ℕ) (at : ℕ) → IsBytes l → be8 (drop at l) < 18446744073709551616
be8-bound l at h = let a = be4-bound l at h in let b = be4-bound l (at + 4) h in rw (be8-at l at) (omega (arith, a, b))
