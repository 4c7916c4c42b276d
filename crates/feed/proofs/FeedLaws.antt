-- A place in a segment, and that a part told by its start and length is the bytes to feed, where they stand.
use mathlib.Core.Path.{◌≡◌, refl, ap}
use mathlib.Core.Bool.{Bool, true, false, cond}
use mathlib.Core.List.{List, []}
use Prim.Native.Nat.{ℕ, ◌+◌, ◌-◌, ◌≤◌}
use native.Mathlib.Omega.{arith}
use lib.Dec.{leb}
use lib.ListN.{length, take, drop}
use lib.Seq.{take-length}
use borrow.Author.Tests.{leb-true}
use Rattle.laws.proofs.BoolLaws.{and_left, and_right}
use Rattle.feed.specs.Feed.{is_within, Pointer, feed_of, feed_at}
use Rattle.feed.specs.Parts.{part_of, bytes_in, pointer_in}

module _ (n start end : ℕ) (e : is_within n start end ≡ true) where
  pub place_inside : end ≤ n
  place_inside = leb-true end n (and_left (leb end n) (leb start end) e)

  pub place-forwards : start ≤ end
  place-forwards = leb-true start end (and_right (leb end n) (leb start end) e)

pub part_bytes : (whole : Bool) (initialization segment : List ℕ) (start end : ℕ)
    → bytes_in (part_of whole (length initialization) (length segment) start end) (cond whole initialization segment)
    ≡ feed_of whole initialization segment start end
part_bytes true initialization segment start end = take-length initialization
part_bytes false initialization segment start end =
    same (is_within (length segment) start end)
  where
    same : (b : Bool) → bytes_in (cond b (record { start = start; length = end - start }) (record { start = 0; length = 0 })) segment
        ≡ cond b (take (end - start) (drop start segment)) []
    same true = refl
    same false = refl

unmoved : (at : Pointer) → (at.0, 0 + at.1) ≡ at
unmoved at = ap (λ (k : ℕ). (at.0, k)) (omega arith)

pub part-pointer : (whole : Bool) (initialization segment : Pointer) (i n start end : ℕ)
    → pointer_in (part_of whole i n start end) (cond whole initialization segment) ≡ feed_at whole initialization segment n start end
part-pointer true initialization segment i n start end = unmoved initialization
part-pointer false initialization segment i n start end =
    same (is_within n start end)
  where
    same : (b : Bool) → pointer_in (cond b (record { start = start; length = end - start }) (record { start = 0; length = 0 })) segment
        ≡ cond b (segment.0, start + segment.1) segment
    same true = refl
    same false = unmoved segment
