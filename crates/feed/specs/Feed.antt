-- Document 02, No. 6: what to feed. Of initialization bytes and a segment, the one whole or the named part of the other.
use Rattle.std.specs.Prelude.{Bool, cond, ◌&&◌, List, [], ℕ, ◌+◌, ◌-◌, leb, length, take, drop}

-- The place, from start up to but not including end, is in a segment of so many bytes: it does not overrun it, nor does it end before its
-- start.
abbrev pub is_within : ℕ → ℕ → ℕ → Bool
is_within n start end = leb end n && leb start end

abbrev pub feed_of : Bool → List ℕ → List ℕ → ℕ → ℕ → List ℕ
feed_of whole initialization segment start end =
    cond whole initialization (cond (is_within (length segment) start end) (take (end - start) (drop start segment)) [])

-- Never a copy: where the bytes stand. A pointer is a block and a place in it; an empty part stands where the segment starts.
abbrev pub Pointer : Type 0
Pointer = ℕ × ℕ

abbrev pub feed_at : Bool → Pointer → Pointer → ℕ → ℕ → ℕ → Pointer
feed_at whole initialization segment n start end = cond whole initialization (cond (is_within n start end) (segment.0, start + segment.1) segment)
