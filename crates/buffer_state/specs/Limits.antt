-- Document 01, "Times and numbers": the limits.
use Rattle.std.specs.Prelude.{Bool, ◌&&◌, ℕ, leb, ℤ, pos, neg_ℤ}
use Rattle.std.specs.Int.Signed.{le_z}

-- from a to b, both included
abbrev pub is_within : ℤ → ℤ → ℤ → Bool
is_within a b z = le_z a z && le_z z b

-- a presentation or decode time as offered
unfoldable pub offered_time : ℤ → Bool
offered_time = is_within (neg_ℤ (pos 1000000000000)) (pos 1000000000000)

-- after the offset is applied: the offset itself, P, D and the frame end
unfoldable pub result_time : ℤ → Bool
result_time = is_within (neg_ℤ (pos 4000000000000)) (pos 4000000000000)

unfoldable pub good_duration : ℕ → Bool
good_duration n = leb 1 n && leb n 10000000

-- places in the store over all tracks, and lines that a lent fate list needs
abbrev pub places : ℕ
places = 1024

abbrev pub most_tracks : ℕ
most_tracks = 4

-- frame numbers run from 1 to this one
abbrev pub last_number : ℕ
last_number = 4294967295

-- group numbers run from 0 to this one (document 02, No. 4)
abbrev pub last_group : ℕ
last_group = 4294967295

-- video (0) and audio (1)
abbrev pub known_kind : ℕ → Bool
known_kind k = leb k 1
