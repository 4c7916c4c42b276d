-- The bounds of the tracks: an instant for each track number before which all of its frames are presented.
use Rattle.std.specs.Prelude.{◌≡◌, Bool, true, List, ℕ, ℤ, pos, length, get_or}
use Rattle.std.specs.Int.Signed.{lt_z, le_z}
use Rattle.buffer_state.specs.declared.Frame.{Frame}
use Rattle.buffer_state.specs.WellFormed.{all_of}

-- the bound of a track; a track without one has no frames, and 0 stands for it
abbrev pub bound_at : List ℤ → ℕ → ℤ
bound_at bounds track = get_or bounds track (pos 0)

abbrev pub is_early : List ℤ → Frame → Bool
is_early bounds g = lt_z g.pts (bound_at bounds g.track)

-- a bound for each track number from 0 to 4, and each frame presented before that of its track
pub record IsBounded (bounds : List ℤ) (l : List Frame) : Type 0 where
  pub five : length bounds ≡ 5
  pub each : all_of (is_early bounds) l ≡ true

-- as many bounds, and none is lower
pub record Raised (before after : List ℤ) : Type 0 where
  pub five : length after ≡ length before
  pub each : (track : ℕ) → le_z (bound_at before track) (bound_at after track) ≡ true
