-- A seek over the lent store: the target by its place, and the walk back from there.
use Rattle.std.specs.Prelude.{◌≡◌, Bool, true, cond, List, [], ◌∷◌, ℕ, ◌≤◌, ℤ, take, get_or, Option, None, Some, Ok, Err}
use Rattle.buffer_state.specs.declared.Frame.{Frame}
use Rattle.buffer_state.specs.declared.Start.{Start}
use Rattle.buffer_state.specs.Layout.{zero_frame}
use Rattle.buffer_state.specs.Lent.{frames_of, Lengths}
use Rattle.buffer_state.specs.Limits.{places, result_time}
use Rattle.buffer_state.specs.Refusals.{CallResult}
use Rattle.buffer_state.specs.Seek.{Target, none, picked}
use Rattle.buffer_state.specs.Store.{is_of}
use Rattle.buffer_state.specs.WellFormed.{all_of}

-- a frame whose end can be told
abbrev pub is_timed : Frame → Bool
is_timed f = result_time f.pts

-- what a well-formed state says of its first n places
pub record Stands (ts : List (List ℤ)) (gs : List (List ℕ)) (n : ℕ) : Type 0 where
  pub long : Lengths ts gs
  pub few : n ≤ places
  pub each : all_of is_timed (take n (frames_of ts gs)) ≡ true

-- the frame at a place, where there is one
abbrev pub placed_target : List Frame → Option ℕ → Target
placed_target fs None = none
placed_target fs (Some place) = picked (get_or fs place zero_frame)

-- the frames of a frame's group and track
unfoldable pub same_group : Frame → List Frame → List Frame
same_group f [] = []
same_group f (g ∷ gs) = let rest = same_group f gs in cond (is_of f.track f.group g) (g ∷ rest) rest

-- the count of an answer that has one is at most so many
abbrev pub Within : ℕ → CallResult Start → Type 0
Within most (Ok s) = s.count ≤ most
Within most (Err why) = Unit {0}
