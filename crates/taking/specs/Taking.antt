-- Frames presented in a stretch of time, one stretch for each track, and what their taking leaves and tells.
use Rattle.std.specs.Prelude.{◌≡◌, Bool, true, false, not, ◌&&◌, List, [], ℕ, ◌≤◌, ◌<◌, ltb, pos, take, get_or, Option, None, Some}
use Rattle.std.specs.Int.Signed.{le_z, lt_z}
use Rattle.buffer_state.specs.declared.Frame.{Frame}
use Rattle.buffer_state.specs.Store.{Marked, mark_where, walk}
use Rattle.buffer_state.specs.WellFormed.{all_of}
use Rattle.groups.specs.Groups.{group_in}
use Rattle.taking.specs.declared.Span.{Span}

-- a track number has its place among the stretches
abbrev pub on_track : Frame → Bool
on_track g = ltb g.track 5

-- no time is in it
abbrev pub no_span : Span
no_span = record { start = pos 0; end = pos 0 }

abbrev pub in_span : Span → Frame → Bool
in_span s g = le_z s.start g.pts && lt_z g.pts s.end

-- in the stretch of its track
abbrev pub in_spans : List Span → Frame → Bool
in_spans spans g = in_span (get_or spans g.track no_span) g

-- the marks: those in the stretches by the cause, and those that step 8's walk reaches
abbrev pub taken_marks : List Span → ℕ → List Frame → List Marked
taken_marks spans cause l = walk (mark_where (in_spans spans) cause l)

-- i is the first of the n frames that passes the test, or n where none does
pub record IsFirstIn (p : Frame → Bool) (l : List Frame) (n i : ℕ) : Type 0 where
  pub inside : i ≤ n
  pub before : all_of (λ (g : Frame). not (p g)) (take i l) ≡ true
  pub here : i < n → all_of (λ (g : Frame). not (p g)) l ≡ false

-- the first of the n frames that passes the test, if one does
abbrev pub FindsFirst : (Frame → Bool) → List Frame → ℕ → Option ℕ → Type 0
FindsFirst p l n None = IsFirstIn p l n n
FindsFirst p l n (Some i) = (i < n) × IsFirstIn p l n i

-- the rows from the first up to n are of one group
abbrev pub IsOneGroup : List (List ℕ) → ℕ → ℕ → Type 0
IsOneGroup gs first n = (j : ℕ) → first ≤ j → j < n → group_in (get_or gs j []) ≡ group_in (get_or gs first [])
