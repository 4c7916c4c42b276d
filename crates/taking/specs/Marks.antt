-- Frames with causes: what the calls that take frames out work on.
use Rattle.std.specs.Prelude.{◌≡◌, Bool, cond, not, ◌&&◌, List, [], ◌∷◌, ◌++◌, ℕ, ◌<◌, eqb, length, drop, get_or}
use Rattle.buffer_state.specs.declared.Frame.{Frame}
use Rattle.buffer_state.specs.Answers.{written}
use Rattle.buffer_state.specs.Store.{Marked, lines_of}

-- a frame with its cause
abbrev pub mark : Frame → ℕ → Marked
mark f c = record { frame = f; cause = c }

-- the cause of a frame after step 8's walk, which reaches it or not: 5 where it is not taken, not flagged, and reached
abbrev pub cause_after : Bool → Frame → ℕ → ℕ
cause_after reached f c = cond (not (not (eqb c 0)) && (not f.flagged && reached)) 5 c

-- frames with the causes at their places
unfoldable pub marked_by : List Frame → List ℕ → List Marked
marked_by [] causes = []
marked_by (f ∷ fs) [] = []
marked_by (f ∷ fs) (c ∷ cs) = let rest = marked_by fs cs in mark f c ∷ rest

-- no frame before the first goes
abbrev pub NoneBefore : ℕ → List ℕ → Type 0
NoneBefore first causes = (i : ℕ) → i < first → get_or causes i 0 ≡ 0

-- the lines, then what the list held before
abbrev pub lines_then : List Marked → List (List ℕ) → List (List ℕ)
lines_then ms before = written (lines_of ms) ++ drop (length (lines_of ms)) before
