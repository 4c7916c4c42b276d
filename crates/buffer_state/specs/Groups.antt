-- Document 02, No. 4: what its mend of step 8 comes to. An append takes out no frame of the group in which its own frame is stored; that
-- rests on what every list of calls from a fresh buffer keeps of the current group.
use Rattle.std.specs.Prelude.{◌≡◌, Bool, true, not, ◌&&◌, ◌||◌, List, ℕ, ◌-◌, eqb, get_or, Ok}
use Rattle.std.specs.Int.Signed.{le_z}
use Rattle.buffer_state.specs.declared.Frame.{Frame}
use Rattle.buffer_state.specs.declared.Offered.{Offered}
use Rattle.buffer_state.specs.declared.Track.{Track}
use Rattle.buffer_state.specs.Append.{Outcome, append}
use Rattle.buffer_state.specs.Buffer.{Buffer, zero_track, end_of}
use Rattle.buffer_state.specs.Store.{Line}
use Rattle.buffer_state.specs.WellFormed.{all_of}

-- ---- what a run keeps

-- the track's highest end is set, and the frame ends at or before it
abbrev pub ended_by : Track → Frame → Bool
ended_by t f = t.known && le_z (end_of f) t.end

-- of a frame of the group, where the tracks are numbered from 1
abbrev pub ended_on : List Track → ℕ → Frame → Bool
ended_on ts group f = not (eqb f.group group) || ended_by (get_or ts (f.track - 1) zero_track) f

-- A track's frames of the current group end at or before its highest end, and there are none where that is unset.
unfoldable pub current_ended : Buffer → Bool
current_ended b = all_of (ended_on b.tracks b.group.number) b.frames

-- ---- what an append spares

-- no line tells of the frame
abbrev pub is_untold : List Line → Frame → Bool
is_untold lines f = all_of (λ (l : Line). not (eqb l.number f.number)) lines

-- No line of the outcome, whatever its cause, tells of a frame that was stored in the group that is the current one after it.
unfoldable pub spares_group : Buffer → Outcome → Bool
spares_group b o = all_of (λ (f : Frame). not (eqb f.group o.after.group.number) || is_untold o.lines f) b.frames

-- so it is for whatever frame is appended next
abbrev pub SparesGroup : Buffer → Type 0
SparesGroup b = (lent : ℕ) (f : Offered) (o : Outcome) → append lent f b ≡ Ok o → spares_group b o ≡ true
