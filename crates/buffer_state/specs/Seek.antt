-- Document 02, No. 6: where to start decoding, so that a track shows what it has at an instant.
use Rattle.std.specs.Prelude.{Bool, true, false, cond, not, ◌&&◌, ◌||◌, List, [], ◌∷◌, ℕ, ltb, eqb, ℤ, length, Ok, Err}
use Rattle.std.specs.Int.Signed.{lt_z}
use Rattle.buffer_state.specs.declared.Frame.{Frame}
use Rattle.buffer_state.specs.declared.Refusal.TheVariants.{NoTrack, NoStart}
use Rattle.buffer_state.specs.declared.Start.{Start}
use Rattle.buffer_state.specs.Buffer.{Buffer, has_track}
use Rattle.buffer_state.specs.Ranges.{covers}
use Rattle.buffer_state.specs.Refusals.{CallResult, refuse_if}
use Rattle.buffer_state.specs.Store.{is_before, is_of}
use Rattle.buffer_state.specs.WellFormed.{all_of}

-- ---- the target

-- Of the frames that cover the instant, the one picked, where there is any.
pub data Target : Type 0 where
  none : Target
  picked : Frame → Target

-- f is picked rather than g: the greater presentation time, then the greater number
unfoldable pub over : Frame → Frame → Bool
over f g = cond (lt_z g.pts f.pts) true (cond (lt_z f.pts g.pts) false (ltb g.number f.number))

abbrev pub pick : Frame → Target → Target
pick f none = picked f
pick f (picked g) = cond (over f g) (picked f) (picked g)

-- The covering frame with the greatest presentation time, then the greatest number.
unfoldable pub target_of : ℕ → ℤ → List Frame → Target
target_of track t [] = none
target_of track t (f ∷ fs) = let rest = target_of track t fs in cond (eqb f.track track && covers t f) (pick f rest) rest

-- ---- the walk to it

-- g is of f's group and track, and at or before it in store order
abbrev pub leads_to : Frame → Frame → Bool
leads_to f g = is_of f.track f.group g && not (is_before f g)

unfoldable pub up_to : Frame → List Frame → List Frame
up_to f [] = []
up_to f (g ∷ gs) = let rest = up_to f gs in cond (leads_to f g) (g ∷ rest) rest

-- the first list, or where it is empty the second
abbrev pub or_else : List Frame → List Frame → List Frame
or_else [] fs = fs
or_else (f ∷ fs) gs = f ∷ fs

-- from the last flagged frame on; nothing where none is flagged
unfoldable pub from_flagged : List Frame → List Frame
from_flagged [] = []
from_flagged (f ∷ fs) = let later = from_flagged fs in or_else later (cond f.flagged (f ∷ fs) [])

-- The frames to decode, in store order: from the nearest flagged frame of the target's group and track, at or before it, up to the
-- target, both among them, and between them the frames of that group and track alone.
unfoldable pub to_decode : Frame → List Frame → List Frame
to_decode f fs = from_flagged (up_to f fs)

-- ---- the call

-- To a target, by the frames to decode: its number, the flagged frame's, and the count of frames. Without any there is no start.
abbrev pub start_by : Frame → List Frame → CallResult Start
start_by f [] = Err NoStart
start_by f (g ∷ gs) = Ok (record { target = f.number; flagged = g.number; count = length (g ∷ gs) })

abbrev pub start_to : Target → List Frame → CallResult Start
start_to none fs = Err NoStart
start_to (picked f) fs = start_by f (to_decode f fs)

-- Where to start decoding for a track and an instant in microseconds: refusals (1,) 3, 15 in that order. 15 if no frame covers the
-- instant, or if no frame at or before the target, of its group and track, is flagged.
unfoldable pub seek : ℕ → ℤ → Buffer → CallResult Start
seek track t b = refuse_if (not (has_track b track)) NoTrack (start_to (target_of track t b.frames) b.frames)

-- ---- what a run keeps

-- some element passes
unfoldable pub some_of : {A : Type 0} → (A → Bool) → List A → Bool
some_of p [] = false
some_of p (x ∷ xs) = p x || some_of p xs

-- g is flagged, of f's group and track, and before it
abbrev pub leads : Frame → Frame → Bool
leads f g = g.flagged && (is_of f.track f.group g && is_before g f)

-- flagged, or with such a frame among these
abbrev pub led_in : List Frame → Frame → Bool
led_in fs f = f.flagged || some_of (leads f) fs

-- Every stored frame that is not flagged has a stored flagged frame of its group and track before it.
unfoldable pub is_led : List Frame → Bool
is_led fs = all_of (led_in fs) fs
