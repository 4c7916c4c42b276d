-- What a slot holds beside its buffer, the head that a call is handed, and the slots of a session.
use Rattle.std.specs.Prelude.{Bool, false, cond, ◌&&◌, List, [], ◌∷◌, ℕ, ℤ, get_or, Option, Some, None, is_none}
use mathlib.Core.Bool.{beq}
use Rattle.std.specs.List.{list_all}
use Rattle.buffer_state.specs.declared.Head.{Head}
use Rattle.buffer_state.specs.declared.Track.{Track}
use Rattle.buffer_state.specs.Buffer.{zero_track}
use Rattle.seconds.specs.Seconds.{zero_seconds, same_double}
use Rattle.slots.specs.declared.Set.{Set}
use Rattle.slots.specs.declared.Slot.{Slot}
use Rattle.slots.specs.declared.Session.{Session}

-- which of a track's three values are set: all or none
abbrev pub set_of : Track → Set
set_of t = record { decode = t.known; duration = t.known; end = t.known }

abbrev pub sets_of : Head → List Set
sets_of h = at 0 ∷ at 1 ∷ at 2 ∷ at 3 ∷ []
  where
    at : ℕ → Set
    at i = set_of (get_or h.tracks i zero_track)

-- the slot of a head that a call gave, with its stored frames: nothing is beside them
abbrev pub slot_of : Head → List (List ℤ) → List (List ℕ) → Slot
slot_of h times tags = record {
  head = h;
  times = times;
  tags = tags;
  sets = sets_of h;
  spare = zero_seconds;
  beyond = None;
}

-- none of a track's three values set, or all
abbrev pub together_of : Set → Bool
together_of set = beq set.decode set.duration && beq set.duration set.end

-- a head can hold what the slot holds beside it: on each track the three are set together, and the double kept beside an unbounded window
-- end is plus zero
abbrev pub head_holds : Slot → Bool
head_holds slot = list_all together_of slot.sets && same_double slot.spare zero_seconds

-- the head and the rows say all that the slot holds: no frame has a group beyond them either
abbrev pub holds_all : Slot → Bool
holds_all slot = is_none slot.beyond && head_holds slot

-- a head of nine tracks, which is not well-formed
abbrev pub overfull_head : Head → Head
overfull_head h = record {
  tracks = h.tracks;
  ntracks = 9;
  nframes = h.nframes;
  mode = h.mode;
  group = h.group;
  last = h.last;
  settings = h.settings;
}

-- the head of the slot where nothing is beside it, else one that is not well-formed either
abbrev pub handed_of : Slot → Head
handed_of slot = cond (holds_all slot) slot.head (overfull_head slot.head)

-- no buffer yet, nothing saved, the first slot in use
abbrev pub fresh_session : Session
fresh_session = record { first = None; second = None; saved = None; second_used = false }

-- the buffers of the two slots, whichever is in use
abbrev pub first_of : Session → Option Slot
first_of s = s.first

abbrev pub second_of : Session → Option Slot
second_of s = s.second

-- the buffer of the slot in use
abbrev pub used_of : Session → Option Slot
used_of s = cond s.second_used s.second s.first

-- the session with this in the slot in use: the other slot and the state that was saved stay
abbrev pub with_used : Session → Option Slot → Session
with_used s used = record {
  first = cond s.second_used s.first used;
  second = cond s.second_used used s.second;
  saved = s.saved;
  second_used = s.second_used;
}

-- one, or where it is none the other
abbrev pub first_some : Option Slot → Option Slot → Option Slot
first_some (Some slot) other = Some slot
first_some None other = other

-- the session with the state of the slot in use saved, where there is one: its frames are the slot's, to the last place
abbrev pub saved_of : Session → Session
saved_of s = record {
  first = s.first;
  second = s.second;
  saved = first_some (used_of s) s.saved;
  second_used = s.second_used;
}

-- the session with the state that was saved last in the slot in use, where there is one
abbrev pub restored_of : Session → Session
restored_of s = with_used s (first_some s.saved (used_of s))
