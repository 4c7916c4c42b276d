-- Document 01, "The whole account": a history of calls on one buffer, each step what the function's own contract says of that call,
-- and the claim of demand 3 about every history.
use Rattle.std.specs.Prelude.{◌≡◌, true, List, [], ◌∷◌, map, ℕ, ℤ, Float, length, take, Ok}
use contract.Lifetimes.{Lfts}
use denote.Ref.{Bor, MutBor, at_last}
use Rattle.buffer_state.specs.declared.Accepted.{Accepted}
use Rattle.buffer_state.specs.declared.Head.{Head}
use Rattle.buffer_state.specs.declared.Mode.{Mode}
use Rattle.buffer_state.specs.declared.Offered.{Offered}
use Rattle.buffer_state.specs.declared.Reading.{Reading}
use Rattle.buffer_state.specs.declared.Start.{Start}
use Rattle.buffer_state.specs.Batch.{append_each}
use Rattle.buffer_state.specs.Buffer.{fresh}
use Rattle.buffer_state.specs.Groups.{SparesGroup}
use Rattle.buffer_state.specs.Lent.{Lent, lent_of}
use Rattle.buffer_state.specs.Refusals.{CallResult}
use Rattle.buffer_state.specs.Run.{run, last_of, offers}
use Rattle.buffer_state.specs.Seek.{is_led}
pub use Rattle.account.specs.Account.{IsAccount}
use Rattle.account.specs.Made.{Given, append, remove, abort, set_mode, set_offset, set_window_start, set_window_end, read_settings, track_ranges, common_ranges, batch, walked, seek, Made, calls, entries, AllKept}
use Rattle.settings.proofs.create.Reads as Create
use Rattle.settings.proofs.abort.Reads as Abort
use Rattle.settings.proofs.set_mode.Reads as SetMode
use Rattle.settings.proofs.set_offset.Reads as SetOffset
use Rattle.settings.proofs.set_window_start.Reads as SetWindowStart
use Rattle.settings.proofs.set_window_end.Reads as SetWindowEnd
use Rattle.settings.proofs.read_settings.Reads as ReadSettings
use Rattle.append.proofs.append.Reads as Append
use Rattle.batch.proofs.append_batch.Reads as Batch
use Rattle.remove.proofs.remove.Reads as Remove
use Rattle.ranges.proofs.track_ranges.Reads as TrackRanges
use Rattle.ranges.proofs.common_ranges.Reads as CommonRanges
use Rattle.ranges.proofs.walked.Reads as Walked
use Rattle.seek.proofs.seek.Reads as Seek

-- a reference that only reads, as it is, over what is behind it
abbrev pub over : {A : Type 0} → Bor A → A → Bor A
over x w = record { ref_ptr = x.ref_ptr; now = w }

-- From one state to another by calls, each lent the head and the arrays as the last call left them; a call that only reads is handed the
-- head and leaves all of it. A reference may be any: of those to the head and the arrays, what is behind them is the state's.
pub data From : Lent → List Made → Lent → Type 0 where
  none : {s : Lent} → From s [] s
  by_append : {s t : Lent} {ms : List Made} (head : MutBor Head) (f : Offered) (times : MutBor (List (List ℤ))) (tags lent : MutBor (List (List ℕ)))
      (r : CallResult ℕ) (h : Head) (ts : List (List ℤ)) (gs after : List (List ℕ)) (κs : Lfts 4)
      → Append.Learnt κs (at_last head s.head, (f, (at_last times s.times, (at_last tags s.tags, (lent, tt))))) r
      (at_last head h, (f, (at_last times ts, (at_last tags gs, (at_last lent after, tt)))))
      → From (record { head = h; times = ts; tags = gs }) ms t
      → From s (record { given = append f lent.now; back = record { answer = r; after = after } } ∷ ms) t
  by_remove : {s t : Lent} {ms : List Made} (head : MutBor Head) (start end : Float) (times : MutBor (List (List ℤ))) (tags lent : MutBor (List (List ℕ)))
      (r : CallResult ℕ) (h : Head) (ts : List (List ℤ)) (gs after : List (List ℕ)) (κs : Lfts 4)
      → Remove.Learnt κs (at_last head s.head, (start, (end, (at_last times s.times, (at_last tags s.tags, (lent, tt)))))) r
      (at_last head h, (start, (end, (at_last times ts, (at_last tags gs, (at_last lent after, tt))))))
      → From (record { head = h; times = ts; tags = gs }) ms t
      → From s (record { given = remove start end lent.now; back = record { answer = r; after = after } } ∷ ms) t
  by_abort : {s t : Lent} {ms : List Made} (head : MutBor Head) (times : Bor (List (List ℤ))) (tags : Bor (List (List ℕ))) (r : CallResult (Unit {0})) (h : Head) (κs : Lfts 3)
      → Abort.Learnt κs (at_last head s.head, (over times s.times, (over tags s.tags, tt))) r (at_last head h, (over times s.times, (over tags s.tags, tt)))
      → From (record { head = h; times = s.times; tags = s.tags }) ms t
      → From s (record { given = abort; back = r } ∷ ms) t
  by_mode : {s t : Lent} {ms : List Made} (head : MutBor Head) (m : Mode) (times : Bor (List (List ℤ))) (tags : Bor (List (List ℕ))) (r : CallResult (Unit {0})) (h : Head) (κs : Lfts 3)
      → SetMode.Learnt κs (at_last head s.head, (over times s.times, (over tags s.tags, (m, tt)))) r (at_last head h, (over times s.times, (over tags s.tags, (m, tt))))
      → From (record { head = h; times = s.times; tags = s.tags }) ms t
      → From s (record { given = set_mode m; back = r } ∷ ms) t
  by_offset : {s t : Lent} {ms : List Made} (head : MutBor Head) (x : Float) (times : Bor (List (List ℤ))) (tags : Bor (List (List ℕ))) (r : CallResult (Unit {0})) (h : Head) (κs : Lfts 3)
      → SetOffset.Learnt κs (at_last head s.head, (over times s.times, (over tags s.tags, (x, tt)))) r (at_last head h, (over times s.times, (over tags s.tags, (x, tt))))
      → From (record { head = h; times = s.times; tags = s.tags }) ms t
      → From s (record { given = set_offset x; back = r } ∷ ms) t
  by_window_start : {s t : Lent} {ms : List Made} (head : MutBor Head) (x : Float) (times : Bor (List (List ℤ))) (tags : Bor (List (List ℕ))) (r : CallResult (Unit {0})) (h : Head) (κs : Lfts 3)
      → SetWindowStart.Learnt κs (at_last head s.head, (over times s.times, (over tags s.tags, (x, tt)))) r (at_last head h, (over times s.times, (over tags s.tags, (x, tt))))
      → From (record { head = h; times = s.times; tags = s.tags }) ms t
      → From s (record { given = set_window_start x; back = r } ∷ ms) t
  by_window_end : {s t : Lent} {ms : List Made} (head : MutBor Head) (x : Float) (times : Bor (List (List ℤ))) (tags : Bor (List (List ℕ))) (r : CallResult (Unit {0})) (h : Head) (κs : Lfts 3)
      → SetWindowEnd.Learnt κs (at_last head s.head, (over times s.times, (over tags s.tags, (x, tt)))) r (at_last head h, (over times s.times, (over tags s.tags, (x, tt))))
      → From (record { head = h; times = s.times; tags = s.tags }) ms t
      → From s (record { given = set_window_end x; back = r } ∷ ms) t
  by_reading : {s t : Lent} {ms : List Made} (times : Bor (List (List ℤ))) (tags : Bor (List (List ℕ))) (r : CallResult Reading) (κs : Lfts 2)
      → ReadSettings.Learnt κs (s.head, (over times s.times, (over tags s.tags, tt))) r (s.head, (over times s.times, (over tags s.tags, tt)))
      → From s ms t
      → From s (record { given = read_settings; back = r } ∷ ms) t
  by_track_ranges : {s t : Lent} {ms : List Made} (track : ℕ) (times : Bor (List (List ℤ))) (tags : Bor (List (List ℕ))) (lent : MutBor (List (List ℤ)))
      (r : CallResult ℕ) (after : List (List ℤ)) (κs : Lfts 3)
      → TrackRanges.Learnt κs (s.head, (over times s.times, (over tags s.tags, (track, (lent, tt))))) r
      (s.head, (over times s.times, (over tags s.tags, (track, (at_last lent after, tt)))))
      → From s ms t
      → From s (record { given = track_ranges track lent.now; back = record { answer = r; after = after } } ∷ ms) t
  by_common_ranges : {s t : Lent} {ms : List Made} (times : Bor (List (List ℤ))) (tags : Bor (List (List ℕ))) (lent : MutBor (List (List ℤ)))
      (r : CallResult ℕ) (after : List (List ℤ)) (κs : Lfts 3)
      → CommonRanges.Learnt κs (s.head, (over times s.times, (over tags s.tags, (lent, tt)))) r
      (s.head, (over times s.times, (over tags s.tags, (at_last lent after, tt))))
      → From s ms t
      → From s (record { given = common_ranges lent.now; back = record { answer = r; after = after } } ∷ ms) t
  by_batch : {s t : Lent} {ms : List Made} (head : MutBor Head) (rows : Bor (List (List ℤ))) (times : MutBor (List (List ℤ))) (tags lent : MutBor (List (List ℕ)))
      (r : CallResult Accepted) (h : Head) (ts : List (List ℤ)) (gs after : List (List ℕ)) (κs : Lfts 5)
      → Batch.Learnt κs (at_last head s.head, (rows, (at_last times s.times, (at_last tags s.tags, (lent, tt))))) r
      (at_last head h, (rows, (at_last times ts, (at_last tags gs, (at_last lent after, tt)))))
      → From (record { head = h; times = ts; tags = gs }) ms t
      → From s (record { given = batch rows.now lent.now; back = record { answer = r; after = after } } ∷ ms) t
  by_walk : {s t : Lent} {ms : List Made} (track room : ℕ) (times : Bor (List (List ℤ))) (tags : Bor (List (List ℕ))) (r : CallResult ℕ) (κs : Lfts 2)
      → Walked.Learnt κs (s.head, (over times s.times, (over tags s.tags, (track, (room, tt))))) r
      (s.head, (over times s.times, (over tags s.tags, (track, (room, tt)))))
      → From s ms t
      → From s (record { given = walked track room; back = r } ∷ ms) t
  by_seek : {s u : Lent} {ms : List Made} (track : ℕ) (t : ℤ) (times : Bor (List (List ℤ))) (tags : Bor (List (List ℕ))) (r : CallResult Start) (κs : Lfts 2)
      → Seek.Learnt κs (s.head, (over times s.times, (over tags s.tags, (track, (t, tt))))) r
      (s.head, (over times s.times, (over tags s.tags, (track, (t, tt)))))
      → From s ms u
      → From s (record { given = seek track t; back = r } ∷ ms) u

-- From a creation that was not refused: the kinds, the calls made, the last state. What the arrays held before it is any.
pub data IsHistory : List ℕ → List Made → Lent → Type 0 where
  from : {ms : List Made} {t : Lent} (kinds : Bor (List ℕ)) (times : MutBor (List (List ℤ))) (tags : MutBor (List (List ℕ)))
      (r : CallResult Head) (h : Head) (ts : List (List ℤ)) (gs : List (List ℕ)) (κs : Lfts 3)
      → Create.Learnt κs (kinds, (times, (tags, tt))) r (kinds, (at_last times ts, (at_last tags gs, tt)))
      → r ≡ Ok h
      → From (record { head = h; times = ts; tags = gs }) ms t
      → IsHistory kinds.now ms t

-- THE CLAIM about a history: kinds, calls made, last state. The plain run is fed the kinds and the calls' arguments alone.
pub record Claim (kinds : List ℕ) (ms : List Made) (t : Lent) : Type 0 where
  -- every refusal, every fate list with its causes, every range list and every reading is the run's, of every batch how many frames were
  -- accepted and what stopped it, of every walk how many frames it took, and of every seek its target, its start and how many frames to
  -- decode,
  pub results : entries ms ≡ run (fresh kinds) (calls ms)
  -- and so is the last state
  pub state : t ≡ lent_of (last_of (fresh kinds) (calls ms))
  -- the frames offered and accepted are numbered 1, 2, 3 and so on: after any n calls the last number given is how many there were
  pub numbered : (n : ℕ) → (last_of (fresh kinds) (calls (take n ms))).last ≡ length (offers (entries (take n ms)))
  pub account : IsAccount (entries ms) t
  -- past the count, and after a refusal everywhere, a lent list holds what it held
  pub kept : AllKept ms
  -- after any n calls, and any frames of a batch after them, an append takes out no frame of the group in which its own frame is stored
  pub spared : (n : ℕ) (fs : List Offered) → SparesGroup (append_each fs (last_of (fresh kinds) (calls (take n ms)))).outcome.after
  -- after any n calls, each stored frame that is not flagged has a stored flagged frame of its group and track before it, so that a seek
  -- refused 15 says that no frame of the track covers the instant
  pub led : (n : ℕ) → is_led (last_of (fresh kinds) (calls (take n ms))).frames ≡ true

-- every list of calls, with lists lent that hold whatever they hold, has a history
pub record Happens (kinds : List ℕ) (gs : List Given) : Type 0 where
  pub made : List Made
  pub same : map (λ (m : Made). m.given) made ≡ gs
  pub last : Lent
  pub history : IsHistory kinds made last
