-- A history of exported calls on one buffer, each step what the contract of that call in galumper says, which is its export's
-- (crates/galumper_c/proofs/Exports.antt), and the claim of demand 3 about every such history.
use Rattle.std.specs.Prelude.{◌≡◌, List, [], ◌∷◌, map, ℕ, T, ℤ, Float, Ok, Err}
use contract.Lifetimes.{Lfts}
use denote.Ref.{Bor, MutBor, at_last}
use Rattle.std.specs.Float.{binary64}
use Rattle.std.specs.Float.Ieee.{fits}
use Rattle.buffer_state.specs.Buffer.{Buffer, fresh}
use Rattle.buffer_state.specs.Lent.{Lent, head_of, times_in, tags_in}
use Rattle.buffer_state.specs.Refusals.{CallResult, refusal_number, stop_number}
use Rattle.buffer_state.specs.Run.{Answer, ok, fates, settings, ranges, accepted, taken, decoding, Entry, run, last_of}
use Rattle.account.specs.Made.{calls}
use Rattle.account.specs.History as Account
use Rattle.account.specs.History.{over}
use Rattle.galumper.specs.declared.Answered.{Answered}
use Rattle.galumper.specs.declared.FlatAnswer.{FlatAnswer}
use Rattle.galumper.specs.declared.FlatBatched.{FlatBatched}
use Rattle.galumper.specs.declared.FlatHead.{FlatHead}
use Rattle.galumper.specs.declared.FlatOffered.{FlatOffered}
use Rattle.galumper.specs.declared.FlatStart.{FlatStart}
use Rattle.galumper.specs.declared.Reading.{Reading}
use Rattle.galumper.specs.Flat.{head_in, head_out}
use Rattle.galumper_account.specs.Told.{Ask, append, remove, abort, set_segments, set_sequence, set_offset, set_window_start, set_window_end, read_settings, track_ranges, common_ranges, batch, walked, seek, Told, numbers_in, made}
use Rattle.galumper.proofs.galumper_lent_create.Reads as Create
use Rattle.galumper.proofs.galumper_lent_append.Reads as Append
use Rattle.galumper.proofs.galumper_lent_append_batch.Reads as Batch
use Rattle.galumper.proofs.galumper_lent_remove.Reads as Remove
use Rattle.galumper.proofs.galumper_lent_abort.Reads as Abort
use Rattle.galumper.proofs.galumper_lent_set_segments.Reads as SetSegments
use Rattle.galumper.proofs.galumper_lent_set_sequence.Reads as SetSequence
use Rattle.galumper.proofs.galumper_lent_set_offset.Reads as SetOffset
use Rattle.galumper.proofs.galumper_lent_set_window_start.Reads as SetWindowStart
use Rattle.galumper.proofs.galumper_lent_set_window_end.Reads as SetWindowEnd
use Rattle.galumper.proofs.galumper_lent_read_settings.Reads as ReadSettings
use Rattle.galumper.proofs.galumper_lent_track_ranges.Reads as TrackRanges
use Rattle.galumper.proofs.galumper_lent_common_ranges.Reads as CommonRanges
use Rattle.galumper.proofs.galumper_lent_walked.Reads as Walked
use Rattle.galumper.proofs.galumper_lent_seek.Reads as Seek

-- ---- a buffer as a program holds it

-- the head last handed back, and what the arrays hold
pub record Held : Type 0 where
  pub head : FlatHead
  pub times : List (List ℤ)
  pub tags : List (List ℕ)

-- read in the account's words
abbrev pub lent_in : Held → Lent
lent_in c = record { head = head_in c.head; times = c.times; tags = c.tags }

-- the one that holds a buffer
abbrev pub held_of : Buffer → Held
held_of b = record { head = head_out (head_of b); times = times_in b; tags = tags_in b }

-- ---- the histories

-- From one buffer to another by exported calls, each handed the head last given and lent the arrays as the last call left them.
pub data From : Held → List Told → Held → Type 0 where
  none : {c : Held} → From c [] c
  by_append : {c t : Held} {ms : List Told} (f : FlatOffered) (times : MutBor (List (List ℤ))) (tags lent : MutBor (List (List ℕ)))
      (r : Answered) (ts : List (List ℤ)) (gs after : List (List ℕ)) (κs : Lfts 3)
      → Append.Learnt κs (c.head, (f, (at_last times c.times, (at_last tags c.tags, (lent, tt))))) r
      (c.head, (f, (at_last times ts, (at_last tags gs, (at_last lent after, tt)))))
      → From (record { head = r.head; times = ts; tags = gs }) ms t
      → From c (record { ask = append f lent.now; got = record { answer = r.answer; after = after } } ∷ ms) t
  by_remove : {c t : Held} {ms : List Told} (start end : Float) (times : MutBor (List (List ℤ))) (tags lent : MutBor (List (List ℕ)))
      (r : Answered) (ts : List (List ℤ)) (gs after : List (List ℕ)) (κs : Lfts 3)
      → Remove.Learnt κs (c.head, (start, (end, (at_last times c.times, (at_last tags c.tags, (lent, tt)))))) r
      (c.head, (start, (end, (at_last times ts, (at_last tags gs, (at_last lent after, tt))))))
      → From (record { head = r.head; times = ts; tags = gs }) ms t
      → From c (record { ask = remove start end lent.now; got = record { answer = r.answer; after = after } } ∷ ms) t
  by_abort : {c t : Held} {ms : List Told} (times : Bor (List (List ℤ))) (tags : Bor (List (List ℕ))) (r : Answered) (κs : Lfts 2)
      → Abort.Learnt κs (c.head, (over times c.times, (over tags c.tags, tt))) r (c.head, (over times c.times, (over tags c.tags, tt)))
      → From (record { head = r.head; times = c.times; tags = c.tags }) ms t
      → From c (record { ask = abort; got = r.answer } ∷ ms) t
  by_segments : {c t : Held} {ms : List Told} (times : Bor (List (List ℤ))) (tags : Bor (List (List ℕ))) (r : Answered) (κs : Lfts 2)
      → SetSegments.Learnt κs (c.head, (over times c.times, (over tags c.tags, tt))) r (c.head, (over times c.times, (over tags c.tags, tt)))
      → From (record { head = r.head; times = c.times; tags = c.tags }) ms t
      → From c (record { ask = set_segments; got = r.answer } ∷ ms) t
  by_sequence : {c t : Held} {ms : List Told} (times : Bor (List (List ℤ))) (tags : Bor (List (List ℕ))) (r : Answered) (κs : Lfts 2)
      → SetSequence.Learnt κs (c.head, (over times c.times, (over tags c.tags, tt))) r (c.head, (over times c.times, (over tags c.tags, tt)))
      → From (record { head = r.head; times = c.times; tags = c.tags }) ms t
      → From c (record { ask = set_sequence; got = r.answer } ∷ ms) t
  by_offset : {c t : Held} {ms : List Told} (x : Float) (f : T (fits binary64 x)) (times : Bor (List (List ℤ))) (tags : Bor (List (List ℕ))) (r : Answered) (κs : Lfts 2)
      → SetOffset.Learnt κs (c.head, (over times c.times, (over tags c.tags, (x, tt)))) r (c.head, (over times c.times, (over tags c.tags, (x, tt))))
      → From (record { head = r.head; times = c.times; tags = c.tags }) ms t
      → From c (record { ask = set_offset x f; got = r.answer } ∷ ms) t
  by_window_start : {c t : Held} {ms : List Told} (x : Float) (f : T (fits binary64 x)) (times : Bor (List (List ℤ))) (tags : Bor (List (List ℕ))) (r : Answered) (κs : Lfts 2)
      → SetWindowStart.Learnt κs (c.head, (over times c.times, (over tags c.tags, (x, tt)))) r (c.head, (over times c.times, (over tags c.tags, (x, tt))))
      → From (record { head = r.head; times = c.times; tags = c.tags }) ms t
      → From c (record { ask = set_window_start x f; got = r.answer } ∷ ms) t
  by_window_end : {c t : Held} {ms : List Told} (x : Float) (f : T (fits binary64 x)) (times : Bor (List (List ℤ))) (tags : Bor (List (List ℕ))) (r : Answered) (κs : Lfts 2)
      → SetWindowEnd.Learnt κs (c.head, (over times c.times, (over tags c.tags, (x, tt)))) r (c.head, (over times c.times, (over tags c.tags, (x, tt))))
      → From (record { head = r.head; times = c.times; tags = c.tags }) ms t
      → From c (record { ask = set_window_end x f; got = r.answer } ∷ ms) t
  by_reading : {c t : Held} {ms : List Told} (times : Bor (List (List ℤ))) (tags : Bor (List (List ℕ))) (r : Reading) (κs : Lfts 2)
      → ReadSettings.Learnt κs (c.head, (over times c.times, (over tags c.tags, tt))) r (c.head, (over times c.times, (over tags c.tags, tt)))
      → From c ms t
      → From c (record { ask = read_settings; got = r } ∷ ms) t
  by_track_ranges : {c t : Held} {ms : List Told} (track : ℕ) (times : Bor (List (List ℤ))) (tags : Bor (List (List ℕ))) (lent : MutBor (List (List ℤ)))
      (r : FlatAnswer) (after : List (List ℤ)) (κs : Lfts 3)
      → TrackRanges.Learnt κs (c.head, (over times c.times, (over tags c.tags, (track, (lent, tt))))) r
      (c.head, (over times c.times, (over tags c.tags, (track, (at_last lent after, tt)))))
      → From c ms t
      → From c (record { ask = track_ranges track lent.now; got = record { answer = r; after = after } } ∷ ms) t
  by_common_ranges : {c t : Held} {ms : List Told} (times : Bor (List (List ℤ))) (tags : Bor (List (List ℕ))) (lent : MutBor (List (List ℤ)))
      (r : FlatAnswer) (after : List (List ℤ)) (κs : Lfts 3)
      → CommonRanges.Learnt κs (c.head, (over times c.times, (over tags c.tags, (lent, tt)))) r
      (c.head, (over times c.times, (over tags c.tags, (at_last lent after, tt))))
      → From c ms t
      → From c (record { ask = common_ranges lent.now; got = record { answer = r; after = after } } ∷ ms) t
  by_batch : {c t : Held} {ms : List Told} (rows : Bor (List (List ℤ))) (times : MutBor (List (List ℤ))) (tags lent : MutBor (List (List ℕ)))
      (r : FlatBatched) (ts : List (List ℤ)) (gs after : List (List ℕ)) (κs : Lfts 4)
      → Batch.Learnt κs (c.head, (rows, (at_last times c.times, (at_last tags c.tags, (lent, tt))))) r
      (c.head, (rows, (at_last times ts, (at_last tags gs, (at_last lent after, tt)))))
      → From (record { head = r.head; times = ts; tags = gs }) ms t
      → From c (record { ask = batch rows.now lent.now; got = record { answer = r.answer; after = after } } ∷ ms) t
  by_walk : {c t : Held} {ms : List Told} (track room : ℕ) (times : Bor (List (List ℤ))) (tags : Bor (List (List ℕ))) (r : FlatAnswer) (κs : Lfts 2)
      → Walked.Learnt κs (c.head, (over times c.times, (over tags c.tags, (track, (room, tt))))) r
      (c.head, (over times c.times, (over tags c.tags, (track, (room, tt)))))
      → From c ms t
      → From c (record { ask = walked track room; got = r } ∷ ms) t
  by_seek : {c t : Held} {ms : List Told} (track : ℕ) (instant : ℤ) (times : Bor (List (List ℤ))) (tags : Bor (List (List ℕ))) (r : FlatStart) (κs : Lfts 2)
      → Seek.Learnt κs (c.head, (over times c.times, (over tags c.tags, (track, (instant, tt))))) r
      (c.head, (over times c.times, (over tags c.tags, (track, (instant, tt)))))
      → From c ms t
      → From c (record { ask = seek track instant; got = r } ∷ ms) t

-- From a creation that was not refused: the kinds, the calls with their answers, the last buffer. What the arrays held before is any.
pub data IsHistory : List ℕ → List Told → Held → Type 0 where
  from : {ms : List Told} {t : Held} (kinds : Bor (List ℕ)) (times : MutBor (List (List ℤ))) (tags : MutBor (List (List ℕ)))
      (r : Answered) (ts : List (List ℤ)) (gs : List (List ℕ)) (κs : Lfts 3)
      → Create.Learnt κs (kinds, (times, (tags, tt))) r (kinds, (at_last times ts, (at_last tags gs, tt)))
      → r.answer.refusal ≡ 0
      → From (record { head = r.head; times = ts; tags = gs }) ms t
      → IsHistory kinds.now ms t

-- ---- the claim

-- The numbers of a result of the run: of its refusal, 0 where there is none; of the one that stopped a batch, 0 where there is none, or how
-- many frames a walk took or a seek found to decode.
abbrev pub result_numbers : CallResult Answer → List ℕ
result_numbers (Err why) = refusal_number why ∷ 0 ∷ []
result_numbers (Ok ok) = 0 ∷ 0 ∷ []
result_numbers (Ok (fates ls)) = 0 ∷ 0 ∷ []
result_numbers (Ok (settings r)) = 0 ∷ 0 ∷ []
result_numbers (Ok (ranges rs)) = 0 ∷ 0 ∷ []
result_numbers (Ok (accepted n stop ls)) = 0 ∷ stop_number stop ∷ []
result_numbers (Ok (taken n)) = 0 ∷ n ∷ []
result_numbers (Ok (decoding s)) = 0 ∷ s.count ∷ []

-- THE CLAIM about a history of exported calls.
pub record Claim (kinds : List ℕ) (ms : List Told) (t : Held) : Type 0 where
  -- it is the plain run: results, last state, numbers given, account, lists kept
  pub claim : Account.Claim kinds (map made ms) (lent_in t)
  -- every refusal number that was answered is that of the run's refusal, and 0 where the run has none; every number of frames that a walk
  -- took or a seek found to decode is the run's
  pub numbers : map (λ (m : Told). numbers_in m.ask m.got) ms
      ≡ map (λ (e : Entry). result_numbers e.result) (run (fresh kinds) (calls (map made ms)))
  -- the buffer in the program's hands is the run's last one laid out, every bit of it
  pub buffer : t ≡ held_of (last_of (fresh kinds) (calls (map made ms)))

-- every list of exported calls, with lists lent that hold whatever they hold, has a history
pub record Happens (kinds : List ℕ) (asks : List Ask) : Type 0 where
  pub told : List Told
  pub same : map (λ (m : Told). m.ask) told ≡ asks
  pub last : Held
  pub history : IsHistory kinds told last
