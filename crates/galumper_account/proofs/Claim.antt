-- The claim of demand 3 for the exported calls: every history of them is a history of the library's own, read in the account's words,
-- so that the claim of the crate account holds of it. Every list of exported calls has a history, no exported call asks anything of its
-- caller, and the running code meets the contracts of which a history is made.
use Rattle.std.specs.Prelude.{Ok, Err}
use mathlib.Core.Path.{◌≡◌, refl, sym, ap, subst, ◌∙◌}
use mathlib.Core.List.{List, [], ◌∷◌, map}
use Prim.Native.Nat.{ℕ}
use contract.Lifetimes.{Lfts}
use denote.Ref.{Bor, MutBor}
use lib.IntN.{ℤ}
use lib.Ieee.{Float}
use lib.ListN.{length}
use Rattle.buffer_state.specs.declared.Accepted.{Accepted}
use Rattle.buffer_state.specs.declared.Mode.TheVariants.{Segments, Sequence}
use Rattle.buffer_state.specs.Answers.{created, times_created, tags_created, times_after, tags_after, list_after, outcome_of, abort_result, mode_result, offset_result, window_start_result, window_end_result, settings_result, range_count, ranges_after, track_ranges_result, common_ranges_result, walked_result, seek_result}
use Rattle.buffer_state.specs.Buffer.{Buffer, fresh}
use Rattle.buffer_state.specs.Layout.{buffer_of}
use Rattle.buffer_state.specs.Lent.{Lent, state_at}
use Rattle.buffer_state.specs.Refusals.{CallResult, stop_number}
use Rattle.buffer_state.specs.declared.Head.{Head}
use Rattle.buffer_state.specs.declared.Reading as Settings
use Rattle.buffer_state.specs.Run.{Answer, taken, settings, decoding, Entry, stored_on}
use Rattle.buffer_state.specs.declared.Start.{Start}
use Rattle.buffer_state.specs.Settings.{create}
use Rattle.seek.specs.Places.{Within}
use Rattle.seek.proofs.CallLaws.{seek-within}
use Rattle.account.specs.Made.{Listed, told, lines_of, joined_of, ranges_of, done_of, result_of, entries}
use Rattle.account.specs.History as Account
use Rattle.account.proofs.Claim.{every-history, lend, lend_mut, two, three, four}
use Rattle.galumper.specs.declared.Answered.{Answered}
use Rattle.galumper.specs.declared.FlatAnswer.{FlatAnswer}
use Rattle.galumper.specs.declared.FlatBatched.{FlatBatched}
use Rattle.galumper.specs.declared.FlatHead.{FlatHead}
use Rattle.galumper.specs.declared.FlatOffered.{FlatOffered}
use Rattle.galumper.specs.declared.FlatStart.{FlatStart}
use Rattle.galumper.specs.declared.Reading.{Reading}
use Rattle.galumper.specs.Calls.{outcome_out, handed_back, created_out, append_flat, remove_flat, batch_flat, batch_out, report_out, start_out, reading_out}
use Rattle.galumper.specs.Flat.{head_in, head_out, offered_in}
use Rattle.galumper.proofs.CallLaws.{start-few}
use Rattle.galumper_account.specs.Told.{Ask, append, remove, abort, set_segments, set_sequence, set_offset, set_window_start, set_window_end, read_settings, track_ranges, common_ranges, batch, walked, seek, Got, Told, numbers_in, by_number, count_of, accepted_of, read_of, start_of, given, back, made}
use Rattle.galumper_account.specs.History.{Held, lent_in, From, none, by_append, by_remove, by_abort, by_segments, by_sequence, by_offset, by_window_start, by_window_end, by_reading, by_track_ranges, by_common_ranges, by_batch, by_walk, by_seek, IsHistory, from, result_numbers, Claim, Happens}
use Rattle.galumper_account.specs.Told as Numbers
use Rattle.galumper_account.proofs.ReadLaws.{numbers, number, Reports, report-read, Starts, start-read, Reads, reading-read, IsSound, Counts, Accepts, Changes}
use Rattle.galumper_account.proofs.StepLaws.{creation, batching, appending, removing, aborting, mode-setting, offset-setting, window-start-setting, window_end-setting}
use Rattle.galumper.proofs.galumper_lent_create.Reads as Create
use Rattle.galumper.proofs.galumper_lent_append.Reads as Append
use Rattle.galumper.proofs.galumper_lent_append_batch.Reads as Batch
use Rattle.galumper.proofs.galumper_lent_remove.Reads as Remove
use Rattle.galumper.proofs.galumper_lent_abort.Reads as Abort
use Rattle.galumper.proofs.galumper_lent_set_segments.Reads as SetSegments
use Rattle.galumper.proofs.galumper_lent_set_sequence.Reads as SetSequence
use Rattle.galumper.proofs.galumper_lent_set_offset.Reads as SetOffset
use Rattle.galumper.proofs.galumper_lent_set_window_start.Reads as SetWindowStart
use Rattle.galumper.proofs.galumper_lent_set_window_end.Reads as SetWindowEnd
use Rattle.galumper.proofs.galumper_lent_read_settings.Reads as ReadSettings
use Rattle.galumper.proofs.galumper_lent_track_ranges.Reads as TrackRanges
use Rattle.galumper.proofs.galumper_lent_common_ranges.Reads as CommonRanges
use Rattle.galumper.proofs.galumper_lent_walked.Reads as Walked
use Rattle.galumper.proofs.galumper_lent_seek.Reads as Seek
use Rattle.galumper.proofs.galumper_lent_create.Statement as CreateSays
use Rattle.galumper.proofs.galumper_lent_append.Statement as AppendSays
use Rattle.galumper.proofs.galumper_lent_append_batch.Statement as BatchSays
use Rattle.galumper.proofs.galumper_lent_remove.Statement as RemoveSays
use Rattle.galumper.proofs.galumper_lent_abort.Statement as AbortSays
use Rattle.galumper.proofs.galumper_lent_set_segments.Statement as SetSegmentsSays
use Rattle.galumper.proofs.galumper_lent_set_sequence.Statement as SetSequenceSays
use Rattle.galumper.proofs.galumper_lent_set_offset.Statement as SetOffsetSays
use Rattle.galumper.proofs.galumper_lent_set_window_start.Statement as SetWindowStartSays
use Rattle.galumper.proofs.galumper_lent_set_window_end.Statement as SetWindowEndSays
use Rattle.galumper.proofs.galumper_lent_read_settings.Statement as ReadSettingsSays
use Rattle.galumper.proofs.galumper_lent_track_ranges.Statement as TrackRangesSays
use Rattle.galumper.proofs.galumper_lent_common_ranges.Statement as CommonRangesSays
use Rattle.galumper.proofs.galumper_lent_walked.Statement as WalkedSays
use Rattle.galumper.proofs.galumper_lent_seek.Statement as SeekSays
use Rattle.galumper.proofs.galumper_lent_create.Met as CreateMet
use Rattle.galumper.proofs.galumper_lent_append.Met as AppendMet
use Rattle.galumper.proofs.galumper_lent_append_batch.Met as BatchMet
use Rattle.galumper.proofs.galumper_lent_remove.Met as RemoveMet
use Rattle.galumper.proofs.galumper_lent_abort.Met as AbortMet
use Rattle.galumper.proofs.galumper_lent_set_segments.Met as SetSegmentsMet
use Rattle.galumper.proofs.galumper_lent_set_sequence.Met as SetSequenceMet
use Rattle.galumper.proofs.galumper_lent_set_offset.Met as SetOffsetMet
use Rattle.galumper.proofs.galumper_lent_set_window_start.Met as SetWindowStartMet
use Rattle.galumper.proofs.galumper_lent_set_window_end.Met as SetWindowEndMet
use Rattle.galumper.proofs.galumper_lent_read_settings.Met as ReadSettingsMet
use Rattle.galumper.proofs.galumper_lent_track_ranges.Met as TrackRangesMet
use Rattle.galumper.proofs.galumper_lent_common_ranges.Met as CommonRangesMet
use Rattle.galumper.proofs.galumper_lent_walked.Met as WalkedMet
use Rattle.galumper.proofs.galumper_lent_seek.Met as SeekMet

-- ---- the numbers of an answer are those of its result

told-numbers : {R : Type 0} (say : R → Answer) (more : R → ℕ) → ((x : R) → result_numbers (Ok (say x)) ≡ 0 ∷ more x ∷ [])
    → (r : CallResult R) → result_numbers (told say r) ≡ numbers more r
told-numbers say more e (Err why) = refl
told-numbers say more e (Ok x) = e x

told-number : {R : Type 0} (say : R → Answer) → ((x : R) → result_numbers (Ok (say x)) ≡ 0 ∷ 0 ∷ []) → (r : CallResult R) → result_numbers (told say r) ≡ number r
told-number say e (Err why) = refl
told-number say e (Ok x) = e x

-- ---- every history of exported calls is one of the library's

abbrev numbers_of : List Told → List (List ℕ)
numbers_of = map (λ (m : Told). numbers_in m.ask m.got)

abbrev results_of : List Told → List (List ℕ)
results_of ms = map (λ (e : Entry). result_numbers e.result) (entries (map made ms))

record Follows (c : Held) (ms : List Told) (t : Held) : Type 0 where
  pub steps : Account.From (lent_in c) (map made ms) (lent_in t)
  pub numbers : numbers_of ms ≡ results_of ms
  pub laid : head_out (head_in t.head) ≡ t.head

-- one call before the others
one : {c d t : Held} {a : Ask} {g : Got a} {ms : List Told}
    → numbers_in a g ≡ result_numbers (result_of (given a) (back a g))
    → (Account.From (lent_in d) (map made ms) (lent_in t) → Account.From (lent_in c) (made (record { ask = a; got = g }) ∷ map made ms) (lent_in t))
    → Follows d ms t → Follows c (record { ask = a; got = g } ∷ ms) t
one number step rest = record {
  steps = step rest.steps;
  numbers = λ i. number i ∷ rest.numbers i;
  laid = rest.laid;
}

-- the numbers that a call answered, by what the library's call answers
counting : {n : CallResult ℕ} {h : Head} (r : Answered) (after : List (List ℕ)) → Counts n h r
    → r.answer.refusal ∷ 0 ∷ [] ≡ result_numbers (lines_of (record { answer = count_of r.answer; after = after }))
counting r after o = o.number ∙ sym (ap number o.same) ∙ sym (told-number _ (λ n. refl) (count_of r.answer))

accepting : {n : CallResult Accepted} {h : Head} (r : FlatBatched) (after : List (List ℕ)) → Accepts n h r
    → r.answer.refusal ∷ r.answer.stop ∷ [] ≡ result_numbers (joined_of (record { answer = accepted_of r.answer; after = after }))
accepting r after o =
    let more : Accepted → ℕ = λ a. stop_number a.stop in
    o.numbers ∙ sym (ap (numbers more) o.same) ∙ sym (told-numbers _ more (λ a. refl) (accepted_of r.answer))

reporting : {n : CallResult ℕ} (r : FlatAnswer) (after : List (List ℤ)) → Reports n r
    → r.refusal ∷ 0 ∷ [] ≡ result_numbers (ranges_of (record { answer = count_of r; after = after }))
reporting r after o = o.number ∙ sym (ap number o.same) ∙ sym (told-number _ (λ n. refl) (count_of r))

walking : {n : CallResult ℕ} (r : FlatAnswer) → Reports n r → r.refusal ∷ r.count ∷ [] ≡ result_numbers (told taken (count_of r))
walking r o = o.numbers ∙ sym (ap (numbers (λ (k : ℕ). k)) o.same) ∙ sym (told-numbers taken (λ k. k) (λ n. refl) (count_of r))

seeking : {n : CallResult Start} (r : FlatStart) → Starts n r → r.refusal ∷ r.count ∷ [] ≡ result_numbers (told decoding (start_of r))
seeking r o =
    let more : Start → ℕ = λ s. s.count in
    o.numbers ∙ sym (ap (numbers more) o.same) ∙ sym (told-numbers decoding more (λ s. refl) (start_of r))

reading : {n : CallResult Settings.Reading} (r : Reading) → Reads n r → r.refusal ∷ 0 ∷ [] ≡ result_numbers (told settings (read_of r))
reading r o = o.number ∙ sym (ap number o.same) ∙ sym (told-number settings (λ x. refl) (read_of r))

changing : {n : CallResult (Unit {0})} {h : Head} (r : Answered) → Changes n h r → r.answer.refusal ∷ 0 ∷ [] ≡ result_numbers (done_of (Numbers.done_of r.answer))
changing r o = o.number ∙ sym (ap number o.same) ∙ sym (told-number _ (λ u. refl) (Numbers.done_of r.answer))

-- some reference to the head that a flat head is read as
abbrev lend_head : FlatHead → MutBor Head
lend_head c = lend_mut (head_in c)

follows : {c t : Held} {ms : List Told} → IsSound c.head → From c ms t → Follows c ms t
follows s none = record { steps = Account.none; numbers = refl; laid = s.laid }
follows {c} s (by_append f times tags lent r ts gs after κs h k) =
    let o = appending c.head c.times c.tags s r (length lent.now) f h.0 in
    one (counting r after o)
    (λ rest. Account.by_append (lend_head c.head) (offered_in f) times tags lent (count_of r.answer) (head_in r.head) ts gs after ([], κs) (o.same, (o.head, h.1)) rest)
    (follows o.sound k)
follows {c} s (by_remove start end times tags lent r ts gs after κs h k) =
    let o = removing c.head c.times c.tags s r (length lent.now) start end h.0 in
    one (counting r after o)
    (λ rest. Account.by_remove (lend_head c.head) start end times tags lent (count_of r.answer) (head_in r.head) ts gs after ([], κs) (o.same, (o.head, h.1)) rest)
    (follows o.sound k)
follows {c} s (by_abort times tags r κs h k) =
    let o = aborting c.head c.times c.tags s r h in
    one (changing r o)
    (λ rest. Account.by_abort (lend_head c.head) times tags (Numbers.done_of r.answer) (head_in r.head) ([], κs) (o.same, o.head) rest)
    (follows o.sound k)
follows {c} s (by_segments times tags r κs h k) =
    let o = mode-setting c.head c.times c.tags s r Segments h in
    one (changing r o)
    (λ rest. Account.by_mode (lend_head c.head) Segments times tags (Numbers.done_of r.answer) (head_in r.head) ([], κs) (o.same, o.head) rest)
    (follows o.sound k)
follows {c} s (by_sequence times tags r κs h k) =
    let o = mode-setting c.head c.times c.tags s r Sequence h in
    one (changing r o)
    (λ rest. Account.by_mode (lend_head c.head) Sequence times tags (Numbers.done_of r.answer) (head_in r.head) ([], κs) (o.same, o.head) rest)
    (follows o.sound k)
follows {c} s (by_offset x f times tags r κs h k) =
    let o = offset-setting c.head c.times c.tags s r x f h in
    one (changing r o)
    (λ rest. Account.by_offset (lend_head c.head) x times tags (Numbers.done_of r.answer) (head_in r.head) ([], κs) (o.same, o.head) rest)
    (follows o.sound k)
follows {c} s (by_window_start x f times tags r κs h k) =
    let o = window-start-setting c.head c.times c.tags s r x f h in
    one (changing r o)
    (λ rest. Account.by_window_start (lend_head c.head) x times tags (Numbers.done_of r.answer) (head_in r.head) ([], κs) (o.same, o.head) rest)
    (follows o.sound k)
follows {c} s (by_window_end x f times tags r κs h k) =
    let o = window_end-setting c.head c.times c.tags s r x f h in
    one (changing r o)
    (λ rest. Account.by_window_end (lend_head c.head) x times tags (Numbers.done_of r.answer) (head_in r.head) ([], κs) (o.same, o.head) rest)
    (follows o.sound k)
follows {c} s (by_reading times tags r κs h k) =
    let o : Reads (settings_result (head_in c.head) c.times c.tags) r = rw h (reading-read _) in
    one (reading r o)
    (λ rest. Account.by_reading times tags (read_of r) κs o.same rest)
    (follows s k)
follows {c} s (by_track_ranges track times tags lent r after κs h k) =
    let x = track_ranges_result (length lent.now) track (head_in c.head) c.times c.tags in
    let o : Reports (range_count x) r = rw h.0 (report-read (range_count x)) in
    one (reporting r after o)
    (λ rest. Account.by_track_ranges track times tags lent (count_of r) after κs (record { answer = o.same; list = h.1 }) rest)
    (follows s k)
follows {c} s (by_common_ranges times tags lent r after κs h k) =
    let x = common_ranges_result (length lent.now) (head_in c.head) c.times c.tags in
    let o : Reports (range_count x) r = rw h.0 (report-read (range_count x)) in
    one (reporting r after o)
    (λ rest. Account.by_common_ranges times tags lent (count_of r) after κs (record { answer = o.same; list = h.1 }) rest)
    (follows s k)
follows {c} s (by_batch rows times tags lent r ts gs after κs h k) =
    let o = batching c.head c.times c.tags s r (length lent.now) rows.now h.0 in
    one (accepting r after o)
    (λ rest. Account.by_batch (lend_head c.head) rows times tags lent (accepted_of r.answer) (head_in r.head) ts gs after ([], κs) (o.same, (o.head, h.1)) rest)
    (follows o.sound k)
follows {c} s (by_walk track room times tags r κs h k) =
    let n = walked_result room track (head_in c.head) c.times c.tags in
    let o : Reports n r = rw h (report-read n) in
    one (walking r o)
    (λ rest. Account.by_walk track room times tags (count_of r) κs o.same rest)
    (follows s k)
follows {c} s (by_seek track t times tags r κs h k) =
    let read = head_in c.head in
    let n = seek_result track t read c.times c.tags in
    let o : Starts n r = rw h.0 (start-read n) in
    let few = subst (Within (stored_on track (buffer_of (state_at read c.times c.tags)))) (sym o.same) (seek-within track t read c.times c.tags) in
    one (seeking r o)
    (λ rest. Account.by_seek track t times tags (start_of r) κs (o.same, few) rest)
    (follows s k)

-- ---- THE THEOREM

pub every-exported-history : {kinds : List ℕ} {ms : List Told} {t : Held} → IsHistory kinds ms t → Claim kinds ms t
every-exported-history {kinds} {ms} {t} (from lent times tags r ts gs κs h accepted k) =
    let o = creation kinds r h.0 in
    let f = follows o.sound k in
    let head = head_in r.head in
    let done : by_number r.answer.refusal head ≡ Ok head = ap (λ (n : ℕ). by_number n head) accepted in
    let claim = every-history (Account.from lent times tags (by_number r.answer.refusal head) head ts gs κs (o.same, h.1) done f.steps) in
    record {
      claim = claim;
      numbers = f.numbers ∙ ap (map (λ (e : Entry). result_numbers e.result)) claim.results;
      buffer = λ i. record {
        head = (sym f.laid ∙ ap (λ (s : Lent). head_out s.head) claim.state) i;
        times = (claim.state i).times;
        tags = (claim.state i).tags;
      };
    }

-- ---- it is not vacuous: every list of exported calls on every buffer created has a history

record Onward (c : Held) (asks : List Ask) : Type 0 where
  pub told : List Told
  pub same : map (λ (m : Told). m.ask) told ≡ asks
  pub last : Held
  pub steps : From c told last

-- one call, then the others
first : {c d : Held} {a : Ask} {g : Got a} {asks : List Ask}
    → ((ms : List Told) (t : Held) → From d ms t → From c (record { ask = a; got = g } ∷ ms) t)
    → Onward d asks → Onward c (a ∷ asks)
first {a = a} step o = record {
  told = _;
  same = ap (λ (l : List Ask). a ∷ l) o.same;
  last = o.last;
  steps = step o.told o.last o.steps;
}

-- the buffer under another head
abbrev under : Held → Answered → Held
under c r = record { head = r.head; times = c.times; tags = c.tags }

onward : (c : Held) (asks : List Ask) → Onward c asks
onward c [] = record { told = []; same = refl; last = c; steps = none }
onward c (append f l ∷ asks) =
    let x = append_flat (length l) f c.head c.times c.tags in
    let r = outcome_out c.head x in
    let d : Held = record { head = r.head; times = times_after x c.times; tags = tags_after x c.tags } in
    first {d = d} (λ ms t k. by_append f (lend_mut c.times) (lend_mut c.tags) (lend_mut l) r d.times d.tags (list_after x l) three (refl, (refl, (refl, refl))) k) (onward d asks)
onward c (remove start end l ∷ asks) =
    let x = remove_flat (length l) start end c.head c.times c.tags in
    let r = outcome_out c.head x in
    let d : Held = record { head = r.head; times = times_after x c.times; tags = tags_after x c.tags } in
    first {d = d} (λ ms t k. by_remove start end (lend_mut c.times) (lend_mut c.tags) (lend_mut l) r d.times d.tags (list_after x l) three (refl, (refl, (refl, refl))) k) (onward d asks)
onward c (abort ∷ asks) =
    let r = handed_back c.head (abort_result (head_in c.head) c.times c.tags) in
    first {d = under c r} (λ ms t k. by_abort (lend c.times) (lend c.tags) r two refl k) (onward (under c r) asks)
onward c (set_segments ∷ asks) =
    let r = handed_back c.head (mode_result Segments (head_in c.head) c.times c.tags) in
    first {d = under c r} (λ ms t k. by_segments (lend c.times) (lend c.tags) r two refl k) (onward (under c r) asks)
onward c (set_sequence ∷ asks) =
    let r = handed_back c.head (mode_result Sequence (head_in c.head) c.times c.tags) in
    first {d = under c r} (λ ms t k. by_sequence (lend c.times) (lend c.tags) r two refl k) (onward (under c r) asks)
onward c (set_offset x f ∷ asks) =
    let r = handed_back c.head (offset_result x (head_in c.head) c.times c.tags) in
    first {d = under c r} (λ ms t k. by_offset x f (lend c.times) (lend c.tags) r two refl k) (onward (under c r) asks)
onward c (set_window_start x f ∷ asks) =
    let r = handed_back c.head (window_start_result x (head_in c.head) c.times c.tags) in
    first {d = under c r} (λ ms t k. by_window_start x f (lend c.times) (lend c.tags) r two refl k) (onward (under c r) asks)
onward c (set_window_end x f ∷ asks) =
    let r = handed_back c.head (window_end_result x (head_in c.head) c.times c.tags) in
    first {d = under c r} (λ ms t k. by_window_end x f (lend c.times) (lend c.tags) r two refl k) (onward (under c r) asks)
onward c (read_settings ∷ asks) =
    let r = reading_out (settings_result (head_in c.head) c.times c.tags) in
    first {d = c} (λ ms t k. by_reading (lend c.times) (lend c.tags) r two refl k) (onward c asks)
onward c (track_ranges track l ∷ asks) =
    let x = track_ranges_result (length l) track (head_in c.head) c.times c.tags in
    first {d = c} (λ ms t k. by_track_ranges track (lend c.times) (lend c.tags) (lend_mut l) (report_out (range_count x)) (ranges_after x l) three (refl, refl) k) (onward c asks)
onward c (common_ranges l ∷ asks) =
    let x = common_ranges_result (length l) (head_in c.head) c.times c.tags in
    first {d = c} (λ ms t k. by_common_ranges (lend c.times) (lend c.tags) (lend_mut l) (report_out (range_count x)) (ranges_after x l) three (refl, refl) k) (onward c asks)
onward c (batch rows l ∷ asks) =
    let x = batch_flat (length l) rows c.head c.times c.tags in
    let o = outcome_of x in
    let r = batch_out c.head x in
    let d : Held = record { head = r.head; times = times_after o c.times; tags = tags_after o c.tags } in
    first {d = d} (λ ms t k. by_batch (lend rows) (lend_mut c.times) (lend_mut c.tags) (lend_mut l) r d.times d.tags (list_after o l) four (refl, (refl, (refl, refl))) k) (onward d asks)
onward c (walked track room ∷ asks) =
    let r = report_out (walked_result room track (head_in c.head) c.times c.tags) in
    first {d = c} (λ ms t k. by_walk track room (lend c.times) (lend c.tags) r two refl k) (onward c asks)
onward c (seek track instant ∷ asks) =
    let read = head_in c.head in
    let x = seek_result track instant read c.times c.tags in
    let few = start-few (stored_on track (buffer_of (state_at read c.times c.tags))) x (seek-within track instant read c.times c.tags) in
    first {d = c} (λ ms t k. by_seek track instant (lend c.times) (lend c.tags) (start_out x) two (refl, few) k) (onward c asks)

-- whatever the arrays held before the creation
pub some-exported-history : (kinds : List ℕ) (ts : List (List ℤ)) (gs : List (List ℕ)) (asks : List Ask) → create kinds ≡ Ok (fresh kinds) → Happens kinds asks
some-exported-history kinds ts gs asks made =
    let r = created_out (create kinds) in
    let o = onward (record { head = r.head; times = times_created (create kinds) ts; tags = tags_created (create kinds) gs }) asks in
    record {
      told = o.told;
      same = o.same;
      last = o.last;
      history = from (lend kinds) (lend_mut ts) (lend_mut gs) r (times_created (create kinds) ts) (tags_created (create kinds) gs) three (refl, (refl, refl))
          (ap (λ (x : CallResult Buffer). (created_out x).answer.refusal) made) o.steps;
    }

-- ---- it has no hidden door

-- no exported call asks anything of its caller
pub exported-free : (κs : Lfts 2) (λs : Lfts 3) (μs : Lfts 4) (c : FlatHead) (f : FlatOffered) (x y : Float) (track room : ℕ) (instant : ℤ) (kinds : Bor (List ℕ))
    (times : Bor (List (List ℤ))) (tags : Bor (List (List ℕ))) (rows : Bor (List (List ℤ)))
    (timesMut : MutBor (List (List ℤ))) (tagsMut fates : MutBor (List (List ℕ))) (list : MutBor (List (List ℤ)))
    → Create.Asked λs (kinds, (timesMut, (tagsMut, tt))) × Append.Asked λs (c, (f, (timesMut, (tagsMut, (fates, tt)))))
    × Remove.Asked λs (c, (x, (y, (timesMut, (tagsMut, (fates, tt)))))) × Abort.Asked κs (c, (times, (tags, tt)))
    × SetSegments.Asked κs (c, (times, (tags, tt))) × SetSequence.Asked κs (c, (times, (tags, tt)))
    × SetOffset.Asked κs (c, (times, (tags, (x, tt)))) × SetWindowStart.Asked κs (c, (times, (tags, (x, tt))))
    × SetWindowEnd.Asked κs (c, (times, (tags, (x, tt)))) × ReadSettings.Asked κs (c, (times, (tags, tt)))
    × TrackRanges.Asked λs (c, (times, (tags, (track, (list, tt))))) × CommonRanges.Asked λs (c, (times, (tags, (list, tt))))
    × Batch.Asked μs (c, (rows, (timesMut, (tagsMut, (fates, tt))))) × Walked.Asked κs (c, (times, (tags, (track, (room, tt)))))
    × Seek.Asked κs (c, (times, (tags, (track, (instant, tt)))))
exported-free κs λs μs c f x y track room instant kinds times tags rows timesMut tagsMut fates list = (tt, tt, tt, tt, tt, tt, tt, tt, tt, tt, tt, tt, tt, tt, tt)

-- the running code meets the contracts of which a history is made
pub exported-code-meets : {M : Type 1}
    → CreateSays.statement M × AppendSays.statement M × RemoveSays.statement M × AbortSays.statement M
    × SetSegmentsSays.statement M × SetSequenceSays.statement M × SetOffsetSays.statement M × SetWindowStartSays.statement M
    × SetWindowEndSays.statement M × ReadSettingsSays.statement M × TrackRangesSays.statement M × CommonRangesSays.statement M
    × BatchSays.statement M × WalkedSays.statement M × SeekSays.statement M
exported-code-meets = (CreateMet.met, AppendMet.met, RemoveMet.met, AbortMet.met, SetSegmentsMet.met, SetSequenceMet.met, SetOffsetMet.met, SetWindowStartMet.met, SetWindowEndMet.met, ReadSettingsMet.met, TrackRangesMet.met, CommonRangesMet.met, BatchMet.met, WalkedMet.met, SeekMet.met)
