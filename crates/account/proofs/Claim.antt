-- The claim of demand 3, for every history; that every list of calls has a history; that no call asks anything of its caller; and that
-- the running code meets the contracts of which a history is made.
use Rattle.std.specs.Prelude.{Ok, is_ok}
use Rattle.std.specs.Result.{result_unwrap_or}
use mathlib.Core.Path.{◌≡◌, refl, sym, ap, ◌∙◌}
use mathlib.Core.Bool.{Bool, true, false, not, ◌||◌}
use mathlib.Core.List.{List, [], ◌∷◌, map}
use Prim.Native.Nat.{ℕ, zero, suc}
use native.Mathlib.Nat.{zero-add}
use contract.Lifetimes.{Lfts}
use denote.Ref.{Bor, MutBor}
use lib.Dec.{ltb, eqb}
use lib.IntN.{ℤ}
use lib.Ieee.{Float}
use lib.ListN.{length, take}
use Rattle.laws.proofs.BoolLaws.{clash, by-test}
use Rattle.laws.proofs.ListLaws.{take-map}
use Rattle.buffer_state.specs.declared.Head.{Head}
use Rattle.buffer_state.specs.declared.Mode.{Mode}
use Rattle.buffer_state.specs.declared.Offered.{Offered}
use Rattle.buffer_state.specs.Answers.{created, times_created, tags_created, set_answer, head_set, abort_result, mode_result, offset_result, window_start_result, window_end_result, settings_result, line_count, head_after, times_after, tags_after, list_after, append_result, remove_result, batch_answer, outcome_of, batch_result, range_count, ranges_after, track_ranges_result, common_ranges_result, walked_result, seek_result}
use Rattle.buffer_state.specs.Append.{Outcome}
use Rattle.buffer_state.specs.Batch.{offered_in}
use Rattle.buffer_state.specs.Buffer.{Buffer, fresh}
use Rattle.buffer_state.specs.Lent.{Lent, head_of, lent_of, buffer_in}
use Rattle.buffer_state.specs.Limits.{most_tracks, known_kind}
use Rattle.buffer_state.specs.Refusals.{CallResult}
use Rattle.buffer_state.specs.Run.{Call, reply_to, run, last_of, offers, on_offered}
use Rattle.buffer_state.specs.Settings.{create}
use Rattle.buffer_state.specs.WellFormed.{all_of, good_buffer}
use Rattle.buffer_laws.proofs.AccountLaws.{found-once, tracks-balance}
use Rattle.buffer_laws.proofs.GoodLaws.{IsGood, good-facts, facts-good}
use Rattle.buffer_laws.proofs.GroupLaws.{own-group-spared}
use Rattle.buffer_laws.proofs.LedLaws.{run-led}
use Rattle.buffer_laws.proofs.LentLaws.{held_back}
use Rattle.buffer_laws.proofs.RunLaws.{reply-lawful, run-lawful}
use Rattle.buffer_laws.proofs.SettingLaws.{created-good}
use Rattle.buffer_laws.proofs.TestLaws.{all_none}
use Rattle.seek.proofs.CallLaws.{seek-within}
use Rattle.account.specs.Made.{Given, append, remove, abort, set_mode, set_offset, set_window_start, set_window_end, read_settings, track_ranges, common_ranges, batch, walked, seek, asked_call, Back, Made, calls, entries, AllKept}
use Rattle.account.specs.History.{From, none, by_append, by_remove, by_abort, by_mode, by_offset, by_window_start, by_window_end, by_reading, by_track_ranges, by_common_ranges, by_batch, by_walk, by_seek, IsHistory, from, IsAccount, Claim, Happens}
use Rattle.account.proofs.StepLaws.{Agrees, append-agrees, remove-agrees, abort-agrees, mode-agrees, offset-agrees, window-start-agrees, window_end-agrees, reading-agrees, track_ranges-agrees, common_ranges-agrees, batch-agrees, walked-agrees, seek-agrees}
use Rattle.settings.proofs.create.Reads as Create
use Rattle.settings.proofs.abort.Reads as Abort
use Rattle.settings.proofs.set_mode.Reads as SetMode
use Rattle.settings.proofs.set_offset.Reads as SetOffset
use Rattle.settings.proofs.set_window_start.Reads as SetWindowStart
use Rattle.settings.proofs.set_window_end.Reads as SetWindowEnd
use Rattle.settings.proofs.read_settings.Reads as ReadSettings
use Rattle.append.proofs.append.Reads as Append
use Rattle.batch.proofs.append_batch.Reads as Batch
use Rattle.remove.proofs.remove.Reads as Remove
use Rattle.ranges.proofs.track_ranges.Reads as TrackRanges
use Rattle.ranges.proofs.common_ranges.Reads as CommonRanges
use Rattle.ranges.proofs.walked.Reads as Walked
use Rattle.seek.proofs.seek.Reads as Seek
use Rattle.settings.proofs.create.Statement as CreateSays
use Rattle.settings.proofs.abort.Statement as AbortSays
use Rattle.settings.proofs.set_mode.Statement as SetModeSays
use Rattle.settings.proofs.set_offset.Statement as SetOffsetSays
use Rattle.settings.proofs.set_window_start.Statement as SetWindowStartSays
use Rattle.settings.proofs.set_window_end.Statement as SetWindowEndSays
use Rattle.settings.proofs.read_settings.Statement as ReadSettingsSays
use Rattle.append.proofs.append.Statement as AppendSays
use Rattle.batch.proofs.append_batch.Statement as BatchSays
use Rattle.remove.proofs.remove.Statement as RemoveSays
use Rattle.ranges.proofs.track_ranges.Statement as TrackRangesSays
use Rattle.ranges.proofs.common_ranges.Statement as CommonRangesSays
use Rattle.ranges.proofs.walked.Statement as WalkedSays
use Rattle.seek.proofs.seek.Statement as SeekSays
use Rattle.settings.proofs.create.Met as CreateMet
use Rattle.settings.proofs.abort.Met as AbortMet
use Rattle.settings.proofs.set_mode.Met as SetModeMet
use Rattle.settings.proofs.set_offset.Met as SetOffsetMet
use Rattle.settings.proofs.set_window_start.Met as SetWindowStartMet
use Rattle.settings.proofs.set_window_end.Met as SetWindowEndMet
use Rattle.settings.proofs.read_settings.Met as ReadSettingsMet
use Rattle.append.proofs.append.Met as AppendMet
use Rattle.batch.proofs.append_batch.Met as BatchMet
use Rattle.remove.proofs.remove.Met as RemoveMet
use Rattle.ranges.proofs.track_ranges.Met as TrackRangesMet
use Rattle.ranges.proofs.common_ranges.Met as CommonRangesMet
use Rattle.ranges.proofs.walked.Met as WalkedMet
use Rattle.seek.proofs.seek.Met as SeekMet

-- ---- every history is the plain run

pub record IsPlain (b : Buffer) (ms : List Made) (t : Lent) : Type 0 where
  pub results : entries ms ≡ run b (calls ms)
  pub state : t ≡ lent_of (last_of b (calls ms))
  pub kept : AllKept ms

-- on from any good buffer
abbrev pub Plainly : Lent → List Made → Lent → Type 0
Plainly s ms t = (b : Buffer) → good_buffer b ≡ true → s ≡ lent_of b → IsPlain b ms t

reply-good : (c : Call) (b : Buffer) → good_buffer b ≡ true → good_buffer (reply_to c b).after ≡ true
reply-good c b good = facts-good (reply_to c b).after ((reply-lawful c b).good (good-facts b good))

more : {b : Buffer} {g : Given} {back : Back g} {s t : Lent} {ms : List Made}
    → good_buffer b ≡ true → Agrees b g back s → Plainly s ms t → IsPlain b (record { given = g; back = back } ∷ ms) t
unfolding run last_of
more {b} {g} {back} {s} {t} {ms} good a k =
    let c = asked_call g in
    let rest = k (reply_to c b).after (reply-good c b good) a.state in
    record {
      results = λ i. record { call = c; result = a.result i } ∷ rest.results i;
      state = rest.state;
      kept = (a.kept, rest.kept);
    }

pub plain : {s t : Lent} {ms : List Made} → From s ms t → Plainly s ms t
unfolding run last_of
plain none b good e = record { results = refl; state = e; kept = tt }
plain (by_append head f times tags lent r h ts gs after κs l k) b good e = more good (append-agrees b good _ e lent.now h ts gs after f r l) (λ c g d. plain k c g d)
plain (by_remove head start end times tags lent r h ts gs after κs l k) b good e = more good (remove-agrees b good _ e lent.now h ts gs after start end r l) (λ c g d. plain k c g d)
plain (by_abort head times tags r h κs l k) b good e = more good (abort-agrees b good _ e r h l) (λ c g d. plain k c g d)
plain (by_mode head m times tags r h κs l k) b good e = more good (mode-agrees b good _ e r h m l) (λ c g d. plain k c g d)
plain (by_offset head x times tags r h κs l k) b good e = more good (offset-agrees b good _ e r h x l) (λ c g d. plain k c g d)
plain (by_window_start head x times tags r h κs l k) b good e = more good (window-start-agrees b good _ e r h x l) (λ c g d. plain k c g d)
plain (by_window_end head x times tags r h κs l k) b good e = more good (window_end-agrees b good _ e r h x l) (λ c g d. plain k c g d)
plain (by_reading times tags r κs l k) b good e = more good (reading-agrees b good _ e r l) (λ c g d. plain k c g d)
plain (by_track_ranges track times tags lent r after κs l k) b good e = more good (track_ranges-agrees b good _ e track lent.now after r l) (λ c g d. plain k c g d)
plain (by_common_ranges times tags lent r after κs l k) b good e = more good (common_ranges-agrees b good _ e lent.now after r l) (λ c g d. plain k c g d)
plain (by_batch head rows times tags lent r h ts gs after κs l k) b good e = more good (batch-agrees b good _ e lent.now h ts gs after rows.now r l) (λ c g d. plain k c g d)
plain (by_walk track room times tags r κs l k) b good e = more good (walked-agrees b good _ e track room r l) (λ c g d. plain k c g d)
plain (by_seek track t times tags r κs l k) b good e = more good (seek-agrees b good _ e track t r l.0) (λ c g d. plain k c g d)

-- ---- a creation that was not refused

pub made : (kinds : List ℕ) {h : Head} → created (create kinds) ≡ Ok h → create kinds ≡ Ok (fresh kinds)
unfolding create
made kinds {h} =
    by-test (λ (x : CallResult Buffer). created x ≡ Ok h → x ≡ Ok (fresh kinds))
    (eqb (length kinds) 0 || (ltb most_tracks (length kinds) || not (all_of known_kind kinds)))
    (λ _ e. clash (sym (ap is_ok e))) (λ _ e. refl)

pub made-head : (kinds : List ℕ) {h : Head} → created (create kinds) ≡ Ok h → h ≡ head_of (fresh kinds)
made-head kinds {h} e = ap (λ (x : CallResult Head). result_unwrap_or x h) (sym e ∙ ap created (made kinds e))

pub fresh-good : (kinds : List ℕ) → create kinds ≡ Ok (fresh kinds) → IsGood (fresh kinds)
fresh-good kinds made = rw made at (created-good kinds)

-- ---- the first n of a run

take-run : (b : Buffer) (n : ℕ) (cs : List Call) → run b (take n cs) ≡ take n (run b cs)
unfolding run
take-run b zero cs = refl
take-run b (suc n) [] = refl
take-run b (suc n) (c ∷ cs) = λ i. record { call = c; result = (reply_to c b).result } ∷ take-run (reply_to c b).after n cs i

-- ---- the account of the plain run

module _ (kinds : List ℕ) (made : create kinds ≡ Ok (fresh kinds)) (cs : List Call) where
  given-last : (last_of (fresh kinds) cs).last ≡ length (offers (run (fresh kinds) cs))
  given-last = (run-lawful (fresh kinds) cs).last ∙ zero-add _

  -- the last state holds the run's last buffer
  held : buffer_in (lent_of (last_of (fresh kinds) cs)) ≡ last_of (fresh kinds) cs
  held = held_back (last_of (fresh kinds) cs)

  pub run-accounts : IsAccount (run (fresh kinds) cs) (lent_of (last_of (fresh kinds) cs))
  run-accounts = record {
    last = given-last;
    placed = rw (ap (λ (b : Buffer). b.frames) held) ((run-lawful (fresh kinds) cs).placed (fresh-good kinds made) [] refl (all_none (on_offered [])));
    found = λ k. rw (held, ← given-last) (found-once kinds cs k);
    balance = λ track. rw held (tracks-balance kinds cs track made);
  }

-- ---- THE THEOREM

module _ (kinds : List ℕ) (made : create kinds ≡ Ok (fresh kinds)) (ms : List Made) (t : Lent) (p : IsPlain (fresh kinds) ms t) where
  same_first : (n : ℕ) → entries (take n ms) ≡ run (fresh kinds) (calls (take n ms))
  same_first n =
      take-map _ n ms ∙ ap (take n) p.results ∙ sym (take-run (fresh kinds) n (calls ms))
      ∙ ap (run (fresh kinds)) (sym (take-map _ n ms))

  claimed : Claim kinds ms t
  claimed = record {
    results = p.results;
    state = p.state;
    numbered = λ n. rw (same_first n) (given-last kinds made (calls (take n ms)));
    account = rw (p.results, p.state) (run-accounts kinds made (calls ms));
    kept = p.kept;
    spared = λ n fs. own-group-spared kinds made (calls (take n ms)) fs;
    led = λ n. run-led kinds made (calls (take n ms));
  }

pub every-history : {kinds : List ℕ} {ms : List Made} {t : Lent} → IsHistory kinds ms t → Claim kinds ms t
every-history {kinds} {ms} {t} (from lent times tags r h ts gs κs l accepted k) =
    let done = made kinds (sym l.0 ∙ accepted) in
    let head = made-head kinds (sym l.0 ∙ accepted) in
    let first = l.1.0 ∙ ap (λ (x : CallResult Buffer). times_created x times.now) done in
    let second = l.1.1 ∙ ap (λ (x : CallResult Buffer). tags_created x tags.now) done in
    let begun : ◌≡◌ {A = Lent} (record { head = h; times = ts; tags = gs }) (lent_of (fresh kinds)) = λ i. record { head = head i; times = first i; tags = second i } in
    claimed kinds done ms t (plain k (fresh kinds) (facts-good (fresh kinds) (fresh-good kinds done)) begun)

-- ---- it is not vacuous: every list of calls on every buffer created has a history

-- a list lent by some reference, and some lifetime
abbrev pub lend : {A : Type 0} → A → Bor A
lend d = record { ref_ptr = (0, 0); now = d }

-- the same, to be written
abbrev pub lend_mut : {A : Type 0} → A → MutBor A
lend_mut d = record { ref_ptr = (0, 0); ghost_name = 0; now = d }

abbrev pub two : Lfts 2
two = ([], ([], tt))

abbrev pub three : Lfts 3
three = ([], ([], ([], tt)))

abbrev pub four : Lfts 4
four = ([], three)

abbrev pub five : Lfts 5
five = ([], four)

record Onward (s : Lent) (gs : List Given) : Type 0 where
  pub made : List Made
  pub same : map (λ (m : Made). m.given) made ≡ gs
  pub last : Lent
  pub steps : From s made last

-- one call, then the others
first : {s u : Lent} {g : Given} {back : Back g} {gs : List Given}
    → ((ms : List Made) (t : Lent) → From u ms t → From s (record { given = g; back = back } ∷ ms) t)
    → Onward u gs → Onward s (g ∷ gs)
first {g = g} step o = record {
  made = _;
  same = ap (λ (l : List Given). g ∷ l) o.same;
  last = o.last;
  steps = step o.made o.last o.steps;
}

-- the state after a call that writes lines, by its result; and after one that changes the head alone
abbrev left : Lent → CallResult Outcome → Lent
left s x = record { head = head_after x s.head; times = times_after x s.times; tags = tags_after x s.tags }

abbrev set : Lent → CallResult Buffer → Lent
set s x = record { head = head_set x s.head; times = s.times; tags = s.tags }

onward : (s : Lent) (gs : List Given) → Onward s gs
onward s [] = record { made = []; same = refl; last = s; steps = none }
onward s (append f d ∷ gs) =
    let x = append_result (length d) f s.head s.times s.tags in
    let u = left s x in
    first {u = u} (λ ms t k. by_append (lend_mut s.head) f (lend_mut s.times) (lend_mut s.tags) (lend_mut d) (line_count x) u.head u.times u.tags (list_after x d) four (refl, (refl, (refl, (refl, refl)))) k) (onward u gs)
onward s (remove start end d ∷ gs) =
    let x = remove_result (length d) start end s.head s.times s.tags in
    let u = left s x in
    first {u = u} (λ ms t k. by_remove (lend_mut s.head) start end (lend_mut s.times) (lend_mut s.tags) (lend_mut d) (line_count x) u.head u.times u.tags (list_after x d) four (refl, (refl, (refl, (refl, refl)))) k) (onward u gs)
onward s (abort ∷ gs) =
    let x = abort_result s.head s.times s.tags in
    first {u = set s x} (λ ms t k. by_abort (lend_mut s.head) (lend s.times) (lend s.tags) (set_answer x) (set s x).head three (refl, refl) k) (onward (set s x) gs)
onward s (set_mode m ∷ gs) =
    let x = mode_result m s.head s.times s.tags in
    first {u = set s x} (λ ms t k. by_mode (lend_mut s.head) m (lend s.times) (lend s.tags) (set_answer x) (set s x).head three (refl, refl) k) (onward (set s x) gs)
onward s (set_offset y ∷ gs) =
    let x = offset_result y s.head s.times s.tags in
    first {u = set s x} (λ ms t k. by_offset (lend_mut s.head) y (lend s.times) (lend s.tags) (set_answer x) (set s x).head three (refl, refl) k) (onward (set s x) gs)
onward s (set_window_start y ∷ gs) =
    let x = window_start_result y s.head s.times s.tags in
    first {u = set s x} (λ ms t k. by_window_start (lend_mut s.head) y (lend s.times) (lend s.tags) (set_answer x) (set s x).head three (refl, refl) k) (onward (set s x) gs)
onward s (set_window_end y ∷ gs) =
    let x = window_end_result y s.head s.times s.tags in
    first {u = set s x} (λ ms t k. by_window_end (lend_mut s.head) y (lend s.times) (lend s.tags) (set_answer x) (set s x).head three (refl, refl) k) (onward (set s x) gs)
onward s (read_settings ∷ gs) =
    first {u = s} (λ ms t k. by_reading (lend s.times) (lend s.tags) (settings_result s.head s.times s.tags) two refl k) (onward s gs)
onward s (track_ranges track d ∷ gs) =
    let x = track_ranges_result (length d) track s.head s.times s.tags in
    first {u = s} (λ ms t k. by_track_ranges track (lend s.times) (lend s.tags) (lend_mut d) (range_count x) (ranges_after x d) three (record { answer = refl; list = refl }) k) (onward s gs)
onward s (common_ranges d ∷ gs) =
    let x = common_ranges_result (length d) s.head s.times s.tags in
    first {u = s} (λ ms t k. by_common_ranges (lend s.times) (lend s.tags) (lend_mut d) (range_count x) (ranges_after x d) three (record { answer = refl; list = refl }) k) (onward s gs)
onward s (batch rows d ∷ gs) =
    let x = batch_result (length d) (map offered_in rows) s.head s.times s.tags in
    let o = outcome_of x in
    let u = left s o in
    first {u = u} (λ ms t k. by_batch (lend_mut s.head) (lend rows) (lend_mut s.times) (lend_mut s.tags) (lend_mut d) (batch_answer x) u.head u.times u.tags (list_after o d) five (refl, (refl, (refl, (refl, refl)))) k) (onward u gs)
onward s (walked track room ∷ gs) =
    first {u = s} (λ ms t k. by_walk track room (lend s.times) (lend s.tags) (walked_result room track s.head s.times s.tags) two refl k) (onward s gs)
onward s (seek track t ∷ gs) =
    first {u = s} (λ ms u k. by_seek track t (lend s.times) (lend s.tags) (seek_result track t s.head s.times s.tags) two (refl, seek-within track t s.head s.times s.tags) k) (onward s gs)

-- whatever the arrays held before the creation
pub some-history : (kinds : List ℕ) (ts : List (List ℤ)) (fs : List (List ℕ)) (gs : List Given) → create kinds ≡ Ok (fresh kinds) → Happens kinds gs
some-history kinds ts fs gs done =
    let x = create kinds in
    let h = head_of (fresh kinds) in
    let o = onward (record { head = h; times = times_created x ts; tags = tags_created x fs }) gs in
    record {
      made = o.made;
      same = o.same;
      last = o.last;
      history = from (lend kinds) (lend_mut ts) (lend_mut fs) (created x) h (times_created x ts) (tags_created x fs) three (refl, (refl, refl)) (ap created done) o.steps;
    }

-- ---- it has no hidden door

-- no call asks anything of its caller
pub free : (κs : Lfts 2) (λs : Lfts 3) (μs : Lfts 4) (νs : Lfts 5) (h : Head) (f : Offered) (m : Mode) (x y : Float) (track room : ℕ) (t : ℤ) (kinds : Bor (List ℕ))
    (head : MutBor Head) (times : Bor (List (List ℤ))) (tags : Bor (List (List ℕ))) (rows : Bor (List (List ℤ)))
    (timesMut : MutBor (List (List ℤ))) (tagsMut fates : MutBor (List (List ℕ))) (list : MutBor (List (List ℤ)))
    → Create.Asked λs (kinds, (timesMut, (tagsMut, tt))) × Append.Asked μs (head, (f, (timesMut, (tagsMut, (fates, tt)))))
    × Remove.Asked μs (head, (x, (y, (timesMut, (tagsMut, (fates, tt)))))) × Abort.Asked λs (head, (times, (tags, tt)))
    × SetMode.Asked λs (head, (times, (tags, (m, tt)))) × SetOffset.Asked λs (head, (times, (tags, (x, tt))))
    × SetWindowStart.Asked λs (head, (times, (tags, (x, tt)))) × SetWindowEnd.Asked λs (head, (times, (tags, (x, tt))))
    × ReadSettings.Asked κs (h, (times, (tags, tt))) × TrackRanges.Asked λs (h, (times, (tags, (track, (list, tt)))))
    × CommonRanges.Asked λs (h, (times, (tags, (list, tt)))) × Batch.Asked νs (head, (rows, (timesMut, (tagsMut, (fates, tt)))))
    × Walked.Asked κs (h, (times, (tags, (track, (room, tt))))) × Seek.Asked κs (h, (times, (tags, (track, (t, tt)))))
free κs λs μs νs h f m x y track room t kinds head times tags rows timesMut tagsMut fates list = (tt, tt, tt, tt, tt, tt, tt, tt, tt, tt, tt, tt, tt, tt)

-- the running code meets the contracts of which a history is made
pub code_meets : {M : Type 1}
    → CreateSays.statement M × AppendSays.statement M × RemoveSays.statement M × AbortSays.statement M
    × SetModeSays.statement M × SetOffsetSays.statement M × SetWindowStartSays.statement M × SetWindowEndSays.statement M
    × ReadSettingsSays.statement M × TrackRangesSays.statement M × CommonRangesSays.statement M
    × BatchSays.statement M × WalkedSays.statement M × SeekSays.statement M
code_meets = (CreateMet.met, AppendMet.met, RemoveMet.met, AbortMet.met, SetModeMet.met, SetOffsetMet.met, SetWindowStartMet.met, SetWindowEndMet.met, ReadSettingsMet.met, TrackRangesMet.met, CommonRangesMet.met, BatchMet.met, WalkedMet.met, SeekMet.met)
