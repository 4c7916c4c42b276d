-- Each call of a run keeps a good buffer good and accounts for every number; so does a whole run, by induction over its calls.
use Rattle.std.specs.Prelude.{Ok, Err}
use mathlib.Core.Path.{◌≡◌, refl}
use mathlib.Core.Bool.{true, false, not, ◌||◌}
use mathlib.Core.List.{List, [], ◌∷◌, append-nil}
use Prim.Native.Nat.{ℕ}
use lib.Dec.{ltb}
use lib.IntN.{ℤ, pos}
use lib.ListN.{length}
use lib.Signed.{lt_z}
use Rattle.laws.proofs.BoolLaws.{by-test}
use Rattle.seconds.specs.Seconds.{Bound, is_convertible, is_convertible_end, micros_of, bound_of}
use Rattle.buffer_state.specs.declared.Offered.{Offered}
use Rattle.buffer_state.specs.State.{State}
use Rattle.buffer_state.specs.Buffer.{Buffer}
use Rattle.buffer_state.specs.Layout.{state_of, buffer_of, well_formed}
use Rattle.buffer_state.specs.Limits.{places}
use Rattle.buffer_state.specs.Refusals.{CallResult}
use Rattle.buffer_state.specs.Append.{Outcome, append}
use Rattle.buffer_state.specs.Batch.{Batch, most_frames, batch_lines, batch}
use Rattle.buffer_state.specs.Remove.{before_bound, removal_lacks_group, removed_outcome, remove}
use Rattle.buffer_state.specs.Ranges.{Range, track_ranges, common_ranges}
use Rattle.buffer_state.specs.Settings.{create, abort, mode_set, offset_set, window_start_set, window_end_set}
use Rattle.buffer_state.specs.Run.{Call, append_call, remove_call, abort_call, mode_call, offset_call, window_start_call, window_end_call, read_call, ranges_call, common_call, batch_call, walked_call, seek_call, Answer, ok, ranges, Reply, by_outcome, by_setting, by_ranges, by_batch, by_walked, by_seek, reply_to, run, last_of, lines_in, handed_out, offered_by, offers, on_offered}
use Rattle.buffer_state.specs.declared.Start.{Start}
use Rattle.buffer_state.specs.Seek.{seek}
use Rattle.buffer_state.specs.Walked.{walked}
use Rattle.buffer_laws.proofs.LayoutLaws.{good-well_formed, well_formed-good}
use Rattle.buffer_laws.proofs.GoodLaws.{IsGood, good-facts, facts-good}
use Rattle.buffer_laws.proofs.RemoveLaws.{removed-good, removed-accounts, removed-all}
use Rattle.buffer_laws.proofs.SettingLaws.{IfDone, created-good, Set, mode-good, mode-untouched, abort-set, offset_set_lem, window_start_set_lem, window_end_set_lem}
use Rattle.buffer_laws.proofs.CallLaws.{numbers_after, IsLawful, still, same, both-lawful, OneLawful, append-lawful}
use Rattle.buffer_laws.proofs.BatchLaws.{each-lawful}

-- ---- each call

remove-lawful : (b : Buffer) (s : ℤ) (e : Bound) → removal_lacks_group s e b ≡ false → IsLawful b [] (removed_outcome s e b).lines (removed_outcome s e b).after
unfolding numbers_after
remove-lawful b s e more =
    let law = removed-accounts s e b in
    record {
      good = removed-good s e b more;
      weight = law.weight;
      last = law.last;
      causes = law.causes;
      placed = λ g tracks n h. rw (append-nil tracks) (removed-all s e b (on_offered tracks) h);
    }

abbrev IsLawfulReply : Call → Buffer → Reply → Type 0
IsLawfulReply c b r = IsLawful b (offered_by c r.result) (lines_in r.result) r.after

append-reply : (lent : ℕ) (f : Offered) (b : Buffer) (r : CallResult Outcome) → IfDone (OneLawful b f) r → IsLawfulReply (append_call lent f) b (by_outcome b r)
append-reply lent f b (Err why) law = same b
append-reply lent f b (Ok o) law = law

setting-lawful : (c : Call) (b : Buffer) (r : CallResult Buffer) → ((a : CallResult Answer) → offered_by c a ≡ []) → IfDone (Set b) r → IsLawfulReply c b (by_setting b r)
setting-lawful c b (Err why) none s = rw (none (Err why)) (same b)
setting-lawful c b (Ok d) none s = rw (none (Ok ok)) (still b d s.good s.untouched)

ranges-lawful : (c : Call) (b : Buffer) (r : CallResult (List Range)) → ((a : CallResult Answer) → offered_by c a ≡ []) → IsLawfulReply c b (by_ranges b r)
ranges-lawful c b (Err why) none = rw (none (Err why)) (same b)
ranges-lawful c b (Ok rs) none = rw (none (Ok (ranges rs))) (same b)

walked-lawful : (lent track : ℕ) (b : Buffer) (r : CallResult ℕ) → IsLawfulReply (walked_call lent track) b (by_walked b r)
walked-lawful lent track b (Err why) = same b
walked-lawful lent track b (Ok n) = same b

seek-lawful : (track : ℕ) (t : ℤ) (b : Buffer) (r : CallResult Start) → IsLawfulReply (seek_call track t) b (by_seek b r)
seek-lawful track t b (Err why) = same b
seek-lawful track t b (Ok s) = same b

-- Preservation and conservation, of every call on every buffer.
pub reply-lawful : (c : Call) (b : Buffer) → IsLawfulReply c b (reply_to c b)
unfolding reply_to remove batch
reply-lawful (append_call lent f) b = append-reply lent f b (append lent f b) (append-lawful lent f b)
reply-lawful (remove_call lent start end) b =
    let Law : CallResult Outcome → Type 0 = λ r. IsLawfulReply (remove_call lent start end) b (by_outcome b r) in
    by-test Law (ltb lent places) (λ _. same b)
    (λ _. by-test Law (not (is_convertible start) || not (is_convertible_end end)) (λ _. same b)
    (λ _. by-test Law (lt_z (micros_of start) (pos 0) || not (before_bound (micros_of start) (bound_of end))) (λ _. same b)
    (λ _. by-test Law (removal_lacks_group (micros_of start) (bound_of end) b) (λ _. same b)
    (λ more. remove-lawful b (micros_of start) (bound_of end) more))))
reply-lawful abort_call b = setting-lawful abort_call b (abort b) (λ _. refl) (abort-set b)
reply-lawful (mode_call m) b = still b (mode_set m b) (mode-good m b) (mode-untouched m b)
reply-lawful (offset_call x) b = setting-lawful (offset_call x) b (offset_set x b) (λ _. refl) (offset_set_lem x b)
reply-lawful (window_start_call x) b = setting-lawful (window_start_call x) b (window_start_set x b) (λ _. refl) (window_start_set_lem x b)
reply-lawful (window_end_call x) b = setting-lawful (window_end_call x) b (window_end_set x b) (λ _. refl) (window_end_set_lem x b)
reply-lawful read_call b = same b
reply-lawful (ranges_call lent track) b = ranges-lawful (ranges_call lent track) b (track_ranges lent track b) (λ _. refl)
reply-lawful (common_call lent) b = ranges-lawful (common_call lent) b (common_ranges lent b) (λ _. refl)
reply-lawful (batch_call lent fs) b =
    let Law : CallResult Batch → Type 0 = λ r. IsLawfulReply (batch_call lent fs) b (by_batch b r) in
    by-test Law (ltb most_frames (length fs)) (λ _. same b)
    (λ _. by-test Law (ltb lent batch_lines) (λ _. same b)
    (λ _. each-lawful fs b))
reply-lawful (walked_call lent track) b = walked-lawful lent track b (walked lent track b)
reply-lawful (seek_call track t) b = seek-lawful track t b (seek track t b)

-- ---- on states: every call on a well-formed state leaves a well-formed state, and creation gives one

pub reply-well_formed : (c : Call) (s : State) → well_formed s ≡ true → well_formed (state_of (reply_to c (buffer_of s)).after) ≡ true
reply-well_formed c s h =
    let after = (reply_to c (buffer_of s)).after in
    good-well_formed after (facts-good after ((reply-lawful c (buffer_of s)).good (good-facts (buffer_of s) (well_formed-good s h))))

pub create-well_formed : (kinds : List ℕ) → IfDone (λ (b : Buffer). well_formed (state_of b) ≡ true) (create kinds)
create-well_formed kinds = go (create kinds) (created-good kinds)
  where
    go : (r : CallResult Buffer) → IfDone IsGood r → IfDone (λ (b : Buffer). well_formed (state_of b) ≡ true) r
    go (Err why) g = tt
    go (Ok b) g = good-well_formed b (facts-good b g)

-- ---- a whole run

pub run-lawful : (b : Buffer) (cs : List Call) → IsLawful b (offers (run b cs)) (handed_out (run b cs)) (last_of b cs)
unfolding run last_of offers handed_out
run-lawful b [] = same b
run-lawful b (c ∷ cs) = both-lawful (reply-lawful c b) (run-lawful (reply_to c b).after cs)
