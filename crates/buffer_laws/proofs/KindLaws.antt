-- The tracks are fixed at creation: no call changes their kinds, their order or how many there are.
use Rattle.std.specs.Prelude.{Ok, Err}
use mathlib.Core.Path.{◌≡◌, refl, ◌∙◌}
use mathlib.Core.Bool.{Bool, true, false, not, ◌&&◌, ◌||◌}
use mathlib.Core.List.{List, [], ◌∷◌, map}
use Prim.Native.Nat.{ℕ, zero, suc, ◌-◌}
use lib.Dec.{ltb, eqb}
use lib.IntN.{ℤ, pos}
use lib.ListN.{length, get_or, set}
use lib.Signed.{lt_z}
use Rattle.laws.proofs.BoolLaws.{by-test}
use Rattle.seconds.specs.Seconds.{is_convertible, is_convertible_end, micros_of, bound_of, Bound}
use Rattle.buffer_state.specs.declared.Mode.{Mode}
use Rattle.buffer_state.specs.declared.Mode.TheVariants.{Segments, Sequence}
use Rattle.buffer_state.specs.declared.Offered.{Offered}
use Rattle.buffer_state.specs.declared.Track.{Track}
use Rattle.buffer_state.specs.Append.{Pass, Outcome, step_one, moved, regrouped_buffer, breaks, pass_of, second_pass, last_pass, leaves_limits, lacks_group, before_window, past_window, lacks_random_access, needing_buffer, step_nine, stored, settled, appended_outcome, is_offerable, append}
use Rattle.buffer_state.specs.Batch.{Batch, most_frames, batch_lines, batch}
use Rattle.buffer_state.specs.Buffer.{Buffer, fresh, fresh_track, zero_track, has_track, with_need, restarted_track, is_sequence, in_last_group}
use Rattle.buffer_state.specs.Limits.{places, last_number}
use Rattle.buffer_state.specs.Ranges.{Range, track_ranges, common_ranges}
use Rattle.buffer_state.specs.Refusals.{CallResult}
use Rattle.buffer_state.specs.Remove.{before_bound, removal_marks, ends_track, after_loss, removal_lacks_group, removed_outcome, remove}
use Rattle.buffer_state.specs.Run.{Call, append_call, remove_call, abort_call, mode_call, offset_call, window_start_call, window_end_call, read_call, ranges_call, common_call, batch_call, walked_call, seek_call, by_outcome, by_setting, by_ranges, by_batch, by_walked, by_seek, reply_to, last_of}
use Rattle.buffer_state.specs.declared.Start.{Start}
use Rattle.buffer_state.specs.Seek.{seek}
use Rattle.buffer_state.specs.Settings.{aborted_buffer, abort, mode_set, offset_set, window_end, window_start_set, window_end_set}
use Rattle.buffer_state.specs.Store.{Marked}
use Rattle.buffer_state.specs.Walked.{walked}
use Rattle.buffer_laws.proofs.SettingLaws.{IfDone, if-done}
use Rattle.buffer_laws.proofs.BatchLaws.{each_keeps}

-- the kinds of the tracks, in their order
abbrev pub kinds_of : Buffer → List ℕ
kinds_of b = map (λ (t : Track). t.kind) b.tracks

-- ---- tracks changed all alike, or one of them

module _ (f : Track → Track) (same : (t : Track) → (f t).kind ≡ t.kind) where
  map-kinds : (ts : List Track) → map (λ (t : Track). t.kind) (map f ts) ≡ map (λ (t : Track). t.kind) ts
  map-kinds [] = refl
  map-kinds (t ∷ ts) = simp (same t, map-kinds ts)

set-kinds : (ts : List Track) (i : ℕ) (t : Track) → t.kind ≡ (get_or ts i zero_track).kind → map (λ (t : Track). t.kind) (set ts i t) ≡ map (λ (t : Track). t.kind) ts
set-kinds [] i t e = refl
set-kinds (s ∷ ts) zero t e = simp e
set-kinds (s ∷ ts) (suc i) t e = simp (set-kinds ts i t e)

-- ---- steps 1 to 9

step_one-kinds : (b : Buffer) (f : Offered) → kinds_of (step_one b f) ≡ kinds_of b
unfolding step_one
step_one-kinds b f =
    by-test (λ (c : Buffer). kinds_of c ≡ kinds_of b) (is_sequence b.mode && b.group.begun) (λ _. map-kinds (with_need true) (λ t. refl) b.tracks)
    (λ _. refl)

regrouped-kinds : (b : Buffer) (z : ℤ) → kinds_of (regrouped_buffer b z) ≡ kinds_of b
unfolding regrouped_buffer moved
regrouped-kinds b z = map-kinds restarted_track (λ t. refl) b.tracks

pass-kinds : (b : Buffer) (f : Offered) → kinds_of (pass_of b f).buffer ≡ kinds_of b
unfolding pass_of
pass-kinds b f = step_one-kinds b f

last_pass-kinds : (b : Buffer) (f : Offered) → kinds_of (last_pass b f).buffer ≡ kinds_of b
unfolding last_pass second_pass
last_pass-kinds b f =
    let p = pass_of b f in
    by-test (λ (q : Pass). kinds_of q.buffer ≡ kinds_of b) (breaks p)
    (λ _. pass-kinds (regrouped_buffer p.buffer p.frame.pts) f ∙ regrouped-kinds p.buffer p.frame.pts ∙ pass-kinds b f)
    (λ _. pass-kinds b f)

needing-kinds : (on : Bool) (p : Pass) → kinds_of (needing_buffer on p) ≡ kinds_of p.buffer
needing-kinds on p = set-kinds p.buffer.tracks (p.frame.track - 1) _ refl

stored-kinds : (p : Pass) → kinds_of (stored p).after ≡ kinds_of p.buffer
unfolding stored step_nine
stored-kinds p = set-kinds p.buffer.tracks (p.frame.track - 1) _ refl

settled-kinds : (p : Pass) → kinds_of (settled p).after ≡ kinds_of p.buffer
unfolding settled
settled-kinds p =
    let Same : Outcome → Type 0 = λ o. kinds_of o.after ≡ kinds_of p.buffer in
    by-test Same (before_window p) (λ _. needing-kinds true p)
    (λ _. by-test Same (past_window p) (λ _. needing-kinds true p)
    (λ _. by-test Same (lacks_random_access p) (λ _. refl)
    (λ _. stored-kinds (record { buffer = needing_buffer false p; frame = p.frame }) ∙ needing-kinds false p)))

appended-kinds : (b : Buffer) (f : Offered) → kinds_of (appended_outcome b f).after ≡ kinds_of b
unfolding appended_outcome
appended-kinds b f = settled-kinds (last_pass b f) ∙ last_pass-kinds b f

-- an outcome with the tracks of the buffer before
abbrev Kinds : Buffer → Outcome → Type 0
Kinds b o = kinds_of o.after ≡ kinds_of b

append-kinds : (lent : ℕ) (f : Offered) (b : Buffer) → IfDone (Kinds b) (append lent f b)
unfolding append
append-kinds lent f b =
    let Same : CallResult Outcome → Type 0 = IfDone (Kinds b) in
    by-test Same (ltb lent places) (λ _. tt)
    (λ _. by-test Same (not (has_track b f.track)) (λ _. tt)
    (λ _. by-test Same (not (is_offerable f)) (λ _. tt)
    (λ _. by-test Same (eqb b.last last_number) (λ _. tt)
    (λ _. by-test Same (leaves_limits b f) (λ _. tt)
    (λ _. by-test Same (lacks_group b f) (λ _. tt)
    (λ _. by-test Same (ltb places (length (appended_outcome b f).after.frames)) (λ _. tt)
    (λ _. appended-kinds b f)))))))

-- ---- removal

loss-kinds : (ms : List Marked) (b : Buffer) → kinds_of (after_loss ms b) ≡ kinds_of b
unfolding after_loss
loss-kinds [] b = refl
loss-kinds (m ∷ ms) b =
    by-test (λ (c : Buffer). kinds_of c ≡ kinds_of b) (ends_track b m) (λ _. regrouped-kinds b m.frame.pts) (λ _. loss-kinds ms b)

removed-kinds : (s : ℤ) (e : Bound) (b : Buffer) → kinds_of (removed_outcome s e b).after ≡ kinds_of b
unfolding removed_outcome
removed-kinds s e b = loss-kinds (removal_marks s e b.frames) b

-- ---- every call

mode-kinds : (m : Mode) (b : Buffer) → kinds_of (mode_set m b) ≡ kinds_of b
unfolding mode_set
mode-kinds Segments b = refl
mode-kinds Sequence b = refl

ranges-kinds : (b : Buffer) (r : CallResult (List Range)) → kinds_of (by_ranges b r).after ≡ kinds_of b
ranges-kinds b (Err why) = refl
ranges-kinds b (Ok rs) = refl

walked-kinds : (b : Buffer) (r : CallResult ℕ) → kinds_of (by_walked b r).after ≡ kinds_of b
walked-kinds b (Err why) = refl
walked-kinds b (Ok n) = refl

seek-kinds : (b : Buffer) (r : CallResult Start) → kinds_of (by_seek b r).after ≡ kinds_of b
seek-kinds b (Err why) = refl
seek-kinds b (Ok s) = refl

outcome-kinds : (b : Buffer) (r : CallResult Outcome) → IfDone (Kinds b) r → kinds_of (by_outcome b r).after ≡ kinds_of b
outcome-kinds b (Err why) e = refl
outcome-kinds b (Ok o) e = e

pub reply-kinds : (c : Call) (b : Buffer) → kinds_of (reply_to c b).after ≡ kinds_of b
unfolding reply_to batch remove abort aborted_buffer offset_set window_start_set window_end_set
reply-kinds (append_call lent f) b = outcome-kinds b (append lent f b) (append-kinds lent f b)
reply-kinds (remove_call lent start end) b =
    let Same : CallResult Outcome → Type 0 = λ r. kinds_of (by_outcome b r).after ≡ kinds_of b in
    by-test Same (ltb lent places) (λ _. refl)
    (λ _. by-test Same (not (is_convertible start) || not (is_convertible_end end)) (λ _. refl)
    (λ _. by-test Same (lt_z (micros_of start) (pos 0) || not (before_bound (micros_of start) (bound_of end))) (λ _. refl)
    (λ _. by-test Same (removal_lacks_group (micros_of start) (bound_of end) b) (λ _. refl)
    (λ _. removed-kinds (micros_of start) (bound_of end) b))))
reply-kinds abort_call b =
    let Same : CallResult Buffer → Type 0 = λ r. kinds_of (by_setting b r).after ≡ kinds_of b in
    by-test Same (in_last_group b) (λ _. refl) (λ _. map-kinds restarted_track (λ t. refl) b.tracks)
reply-kinds (mode_call m) b = mode-kinds m b
reply-kinds (offset_call x) b =
    let Same : CallResult Buffer → Type 0 = λ r. kinds_of (by_setting b r).after ≡ kinds_of b in
    by-test Same (not (is_convertible x)) (λ _. refl)
    (λ _. by-test (λ (c : Buffer). kinds_of c ≡ kinds_of b) (is_sequence b.mode) (λ _. refl) (λ _. refl))
reply-kinds (window_start_call x) b =
    let Same : CallResult Buffer → Type 0 = λ r. kinds_of (by_setting b r).after ≡ kinds_of b in
    by-test Same (not (is_convertible x)) (λ _. refl)
    (λ _. by-test Same (lt_z (micros_of x) (pos 0) || not (before_bound (micros_of x) (window_end b.settings))) (λ _. refl) (λ _. refl))
reply-kinds (window_end_call x) b =
    let Same : CallResult Buffer → Type 0 = λ r. kinds_of (by_setting b r).after ≡ kinds_of b in
    by-test Same (not (is_convertible_end x)) (λ _. refl)
    (λ _. by-test Same (not (before_bound b.settings.start.micros (bound_of x))) (λ _. refl) (λ _. refl))
reply-kinds read_call b = refl
reply-kinds (ranges_call lent track) b = ranges-kinds b (track_ranges lent track b)
reply-kinds (common_call lent) b = ranges-kinds b (common_ranges lent b)
reply-kinds (batch_call lent fs) b =
    let Same : CallResult Batch → Type 0 = λ r. kinds_of (by_batch b r).after ≡ kinds_of b in
    by-test Same (ltb most_frames (length fs)) (λ _. refl)
    (λ _. by-test Same (ltb lent batch_lines) (λ _. refl)
    (λ _. each_keeps (λ (c : Buffer). kinds_of c ≡ kinds_of b) (λ f c o e same. if-done (Kinds c) (append places f c) (append-kinds places f c) e ∙ same) fs b refl))
reply-kinds (walked_call lent track) b = walked-kinds b (walked lent track b)
reply-kinds (seek_call track t) b = seek-kinds b (seek track t b)

run-kinds : (b : Buffer) (cs : List Call) → kinds_of (last_of b cs) ≡ kinds_of b
unfolding last_of
run-kinds b [] = refl
run-kinds b (c ∷ cs) = run-kinds (reply_to c b).after cs ∙ reply-kinds c b

-- After every list of calls the tracks have the kinds of the list lent at creation, in its order.
pub kinds-fixed : (kinds : List ℕ) (cs : List Call) → kinds_of (last_of (fresh kinds) cs) ≡ kinds
kinds-fixed kinds cs = run-kinds (fresh kinds) cs ∙ fresh-kinds kinds
  where
    fresh-kinds : (ks : List ℕ) → map (λ (t : Track). t.kind) (map fresh_track ks) ≡ ks
    fresh-kinds [] = refl
    fresh-kinds (k ∷ ks) = simp (fresh-kinds ks)
