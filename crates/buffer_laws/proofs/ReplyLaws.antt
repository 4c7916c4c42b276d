-- What appends, removals, aborts and settings keep of a good buffer, every call keeps; so do every list of calls and any frames of a batch,
-- by one induction.
use Rattle.std.specs.Prelude.{Ok, Err}
use mathlib.Core.Path.{◌≡◌, refl}
use mathlib.Core.Bool.{not, ◌||◌}
use mathlib.Core.List.{List, [], ◌∷◌}
use Prim.Native.Nat.{ℕ}
use lib.Dec.{ltb}
use lib.IntN.{ℤ, pos}
use lib.Ieee.{Float}
use lib.ListN.{length}
use lib.Signed.{lt_z}
use Rattle.laws.proofs.BoolLaws.{by-test}
use Rattle.seconds.specs.Seconds.{Bound, is_convertible, is_convertible_end, micros_of, bound_of}
use Rattle.buffer_state.specs.declared.Mode.{Mode}
use Rattle.buffer_state.specs.declared.Mode.TheVariants.{Segments, Sequence}
use Rattle.buffer_state.specs.declared.Offered.{Offered}
use Rattle.buffer_state.specs.Append.{Outcome, appended_outcome, append}
use Rattle.buffer_state.specs.Batch.{Batch, append_each, most_frames, batch_lines, batch}
use Rattle.buffer_state.specs.Buffer.{Buffer, is_sequence, in_last_group}
use Rattle.buffer_state.specs.Limits.{places}
use Rattle.buffer_state.specs.Ranges.{Range, track_ranges, common_ranges}
use Rattle.buffer_state.specs.Refusals.{CallResult}
use Rattle.buffer_state.specs.Remove.{before_bound, removal_lacks_group, removed_outcome, remove}
use Rattle.buffer_state.specs.Run.{Call, append_call, remove_call, abort_call, mode_call, offset_call, window_start_call, window_end_call, read_call, ranges_call, common_call, batch_call, walked_call, seek_call, by_outcome, by_setting, by_ranges, by_batch, by_walked, by_seek, reply_to, last_of}
use Rattle.buffer_state.specs.declared.Start.{Start}
use Rattle.buffer_state.specs.Seek.{seek}
use Rattle.buffer_state.specs.Settings.{aborted_buffer, abort, mode_set, offset_set, window_end, window_start_set, window_end_set}
use Rattle.buffer_state.specs.Walked.{walked}
use Rattle.buffer_laws.proofs.AppendLaws.{IsAccepted}
use Rattle.buffer_laws.proofs.BatchLaws.{append-good, each_keeps}
use Rattle.buffer_laws.proofs.CallLaws.{append-done}
use Rattle.buffer_laws.proofs.GoodLaws.{IsGood, good-facts, facts-good}
use Rattle.buffer_laws.proofs.RunLaws.{reply-lawful}
use Rattle.buffer_laws.proofs.SettingLaws.{IfDone, if-done}

-- ---- the settings

-- a buffer with the tracks, the frames and the group number of another
pub record Alike (b c : Buffer) : Type 0 where
  pub tracks : c.tracks ≡ b.tracks
  pub frames : c.frames ≡ b.frames
  pub number : c.group.number ≡ b.group.number

mode-alike : (m : Mode) (b : Buffer) → Alike b (mode_set m b)
unfolding mode_set
mode-alike Segments b = record { tracks = refl; frames = refl; number = refl }
mode-alike Sequence b = record { tracks = refl; frames = refl; number = refl }

offset-alike : (x : Float) (b : Buffer) → IfDone (Alike b) (offset_set x b)
unfolding offset_set
offset-alike x b =
    by-test (IfDone (Alike b)) (not (is_convertible x)) (λ _. tt)
    (λ _. by-test (Alike b) (is_sequence b.mode) (λ _. record { tracks = refl; frames = refl; number = refl }) (λ _. record { tracks = refl; frames = refl; number = refl }))

window-start-alike : (x : Float) (b : Buffer) → IfDone (Alike b) (window_start_set x b)
unfolding window_start_set
window-start-alike x b =
    by-test (IfDone (Alike b)) (not (is_convertible x)) (λ _. tt)
    (λ _. by-test (IfDone (Alike b)) (lt_z (micros_of x) (pos 0) || not (before_bound (micros_of x) (window_end b.settings))) (λ _. tt)
    (λ _. record { tracks = refl; frames = refl; number = refl }))

window_end-alike : (x : Float) (b : Buffer) → IfDone (Alike b) (window_end_set x b)
unfolding window_end_set
window_end-alike x b =
    by-test (IfDone (Alike b)) (not (is_convertible_end x)) (λ _. tt)
    (λ _. by-test (IfDone (Alike b)) (not (before_bound b.settings.start.micros (bound_of x))) (λ _. tt)
    (λ _. record { tracks = refl; frames = refl; number = refl }))

-- ---- every call

-- what has to be shown of a property
pub record IsPreserved (P : Buffer → Type 0) : Type 0 where
  pub by_append : (b : Buffer) (f : Offered) → IsAccepted b f → IsGood b → P b → P (appended_outcome b f).after
  pub by_removal : (s : ℤ) (e : Bound) (b : Buffer) → IsGood b → P b → P (removed_outcome s e b).after
  pub by_abort : (b : Buffer) → IsGood b → P b → P (aborted_buffer b)
  pub by_set_call : (b c : Buffer) → Alike b c → P b → P c

-- a good buffer that has it
pub record IsGoodWith (P : Buffer → Type 0) (b : Buffer) : Type 0 where
  pub good : IsGood b
  pub has : P b

module _ (P : Buffer → Type 0) (k : IsPreserved P) where
  append-kept : (lent : ℕ) (f : Offered) (b : Buffer) → IsGoodWith P b → (o : Outcome) → append lent f b ≡ Ok o → P o.after
  append-kept lent f b g o d =
      let h = if-done (λ (o : Outcome). IsAccepted b f × (appended_outcome b f ≡ o)) (append lent f b) (append-done lent f b) d in
      rw h.1 at (k.by_append b f h.0 g.good g.has)

  outcome-kept : (b : Buffer) (r : CallResult Outcome) → P b → ((o : Outcome) → r ≡ Ok o → P o.after) → P (by_outcome b r).after
  outcome-kept b (Err why) p h = p
  outcome-kept b (Ok o) p h = h o refl

  remove-kept : (lent : ℕ) (start end : Float) (b : Buffer) → IsGoodWith P b → P (by_outcome b (remove lent start end b)).after
  unfolding remove
  remove-kept lent start end b g =
      let Has : CallResult Outcome → Type 0 = λ r. P (by_outcome b r).after in
      by-test Has (ltb lent places) (λ _. g.has)
      (λ _. by-test Has (not (is_convertible start) || not (is_convertible_end end)) (λ _. g.has)
      (λ _. by-test Has (lt_z (micros_of start) (pos 0) || not (before_bound (micros_of start) (bound_of end))) (λ _. g.has)
      (λ _. by-test Has (removal_lacks_group (micros_of start) (bound_of end) b) (λ _. g.has)
      (λ _. k.by_removal (micros_of start) (bound_of end) b g.good g.has))))

  abort-kept : (b : Buffer) → IsGoodWith P b → P (by_setting b (abort b)).after
  unfolding abort
  abort-kept b g = by-test (λ (r : CallResult Buffer). P (by_setting b r).after) (in_last_group b) (λ _. g.has) (λ _. k.by_abort b g.good g.has)

  setting_kept : (b : Buffer) (r : CallResult Buffer) → IfDone (Alike b) r → P b → P (by_setting b r).after
  setting_kept b (Err why) a p = p
  setting_kept b (Ok c) a p = k.by_set_call b c a p

  -- Any frames of a batch keep it,
  pub batch-kept : (fs : List Offered) (b : Buffer) → IsGoodWith P b → IsGoodWith P (append_each fs b).outcome.after
  batch-kept =
      each_keeps (IsGoodWith P)
      (λ f b o e g. record {
        good = good-facts o.after (append-good b f places o e (facts-good b g.good));
        has = append-kept places f b g o e;
      })

  batch-reply-kept : (lent : ℕ) (fs : List Offered) (b : Buffer) → IsGoodWith P b → P (by_batch b (batch lent fs b)).after
  unfolding batch
  batch-reply-kept lent fs b g =
      let Has : CallResult Batch → Type 0 = λ r. P (by_batch b r).after in
      by-test Has (ltb most_frames (length fs)) (λ _. g.has)
      (λ _. by-test Has (ltb lent batch_lines) (λ _. g.has)
      (λ _. (batch-kept fs b g).has))

  ranges-kept : (b : Buffer) (r : CallResult (List Range)) → P b → P (by_ranges b r).after
  ranges-kept b (Err why) p = p
  ranges-kept b (Ok rs) p = p

  walked-kept : (b : Buffer) (r : CallResult ℕ) → P b → P (by_walked b r).after
  walked-kept b (Err why) p = p
  walked-kept b (Ok n) p = p

  seek-kept : (b : Buffer) (r : CallResult Start) → P b → P (by_seek b r).after
  seek-kept b (Err why) p = p
  seek-kept b (Ok s) p = p

  reply-kept : (c : Call) (b : Buffer) → IsGoodWith P b → P (reply_to c b).after
  unfolding reply_to
  reply-kept (append_call lent f) b g = outcome-kept b (append lent f b) g.has (append-kept lent f b g)
  reply-kept (remove_call lent start end) b g = remove-kept lent start end b g
  reply-kept abort_call b g = abort-kept b g
  reply-kept (mode_call m) b g = k.by_set_call b (mode_set m b) (mode-alike m b) g.has
  reply-kept (offset_call x) b g = setting_kept b (offset_set x b) (offset-alike x b) g.has
  reply-kept (window_start_call x) b g = setting_kept b (window_start_set x b) (window-start-alike x b) g.has
  reply-kept (window_end_call x) b g = setting_kept b (window_end_set x b) (window_end-alike x b) g.has
  reply-kept read_call b g = g.has
  reply-kept (ranges_call lent track) b g = ranges-kept b (track_ranges lent track b) g.has
  reply-kept (common_call lent) b g = ranges-kept b (common_ranges lent b) g.has
  reply-kept (batch_call lent fs) b g = batch-reply-kept lent fs b g
  reply-kept (walked_call lent track) b g = walked-kept b (walked lent track b) g.has
  reply-kept (seek_call track t) b g = seek-kept b (seek track t b) g.has

  -- and every list of calls.
  pub run-kept : (b : Buffer) (cs : List Call) → IsGoodWith P b → IsGoodWith P (last_of b cs)
  unfolding last_of
  run-kept b [] g = g
  run-kept b (c ∷ cs) g = run-kept (reply_to c b).after cs (record { good = (reply-lawful c b).good g.good; has = reply-kept c b g })
