-- Document 02, No. 6: over every list of calls from a fresh buffer, every stored frame that is not flagged has a stored flagged frame of its
-- group and track before it.
use Rattle.std.specs.Prelude.{Ok}
use mathlib.Core.Path.{◌≡◌, refl, ap}
use mathlib.Core.Bool.{true, not, ◌||◌}
use mathlib.Core.List.{List, [], ◌∷◌}
use Prim.Native.Nat.{ℕ}
use lib.IntN.{ℤ}
use borrow.Author.Tests.{eqb-true, not-true}
use Rattle.laws.proofs.BoolLaws.{both_ways, split, by-test, and_left, and_right, and_both, or_left, or_right}
use Rattle.seconds.specs.Seconds.{Bound, same_int}
use Rattle.buffer_state.specs.declared.Offered.{Offered}
use Rattle.buffer_state.specs.Append.{regrouped_buffer}
use Rattle.buffer_state.specs.Batch.{append_each}
use Rattle.buffer_state.specs.Buffer.{Buffer, fresh, fresh_track, track_of, restarted_track}
use Rattle.buffer_state.specs.Groups.{current_ended}
use Rattle.buffer_state.specs.Remove.{removal_marks, ends_track, after_loss, removed_outcome}
use Rattle.buffer_state.specs.Run.{Call, last_of}
use Rattle.buffer_state.specs.Seek.{led_in, is_led}
use Rattle.buffer_state.specs.Settings.{create, aborted_buffer}
use Rattle.buffer_state.specs.Store.{Marked, is_taken, is_of, kept}
use Rattle.buffer_state.specs.WellFormed.{all_of}
use Rattle.buffer_laws.proofs.GroupLaws.{IsEnded, ended-preserved}
use Rattle.buffer_laws.proofs.LedAppendLaws.{decoded_at, AllBegun, IsLed, all-needing, regrouped-begun, appended-led}
use Rattle.buffer_laws.proofs.RemoveLaws.{removal-frames, removed-led}
use Rattle.buffer_laws.proofs.ReplyLaws.{IsPreserved, IsGoodWith, batch-kept, run-kept}
use Rattle.buffer_laws.proofs.SettingLaws.{created-good}
use Rattle.buffer_laws.proofs.StoreLaws.{kept-some}
use Rattle.buffer_laws.proofs.TestLaws.{all_none, all_more, all_weaker}

-- ---- removal

-- by whether a lost frame ends its track
by-loss : (P : Buffer → Type 0) (ms : List Marked) (b : Buffer) → ((z : ℤ) → P (regrouped_buffer b z))
    → (all_of (λ (m : Marked). not (ends_track b m)) ms ≡ true → P b) → P (after_loss ms b)
unfolding after_loss
by-loss P [] b lost none = none (all_none _)
by-loss P (m ∷ ms) b lost none =
    by-test P (ends_track b m) (λ _. lost m.frame.pts)
    (λ e. by-loss P ms b lost (λ rest. none (all_more (λ (m : Marked). not (ends_track b m)) m ms (ap not e) rest)))

-- a frame at its track's last decode time is not lost, if none that is lost ends its track
end_stays : (b : Buffer) (n : ℕ) → (track_of b n).known ≡ true → (m : Marked) → not (ends_track b m) ≡ true
    → (not (decoded_at n b.group.number (track_of b n).dts m.frame) || not (is_taken m)) ≡ true
end_stays b n known m e =
    split (decoded_at n b.group.number (track_of b n).dts m.frame)
    (λ at.
    let own : m.frame.track ≡ n = eqb-true m.frame.track n (and_left _ _ (and_left _ _ at)) in
    let same : same_int m.frame.dts (track_of b n).dts ≡ true = and_right (is_of n b.group.number m.frame) _ at in
    or_right (not (decoded_at n b.group.number (track_of b n).dts m.frame)) _
    (split (is_taken m) (λ t. both_ways (and_both t (rw own (and_both known same))) (not-true _ e)) (λ t. ap not t)))
    (λ other. or_left _ _ (ap not other))

removed-begun : (s : ℤ) (e : Bound) (b : Buffer) → IsLed b → AllBegun (removed_outcome s e b).after.tracks (removed_outcome s e b).after.group.number (removed_outcome s e b).after.frames
unfolding removed_outcome
removed-begun s e b h =
    let marks = removal_marks s e b.frames in
    by-loss (λ (c : Buffer). AllBegun c.tracks c.group.number (kept marks)) marks b
    (λ z. regrouped-begun b z (kept marks))
    (λ none n from to off.
    let begun = h.begun n from to off in
    record {
      known = begun.known;
      stored =
          kept-some (decoded_at n b.group.number (track_of b n).dts) marks (all_weaker (λ (m : Marked). not (ends_track b m)) _ (end_stays b n begun.known) marks none)
          (rw (removal-frames s e b) begun.stored);
    })

-- ---- every call keeps it

-- with what an append spares, on which it rests
abbrev IsEndedLed : Buffer → Type 0
IsEndedLed b = IsEnded b × IsLed b

led-preserved : IsPreserved IsEndedLed
unfolding aborted_buffer
led-preserved = record {
  by_append = λ b f a g h. (ended-preserved.by_append b f a g h.0, appended-led b f a g h.0 h.1);
  by_removal = λ s e b g h. (
    ended-preserved.by_removal s e b g h.0,
    record { led = removed-led s e b g.frames.order h.1.led; begun = removed-begun s e b h.1 },
  );
  by_abort = λ b g h. (
    ended-preserved.by_abort b g h.0,
    record { led = h.1.led; begun = all-needing restarted_track (λ t. refl) b.tracks (aborted_buffer b).group.number b.frames },
  );
  by_set_call = λ b c a h. (ended-preserved.by_set_call b c a h.0, rw (a.tracks, a.frames, a.number) h.1);
}

-- ---- from a fresh buffer

module _ (kinds : List ℕ) (made : create kinds ≡ Ok (fresh kinds)) (cs : List Call) where
  started : IsGoodWith IsEndedLed (fresh kinds)
  unfolding current_ended is_led
  started = record {
    good = rw made at (created-good kinds);
    has = (all_none _, record { led = all_none (led_in []); begun = all-needing fresh_track (λ k. refl) kinds 0 [] });
  }

  -- After every list of calls, every stored frame that is not flagged has a stored flagged frame of its group and track before it.
  pub run-led : is_led (last_of (fresh kinds) cs).frames ≡ true
  run-led = (run-kept IsEndedLed led-preserved (fresh kinds) cs started).has.1.led

  -- So it is after any frames of a batch after them.
  pub batch-led : (fs : List Offered) → is_led (append_each fs (last_of (fresh kinds) cs)).outcome.after.frames ≡ true
  batch-led fs = (batch-kept IsEndedLed led-preserved fs (last_of (fresh kinds) cs) (run-kept IsEndedLed led-preserved (fresh kinds) cs started)).has.1.led
