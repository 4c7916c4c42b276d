-- A removal keeps a good buffer good, and every number that it finds stored it leaves stored or tells on one line.
use mathlib.Core.Path.{◌≡◌, refl}
use mathlib.Core.Bool.{Bool, true, false, ◌&&◌}
use mathlib.Core.List.{List, [], ◌∷◌}
use Prim.Native.Nat.{ℕ, ◌≤◌}
use native.Mathlib.Omega.{arith}
use lib.Dec.{leb}
use lib.IntN.{ℤ}
use lib.ListN.{length, length-map}
use lib.Signed.{le_z}
use Rattle.laws.proofs.BoolLaws.{by-test}
use Rattle.seconds.specs.Seconds.{Bound}
use Rattle.buffer_state.specs.declared.Frame.{Frame}
use Rattle.buffer_state.specs.Buffer.{Buffer, restarted_track, in_last_group}
use Rattle.buffer_state.specs.Limits.{result_time}
use Rattle.buffer_state.specs.Store.{Marked}
use Rattle.buffer_state.specs.Append.{moved, regrouped_buffer}
use Rattle.buffer_state.specs.Remove.{before_bound, far_edge, removal_marks, ends_track, after_loss, ends_any, removal_lacks_group, removed_outcome}
use Rattle.buffer_state.specs.Run.{total}
use Rattle.buffer_state.specs.Seek.{is_led}
use Rattle.buffer_state.specs.WellFormed.{all_of, good_frame, is_sorted}
use Rattle.buffer_laws.proofs.TestLaws.{all_first, all_rest, all_weaker}
use Rattle.buffer_laws.proofs.StoreLaws.{frames_of, marks-frames, left-all, left-and-told, told-cause}
use Rattle.buffer_laws.proofs.WalkLaws.{left-led}
use Rattle.buffer_laws.proofs.GoodLaws.{frame-facts, frames-later, frames-left, IsGood}
use Rattle.buffer_laws.proofs.AppendLaws.{regrouped-number, regrouped-good, IsUntouched, Accounts}

-- ---- the rule on the last decode time

pub lost-untouched : (ms : List Marked) (b : Buffer) → IsUntouched b (after_loss ms b)
unfolding after_loss regrouped_buffer moved
lost-untouched [] b = record { frames = refl; last = refl; width = refl }
lost-untouched (m ∷ ms) b =
    by-test (IsUntouched b) (ends_track b m)
    (λ _. record { frames = refl; last = refl; width = length-map b.tracks restarted_track })
    (λ _. lost-untouched ms b)

-- the group after a loss is the same or the next
pub lost-number : (ms : List Marked) (b : Buffer) → b.group.number ≤ (after_loss ms b).group.number
unfolding after_loss
lost-number [] b = omega arith
lost-number (m ∷ ms) b =
    by-test (λ (c : Buffer). b.group.number ≤ c.group.number) (ends_track b m)
    (λ _. omega (arith, regrouped-number b m.frame.pts))
    (λ _. lost-number ms b)

lost-good : (ms : List Marked) (b : Buffer) → all_of (λ (f : Frame). result_time f.pts) (frames_of ms) ≡ true → IsGood b
    → (ends_any ms b && in_last_group b) ≡ false → IsGood (after_loss ms b)
unfolding after_loss ends_any
lost-good [] b e g more = g
lost-good (m ∷ ms) b e g more =
    by-test IsGood (ends_track b m)
    (λ t. regrouped-good b m.frame.pts g (all_first (λ (f : Frame). result_time f.pts) m.frame (frames_of ms) e) (rw t at more))
    (λ t. lost-good ms b (all_rest (λ (f : Frame). result_time f.pts) m.frame (frames_of ms) e) g (rw t at more))

-- ---- the removal

module _ (s : ℤ) (e : Bound) (b : Buffer) where
  -- the frames from S up to the far edge of their track
  goes : Frame → Bool
  goes f = le_z s f.pts && before_bound f.pts (far_edge f.track e b.frames)

  -- Preservation: a good buffer stays good.
  pub removed-good : removal_lacks_group s e b ≡ false → IsGood b → IsGood (removed_outcome s e b).after
  unfolding removed_outcome removal_lacks_group removal_marks goes
  removed-good more g =
      let marks = removal_marks s e b.frames in
      let u = lost-untouched marks b in
      let early : all_of (λ (f : Frame). result_time f.pts) b.frames ≡ true =
      all_weaker (good_frame (length b.tracks) b.last b.group.number) _ (λ f h. (frame-facts (length b.tracks) b.last b.group.number f h).pts) b.frames g.frames.each in
      let c = lost-good marks b (rw (marks-frames goes 6 b.frames) early) g more in
      record {
        tracks = c.tracks;
        frames =
            rw (u.width, u.last)
            (frames-later (length b.tracks) b.last b.group.number _ (frames-left (length b.tracks) b.last b.group.number b.frames g.frames goes 6)
            b.last (after_loss marks b).group.number (omega arith) (lost-number marks b));
        last = c.last;
        group = c.group;
        settings = c.settings;
      }

  -- Conservation: what was stored is stored or told.
  pub removed-accounts : Accounts b [] (removed_outcome s e b)
  unfolding removed_outcome removal_marks goes total
  removed-accounts = record {
    weight = λ w. omega (arith, left-and-told goes 6 b.frames w);
    last = omega (arith, (lost-untouched (removal_marks s e b.frames) b).last);
    causes = told-cause goes 6 b.frames (λ (c : ℕ). leb 1 c && leb c 6) refl refl;
  }

  pub removal-frames : frames_of (removal_marks s e b.frames) ≡ b.frames
  unfolding removal_marks goes
  removal-frames = marks-frames goes 6 b.frames

  -- a removal leaves every frame led
  pub removed-led : is_sorted b.frames ≡ true → is_led b.frames ≡ true → is_led (removed_outcome s e b).after.frames ≡ true
  unfolding removed_outcome removal_marks goes
  removed-led order l = left-led goes 6 b.frames order l

  -- what every stored frame passed, those left pass
  pub removed-all : (q : Frame → Bool) → all_of q b.frames ≡ true → all_of q (removed_outcome s e b).after.frames ≡ true
  unfolding removed_outcome removal_marks goes
  removed-all q h = left-all goes 6 b.frames q h
