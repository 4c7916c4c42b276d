-- An append keeps every stored frame led (document 02, No. 6). Beside that it keeps, of a track that needs no random access point, that a
-- frame of the current group at its last decode time is stored: the next frame to be stored there follows one that is led.
use mathlib.Core.Path.{◌≡◌, refl, sym, subst}
use mathlib.Core.Bool.{Bool, true, false, ◌&&◌}
use mathlib.Core.List.{List, map}
use mathlib.Core.Logic.{◌≢◌}
use Prim.Native.Nat.{ℕ, ◌-◌, ◌≤◌}
use native.Mathlib.Omega.{arith}
use lib.Dec.{eqb}
use lib.IntN.{ℤ}
use lib.ListN.{length, get_or, set, length-set}
use lib.Seq.{get_or-set_same, get_or-set_other}
use lib.Signed.{lt_z, ◌≤ℤ◌}
use borrow.Author.Tests.{eqb-true, eqb-false, eq-eqb}
use Rattle.laws.proofs.BoolLaws.{clash, both_ways, split, by-test, and_left, and_right, and_both, or_left, or_right, or-none-left}
use Rattle.laws.proofs.IntLaws.{test-ge}
use Rattle.seconds.specs.Seconds.{same_int}
use Rattle.seconds.proofs.SecondsLaws.{int_same, same_int_lem}
use Rattle.buffer_state.specs.declared.Frame.{Frame}
use Rattle.buffer_state.specs.declared.Offered.{Offered}
use Rattle.buffer_state.specs.declared.Track.{Track}
use Rattle.buffer_state.specs.Append.{Outcome, Pass, step_one, pass_of, moved, regrouped_buffer, breaks, second_pass, last_pass, needing_buffer, before_window, past_window, lacks_random_access, is_overlapped, overlap_marks, stored_as, next_number, followed, step_nine, stored, settled, appended_outcome}
use Rattle.buffer_state.specs.Buffer.{Buffer, zero_track, track_of, with_need, restarted_track, is_sequence}
use Rattle.buffer_state.specs.Seek.{some_of, led_in, is_led}
use Rattle.buffer_state.specs.Store.{is_of, kept, insert_sorted}
use Rattle.buffer_state.specs.WellFormed.{good_frame}
use Rattle.buffer_laws.proofs.AppendLaws.{no-third-pass, last_pass-good, needing-good, IsAccepted}
use Rattle.buffer_laws.proofs.GoodLaws.{frame-facts, IsGood}
use Rattle.buffer_laws.proofs.GroupLaws.{IsEnded, last_pass-ended, needing-ended, track_from, track_to, current-apart}
use Rattle.buffer_laws.proofs.MemberLaws.{In, all_in, in_some, some-passing}
use Rattle.buffer_laws.proofs.OrderLaws.{before-later, insert-new, insert-some}
use Rattle.buffer_laws.proofs.SpareLaws.{taking-leaves}
use Rattle.buffer_laws.proofs.StoreLaws.{left-all}
use Rattle.buffer_laws.proofs.TestLaws.{all-place, map-all}
use Rattle.buffer_laws.proofs.WalkLaws.{left-led, follows-led, insert-led}

-- ---- tracks that need no random access point

-- a frame of the track and the group with that decode time
abbrev pub decoded_at : ℕ → ℕ → ℤ → Frame → Bool
decoded_at track group z f = is_of track group f && same_int f.dts z

-- the last decode time of track n is set, and a frame of the group that has it is stored
pub record IsBegun (t : Track) (n group : ℕ) (fs : List Frame) : Type 0 where
  pub known : t.known ≡ true
  pub stored : some_of (decoded_at n group t.dts) fs ≡ true

abbrev pub IsBegunIf : Track → ℕ → ℕ → List Frame → Type 0
IsBegunIf t n group fs = t.need ≡ false → IsBegun t n group fs

abbrev pub AllBegun : List Track → ℕ → List Frame → Type 0
AllBegun ts group fs = (n : ℕ) → 1 ≤ n → n ≤ length ts → IsBegunIf (get_or ts (n - 1) zero_track) n group fs

-- what a run keeps: of a buffer's tracks, its group's number and its frames
pub record Following (ts : List Track) (group : ℕ) (fs : List Frame) : Type 0 where
  pub led : is_led fs ≡ true
  pub begun : AllBegun ts group fs

abbrev pub IsLed : Buffer → Type 0
IsLed b = Following b.tracks b.group.number b.frames

-- nothing is asked of tracks that need one
pub all-needing : {A : Type 0} (f : A → Track) → ((x : A) → (f x).need ≡ true) → (xs : List A) (group : ℕ) (fs : List Frame) → AllBegun (map f xs) group fs
all-needing f need xs group fs n from to off =
    both_ways (all-place (λ (t : Track). t.need) (map f xs) (n - 1) zero_track (omega arith) (map-all (λ (t : Track). t.need) f need xs)) off

-- one track changed
set-begun : (ts : List Track) (k : ℕ) (u : Track) (group : ℕ) (fs : List Frame) → 1 ≤ k → k ≤ length ts
    → ((n : ℕ) → 1 ≤ n → n ≤ length ts → n ≢ k → IsBegunIf (get_or ts (n - 1) zero_track) n group fs) → IsBegunIf u k group fs → AllBegun (set ts (k - 1) u) group fs
set-begun ts k u group fs from to others own n from-n to-n =
    split (eqb n k)
    (λ same.
    let e : n ≡ k = eqb-true n k same in
    let place : get_or (set ts (k - 1) u) (k - 1) zero_track ≡ u = get_or-set_same ts (k - 1) u zero_track (omega arith) in
    subst (λ (m : ℕ). IsBegunIf (get_or (set ts (k - 1) u) (m - 1) zero_track) m group fs) (sym e) (rw place own))
    (λ differ.
    let place : get_or (set ts (k - 1) u) (n - 1) zero_track ≡ get_or ts (n - 1) zero_track =
    get_or-set_other ts (k - 1) (n - 1) u zero_track (λ q. eqb-false n k differ (omega arith)) in
    rw place (others n from-n (omega (arith, length-set ts (k - 1) u)) (eqb-false n k differ)))

-- ---- steps 1 to 3

step_one-led : (b : Buffer) (f : Offered) → IsLed b → IsLed (step_one b f)
unfolding step_one
step_one-led b f h =
    by-test IsLed (is_sequence b.mode && b.group.begun)
    (λ _. record { led = h.led; begun = all-needing (with_need true) (λ t. refl) b.tracks b.group.number b.frames })
    (λ _. h)

pass-led : (b : Buffer) (f : Offered) → IsLed b → IsLed (pass_of b f).buffer
unfolding pass_of
pass-led b f h = step_one-led b f h

pub regrouped-begun : (b : Buffer) (z : ℤ) (fs : List Frame) → AllBegun (regrouped_buffer b z).tracks (regrouped_buffer b z).group.number fs
unfolding regrouped_buffer moved
regrouped-begun b z = all-needing restarted_track (λ t. refl) b.tracks (regrouped_buffer b z).group.number

last_pass-led : (b : Buffer) (f : Offered) → IsLed b → IsLed (last_pass b f).buffer
unfolding last_pass second_pass regrouped_buffer moved
last_pass-led b f h =
    let p = pass_of b f in
    let c = regrouped_buffer p.buffer p.frame.pts in
    by-test (λ (q : Pass). IsLed q.buffer) (breaks p)
    (λ _. pass-led c f (record { led = (pass-led b f h).led; begun = regrouped-begun p.buffer p.frame.pts c.frames }))
    (λ _. pass-led b f h)

-- the pass that step 4 goes on from has no break
last_pass-unbroken : (b : Buffer) (f : Offered) → breaks (last_pass b f) ≡ false
unfolding last_pass
last_pass-unbroken b f = by-test (λ (q : Pass). breaks q ≡ false) (breaks (pass_of b f)) (λ _. no-third-pass b f) (λ e. e)

-- ---- steps 7 to 9

-- the track of the frame
abbrev track_in : Pass → Track
track_in p = track_of p.buffer p.frame.track

-- what is known of a frame that is stored: it is flagged or its track has begun, it is decoded no earlier than the last, and the other
-- tracks are as they were
record IsFit (p : Pass) : Type 0 where
  from : 1 ≤ p.frame.track
  to : p.frame.track ≤ length p.buffer.tracks
  own : p.frame.flagged ≡ false → IsBegun (track_in p) p.frame.track p.buffer.group.number p.buffer.frames
  onward : (track_in p).known ≡ true → (track_in p).dts ≤ℤ p.frame.dts
  others : (n : ℕ) → 1 ≤ n → n ≤ length p.buffer.tracks → n ≢ p.frame.track
      → IsBegunIf (track_of p.buffer n) n p.buffer.group.number p.buffer.frames

module _ (p : Pass) (g : IsGood p.buffer) (ended : IsEnded p.buffer) (l : is_led p.buffer.frames ≡ true) (fit : IsFit p) where
  abbrev group : ℕ
  group = p.buffer.group.number

  abbrev overlaps : Frame → Bool
  overlaps = is_overlapped (track_in p) p.frame

  abbrev left : List Frame
  left = kept (overlap_marks p)

  abbrev new : Frame
  new = stored_as (next_number p.buffer) group p.frame

  rest-led : is_led left ≡ true
  unfolding overlap_marks
  rest-led = left-led overlaps 4 p.buffer.frames g.frames.order l

  -- an append takes out no frame of the current group
  still-decoded : (n : ℕ) (z : ℤ) → some_of (decoded_at n group z) p.buffer.frames ≡ true → some_of (decoded_at n group z) left ≡ true
  unfolding overlap_marks
  still-decoded n z h =
      taking-leaves group overlaps 4 p.buffer.frames (current-apart p.buffer p.frame g ended)
      (decoded_at n group z) (λ f e. eqb-true f.group group (and_right (eqb f.track n) _ (and_left _ _ e))) h

  left-numbered : (x : Frame) → In x left → x.number ≤ p.buffer.last
  unfolding overlap_marks
  left-numbered x i =
      let good = good_frame (length p.buffer.tracks) p.buffer.last group in
      (frame-facts (length p.buffer.tracks) p.buffer.last group x (all_in good left (left-all overlaps 4 p.buffer.frames good g.frames.each) i)).number_to

  -- the frame at the track's last decode time comes before the new one
  new-led : led_in left new ≡ true
  new-led =
      split p.frame.flagged (λ on. or_left _ _ on)
      (λ off.
      let begun = fit.own off in
      let found = some-passing (decoded_at p.frame.track group (track_in p).dts) left (still-decoded p.frame.track (track_in p).dts begun.stored) in
      let x = found.element in
      let own : is_of p.frame.track group x ≡ true = and_left _ _ found.passes in
      let at : x.dts ≡ (track_in p).dts = same_int_lem x.dts (track_in p).dts (and_right (is_of p.frame.track group x) _ found.passes) in
      let late : x.dts ≤ℤ p.frame.dts = rw at (fit.onward begun.known) in
      or_right p.frame.flagged _
      (follows-led left rest-led x new found.among own
      (before-later x new (eqb-true x.track p.frame.track (and_left _ _ own)) late (omega (arith, left-numbered x found.among)))))

  stored-led : IsLed (stored p).after
  unfolding stored step_nine
  stored-led = record {
    led = insert-led new left new-led rest-led;
    begun =
        set-begun p.buffer.tracks p.frame.track (followed (track_in p) p.frame) group (insert_sorted new left) fit.from fit.to
        (λ n from to differ off.
        let begun = fit.others n from to differ off in
        record { known = begun.known; stored = insert-some new _ left (still-decoded n (track_of p.buffer n).dts begun.stored) })
        (λ _. record { known = refl; stored = in_some (decoded_at p.frame.track group p.frame.dts) (insert_sorted new left) (insert-new new left) at_own });
  }
    where
      at_own : decoded_at p.frame.track group p.frame.dts new ≡ true
      at_own = and_both (and_both (eq-eqb p.frame.track p.frame.track refl) (eq-eqb group group refl)) (int_same p.frame.dts)

-- ---- steps 4 to 6

module _ (p : Pass) (from : 1 ≤ p.frame.track) (to : p.frame.track ≤ length p.buffer.tracks) (h : IsLed p.buffer) where
  dropped-led : IsLed (needing_buffer true p)
  dropped-led = record {
    led = h.led;
    begun =
        set-begun p.buffer.tracks p.frame.track (with_need true (track_in p)) p.buffer.group.number p.buffer.frames from to
        (λ n from to _. h.begun n from to) (λ off. clash off);
  }

  ready-fit : breaks p ≡ false → lacks_random_access p ≡ false → IsFit (record { buffer = needing_buffer false p; frame = p.frame })
  unfolding breaks
  ready-fit unbroken allowed =
      let k = p.frame.track in
      let ts = p.buffer.tracks in
      let u = with_need false (track_in p) in
      let place : get_or (set ts (k - 1) u) (k - 1) zero_track ≡ u = get_or-set_same ts (k - 1) u zero_track (omega arith) in
      record {
        from = from;
        to = omega (arith, length-set ts (k - 1) u);
        own = λ off.
            let begun = h.begun k from to (needless (track_in p).need (rw off at allowed)) in
            rw place (record { known = begun.known; stored = begun.stored });
        onward = rw place (λ known. test-ge (or-none-left (lt_z p.frame.dts (track_in p).dts) _ (rw known at unbroken)));
        others = λ n from-n to-n differ.
            rw (get_or-set_other ts (k - 1) (n - 1) u zero_track (λ q. differ (omega arith))) (h.begun n from-n (omega (arith, length-set ts (k - 1) u)));
      }
    where
      needless : (need : Bool) → (need && true) ≡ false → need ≡ false
      needless true e = e
      needless false e = e

  settled-led : IsGood p.buffer → IsEnded p.buffer → breaks p ≡ false → IsLed (settled p).after
  unfolding settled
  settled-led g ended unbroken =
      let Keeps : Outcome → Type 0 = λ (o : Outcome). IsLed o.after in
      by-test Keeps (before_window p) (λ _. dropped-led)
      (λ _. by-test Keeps (past_window p) (λ _. dropped-led)
      (λ _. by-test Keeps (lacks_random_access p) (λ _. h)
      (λ allowed. stored-led (record { buffer = needing_buffer false p; frame = p.frame }) (needing-good false p g) (needing-ended false p ended) h.led (ready-fit unbroken allowed))))

pub appended-led : (b : Buffer) (f : Offered) → IsAccepted b f → IsGood b → IsEnded b → IsLed b → IsLed (appended_outcome b f).after
unfolding appended_outcome
appended-led b f a g ended h =
    settled-led (last_pass b f) (track_from b f a) (track_to b f a) (last_pass-led b f h)
    (last_pass-good b f g a.inside a.group).buffer (last_pass-ended b f g a.inside ended) (last_pass-unbroken b f)
