-- Bounds: what they say of one track, how they rise, and that an append leaves those that were raised by it.
use Rattle.std.specs.Prelude.{Ok}
use mathlib.Core.Path.{◌≡◌, sym, ap, ◌∙◌}
use mathlib.Core.Bool.{Bool, true, not, ◌||◌}
use mathlib.Core.List.{List, [], ◌∷◌}
use Prim.Native.Nat.{ℕ, zero, suc, ◌+◌, ◌≤◌, ◌<◌}
use native.Mathlib.Numerals.{add-one}
use native.Mathlib.Omega.{arith}
use lib.Dec.{eqb}
use lib.IntN.{ℤ, pos, ◌+ℤ◌}
use lib.ListN.{length, take, get_or, set, length-set}
use lib.Seq.{take-suc, get_or-take, get_or-set_same, get_or-set_other}
use lib.Signed.{lt_z, le_z}
use borrow.Author.Tests.{eqb-true, eqb-false, leb-true}
use mir.Syntax.{w64}
use mir.Val.{SFits}
use Rattle.laws.proofs.BoolLaws.{split, and_left, and_right}
use Rattle.laws.proofs.IntLaws.{test-lt, test-le, lt_test, le_test, lt-le, le_refl, lt-add, mag-add}
use Rattle.buffer_state.specs.declared.Frame.{Frame}
use Rattle.buffer_state.specs.declared.Head.{Head}
use Rattle.buffer_state.specs.declared.Offered.{Offered}
use Rattle.buffer_state.specs.Append.{Outcome, end_offered, stored_as, next_number, is_offerable, appended_outcome, append}
use Rattle.buffer_state.specs.Buffer.{Buffer, track_of}
use Rattle.buffer_state.specs.Layout.{zero_frame, buffer_of}
use Rattle.buffer_state.specs.Lent.{frames_of, state_at, head_of, well_formed_at}
use Rattle.buffer_state.specs.Limits.{offered_time, result_time, good_duration}
use Rattle.buffer_state.specs.WellFormed.{all_of, good_frame}
use Rattle.buffer_laws.proofs.AppendLaws.{Moved, IsAccepted, Ends, appended-all}
use Rattle.buffer_laws.proofs.CallLaws.{append-done}
use Rattle.buffer_laws.proofs.GoodLaws.{IsGoodFrame, frame-facts}
use Rattle.buffer_laws.proofs.LayoutLaws.{few-tracks}
use Rattle.buffer_laws.proofs.LentLaws.{lent-good}
use Rattle.buffer_laws.proofs.RowLaws.{frames-length}
use Rattle.buffer_laws.proofs.SettingLaws.{if-done}
use Rattle.buffer_laws.proofs.TestLaws.{all_first, all_rest, all_more, all_none, all_append, all_weaker}
use Rattle.limits.proofs.LimitLaws.{time-mag}
use Rattle.append.specs.Settled.{Before}
use Rattle.append.proofs.StoredLaws.{held-good, held-count, held-store}
use Rattle.batch.specs.Bounds.{bound_at, is_early, IsBounded, Raised}

-- the microsecond after a time inside the limits
pub next_fits : (z : ℤ) → result_time z ≡ true → SFits w64 (z +ℤ pos 1)
next_fits z e = record { sfits = omega (arith, mag-add z (pos 1), time-mag z e) }

-- the frames of one track
pub bounds-own : (bounds : List ℤ) (l : List Frame) → IsBounded bounds l → (track : ℕ) → Before track (bound_at bounds track) l
bounds-own bounds l b track = all_weaker (is_early bounds) _ own l b.each
  where
    own : (g : Frame) → is_early bounds g ≡ true → (not (eqb g.track track) || lt_z g.pts (bound_at bounds track)) ≡ true
    own g e =
        split (eqb g.track track)
        (λ t. rw t (ap (λ (k : ℕ). lt_z g.pts (bound_at bounds k)) (sym (eqb-true g.track track t)) ∙ e))
        (λ t. rw t)

-- ---- bounds that rise

pub raised-each : (before after : List ℤ) → Raised before after → (l : List Frame) → all_of (is_early before) l ≡ true → all_of (is_early after) l ≡ true
raised-each before after r = all_weaker (is_early before) (is_early after) later
  where
    later : (g : Frame) → is_early before g ≡ true → is_early after g ≡ true
    later g e =
        lt_test (lt-le (test-lt {a = g.pts} {b = bound_at before g.track} e) (test-le {a = bound_at before g.track} {b = bound_at after g.track} (r.each g.track)))

module _ (bounds : List ℤ) (k : ℕ) (new : ℤ) (inside : k < length bounds) where
  pub set-bound : bound_at (set bounds k new) k ≡ new
  set-bound = get_or-set_same bounds k new (pos 0) inside

  pub set-raised : le_z (bound_at bounds k) new ≡ true → Raised bounds (set bounds k new)
  set-raised h = record { five = length-set bounds k new; each = each }
    where
      each : (track : ℕ) → le_z (bound_at bounds track) (bound_at (set bounds k new) track) ≡ true
      each track =
          split (eqb track k)
          (λ t. rw (eqb-true track k t, set-bound) h)
          (λ t. ap (le_z (bound_at bounds track)) (get_or-set_other bounds k track new (pos 0) (eqb-false track k t))
          ∙ le_test (le_refl (bound_at bounds track)))

  -- the track's own bound reaches its highest end
  pub set-high : (h : Head) → ((b : Buffer) → h ≡ head_of b → le_z (track_of b k).end new ≡ true)
      → (b : Buffer) → h ≡ head_of b → le_z (track_of b k).end (bound_at (set bounds k new) k) ≡ true
  set-high h high b e = ap (le_z (track_of b k).end) set-bound ∙ high b e

-- ---- the frames one by one

pub none-bounded : (bounds : List ℤ) → length bounds ≡ 5 → IsBounded bounds []
none-bounded bounds e = record { five = e; each = all_none (is_early bounds) }

-- one frame more, and the bound of its track raised past it
pub bounded-more : (bounds : List ℤ) (l : List Frame) (i : ℕ) (new : ℤ) → let g = get_or l i zero_frame in i < length l → g.track < 5
    → le_z (bound_at bounds g.track) new ≡ true → lt_z g.pts new ≡ true
    → IsBounded bounds (take i l) → IsBounded (set bounds g.track new) (take (i + 1) l)
bounded-more bounds l i new inside on up past b =
    let g = get_or l i zero_frame in
    let k : g.track < length bounds = omega (arith, b.five) in
    let after : List ℤ = set bounds g.track new in
    let raised = set-raised bounds g.track new k up in
    let here : is_early after g ≡ true = ap (lt_z g.pts) (set-bound bounds g.track new k) ∙ past in
    record {
      five = raised.five ∙ b.five;
      each =
          rw (add-one i, take-suc l i zero_frame inside)
          (all_append (is_early after) (take i l) (g ∷ []) (raised-each bounds after raised (take i l) b.each) (all_more (is_early after) g [] here (all_none (is_early after))));
    }

-- ---- a stored frame is a good one

all-at : (p : Frame → Bool) (l : List Frame) (i : ℕ) → i < length l → all_of p l ≡ true → p (get_or l i zero_frame) ≡ true
all-at p [] i h e = absurd (omega arith)
all-at p (x ∷ l) zero h e = all_first p x l e
all-at p (x ∷ l) (suc i) h e = all-at p l i (omega arith) (all_rest p x l e)

module _ (h : Head) (ts : List (List ℤ)) (gs : List (List ℕ)) (w : well_formed_at h ts gs ≡ true) where
  pub stored-long : h.nframes ≤ length (frames_of ts gs)
  stored-long = let s = held-store h ts gs w in omega (arith, s.few, s.long.0, frames-length ts gs (s.long.0 ∙ sym s.long.1))

  pub stored_at : (i : ℕ) → i < h.nframes → IsGoodFrame (length (buffer_of (state_at h ts gs)).tracks) h.last h.group.number (get_or (frames_of ts gs) i zero_frame)
  stored_at i e =
      let b = buffer_of (state_at h ts gs) in
      let good = good_frame (length b.tracks) h.last h.group.number in
      frame-facts _ _ _ _
      (ap good (sym (get_or-take h.nframes (frames_of ts gs) i zero_frame e))
      ∙ all-at good b.frames i (omega (arith, held-count h ts gs w)) (held-good h ts gs w).frames.each)

  pub stored-track : (i : ℕ) → i < h.nframes → (get_or (frames_of ts gs) i zero_frame).track < 5
  stored-track i e = omega (arith, (stored_at i e).track_to, few-tracks (buffer_of (state_at h ts gs)) (lent-good h ts gs w))

-- ---- a frame more

duration-from : (f : Offered) → is_offerable f ≡ true → 1 ≤ f.duration
unfolding is_offerable good_duration
duration-from f e = leb-true 1 f.duration (and_left _ _ (and_right (offered_time f.dts) _ (and_right (offered_time f.pts) _ e)))

module _ (lent : ℕ) (f : Offered) (b : Buffer) (o : Outcome) (e : append lent f b ≡ Ok o) where
  accepted : IsAccepted b f × (appended_outcome b f ≡ o)
  accepted = if-done (λ (o : Outcome). IsAccepted b f × (appended_outcome b f ≡ o)) (append lent f b) (append-done lent f b) e

  pub accepted-from : 1 ≤ f.track
  accepted-from = accepted.0.track_from

  pub accepted-to : f.track ≤ length b.tracks
  accepted-to = accepted.0.track_to

  -- bounds that have risen to the track's highest end bound the frames after the append
  pub after-bounded : (before after : List ℤ) → IsBounded before b.frames → Raised before after
      → le_z (track_of o.after f.track).end (bound_at after f.track) ≡ true → IsBounded after o.after.frames
  after-bounded before after bounded r high = record {
    five = r.five ∙ bounded.five;
    each =
        rw accepted.1 at
        (appended-all (is_early after) b f accepted.0 (raised-each before after r b.frames bounded.each) (λ g group m ends. new g group m (rw accepted.1 at ends)));
  }
    where
      new : (g : Offered) (group : ℕ) → Moved f g → Ends o.after g → is_early after (stored_as (next_number b) group g) ≡ true
      new g group m ends =
          let lasts : 1 ≤ g.duration = omega (arith, duration-from f accepted.0.offerable, m.duration) in
          let ended = lt-le (lt-add g.pts g.duration lasts) (test-le {a = end_offered g} {b = (track_of o.after g.track).end} ends) in
          lt_test (lt-le ended (test-le {a = (track_of o.after g.track).end} {b = bound_at after g.track} (rw m.track high)))
