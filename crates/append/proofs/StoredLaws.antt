-- The store of a well-formed state, the pass that stores a frame in it, and how many frames that leaves.
use mathlib.Core.Path.{◌≡◌, sym, ap, ◌∙◌}
use mathlib.Core.Bool.{true, false, not, ◌||◌}
use mathlib.Core.List.{List}
use Prim.Native.Nat.{ℕ, suc, ◌-◌, ◌<◌}
use native.Mathlib.Omega.{arith}
use lib.Dec.{eqb}
use lib.IntN.{ℤ, pos, neg_ℤ}
use lib.ListN.{length, take, length-set}
use lib.Signed.{lt_z, le_z}
use borrow.Author.Tests.{lt-ltb}
use Rattle.laws.proofs.BoolLaws.{and_right, or_right}
use Rattle.laws.proofs.IntLaws.{test-le, lt_test, le-lt, lt-add}
use Rattle.laws.proofs.ListLaws.{first-length}
use Rattle.buffer_state.specs.declared.Frame.{Frame}
use Rattle.buffer_state.specs.declared.Head.{Head}
use Rattle.buffer_state.specs.declared.Offered.{Offered}
use Rattle.buffer_state.specs.Append.{Pass, needing_buffer, overlap_marks, step_nine, stored_as, next_number, stored}
use Rattle.buffer_state.specs.Buffer.{Buffer}
use Rattle.buffer_state.specs.Layout.{buffer_of}
use Rattle.buffer_state.specs.Lent.{frames_of, state_at, head_of, well_formed_at}
use Rattle.buffer_state.specs.Limits.{result_time, places}
use Rattle.buffer_state.specs.Store.{kept}
use Rattle.buffer_state.specs.WellFormed.{good_frame}
use Rattle.buffer_laws.proofs.GoodLaws.{IsGood, good-facts, frame-facts}
use Rattle.buffer_laws.proofs.LayoutLaws.{few-tracks}
use Rattle.buffer_laws.proofs.LentLaws.{lent-plain, lent-good, lent-zeros, lent_back}
use Rattle.buffer_laws.proofs.OrderLaws.{insert-length}
use Rattle.buffer_laws.proofs.RowLaws.{frames-length}
use Rattle.buffer_laws.proofs.TestLaws.{all_weaker}
use Rattle.heads.specs.Heads.{HasTrack}
use Rattle.taking.specs.declared.Span.{Span}
use Rattle.taking.specs.Taking.{on_track, in_spans, IsFirstIn}
use Rattle.taking.proofs.GoneLaws.{some-gone}
use Rattle.append.specs.Settled.{pass_at, IsReady, IsStored, Before, overlap_at}

-- ---- the store of a well-formed state

module _ (h : Head) (ts : List (List ℤ)) (gs : List (List ℕ)) (w : well_formed_at h ts gs ≡ true) where
  abbrev held : Buffer
  held = buffer_of (state_at h ts gs)

  pub held-good : IsGood held
  held-good = good-facts held (lent-good h ts gs w)

  pub held-head : h ≡ head_of held
  held-head = (lent_back h ts gs w).head

  pub held-count : h.nframes ≡ length held.frames
  held-count = ap (λ (k : Head). k.nframes) held-head

  pub held-store : IsStored h.nframes ts gs
  held-store =
      let tracks = few-tracks held (lent-good h ts gs w) in
      let p = lent-plain h ts gs w in
      record {
        few = omega (arith, held-count, held-good.frames.few);
        long = p.long;
        hold = record { times = p.times; tags = p.tags; zeros = lent-zeros h ts gs w };
        order = held-good.frames.order;
        tracks = all_weaker (good_frame (length held.tracks) held.last held.group.number) on_track
            (λ f e. lt-ltb f.track 5 (omega (arith, tracks, (frame-facts _ _ _ f e).track_to))) held.frames held-good.frames.each;
      }

  -- no frame is presented past the limits
  pub past-limits : (track : ℕ) → Before track (pos 4000000000001) held.frames
  unfolding result_time
  past-limits track =
      all_weaker (good_frame (length held.tracks) held.last held.group.number) (λ (g : Frame). not (eqb g.track track) || lt_z g.pts (pos 4000000000001))
      (λ g e. or_right (not (eqb g.track track)) _
      (lt_test (le-lt (test-le {a = g.pts} {b = pos 4000000000000} (and_right (le_z (neg_ℤ (pos 4000000000000)) g.pts) _ (frame-facts _ _ _ g e).pts)) (lt-add (pos 4000000000000) 1 (omega arith)))))
      held.frames held-good.frames.each

-- ---- need-random-access turned off for the frame's track

module _ (h : Head) (ts : List (List ℤ)) (gs : List (List ℕ)) (g : Offered) (r : IsReady h ts gs g) (k : Head) (e : k ≡ head_of (needing_buffer false (pass_at h ts gs g))) where
  pub needing-track : HasTrack k g.track
  needing-track =
      let width : length (needing_buffer false (pass_at h ts gs g)).tracks ≡ h.ntracks =
      length-set (take h.ntracks h.tracks) (g.track - 1) _ ∙ ap (λ (x : Head). x.ntracks) (sym (held-head h ts gs r.whole)) in
      rw (e, width) r.track

-- ---- the pass that stores

pub stored-count : (q : Pass) → length (stored q).after.frames ≡ suc (length (kept (overlap_marks q)))
unfolding stored step_nine
stored-count q = insert-length (stored_as (next_number q.buffer) q.buffer.group.number q.frame) (kept (overlap_marks q))

-- where a frame goes, a place is freed
pub freed : (spans : List Span) (n first : ℕ) (ts : List (List ℤ)) (gs : List (List ℕ)) → IsStored n ts gs
    → IsFirstIn (in_spans spans) (take n (frames_of ts gs)) n first → first < n → length (kept (overlap_at spans n ts gs)) < places
freed spans n first ts gs s f h =
    let fs : List Frame = frames_of ts gs in
    let long = frames-length ts gs (s.long.0 ∙ sym s.long.1) in
    omega (arith, some-gone (in_spans spans) 4 (omega arith) (take n fs) (f.here h), first-length fs n (omega (arith, long, s.long.0, s.few)), s.few)
