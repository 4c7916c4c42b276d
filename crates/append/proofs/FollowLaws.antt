-- A frame that goes on from where its track stands: what its append comes to.
use Rattle.std.specs.Prelude.{Ok}
use mathlib.Core.Path.{◌≡◌, sym, ap, subst, ◌∙◌}
use mathlib.Core.Bool.{true, false, not, ◌&&◌, ◌||◌}
use mathlib.Core.List.{List, []}
use Prim.Native.Nat.{ℕ, ◌-◌, ◌≤◌}
use native.Mathlib.Omega.{arith}
use lib.Dec.{leb, eqb}
use lib.IntN.{ℤ}
use lib.ListN.{length}
use lib.Seq.{get_or-set_same}
use lib.Signed.{lt_z}
use Rattle.buffer_state.specs.declared.Frame.{Frame}
use Rattle.buffer_state.specs.declared.Head.{Head}
use Rattle.buffer_state.specs.declared.Offered.{Offered}
use Rattle.buffer_state.specs.declared.Track.{Track}
use Rattle.buffer_state.specs.Answers.{append_result}
use Rattle.buffer_state.specs.Append.{Pass, is_overlapped, overlap_marks, step_nine, stored}
use Rattle.buffer_state.specs.Buffer.{Buffer, zero_track, track_of, with_need}
use Rattle.buffer_state.specs.Layout.{buffer_of}
use Rattle.buffer_state.specs.Lent.{state_at, head_of, well_formed_at}
use Rattle.buffer_state.specs.Limits.{places}
use Rattle.buffer_state.specs.Store.{kept, lines_of}
use Rattle.buffer_laws.proofs.AppendLaws.{last-from}
use Rattle.buffer_laws.proofs.TestLaws.{all_weaker}
use Rattle.taking.proofs.GoneLaws.{none-gone}
use Rattle.append.specs.Settled.{settled_result, pass_at, storing_at, IsReady, Before, Follows}
use Rattle.append.proofs.AnswerLaws.{goes_on, state-track, last_pass-ready}
use Rattle.append.proofs.SettleLaws.{store-result}
use Rattle.append.proofs.StoredLaws.{held-head, stored-count}

-- it is on the track that was offered
pub follows-track : (b : Buffer) (f g : Offered) (bound : ℤ) → Follows b f g bound → g.track ≡ f.track
follows-track b f g bound k = ap (λ (p : Pass). p.frame.track) (sym k.calm.last) ∙ (last-from b f).frame.track

module _ (h : Head) (ts : List (List ℤ)) (gs : List (List ℕ)) (w : well_formed_at h ts gs ≡ true) (f g : Offered) (bound : ℤ)
    (k : Follows (buffer_of (state_at h ts gs)) f g bound) where
  abbrev held : Buffer
  held = buffer_of (state_at h ts gs)

  abbrev storing : Pass
  storing = storing_at h ts gs g

  laid : h ≡ head_of held
  laid = held-head h ts gs w

  offered-track : (leb 1 f.track && leb f.track h.ntracks) ≡ true
  offered-track = rw (ap (λ (x : Head). x.ntracks) laid) k.track

  pub follows-ready : IsReady h ts gs g
  follows-ready =
      let last = last_pass-ready h ts gs w f (state-track h ts gs w f offered-track) k.number k.calm.inside k.calm.group in
      let here : IsReady (head_of held) ts gs g = subst (λ (p : Pass). IsReady (head_of p.buffer) ts gs p.frame) k.calm.last last in
      subst (λ (x : Head). IsReady x ts gs g) (sym laid) here

  -- need-random-access does not bear on what is overlapped
  track-off : track_of storing.buffer g.track ≡ with_need false (track_of held g.track)
  track-off =
      let r = follows-ready.track in
      let width : length held.tracks ≡ h.ntracks = ap (λ (x : Head). x.ntracks) (sym laid) in
      get_or-set_same held.tracks (g.track - 1) _ zero_track (omega (arith, r.0, r.1, width))

  module _ (before : Before g.track bound held.frames) where
    all_stay : (kept (overlap_marks storing) ≡ held.frames) × (lines_of (overlap_marks storing) ≡ [])
    unfolding overlap_marks is_overlapped
    all_stay =
        none-gone (is_overlapped (track_of storing.buffer g.track) g) 4 held.frames
        (all_weaker (λ (x : Frame). not (eqb x.track g.track) || lt_z x.pts bound) _
        (λ x e. ap not (ap (λ (t : Track). is_overlapped t g x) track-off ∙ k.free x e)) held.frames before)

    -- the frame is stored beside all that were, and there is no line
    pub follows-result : append_result places f h ts gs ≡ Ok (record { after = step_nine storing held.frames; lines = [] })
    unfolding stored
    follows-result =
        let stay = all_stay in
        let count : length (kept (overlap_marks storing)) ≡ length held.frames = ap length stay.0 in
        let room : length (stored storing).after.frames ≤ places = omega (arith, stored-count storing, count, k.room) in
        let last = goes_on places f h ts gs w (omega arith) offered-track k.offered k.number k.calm.inside k.calm.group in
        last ∙ ap settled_result k.calm.last ∙ store-result (pass_at h ts gs g) k.stays room
        ∙ (λ j. Ok (record { after = step_nine storing (stay.0 j); lines = stay.1 j }))
