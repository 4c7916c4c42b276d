-- What a seek answers, by the tests in their order; and that the frames to decode are never more than the track has.
use Rattle.std.specs.Prelude.{Err}
use mathlib.Core.Path.{◌≡◌, refl, sym, ap, ◌∙◌}
use mathlib.Core.Bool.{Bool, true, false, not, ◌&&◌}
use mathlib.Core.List.{List, [], ◌∷◌}
use Prim.Native.Nat.{ℕ, ◌+◌, ◌≤◌, ◌<◌}
use native.Mathlib.Omega.{arith}
use lib.Dec.{leb}
use lib.IntN.{ℤ}
use lib.ListN.{length, take, get_or}
use Rattle.laws.proofs.BoolLaws.{by-test, split}
use Rattle.buffer_state.specs.declared.Frame.{Frame}
use Rattle.buffer_state.specs.declared.Head.{Head}
use Rattle.buffer_state.specs.declared.Refusal.TheVariants.{IllFormed, NoTrack, NoStart}
use Rattle.buffer_state.specs.Answers.{seek_result}
use Rattle.buffer_state.specs.Buffer.{Buffer, has_track}
use Rattle.buffer_state.specs.Layout.{zero_frame, buffer_of}
use Rattle.buffer_state.specs.Lent.{frames_of, state_at, well_formed_at}
use Rattle.buffer_state.specs.Limits.{places}
use Rattle.buffer_state.specs.Run.{stored_on}
use Rattle.buffer_state.specs.Seek.{Target, none, picked, target_of, from_flagged, to_decode, start_by, start_to, seek}
use Rattle.buffer_state.specs.WellFormed.{good_frame}
use Rattle.buffer_laws.proofs.GoodLaws.{IsGood, good-facts, frame-facts}
use Rattle.buffer_laws.proofs.LentLaws.{lent-plain, lent-good, lent_back, ill-formed-refused, on-well_formed}
use Rattle.buffer_laws.proofs.RowLaws.{frames-length}
use Rattle.buffer_laws.proofs.SeekLaws.{count-bounded}
use Rattle.buffer_laws.proofs.TestLaws.{all_weaker}
use Rattle.seek.specs.Places.{is_timed, Stands, same_group, Within}
use Rattle.seek.proofs.StoreLaws.{up_to-at}

-- ---- the frames to decode are at most those of the track

by-within : (most : ℕ) (f : Frame) (fs : List Frame) → length fs ≤ most → Within most (start_by f fs)
by-within most f [] h = tt
by-within most f (g ∷ gs) h = h

to-within : (track : ℕ) (t : ℤ) (b : Buffer) (r : Target) → target_of track t b.frames ≡ r → Within (stored_on track b) (start_to r b.frames)
unfolding stored_on
to-within track t b none e = tt
to-within track t b (picked f) e = by-within (stored_on track b) f (to_decode f b.frames) (count-bounded track t f b.frames e)

seek-few : (track : ℕ) (t : ℤ) (b : Buffer) → Within (stored_on track b) (seek track t b)
unfolding seek
seek-few track t b =
    by-test (Within (stored_on track b)) (not (has_track b track)) (λ _. tt)
    (λ _. to-within track t b (target_of track t b.frames) refl)

module _ (track : ℕ) (t : ℤ) (h : Head) (ts : List (List ℤ)) (gs : List (List ℕ)) where
  seek-ill-formed : well_formed_at h ts gs ≡ false → seek_result track t h ts gs ≡ Err IllFormed
  unfolding seek_result
  seek-ill-formed e = ill-formed-refused (seek track t) h ts gs e

  seek-held : well_formed_at h ts gs ≡ true → seek_result track t h ts gs ≡ seek track t (buffer_of (state_at h ts gs))
  unfolding seek_result
  seek-held w = on-well_formed (seek track t) h ts gs w

  pub seek-within : Within (stored_on track (buffer_of (state_at h ts gs))) (seek_result track t h ts gs)
  seek-within =
      split (well_formed_at h ts gs)
      (λ w. rw (seek-held w) (seek-few track t (buffer_of (state_at h ts gs))))
      (λ i. rw (seek-ill-formed i) tt)

  module _ (w : well_formed_at h ts gs ≡ true) where
    good : IsGood (buffer_of (state_at h ts gs))
    good = good-facts (buffer_of (state_at h ts gs)) (lent-good h ts gs w)

    count : h.ntracks ≡ length (buffer_of (state_at h ts gs)).tracks
    count = ap (λ (x : Head). x.ntracks) (lent_back h ts gs w).head

    stored : h.nframes ≡ length (take h.nframes (frames_of ts gs))
    stored = ap (λ (x : Head). x.nframes) (lent_back h ts gs w).head

    few : h.nframes ≤ places
    few = omega (arith, stored, good.frames.few)

    pub frames-long : length (frames_of ts gs) ≡ places
    frames-long = let l = (lent-plain h ts gs w).long in frames-length ts gs (l.0 ∙ sym l.1) ∙ l.0

    pub well_formed-stands : Stands ts gs h.nframes
    well_formed-stands =
        let n : ℕ = length (buffer_of (state_at h ts gs)).tracks in
        record {
          long = (lent-plain h ts gs w).long;
          few = few;
          each = all_weaker (good_frame n h.last h.group.number) is_timed (λ (f : Frame) e. (frame-facts n h.last h.group.number f e).pts) (take h.nframes (frames_of ts gs)) good.frames.each;
        }

    module _ (known : Bool) (is : known ≡ (leb 1 track && leb track h.ntracks)) where
      has_track_lem : has_track (buffer_of (state_at h ts gs)) track ≡ known
      has_track_lem = rw (← count) (sym is)

      pub seek-unknown : known ≡ false → seek_result track t h ts gs ≡ Err NoTrack
      unfolding seek
      seek-unknown k = seek-held w ∙ rw (has_track_lem ∙ k)

      module _ (k : known ≡ true) where
        seek-known : seek_result track t h ts gs ≡ start_to (target_of track t (take h.nframes (frames_of ts gs))) (take h.nframes (frames_of ts gs))
        unfolding seek
        seek-known = seek-held w ∙ rw (has_track_lem ∙ k)

        pub seek-uncovered : target_of track t (take h.nframes (frames_of ts gs)) ≡ none → seek_result track t h ts gs ≡ Err NoStart
        seek-uncovered e = seek-known ∙ ap (λ (r : Target). start_to r (take h.nframes (frames_of ts gs))) e

        module _ (at : ℕ) (inside : at < h.nframes) where
          abbrev target : Frame
          target = get_or (frames_of ts gs) at zero_frame

          pub seek-walked : target_of track t (take h.nframes (frames_of ts gs)) ≡ picked target
              → seek_result track t h ts gs ≡ start_by target (from_flagged (same_group target (take (at + 1) (frames_of ts gs))))
          unfolding to_decode
          seek-walked e =
              seek-known ∙ ap (λ (r : Target). start_to r (take h.nframes (frames_of ts gs))) e
              ∙ ap (λ (l : List Frame). start_by target (from_flagged l))
              (up_to-at zero_frame (frames_of ts gs) h.nframes at (omega (arith, few, frames-long)) inside good.frames.order)
