-- A State holds a buffer and nothing else: to lay out and to read back undo each other, since past the counts stand zeros only.
use mathlib.Core.Path.{◌≡◌, refl, sym, ap, ◌∙◌}
use mathlib.Core.Bool.{Bool, true, not, ◌&&◌}
use mathlib.Core.List.{List, ◌++◌}
use Prim.Native.Nat.{ℕ, ◌-◌, ◌≤◌}
use native.Mathlib.Omega.{arith}
use lib.Dec.{leb, eqb}
use lib.IntN.{pos}
use lib.ListN.{length, take, drop, replicate, length-append, length-replicate, length-drop, take-append-drop}
use lib.Seq.{take-append_seam, drop-append_seam, length-take-le}
use borrow.Author.Tests.{leb-true, le-leb, eqb-true, eq-eqb, not-true}
use Rattle.laws.proofs.BoolLaws.{and_left, and_right, and_both}
use Rattle.seconds.specs.Seconds.{same_int}
use Rattle.seconds.proofs.SecondsLaws.{same_int_lem}
use Rattle.buffer_state.specs.declared.Frame.{Frame}
use Rattle.buffer_state.specs.declared.Track.{Track}
use Rattle.buffer_state.specs.Limits.{places, most_tracks}
use Rattle.buffer_state.specs.Buffer.{Buffer, zero_track}
use Rattle.buffer_state.specs.WellFormed.{all_of, zero_int, good_count, good_tracks, good_frames, good_buffer}
use Rattle.buffer_state.specs.Layout.{zero_frame, padded_list, state_of, buffer_of, is_zero_frame, is_zero_track, laid_out, well_formed}
use Rattle.buffer_state.specs.State.{State}
use Rattle.buffer_laws.proofs.TestLaws.{all_replicate, all-only}

-- ---- one array

module _ {A : Type 0} (n : ℕ) (z : A) where
  -- at most n elements, padded to n places, are n
  pub padded-length : (l : List A) → length l ≤ n → length (padded_list n z l) ≡ n
  padded-length l h = omega (arith, length-append l (replicate (n - length l) z), length-replicate (n - length l) z)

  module _ (p : A → Bool) where
    -- past its elements a padded array holds zeros
    pub padded-zeros : p z ≡ true → (l : List A) → all_of p (drop (length l) (padded_list n z l)) ≡ true
    padded-zeros h l = rw (drop-append_seam l (replicate (n - length l) z)) (all_replicate p z h (n - length l))

    -- an array with zeros past its first k elements is those elements, padded
    pub padded-back : ((x : A) → p x ≡ true → x ≡ z) → (k : ℕ) (l : List A) → length l ≡ n → k ≤ n → all_of p (drop k l) ≡ true
        → padded_list n z (take k l) ≡ l
    padded-back only k l e h zeros =
        let count : n - length (take k l) ≡ length (drop k l) = omega (arith, length-take-le k l (omega arith), length-drop k l) in
        ap (λ (c : ℕ). take k l ++ replicate c z) count
        ∙ ap (λ (r : List A). take k l ++ r) (sym (all-only p z only (drop k l) zeros))
        ∙ take-append-drop k l

-- ---- six tests that all passed: a zero frame, a zero track, the layout

six : (a b c d e f : Bool) → (a && (b && (c && (d && (e && f))))) ≡ true
    → (a ≡ true) × (b ≡ true) × (c ≡ true) × (d ≡ true) × (e ≡ true) × (f ≡ true)
six a b c d e f h =
    let h₁ = and_right a _ h in
    let h₂ = and_right b _ h₁ in
    let h₃ = and_right c _ h₂ in
    let h₄ = and_right d _ h₃ in
    (and_left a _ h, and_left b _ h₁, and_left c _ h₂, and_left d _ h₃, and_left e f h₄, and_right e f h₄)

-- a frame that the test calls zero is the zero frame
pub frame-zero : (f : Frame) → is_zero_frame f ≡ true → f ≡ zero_frame
frame-zero f h =
    let t = six (eqb f.track 0) (not f.flagged) (eqb f.duration 0) (eqb f.number 0) (eqb f.group 0) (zero_int f.pts && zero_int f.dts) h in
    let track = eqb-true f.track 0 t.0 in
    let flagged = not-true f.flagged t.1 in
    let duration = eqb-true f.duration 0 t.2 in
    let number = eqb-true f.number 0 t.3 in
    let group = eqb-true f.group 0 t.4 in
    let pts = same_int_lem f.pts (pos 0) (and_left _ _ t.5) in
    let dts = same_int_lem f.dts (pos 0) (and_right (zero_int f.pts) _ t.5) in
    λ i. record { track = track i; flagged = flagged i; duration = duration i; number = number i; group = group i; pts = pts i; dts = dts i }

-- a track that the test calls zero is the zero track
pub track-zero : (t : Track) → is_zero_track t ≡ true → t ≡ zero_track
track-zero t h =
    let u = six (eqb t.kind 0) (not t.known) (not t.need) (eqb t.duration 0) (zero_int t.dts) (zero_int t.end) h in
    let kind = eqb-true t.kind 0 u.0 in
    let known = not-true t.known u.1 in
    let need = not-true t.need u.2 in
    let duration = eqb-true t.duration 0 u.3 in
    let dts = same_int_lem t.dts (pos 0) u.4 in
    let end = same_int_lem t.end (pos 0) u.5 in
    λ i. record { kind = kind i; known = known i; need = need i; duration = duration i; dts = dts i; end = end i }

-- what the layout test says, fact by fact
pub record IsLaid (s : State) : Type 0 where
  pub frames : length s.frames ≡ places
  pub tracks : length s.tracks ≡ most_tracks
  pub nframes : s.nframes ≤ places
  pub ntracks : s.ntracks ≤ most_tracks
  pub no_frames : all_of is_zero_frame (drop s.nframes s.frames) ≡ true
  pub no_tracks : all_of is_zero_track (drop s.ntracks s.tracks) ≡ true

-- a state that passes the layout test is laid out
pub laid_out_lem : (s : State) → laid_out s ≡ true → IsLaid s
unfolding laid_out
laid_out_lem s h =
    let t = six (eqb (length s.frames) places) (eqb (length s.tracks) most_tracks) (leb s.nframes places) (leb s.ntracks most_tracks) _ _ h in
    record {
      frames = eqb-true _ _ t.0;
      tracks = eqb-true _ _ t.1;
      nframes = leb-true _ _ t.2;
      ntracks = leb-true _ _ t.3;
      no_frames = t.4;
      no_tracks = t.5;
    }

-- ---- the state

-- a buffer laid out as a state and read back is that buffer
pub buffer-back : (b : Buffer) → buffer_of (state_of b) ≡ b
buffer-back b =
    let fs = take-append_seam b.frames (replicate (places - length b.frames) zero_frame) in
    let ts = take-append_seam b.tracks (replicate (most_tracks - length b.tracks) zero_track) in
    λ i. record { tracks = ts i; frames = fs i; mode = b.mode; group = b.group; last = b.last; settings = b.settings }

-- a well-formed state read as a buffer and laid out is that state
pub state-back : (s : State) → well_formed s ≡ true → state_of (buffer_of s) ≡ s
unfolding well_formed
state-back s h =
    let l = laid_out_lem s (and_left _ _ h) in
    let fs = padded-back places zero_frame is_zero_frame frame-zero s.nframes s.frames l.frames l.nframes l.no_frames in
    let ts = padded-back most_tracks zero_track is_zero_track track-zero s.ntracks s.tracks l.tracks l.ntracks l.no_tracks in
    let m = length-take-le s.nframes s.frames (omega arith) in
    let n = length-take-le s.ntracks s.tracks (omega arith) in
    λ i. record {
      frames = fs i;
      nframes = m i;
      tracks = ts i;
      ntracks = n i;
      mode = s.mode;
      group = s.group;
      last = s.last;
      settings = s.settings;
    }

-- a good buffer has at most 4 tracks
pub few-tracks : (b : Buffer) → good_buffer b ≡ true → length b.tracks ≤ most_tracks
unfolding good_buffer good_tracks
few-tracks b h =
    let ts : good_tracks b.tracks ≡ true = and_left _ _ h in
    let count : good_count (length b.tracks) ≡ true = and_left _ _ ts in
    leb-true _ _ (and_right (leb 1 (length b.tracks)) _ count)

-- a good buffer has at most 1,024 frames
pub few-frames : (b : Buffer) → good_buffer b ≡ true → length b.frames ≤ places
unfolding good_buffer good_frames
few-frames b h =
    let rest = and_right (good_tracks b.tracks) _ h in
    let fs : good_frames (length b.tracks) b.last b.group.number b.frames ≡ true = and_left _ _ rest in
    leb-true _ _ (and_left _ _ fs)

-- a good buffer, laid out, is a well-formed state
pub good-well_formed : (b : Buffer) → good_buffer b ≡ true → well_formed (state_of b) ≡ true
unfolding well_formed laid_out same_int
good-well_formed b h =
    let fs = few-frames b h in
    let ts = few-tracks b h in
    and_both
    (and_both (eq-eqb _ _ (padded-length places zero_frame b.frames fs))
    (and_both (eq-eqb _ _ (padded-length most_tracks zero_track b.tracks ts))
    (and_both (le-leb _ _ fs)
    (and_both (le-leb _ _ ts)
    (and_both (padded-zeros places zero_frame is_zero_frame refl b.frames) (padded-zeros most_tracks zero_track is_zero_track refl b.tracks))))))
    (rw (buffer-back b) h)

-- a well-formed state holds a good buffer
pub well_formed-good : (s : State) → well_formed s ≡ true → good_buffer (buffer_of s) ≡ true
unfolding well_formed
well_formed-good s h = and_right (laid_out s) _ h
