-- What a well-formed state says of its arrays: their lengths and counts, and that each stored frame stands on one of the tracks and is
-- shown before `beyond`.
use mathlib.Core.Path.{◌≡◌, sym, refl}
use mathlib.Core.Bool.{Bool, true}
use mathlib.Core.List.{List, [], ◌∷◌}
use Prim.Native.Nat.{ℕ, zero, suc, ◌+◌, ◌-◌, ◌≤◌, ◌<◌}
use native.Mathlib.Omega.{arith}
use lib.IntN.{ℤ, pos, neg_ℤ}
use lib.ListN.{length, take, get_or}
use lib.Seq.{get_or-take}
use lib.Signed.{le_z, lt_z}
use borrow.Author.Tests.{lt-ltb}
use Rattle.laws.proofs.BoolLaws.{and_left, and_right}
use Rattle.laws.proofs.IntLaws.{test-le, test-lt, lt_test, le-lt}
use Rattle.laws.proofs.ListLaws.{first-length}
use Rattle.buffer_state.specs.declared.Frame.{Frame}
use Rattle.buffer_state.specs.declared.Head.{Head}
use Rattle.buffer_state.specs.declared.Track.{Track}
use Rattle.buffer_state.specs.Buffer.{Buffer, zero_track, track_of}
use Rattle.buffer_state.specs.Layout.{zero_frame, buffer_of, well_formed}
use Rattle.buffer_state.specs.Lent.{frames_of, Lengths, state_at, well_formed_at}
use Rattle.buffer_state.specs.Limits.{most_tracks, result_time}
use Rattle.buffer_state.specs.WellFormed.{all_of, good_frame, is_sorted}
use Rattle.buffer_laws.proofs.GoodLaws.{frame-facts, good-facts}
use Rattle.buffer_laws.proofs.LayoutLaws.{IsLaid, laid_out_lem}
use Rattle.buffer_laws.proofs.LentLaws.{lent-whole, lent-plain, lent-good, lent-zeros}
use Rattle.buffer_laws.proofs.TestLaws.{all_first, all_rest, all_weaker}
use Rattle.places.specs.Places.{Holding}
use Rattle.taking.specs.Taking.{on_track}
use Rattle.remove.specs.Edges.{beyond}

all-at : {A : Type 0} (p : A → Bool) (l : List A) (i : ℕ) (z : A) → i < length l → all_of p l ≡ true → p (get_or l i z) ≡ true
all-at p [] i z h e = absurd (omega arith)
all-at p (x ∷ xs) zero z h e = all_first p x xs e
all-at p (x ∷ xs) (suc i) z h e = all-at p xs i z (omega arith) (all_rest p x xs e)

before-beyond : (z : ℤ) → result_time z ≡ true → lt_z z beyond ≡ true
unfolding result_time
before-beyond z e =
    let up : le_z z (pos 4000000000000) ≡ true = and_right (le_z (neg_ℤ (pos 4000000000000)) z) _ e in
    let past : lt_z (pos 4000000000000) beyond ≡ true = refl in
    lt_test {a = z} {b = beyond} (le-lt {b = pos 4000000000000} (test-le {a = z} {b = pos 4000000000000} up) (test-lt {a = pos 4000000000000} {b = beyond} past))

-- the buffer that a head and two arrays hold
abbrev pub held : Head → List (List ℤ) → List (List ℕ) → Buffer
held h ts gs = buffer_of (state_at h ts gs)

module _ (h : Head) (ts : List (List ℤ)) (gs : List (List ℕ)) (w : well_formed_at h ts gs ≡ true) where
  pub laid : IsLaid (state_at h ts gs)
  unfolding well_formed
  laid = laid_out_lem (state_at h ts gs) (and_left _ _ (lent-whole h ts gs w))

  pub long : Lengths ts gs
  long = (lent-plain h ts gs w).long

  pub few : h.nframes ≤ length (frames_of ts gs)
  few = rw laid.frames laid.nframes

  pub order : is_sorted (held h ts gs).frames ≡ true
  order = (good-facts (held h ts gs) (lent-good h ts gs w)).frames.order

  pub holding : Holding ts gs h.nframes
  holding =
      let p = lent-plain h ts gs w in
      record { times = p.times; tags = p.tags; zeros = lent-zeros h ts gs w }

  -- a good frame of the state
  abbrev pub is_good : Frame → Bool
  is_good = good_frame (length (take h.ntracks h.tracks)) h.last h.group.number

  pub each-good : all_of is_good (held h ts gs).frames ≡ true
  each-good = (good-facts (held h ts gs) (lent-good h ts gs w)).frames.each

  -- stands on one of the tracks in use
  good-on : (f : Frame) → is_good f ≡ true → (1 ≤ f.track) × (f.track ≤ h.ntracks)
  good-on f g =
      let t = frame-facts _ h.last h.group.number f g in
      let n = first-length h.tracks h.ntracks (rw laid.tracks laid.ntracks) in
      (t.track_from, rw n at t.track_to)

  -- and has its place among the stretches
  pub good-inside : (f : Frame) → is_good f ≡ true → f.track < 5
  good-inside f g = omega (arith, (good-on f g).1, laid.ntracks)

  pub good-shown : (f : Frame) → is_good f ≡ true → lt_z f.pts beyond ≡ true
  good-shown f g = before-beyond f.pts (frame-facts _ h.last h.group.number f g).pts

  pub on-tracks : all_of on_track (held h ts gs).frames ≡ true
  on-tracks = all_weaker is_good on_track (λ f g. lt-ltb f.track 5 (good-inside f g)) (held h ts gs).frames each-good

  -- its track in the buffer is that of its number
  pub track_of_lem : (f : Frame) → is_good f ≡ true → get_or (zero_track ∷ h.tracks) f.track zero_track ≡ track_of (held h ts gs) f.track
  track_of_lem f g = let on = good-on f g in numbered h.tracks f.track h.ntracks on.0 on.1
    where
      numbered : (l : List Track) (k n : ℕ) → 1 ≤ k → k ≤ n → get_or (zero_track ∷ l) k zero_track ≡ get_or (take n l) (k - 1) zero_track
      numbered l zero n p q = absurd (omega (arith, p))
      numbered l (suc j) n p q = let e : suc j - 1 ≡ j = omega arith in rw e (sym (get_or-take n l j zero_track (omega (arith, q))))

  module _ (i : ℕ) (k : i < h.nframes) where
    abbrev frame : Frame
    frame = get_or (frames_of ts gs) i zero_frame

    pub frame-good : is_good frame ≡ true
    frame-good =
        let e : get_or (held h ts gs).frames i zero_frame ≡ frame = get_or-take h.nframes (frames_of ts gs) i zero_frame k in
        rw e at (all-at is_good (held h ts gs).frames i zero_frame (rw (first-length (frames_of ts gs) h.nframes few) k) each-good)

    -- a stored frame stands on one of the four
    pub frame-placed : (1 ≤ frame.track) × (frame.track ≤ most_tracks)
    frame-placed = let on = good-on frame frame-good in (on.0, omega (arith, on.1, laid.ntracks))

    -- its track in the buffer is the array's
    pub track-at : (place : ℕ) → place + 1 ≡ frame.track → track_of (held h ts gs) frame.track ≡ get_or h.tracks place zero_track
    track-at place e =
        let p : frame.track - 1 ≡ place = omega arith in
        rw p (get_or-take h.ntracks h.tracks place zero_track (omega (arith, (good-on frame frame-good).1)))
