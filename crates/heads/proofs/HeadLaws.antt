-- A head is a buffer's, laid out: what is done to the head's tracks is done to the buffer's, and the zeros past them stay.
use mathlib.Core.Path.{◌≡◌, refl, sym, ap, ◌∙◌}
use mathlib.Core.Bool.{true, false, cond, ◌&&◌}
use mathlib.Core.List.{List, [], ◌∷◌, ◌++◌, map}
use Prim.Native.Nat.{ℕ, zero, suc, ◌-◌, ◌≤◌, ◌<◌}
use native.Mathlib.Omega.{arith}
use lib.IntN.{ℤ, pos, ◌-ℤ◌}
use lib.ListN.{length, take, drop, get_or, set, replicate, length-map, length-set}
use lib.Seq.{take-append_seam, drop-append_seam, set-append_left}
use lib.Signed.{mag}
use Rattle.laws.proofs.BoolLaws.{by-test, and_left, and_right}
use Rattle.buffer_state.specs.declared.Group.{Group}
use Rattle.buffer_state.specs.declared.Offered.{Offered}
use Rattle.buffer_state.specs.declared.Settings.{Settings}
use Rattle.buffer_state.specs.declared.Track.{Track}
use Rattle.buffer_state.specs.Append.{with_offset, step_one, moved}
use Rattle.buffer_state.specs.Buffer.{Buffer, zero_track, track_of, with_track, with_need, restarted_track, is_sequence, start_at_end, with_end}
use Rattle.buffer_state.specs.Layout.{padded_list}
use Rattle.buffer_state.specs.Limits.{offered_time}
use Rattle.buffer_state.specs.WellFormed.{good_offset, good_group, good_track}
use Rattle.buffer_laws.proofs.GoodLaws.{IsGood, good-facts, facts-good, track-good, group-start}
use Rattle.buffer_laws.proofs.LayoutLaws.{few-tracks}
use Rattle.buffer_state.specs.declared.Head.{Head}
use Rattle.buffer_state.specs.Lent.{head_of}
use Rattle.heads.specs.Heads.{IsGoodHead}
use Rattle.heads.proofs.FitLaws.{offset-mag}
use Rattle.limits.proofs.LimitLaws.{time-mag}

-- ---- a padded array

module _ {A : Type 0} (z : A) where
  zeros-at : (k i : ℕ) → get_or (replicate k z) i z ≡ z
  zeros-at zero i = refl
  zeros-at (suc k) zero = refl
  zeros-at (suc k) (suc i) = zeros-at k i

  past-at : (l : List A) (k i : ℕ) → get_or (l ++ replicate k z) i z ≡ get_or l i z
  past-at [] k i = zeros-at k i
  past-at (x ∷ l) k zero = refl
  past-at (x ∷ l) k (suc i) = past-at l k i

  module _ (n : ℕ) (l : List A) where
    padded-at : (i : ℕ) → get_or (padded_list n z l) i z ≡ get_or l i z
    padded-at i = past-at l (n - length l) i

    padded-set : (i : ℕ) (x : A) → i < length l → set (padded_list n z l) i x ≡ padded_list n z (set l i x)
    padded-set i x h = rw (length-set l i x) (set-append_left l (replicate (n - length l) z) i x h)

    padded-map : (f : A → A) → map f (take (length l) (padded_list n z l)) ++ drop (length l) (padded_list n z l) ≡ padded_list n z (map f l)
    padded-map f = rw (take-append_seam l (replicate (n - length l) z), drop-append_seam l (replicate (n - length l) z), length-map l f)

-- ---- the head of a buffer

module _ (b : Buffer) (h : Head) (e : h ≡ head_of b) where
  pub head-track : (n : ℕ) → get_or h.tracks (n - 1) zero_track ≡ track_of b n
  head-track n = ap (λ (k : Head). get_or k.tracks (n - 1) zero_track) e ∙ padded-at zero_track 4 b.tracks (n - 1)

  pub head-set : (n : ℕ) (t : Track) → 1 ≤ n → n ≤ h.ntracks
      → ◌≡◌ {A = Head} (record { tracks = set h.tracks (n - 1) t; ntracks = h.ntracks; nframes = h.nframes; mode = h.mode; group = h.group; last = h.last; settings = h.settings })
      (head_of (with_track b n t))
  head-set n t from to =
      let inside : n - 1 < length b.tracks = omega (arith, ap (λ (k : Head). k.ntracks) e) in
      let p = ap (λ (k : Head). set k.tracks (n - 1) t) e ∙ padded-set zero_track 4 b.tracks (n - 1) t inside in
      let q = ap (λ (k : Head). k.ntracks) e ∙ sym (length-set b.tracks (n - 1) t) in
      λ j. record { tracks = p j; ntracks = q j; nframes = (e j).nframes; mode = (e j).mode; group = (e j).group; last = (e j).last; settings = (e j).settings }

  -- every track changed alike, another group, other settings
  mapped-head : (f : Track → Track) (ts : List Track) (g : Group) (s : Settings) → ts ≡ map f (take h.ntracks h.tracks) ++ drop h.ntracks h.tracks
      → ◌≡◌ {A = Head} (record { tracks = ts; ntracks = h.ntracks; nframes = h.nframes; mode = h.mode; group = g; last = h.last; settings = s })
      (head_of (record { tracks = map f b.tracks; frames = b.frames; mode = b.mode; group = g; last = b.last; settings = s }))
  mapped-head f ts g s d =
      let p = d ∙ ap (λ (k : Head). map f (take k.ntracks k.tracks) ++ drop k.ntracks k.tracks) e ∙ padded-map zero_track 4 b.tracks f in
      let q = ap (λ (k : Head). k.ntracks) e ∙ sym (length-map b.tracks f) in
      λ j. record { tracks = p j; ntracks = q j; nframes = (e j).nframes; mode = (e j).mode; group = g; last = (e j).last; settings = s }

  -- ---- steps 1 and 3

  pub one-stays : (f : Offered) → (is_sequence h.mode && h.group.begun) ≡ false → h ≡ head_of (step_one b f)
  unfolding step_one
  one-stays f t =
      let off : (is_sequence b.mode && b.group.begun) ≡ false = ap (λ (k : Head). is_sequence k.mode && k.group.begun) (sym e) ∙ t in
      rw off e

  pub one-begins : (f : Offered) → (is_sequence h.mode && h.group.begun) ≡ true → (ts : List Track) (s : Settings)
      → ts ≡ map (with_need true) (take h.ntracks h.tracks) ++ drop h.ntracks h.tracks
      → s ≡ with_offset h.settings (h.group.start -ℤ f.pts)
      → ◌≡◌ {A = Head} (record { tracks = ts; ntracks = h.ntracks; nframes = h.nframes; mode = h.mode; group = record { begun = false; start = pos 0; end = h.group.start; number = h.group.number }; last = h.last; settings = s })
      (head_of (step_one b f))
  unfolding step_one
  one-begins f t ts s d q =
      let on : (is_sequence b.mode && b.group.begun) ≡ true = ap (λ (k : Head). is_sequence k.mode && k.group.begun) (sym e) ∙ t in
      let s' = q ∙ ap (λ (k : Head). with_offset k.settings (k.group.start -ℤ f.pts)) e in
      let m = mapped-head (with_need true) ts (record { begun = false; start = pos 0; end = h.group.start; number = h.group.number }) s d in
      rw on (m ∙ (λ j. head_of (record {
        tracks = map (with_need true) b.tracks;
        frames = b.frames;
        mode = b.mode;
        group = record { begun = false; start = pos 0; end = (e j).group.start; number = (e j).group.number };
        last = b.last;
        settings = s' j;
      })))

  pub head-moved : (z : ℤ) (ts : List Track) (g : Group) → ts ≡ map restarted_track (take h.ntracks h.tracks) ++ drop h.ntracks h.tracks
      → g ≡ cond (is_sequence h.mode) (start_at_end h.group) (with_end h.group z)
      → ◌≡◌ {A = Head} (record { tracks = ts; ntracks = h.ntracks; nframes = h.nframes; mode = h.mode; group = g; last = h.last; settings = h.settings }) (head_of (moved b z))
  unfolding moved
  head-moved z ts g d q =
      let g' = q ∙ ap (λ (k : Head). cond (is_sequence k.mode) (start_at_end k.group) (with_end k.group z)) e in
      mapped-head restarted_track ts g h.settings d
      ∙ (λ j. head_of (record { tracks = map restarted_track b.tracks; frames = b.frames; mode = b.mode; group = g' j; last = b.last; settings = (e j).settings }))

-- ---- the head of a good buffer

pub good-head : (c : Buffer) → IsGood c → IsGoodHead (head_of c)
good-head c g = record { held = c; laid = refl; good = facts-good c g }

module _ (h : Head) (g : IsGoodHead h) where
  pub head-good : IsGood g.held
  head-good = good-facts g.held g.good

  pub head_few : h.ntracks ≤ 4
  head_few = omega (arith, few-tracks g.held g.good, ap (λ (k : Head). k.ntracks) g.laid)

  pub head-group : good_group h.group ≡ true
  head-group = ap (λ (k : Head). good_group k.group) g.laid ∙ head-good.group

  pub head-track-good : (n : ℕ) → good_track (track_of g.held n) ≡ true
  head-track-good n = track-good g.held.tracks head-good.tracks (n - 1)

-- step 1 leaves an offset to which a time can be added
pub one-offset : (b : Buffer) (f : Offered) → IsGood b → offered_time f.pts ≡ true → mag (step_one b f).settings.offset.micros ≤ 6000000000000
unfolding step_one good_offset
one-offset b f g p =
    by-test (λ (c : Buffer). mag c.settings.offset.micros ≤ 6000000000000) (is_sequence b.mode && b.group.begun)
    (λ t. offset-mag b.group.start f.pts (group-start b.group g.group (and_right (is_sequence b.mode) _ t)) p)
    (λ _. omega (arith, time-mag b.settings.offset.micros (and_left _ _ g.settings.offset)))
