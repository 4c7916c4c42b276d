-- The parts of a good buffer, each as a fact, and what keeps each part good: tracks changed one by one or all alike, frames taken
-- out or stored, a group moved.
use mathlib.Core.Path.{◌≡◌, refl, sym}
use mathlib.Core.Bool.{Bool, true, false, cond, not}
use mathlib.Core.List.{List, map}
use Prim.Native.Nat.{ℕ, ◌+◌, ◌≤◌}
use native.Mathlib.Omega.{arith}
use lib.Dec.{leb, eqb}
use lib.IntN.{ℤ, pos}
use lib.ListN.{length, get_or, set, length-map, length-set}
use lib.Signed.{le_z}
use borrow.Author.Tests.{leb-true, le-leb, ne_eqb, eqb-false, not-true}
use Rattle.laws.proofs.BoolLaws.{and_left, and_right, and_both}
use Rattle.seconds.specs.Seconds.{same_int}
use Rattle.buffer_state.specs.declared.Frame.{Frame}
use Rattle.buffer_state.specs.declared.Track.{Track}
use Rattle.buffer_state.specs.declared.Group.{Group}
use Rattle.buffer_state.specs.declared.Mode.{Mode}
use Rattle.buffer_state.specs.declared.Mode.TheVariants.{Segments, Sequence}
use Rattle.buffer_state.specs.declared.Settings.{Settings}
use Rattle.buffer_state.specs.Buffer.{Buffer, with_mode, with_group, with_settings, end_of, zero_track, with_need, restarted_track, is_sequence, start_at_end, with_end, next_group, in_next_group, in_last_group}
use Rattle.buffer_state.specs.Limits.{result_time, good_duration, places, last_number, last_group, known_kind}
use Rattle.buffer_state.specs.Store.{mark_where, walk, kept, insert_sorted, is_before}
use Rattle.buffer_state.specs.WellFormed.{all_of, zero_int, good_track, good_tracks, good_count, good_frame, good_frames, distinct_numbers, is_sorted, good_group, good_settings, good_offset, good_start, good_end, good_buffer}
use Rattle.buffer_laws.proofs.TestLaws.{all_get_d, all_set, all_map, all_weaker}
use Rattle.buffer_laws.proofs.OrderLaws.{insert_all, insert-pairs, insert_sorted_lem}
use Rattle.buffer_laws.proofs.StoreLaws.{left-all, left-pairs, left-length}

-- ---- tracks

pub need-good : (on : Bool) (t : Track) → good_track t ≡ true → good_track (with_need on t) ≡ true
unfolding good_track
need-good on t e = e

pub restarted-good : (t : Track) → good_track t ≡ true → good_track (restarted_track t) ≡ true
unfolding good_track same_int
restarted-good t e = and_both (and_left (known_kind t.kind) _ e) refl

module _ (ts : List Track) (e : good_tracks ts ≡ true) where
  pub tracks-each : all_of good_track ts ≡ true
  unfolding good_tracks
  tracks-each = and_right (good_count (length ts)) _ e

  -- any track number's track
  pub track-good : (i : ℕ) → good_track (get_or ts i zero_track) ≡ true
  unfolding good_track same_int
  track-good i = all_get_d good_track ts i zero_track refl tracks-each

  pub tracks-map : (f : Track → Track) → ((t : Track) → good_track t ≡ true → good_track (f t) ≡ true) → good_tracks (map f ts) ≡ true
  unfolding good_tracks
  tracks-map f h =
      let count : good_count (length (map f ts)) ≡ true = rw (length-map ts f) (and_left (good_count (length ts)) _ e) in
      and_both count (all_map good_track good_track f h ts tracks-each)

  pub tracks-set : (i : ℕ) (t : Track) → good_track t ≡ true → good_tracks (set ts i t) ≡ true
  unfolding good_tracks
  tracks-set i t h =
      let count : good_count (length (set ts i t)) ≡ true = rw (length-set ts i t) (and_left (good_count (length ts)) _ e) in
      and_both count (all_set good_track ts i t h tracks-each)

-- ---- frames

-- what a good frame is
pub record IsGoodFrame (tracks last group : ℕ) (f : Frame) : Type 0 where
  pub track_from : 1 ≤ f.track
  pub track_to : f.track ≤ tracks
  pub number_from : 1 ≤ f.number
  pub number_to : f.number ≤ last
  pub group_to : f.group ≤ group
  pub not_early : le_z (pos 0) f.pts ≡ true
  pub pts : result_time f.pts ≡ true
  pub dts : result_time f.dts ≡ true
  pub end : result_time (end_of f) ≡ true
  pub duration : good_duration f.duration ≡ true

pub frame-facts : (tracks last group : ℕ) (f : Frame) → good_frame tracks last group f ≡ true → IsGoodFrame tracks last group f
unfolding good_frame
frame-facts tracks last group f e =
    let e₁ = and_right (leb 1 f.track) _ e in
    let e₂ = and_right (leb f.track tracks) _ e₁ in
    let e₃ = and_right (leb 1 f.number) _ e₂ in
    let e₄ = and_right (leb f.number last) _ e₃ in
    let e₅ = and_right (leb f.group group) _ e₄ in
    let e₆ = and_right (le_z (pos 0) f.pts) _ e₅ in
    let e₇ = and_right (result_time f.pts) _ e₆ in
    let e₈ = and_right (result_time f.dts) _ e₇ in
    record {
      track_from = leb-true 1 f.track (and_left _ _ e);
      track_to = leb-true f.track tracks (and_left _ _ e₁);
      number_from = leb-true 1 f.number (and_left _ _ e₂);
      number_to = leb-true f.number last (and_left _ _ e₃);
      group_to = leb-true f.group group (and_left _ _ e₄);
      not_early = and_left _ _ e₅;
      pts = and_left _ _ e₆;
      dts = and_left _ _ e₇;
      end = and_left _ _ e₈;
      duration = and_right (result_time (end_of f)) _ e₈;
    }

pub facts-frame : (tracks last group : ℕ) (f : Frame) → IsGoodFrame tracks last group f → good_frame tracks last group f ≡ true
unfolding good_frame
facts-frame tracks last group f g =
    and_both (le-leb 1 f.track g.track_from)
    (and_both (le-leb f.track tracks g.track_to)
    (and_both (le-leb 1 f.number g.number_from)
    (and_both (le-leb f.number last g.number_to)
    (and_both (le-leb f.group group g.group_to)
    (and_both g.not_early (and_both g.pts (and_both g.dts (and_both g.end g.duration))))))))

-- a later last number, or a later group
later : (tracks last group last' group' : ℕ) → last ≤ last' → group ≤ group' → (f : Frame) → good_frame tracks last group f ≡ true
    → good_frame tracks last' group' f ≡ true
later tracks last group last' group' h k f e =
    let g = frame-facts tracks last group f e in
    facts-frame tracks last' group' f (record {
      track_from = g.track_from;
      track_to = g.track_to;
      number_from = g.number_from;
      number_to = omega (arith, g.number_to);
      group_to = omega (arith, g.group_to);
      not_early = g.not_early;
      pts = g.pts;
      dts = g.dts;
      end = g.end;
      duration = g.duration;
    })

-- what good frames are
pub record IsGoodFrames (tracks last group : ℕ) (fs : List Frame) : Type 0 where
  pub few : length fs ≤ places
  pub each : all_of (good_frame tracks last group) fs ≡ true
  pub order : is_sorted fs ≡ true
  pub distinct : distinct_numbers fs ≡ true

pub frames-facts : (tracks last group : ℕ) (fs : List Frame) → good_frames tracks last group fs ≡ true → IsGoodFrames tracks last group fs
unfolding good_frames
frames-facts tracks last group fs e =
    let e₁ = and_right (leb (length fs) places) _ e in
    let e₂ = and_right (all_of (good_frame tracks last group) fs) _ e₁ in
    record {
      few = leb-true (length fs) places (and_left _ _ e);
      each = and_left _ _ e₁;
      order = and_left _ _ e₂;
      distinct = and_right (is_sorted fs) _ e₂;
    }

pub facts-frames : (tracks last group : ℕ) (fs : List Frame) → IsGoodFrames tracks last group fs → good_frames tracks last group fs ≡ true
unfolding good_frames
facts-frames tracks last group fs g = and_both (le-leb (length fs) places g.few) (and_both g.each (and_both g.order g.distinct))

module _ (tracks last group : ℕ) (fs : List Frame) (g : IsGoodFrames tracks last group fs) where
  -- a number is given, or a group begun, and no frame stored
  pub frames-later : (last' group' : ℕ) → last ≤ last' → group ≤ group' → IsGoodFrames tracks last' group' fs
  frames-later last' group' h k = record {
    few = g.few;
    each = all_weaker (good_frame tracks last group) (good_frame tracks last' group') (later tracks last group last' group' h k) fs g.each;
    order = g.order;
    distinct = g.distinct;
  }

  -- some frames are taken out
  pub frames-left : (p : Frame → Bool) (c : ℕ) → IsGoodFrames tracks last group (kept (walk (mark_where p c fs)))
  unfolding is_sorted distinct_numbers
  frames-left p c = record {
    few = omega (arith, left-length p c fs);
    each = left-all p c fs (good_frame tracks last group) g.each;
    order = left-pairs p c fs is_before g.order;
    distinct = left-pairs p c fs (λ (a b : Frame). not (eqb a.number b.number)) g.distinct;
  }

-- two numbers that differ, either way round
differ : (a b : Frame) → not (eqb a.number b.number) ≡ true → not (eqb b.number a.number) ≡ true
differ a b e = rw (ne_eqb b.number a.number (λ q. eqb-false a.number b.number (not-true _ e) (sym q)))

-- a frame with the next number is stored
pub frames-more : (tracks last group : ℕ) (f : Frame) (fs : List Frame) → IsGoodFrames tracks last group fs → good_frame tracks (last + 1) group f ≡ true
    → f.number ≡ last + 1 → length (insert_sorted f fs) ≤ places → IsGoodFrames tracks (last + 1) group (insert_sorted f fs)
unfolding distinct_numbers
frames-more tracks last group f fs g new next few =
    let newer : all_of (λ (a : Frame). not (eqb f.number a.number)) fs ≡ true = all_weaker (good_frame tracks last group) _ other fs g.each in
    record {
      few = few;
      each = insert_all f (good_frame tracks (last + 1) group) fs new (frames-later tracks last group fs g (last + 1) group (omega arith) (omega arith)).each;
      order = insert_sorted_lem f fs newer g.order;
      distinct = insert-pairs f (λ (a b : Frame). not (eqb a.number b.number)) differ fs newer g.distinct;
    }
  where
    other : (a : Frame) → good_frame tracks last group a ≡ true → not (eqb f.number a.number) ≡ true
    other a e = rw (ne_eqb f.number a.number (λ q. omega (arith, (frame-facts tracks last group a e).number_to)))

-- ---- the group

-- a group that starts or ends elsewhere has its number still
pub same_number : (m : Mode) (g : Group) (z : ℤ) → (cond (is_sequence m) (start_at_end g) (with_end g z)).number ≡ g.number
same_number Segments g z = refl
same_number Sequence g z = refl

module _ (g : Group) (e : good_group g ≡ true) where
  pub group-end : result_time g.end ≡ true
  unfolding good_group
  group-end = and_left _ _ e

  abbrev starts : Bool
  starts = cond g.begun (result_time g.start) (zero_int g.start)

  pub group-start : g.begun ≡ true → result_time g.start ≡ true
  unfolding good_group
  group-start b = rw b at (and_left starts _ (and_right (result_time g.end) _ e))

  pub group-number : leb g.number last_group ≡ true
  unfolding good_group
  group-number = and_right starts _ (and_right (result_time g.end) _ e)

  pub starting-good : good_group (start_at_end g) ≡ true
  unfolding good_group
  starting-good = and_both group-end (and_both group-end group-number)

  pub ended-good : (z : ℤ) → result_time z ≡ true → good_group (with_end g z) ≡ true
  unfolding good_group
  ended-good z h = and_both h (and_right (result_time g.end) _ e)

  next_group_lem : eqb g.number last_group ≡ false → good_group (next_group g) ≡ true
  unfolding good_group
  next_group_lem h =
      let below : g.number ≤ last_group = leb-true g.number last_group group-number in
      and_both group-end (and_both (and_left starts _ (and_right (result_time g.end) _ e))
      (le-leb (g.number + 1) last_group (omega (arith, below, eqb-false g.number last_group h))))

-- ---- the settings

pub record IsGoodSettings (s : Settings) : Type 0 where
  pub offset : good_offset s.offset ≡ true
  pub start : good_start s.start ≡ true
  pub end : good_end s.start.micros s.end s.limit ≡ true

pub settings-facts : (s : Settings) → good_settings s ≡ true → IsGoodSettings s
unfolding good_settings
settings-facts s e =
    let e₁ = and_right (good_offset s.offset) _ e in
    record { offset = and_left _ _ e; start = and_left _ _ e₁; end = and_right (good_start s.start) _ e₁ }

pub facts-settings : (s : Settings) → IsGoodSettings s → good_settings s ≡ true
unfolding good_settings
facts-settings s g = and_both g.offset (and_both g.start g.end)

-- ---- the buffer

pub record IsGood (b : Buffer) : Type 0 where
  pub tracks : good_tracks b.tracks ≡ true
  pub frames : IsGoodFrames (length b.tracks) b.last b.group.number b.frames
  pub last : b.last ≤ last_number
  pub group : good_group b.group ≡ true
  pub settings : IsGoodSettings b.settings

pub good-facts : (b : Buffer) → good_buffer b ≡ true → IsGood b
unfolding good_buffer
good-facts b e =
    let e₁ = and_right (good_tracks b.tracks) _ e in
    let e₂ = and_right (good_frames (length b.tracks) b.last b.group.number b.frames) _ e₁ in
    let e₃ = and_right (leb b.last last_number) _ e₂ in
    record {
      tracks = and_left _ _ e;
      frames = frames-facts (length b.tracks) b.last b.group.number b.frames (and_left _ _ e₁);
      last = leb-true b.last last_number (and_left _ _ e₂);
      group = and_left _ _ e₃;
      settings = settings-facts b.settings (and_right (good_group b.group) _ e₃);
    }

pub facts-good : (b : Buffer) → IsGood b → good_buffer b ≡ true
unfolding good_buffer
facts-good b g =
    and_both g.tracks
    (and_both (facts-frames (length b.tracks) b.last b.group.number b.frames g.frames)
    (and_both (le-leb b.last last_number g.last) (and_both g.group (facts-settings b.settings g.settings))))

-- one part changed

module _ (b : Buffer) (g : IsGood b) where
  pub group-changed : (h : Group) → good_group h ≡ true → h.number ≡ b.group.number → IsGood (with_group b h)
  group-changed h e same = record { tracks = g.tracks; frames = rw same g.frames; last = g.last; group = e; settings = g.settings }

  -- the next group begins, if this is not the last
  pub next-good : in_last_group b ≡ false → IsGood (in_next_group b)
  next-good more = record {
    tracks = g.tracks;
    frames = frames-later (length b.tracks) b.last b.group.number b.frames g.frames b.last (b.group.number + 1) (omega arith) (omega arith);
    last = g.last;
    group = next_group_lem b.group g.group more;
    settings = g.settings;
  }

  pub settings-changed : (s : Settings) → IsGoodSettings s → IsGood (with_settings b s)
  settings-changed s e = record { tracks = g.tracks; frames = g.frames; last = g.last; group = g.group; settings = e }

  pub mode-changed : (m : Mode) → IsGood (with_mode b m)
  mode-changed m = record { tracks = g.tracks; frames = g.frames; last = g.last; group = g.group; settings = g.settings }
