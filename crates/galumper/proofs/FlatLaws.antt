-- To lay a head flat and to read it back undo each other: `head-back` for every head whose doubles are numbers, and `flat_back` for every
-- flat head whose numbers are of their kind. Where one is not, every call is refused 1 (`spoilt-refused`); an offered frame's flag that
-- is none is refused 4, in its order (`flag-refused`).
use Rattle.std.specs.Prelude.{Err}
use mathlib.Core.Path.{◌≡◌, refl, sym, ap, ap₂, ◌∙◌}
use mathlib.Core.Bool.{Bool, true, false, cond, ◌&&◌}
use mathlib.Core.List.{List, [], ◌∷◌, map}
use Prim.Native.Nat.{ℕ, ◌*◌, ◌<◌}
use native.Mathlib.Omega.{arith}
use lib.Dec.{ltb, eqb}
use lib.IntN.{ℤ}
use lib.Ieee.{binary64, top}
use lib.ListN.{length}
use borrow.Author.Tests.{leb-true, eqb-true, eqb-false, ne_eqb}
use Rattle.laws.proofs.BoolLaws.{split, and_left, and_right, and_both}
use Rattle.seconds.proofs.NumberLaws.{IsNumber, bits_back, bits-number, bits-kept}
use Rattle.buffer_state.specs.declared.Head.{Head}
use Rattle.buffer_state.specs.declared.Mode.{Mode}
use Rattle.buffer_state.specs.declared.Mode.TheVariants.{Segments, Sequence}
use Rattle.buffer_state.specs.declared.Refusal.TheVariants.{IllFormed, FrameLimits}
use Rattle.buffer_state.specs.declared.Settings.{Settings}
use Rattle.buffer_state.specs.declared.Track.{Track}
use Rattle.buffer_state.specs.declared.WindowEnd.{WindowEnd}
use Rattle.buffer_state.specs.declared.WindowEnd.TheVariants.{Unbounded, At}
use Rattle.buffer_state.specs.Append.{is_offerable, append}
use Rattle.buffer_state.specs.Buffer.{Buffer, has_track}
use Rattle.buffer_state.specs.Layout.{laid_out, well_formed}
use Rattle.buffer_state.specs.Lent.{state_at, plain_time, plain_tag, well_formed_at, on_lent}
use Rattle.buffer_state.specs.Limits.{offered_time, good_duration, places}
use Rattle.buffer_state.specs.Refusals.{CallResult}
use Rattle.buffer_state.specs.WellFormed.{all_of, good_tracks, good_buffer}
use Rattle.buffer_laws.proofs.KeptLaws.{EndHas, Keeps}
use Rattle.buffer_laws.proofs.LentLaws.{ill-formed-refused}
use Rattle.lumps.specs.Lumps.{Taken, tested_result}
use Rattle.lumps.specs.declared.LumpReader.{LumpReader}
use Rattle.lumps.specs.declared.Phase.{Phase}
use Rattle.lumps.specs.declared.Phase.TheVariants.{Heading, Passing, Keeping, Stuck, Large}
use Rattle.lumps.proofs.LumpLaws.{tested-ill}
use Rattle.lumps.proofs.ReaderLaws.{large-ill}
use Rattle.galumper.specs.declared.FlatHead.{FlatHead}
use Rattle.galumper.specs.declared.FlatLumpReader.{FlatLumpReader}
use Rattle.galumper.specs.declared.FlatOffered.{FlatOffered}
use Rattle.galumper.specs.declared.FlatSettings.{FlatSettings}
use Rattle.galumper.specs.declared.FlatTrack.{FlatTrack}
use Rattle.galumper.specs.Flat.{is_double, is_flag, flag_in, flag_out, mode_in, mode_out, end_in, bounded_out, end_out, track_in, track_out, settings_in, settings_out, offered_in, phase_in, phase_out, reader_in, reader_out, plain_track, plain_end, plain_settings, plain_head, head_out, head_with, head_in}

-- ---- a number

flag-back : (b : Bool) → flag_in (flag_out b) ≡ b
flag-back true = refl
flag-back false = refl

is_flag-flag_out : (b : Bool) → is_flag (flag_out b) ≡ true
is_flag-flag_out true = refl
is_flag-flag_out false = refl

-- a number up to 1 that is not 1 is 0
zero_of : (n : ℕ) → is_flag n ≡ true → eqb n 1 ≡ false → n ≡ 0
zero_of n h k = let few = leb-true n 1 h in let other = eqb-false n 1 k in omega (arith, few, other)

flag_out-back : (n : ℕ) → is_flag n ≡ true → flag_out (flag_in n) ≡ n
flag_out-back n h = split (eqb n 1) (λ e. rw e (sym (eqb-true n 1 e))) (λ e. rw e (sym (zero_of n h e)))

mode-back : (m : Mode) → mode_in (mode_out m) ≡ m
mode-back Segments = refl
mode-back Sequence = refl

is-mode : (m : Mode) → is_flag (mode_out m) ≡ true
is-mode Segments = refl
is-mode Sequence = refl

mode_out-back : (n : ℕ) → is_flag n ≡ true → mode_out (mode_in n) ≡ n
mode_out-back n h = split (eqb n 1) (λ e. rw e (sym (eqb-true n 1 e))) (λ e. rw e (sym (zero_of n h e)))

-- ---- a window end

end_back : (e : WindowEnd) → EndHas IsNumber e → end_in (bounded_out e) (end_out e) ≡ e
end_back Unbounded n = refl
end_back (At x) n = ap At (bits_back x n)

is-end : (e : WindowEnd) → EndHas IsNumber e → plain_end (bounded_out e) (end_out e) ≡ true
is-end Unbounded n = refl
is-end (At x) n = bits-number x n

module _ (n bits : ℕ) (h : plain_end n bits ≡ true) where
  -- there is a window end, or there is none
  set : eqb n 1 ≡ true → is_double bits ≡ true
  set e = rw e at h

  unset : eqb n 1 ≡ false → (eqb n 0 && eqb bits 0) ≡ true
  unset e = rw e at h

  bounded_out-back : bounded_out (end_in n bits) ≡ n
  bounded_out-back =
      split (eqb n 1)
      (λ e. rw e (sym (eqb-true n 1 e)))
      (λ e. rw e (sym (eqb-true n 0 (and_left (eqb n 0) _ (unset e)))))

  end_out-back : bits < 2 * top binary64 → end_out (end_in n bits) ≡ bits
  end_out-back few =
      split (eqb n 1)
      (λ e. rw e (bits-kept bits few (set e)))
      (λ e. rw e (sym (eqb-true bits 0 (and_right (eqb n 0) _ (unset e)))))

-- ---- the settings

settings-plain : (s : Settings) → Keeps IsNumber s → plain_settings (settings_out s) ≡ true
settings-plain s k = and_both (bits-number _ k.offset) (and_both (bits-number _ k.start) (is-end s.end k.end))

settings-back : (s : Settings) → Keeps IsNumber s → settings_in (settings_out s) ≡ s
settings-back s k =
    let offset = bits_back _ k.offset in
    let start = bits_back _ k.start in
    let end = end_back s.end k.end in
    λ i. record {
      offset = record { seconds = offset i; micros = s.offset.micros };
      start = record { seconds = start i; micros = s.start.micros };
      end = end i;
      limit = s.limit;
    }

-- the three are numbers of 64 bits, as their type says
pub record Words (t : FlatSettings) : Type 0 where
  pub offset : t.offset.bits < 2 * top binary64
  pub start : t.start.bits < 2 * top binary64
  pub end : t.end < 2 * top binary64

settings_out-back : (t : FlatSettings) → Words t → plain_settings t ≡ true → settings_out (settings_in t) ≡ t
settings_out-back t w h =
    let past-offset = and_right (is_double t.offset.bits) _ h in
    let last = and_right (is_double t.start.bits) _ past-offset in
    let offset = bits-kept t.offset.bits w.offset (and_left _ _ h) in
    let start = bits-kept t.start.bits w.start (and_left _ _ past-offset) in
    let bounded = bounded_out-back t.bounded t.end last in
    let end = end_out-back t.bounded t.end last w.end in
    λ i. record {
      offset = record { bits = offset i; micros = t.offset.micros };
      start = record { bits = start i; micros = t.start.micros };
      bounded = bounded i;
      end = end i;
      limit = t.limit;
    }

-- ---- lists

module _ {A B : Type 0} (f : A → B) (g : B → A) where
  map_back : ((x : A) → g (f x) ≡ x) → (l : List A) → map g (map f l) ≡ l
  map_back h [] = refl
  map_back h (x ∷ l) = ap₂ (λ (y : A) (t : List A). y ∷ t) (h x) (map_back h l)

  module _ (p : A → Bool) where
    map-back-where : ((x : A) → p x ≡ true → g (f x) ≡ x) → (l : List A) → all_of p l ≡ true → map g (map f l) ≡ l
    unfolding all_of
    map-back-where h [] k = refl
    map-back-where h (x ∷ l) k =
        ap₂ (λ (y : A) (t : List A). y ∷ t) (h x (and_left (p x) _ k)) (map-back-where h l (and_right (p x) _ k))

  all-images : (q : B → Bool) → ((x : A) → q (f x) ≡ true) → (l : List A) → all_of q (map f l) ≡ true
  unfolding all_of
  all-images q h [] = refl
  all-images q h (x ∷ l) = and_both (h x) (all-images q h l)

-- ---- tracks

track-back : (t : Track) → track_in (track_out t) ≡ t
track-back t =
    let known = flag-back t.known in
    let need = flag-back t.need in
    λ i. record { kind = t.kind; known = known i; need = need i; duration = t.duration; dts = t.dts; end = t.end }

track_out-back : (t : FlatTrack) → plain_track t ≡ true → track_out (track_in t) ≡ t
track_out-back t h =
    let known = flag_out-back t.known (and_left _ _ h) in
    let need = flag_out-back t.need (and_right (is_flag t.known) _ h) in
    λ i. record { kind = t.kind; known = known i; need = need i; duration = t.duration; dts = t.dts; end = t.end }

-- ---- the head

-- the numbers of a head laid flat are of their kind
flat-plain : (h : Head) → Keeps IsNumber h.settings → plain_head (head_out h) ≡ true
unfolding plain_head
flat-plain h k =
    and_both (is-mode h.mode)
    (and_both (is_flag-flag_out h.group.begun)
    (and_both (settings-plain h.settings k)
    (all-images track_out track_in plain_track (λ t. and_both (is_flag-flag_out t.known) (is_flag-flag_out t.need)) h.tracks)))

-- a head laid flat and read back is that head
pub head-back : (h : Head) → Keeps IsNumber h.settings → head_in (head_out h) ≡ h
head-back h k =
    let tracks = map_back track_out track_in track-back h.tracks in
    let ntracks = ap (λ (b : Bool). cond b h.ntracks 0) (flat-plain h k) in
    let mode = mode-back h.mode in
    let begun = flag-back h.group.begun in
    let settings = settings-back h.settings k in
    λ i. record {
      tracks = tracks i;
      ntracks = ntracks i;
      nframes = h.nframes;
      mode = mode i;
      group = record { begun = begun i; start = h.group.start; end = h.group.end; number = h.group.number };
      last = h.last;
      settings = settings i;
    }

-- a flat head whose numbers are of their kind, read and laid flat again, is that flat head: no bit of it is lost
pub flat_back : (c : FlatHead) → Words c.settings → plain_head c ≡ true → head_out (head_in c) ≡ c
unfolding plain_head
flat_back c w h =
    let past-mode = and_right (is_flag c.mode) _ h in
    let past-group = and_right (is_flag c.group.begun) _ past-mode in
    let ts = and_right (plain_settings c.settings) _ past-group in
    let tracks = map-back-where track_in track_out plain_track track_out-back c.tracks ts in
    let ntracks = ap (λ (b : Bool). cond b c.ntracks 0) h in
    let mode = mode_out-back c.mode (and_left _ _ h) in
    let begun = flag_out-back c.group.begun (and_left _ _ past-mode) in
    let settings = settings_out-back c.settings w (and_left (plain_settings c.settings) _ past-group) in
    λ i. record {
      tracks = tracks i;
      ntracks = ntracks i;
      nframes = c.nframes;
      mode = mode i;
      last = c.last;
      group = record { begun = begun i; number = c.group.number; start = c.group.start; end = c.group.end };
      settings = settings i;
    }

-- ---- a number that is none of its kind

and-fails : (a b : Bool) → b ≡ false → (a && b) ≡ false
and-fails true b e = e
and-fails false b e = refl

-- a head without tracks holds no well-formed state
trackless-ill : (c : FlatHead) (ts : List (List ℤ)) (gs : List (List ℕ)) → well_formed_at (head_with 0 c) ts gs ≡ false
unfolding well_formed_at well_formed good_buffer good_tracks
trackless-ill c ts gs =
    and-fails (eqb (length ts) places && eqb (length gs) places) _ (and-fails (all_of plain_time ts) _ (and-fails (all_of plain_tag gs) _ (and-fails (laid_out (state_at (head_with 0 c) ts gs)) _ refl)))

pub spoilt-refused : {A : Type 0} (call : Buffer → CallResult A) (c : FlatHead) (ts : List (List ℤ)) (gs : List (List ℕ)) → plain_head c ≡ false
    → on_lent call (head_in c) ts gs ≡ Err IllFormed
spoilt-refused call c ts gs h =
    ill-formed-refused call (head_in c) ts gs
    (ap (λ (b : Bool). well_formed_at (head_with (cond b c.ntracks 0) c) ts gs) h ∙ trackless-ill c ts gs)

-- an offered frame's flag that is neither 0 nor 1, after refusals 1, 2 and 3
pub flag-refused : (lent : ℕ) (f : FlatOffered) (b : Buffer) → is_flag f.flagged ≡ false → ltb lent places ≡ false → has_track b f.track ≡ true
    → append lent (offered_in f) b ≡ Err FrameLimits
unfolding append is_offerable good_duration
flag-refused lent f b spoilt long known =
    let duration = ap (λ (t : Bool). good_duration (cond t f.duration 0)) spoilt in
    let unfit : is_offerable (offered_in f) ≡ false = and-fails (offered_time f.pts) _ (and-fails (offered_time f.dts) _ duration) in
    rw (long, known, unfit)

-- ---- a reader of a segment in lumps

phase-back : (p : Phase) → phase_in (phase_out p) ≡ p
phase-back Heading = refl
phase-back Passing = refl
phase-back Keeping = refl
phase-back Stuck = refl
phase-back Large = refl

pub reader-back : (r : LumpReader) → reader_in (reader_out r) ≡ r
reader-back r = let e = phase-back r.phase in λ j. record { phase = e j; head = r.head; seen = r.seen; left = r.left; fragments = r.fragments; kept = r.kept }

-- a number that is no phase has the call refused 1
pub stray-phase : (c : FlatLumpReader) (buffer lump : List ℕ) (x : CallResult Taken) → 3 < c.phase → tested_result (reader_in c) buffer lump x ≡ Err IllFormed
stray-phase c buffer lump x h =
    tested-ill (reader_in c) buffer lump x (large-ill (reader_in c) (rw (ne_eqb c.phase 0 (λ e. absurd (omega arith)), ne_eqb c.phase 1 (λ e. absurd (omega arith)), ne_eqb c.phase 2 (λ e. absurd (omega arith)), ne_eqb c.phase 3 (λ e. absurd (omega arith)))))
