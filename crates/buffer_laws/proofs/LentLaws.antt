-- A head and two arrays hold a buffer and nothing else: a well-formed state is what its buffer is laid out as. And a call on them.
use Rattle.std.specs.Prelude.{Err}
use mathlib.Core.Path.{◌≡◌, refl, sym, ap, ◌∙◌}
use mathlib.Core.Bool.{true, false, ◌&&◌}
use mathlib.Core.List.{List}
use Prim.Native.Nat.{ℕ}
use lib.Dec.{eqb}
use lib.IntN.{ℤ}
use lib.ListN.{length}
use borrow.Author.Tests.{eqb-true, eq-eqb}
use Rattle.laws.proofs.BoolLaws.{and_left, and_right, and_both}
use Rattle.buffer_state.specs.declared.Frame.{Frame}
use Rattle.buffer_state.specs.declared.Head.{Head}
use Rattle.buffer_state.specs.declared.Refusal.TheVariants.{IllFormed}
use Rattle.buffer_state.specs.Buffer.{Buffer}
use Rattle.buffer_state.specs.Layout.{zero_frame, padded_list, state_of, buffer_of, well_formed}
use Rattle.buffer_state.specs.Lent.{Lent, lent_of, buffer_in, frames_of, times_of, tags_of, Lengths, state_at, head_of, times_in, tags_in, plain_time, plain_tag, well_formed_at, on_lent}
use Rattle.buffer_state.specs.Limits.{places}
use Rattle.buffer_state.specs.Refusals.{CallResult}
use Rattle.buffer_state.specs.State.{State}
use Rattle.buffer_state.specs.WellFormed.{all_of, good_buffer}
use Rattle.buffer_laws.proofs.LayoutLaws.{padded-length, buffer-back, state-back, few-frames, good-well_formed, well_formed-good}
use Rattle.buffer_laws.proofs.RowLaws.{frames-back, times-length, tags-length, rows_back, plain-times, plain-tags}

-- 1,024 places, and rows that hold a frame and nothing besides
pub record IsPlain (ts : List (List ℤ)) (gs : List (List ℕ)) : Type 0 where
  pub long : Lengths ts gs
  pub times : ts ≡ times_of (frames_of ts gs)
  pub tags : gs ≡ tags_of (frames_of ts gs)

-- the head and the arrays are those that hold the buffer
pub record Holds (h : Head) (ts : List (List ℤ)) (gs : List (List ℕ)) (b : Buffer) : Type 0 where
  pub head : h ≡ head_of b
  pub times : ts ≡ times_in b
  pub tags : gs ≡ tags_in b

-- ---- a well-formed state

module _ (h : Head) (ts : List (List ℤ)) (gs : List (List ℕ)) (w : well_formed_at h ts gs ≡ true) where
  pub lent-whole : well_formed (state_at h ts gs) ≡ true
  unfolding well_formed_at
  lent-whole = and_right (all_of plain_tag gs) _ (and_right (all_of plain_time ts) _ (and_right (eqb (length ts) places && eqb (length gs) places) _ w))

  pub lent-plain : IsPlain ts gs
  unfolding well_formed_at
  lent-plain =
      let a = and_left (eqb (length ts) places && eqb (length gs) places) _ w in
      let b = and_right (eqb (length ts) places && eqb (length gs) places) _ w in
      let long : Lengths ts gs = (eqb-true (length ts) places (and_left (eqb (length ts) places) _ a), eqb-true (length gs) places (and_right (eqb (length ts) places) _ a)) in
      let rows = rows_back ts gs (long.0 ∙ sym long.1) (and_left (all_of plain_time ts) _ b) (and_left (all_of plain_tag gs) _ (and_right (all_of plain_time ts) _ b)) in
      record { long = long; times = rows.0; tags = rows.1 }

  pub lent-good : good_buffer (buffer_of (state_at h ts gs)) ≡ true
  lent-good = well_formed-good (state_at h ts gs) lent-whole

  -- the frames are the buffer's, with zeros past them
  pub lent-zeros : frames_of ts gs ≡ padded_list places zero_frame (buffer_of (state_at h ts gs)).frames
  lent-zeros = ap (λ (s : State). s.frames) (sym (state-back (state_at h ts gs) lent-whole))

  pub lent_back : Holds h ts gs (buffer_of (state_at h ts gs))
  lent_back =
      let e = sym (state-back (state_at h ts gs) lent-whole) in
      record {
        head = λ j. record {
          tracks = (e j).tracks;
          ntracks = (e j).ntracks;
          nframes = (e j).nframes;
          mode = (e j).mode;
          group = (e j).group;
          last = (e j).last;
          settings = (e j).settings;
        };
        times = lent-plain.times ∙ ap times_of lent-zeros;
        tags = lent-plain.tags ∙ ap tags_of lent-zeros;
      }

-- a well-formed state holds a buffer and nothing else
pub lent_same : (s : Lent) → well_formed_at s.head s.times s.tags ≡ true → lent_of (buffer_in s) ≡ s
lent_same s w =
    let k = lent_back s.head s.times s.tags w in
    sym (λ j. record { head = k.head j; times = k.times j; tags = k.tags j })

-- ---- a buffer laid out

pub laid-back : (b : Buffer) → state_at (head_of b) (times_in b) (tags_in b) ≡ state_of b
laid-back b = let e = frames-back (padded_list places zero_frame b.frames) in
    λ j. record {
      frames = e j;
      nframes = length b.frames;
      tracks = (state_of b).tracks;
      ntracks = length b.tracks;
      mode = b.mode;
      group = b.group;
      last = b.last;
      settings = b.settings;
    }

pub held_back : (b : Buffer) → buffer_in (lent_of b) ≡ b
held_back b = ap buffer_of (laid-back b) ∙ buffer-back b

pub laid-well_formed : (b : Buffer) → good_buffer b ≡ true → well_formed_at (head_of b) (times_in b) (tags_in b) ≡ true
unfolding well_formed_at
laid-well_formed b good =
    let fs = padded_list places zero_frame b.frames in
    let long : length fs ≡ places = padded-length places zero_frame b.frames (few-frames b good) in
    and_both (and_both (eq-eqb _ _ (times-length fs ∙ long)) (eq-eqb _ _ (tags-length fs ∙ long)))
    (and_both (plain-times fs) (and_both (plain-tags fs) (ap well_formed (laid-back b) ∙ good-well_formed b good)))

-- ---- a call

module _ {A : Type 0} (call : Buffer → CallResult A) where
  -- on what is not well-formed it is refused 1
  pub ill-formed-refused : (h : Head) (ts : List (List ℤ)) (gs : List (List ℕ)) → well_formed_at h ts gs ≡ false → on_lent call h ts gs ≡ Err IllFormed
  unfolding on_lent
  ill-formed-refused h ts gs e = rw e

  -- on a well-formed state it does what it does on the buffer that is held
  pub on-well_formed : (h : Head) (ts : List (List ℤ)) (gs : List (List ℕ)) → well_formed_at h ts gs ≡ true
      → on_lent call h ts gs ≡ call (buffer_of (state_at h ts gs))
  unfolding on_lent
  on-well_formed h ts gs e = rw e

  -- and on a good buffer, laid out, what it does on that buffer
  pub on-laid-out : (b : Buffer) → good_buffer b ≡ true → on_lent call (head_of b) (times_in b) (tags_in b) ≡ call b
  on-laid-out b good =
      on-well_formed (head_of b) (times_in b) (tags_in b) (laid-well_formed b good) ∙ ap call (held_back b)
