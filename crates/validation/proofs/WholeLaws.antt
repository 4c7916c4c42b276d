-- The whole test from the parts that are made: the counts, the head, the frames.
use mathlib.Core.Path.{◌≡◌, refl, sym, ◌∙◌}
use mathlib.Core.Bool.{Bool, true, false, ◌&&◌, and-false}
use mathlib.Core.List.{List}
use Prim.Native.Nat.{ℕ, ◌≤◌, ◌<◌}
use lib.Dec.{leb, eqb}
use lib.IntN.{ℤ}
use lib.ListN.{length, take}
use borrow.Author.Tests.{leb-true, leb-false, eq-eqb}
use Rattle.laws.proofs.BoolLaws.{split, and_left, and_right, and_both}
use Rattle.buffer_state.specs.declared.Head.{Head}
use Rattle.buffer_state.specs.Layout.{is_zero_frame, is_zero_track, well_formed}
use Rattle.buffer_state.specs.Lent.{frames_of, Lengths, state_at, plain_time, plain_tag, well_formed_at}
use Rattle.buffer_state.specs.Limits.{places}
use Rattle.buffer_state.specs.WellFormed.{all_of, good_track, good_frame, good_group, good_settings, is_sorted, distinct_numbers}
use Rattle.buffer_laws.proofs.RowLaws.{frames-length}
use Rattle.validation.specs.Tests.{is_placed, head_test, frames_test}
use Rattle.validation.proofs.StateLaws.{too-many-frames, too-many-tracks, no-tracks, whole}

-- the order in which the tests are made
reordered : (p q t f d r : Bool) → (p && (q && (t && ((f && d) && r)))) ≡ ((t && r) && (p && (q && (f && d))))
reordered false q t f d r = sym (and-false (t && r))
reordered true false t f d r = sym (and-false (t && r))
reordered true true false f d r = refl
reordered true true true false d r = sym (and-false r)
reordered true true true true false r = sym (and-false r)
reordered true true true true true true = refl
reordered true true true true true false = refl

module _ (h : Head) (ts : List (List ℤ)) (gs : List (List ℕ)) (k : Lengths ts gs) (full : length h.tracks ≡ 4) where
  all : length (frames_of ts gs) ≡ places
  all = frames-length ts gs (k.0 ∙ sym k.1) ∙ k.0

  ill : well_formed (state_at h ts gs) ≡ false → well_formed_at h ts gs ≡ false
  unfolding well_formed_at
  ill e = rw (e, and-false (all_of plain_tag gs), and-false (all_of plain_time ts)) (and-false (eqb (length ts) places && eqb (length gs) places))

  -- the arrays have their 1,024 rows
  long : (eqb (length ts) places && eqb (length gs) places) ≡ true
  long = and_both (eq-eqb (length ts) places k.0) (eq-eqb (length gs) places k.1)

  pub too_many : places < h.nframes → well_formed_at h ts gs ≡ false
  too_many m = ill (too-many-frames (state_at h ts gs) all full m)

  pub well_formed-parts : h.nframes ≤ places → h.last ≤ 4294967295 → well_formed_at h ts gs ≡ (head_test h && frames_test h.nframes h.ntracks h.last h.group.number ts gs)
  unfolding well_formed_at head_test frames_test
  well_formed-parts few last =
      let s = state_at h ts gs in
      split (leb h.ntracks 4)
      (λ b.
      let m : h.ntracks ≤ 4 = leb-true h.ntracks 4 b in
      split (leb 1 h.ntracks)
      (λ a.
      rw (long, a, b, ← whole s all full few m (leb-true 1 h.ntracks a) last)
      (reordered (all_of plain_time ts) (all_of plain_tag gs) (is_placed good_track is_zero_track h.ntracks h.tracks)
      (is_placed (good_frame h.ntracks h.last h.group.number) is_zero_frame h.nframes (frames_of ts gs) && is_sorted (take h.nframes (frames_of ts gs))) (distinct_numbers (take h.nframes (frames_of ts gs)))
      (good_group h.group && good_settings h.settings)))
      (λ a. rw a (ill (no-tracks s all full m (leb-false 1 h.ntracks a)))))
      (λ b. rw (b, and-false (leb 1 h.ntracks)) (ill (too-many-tracks s all full few (leb-false h.ntracks 4 b))))

-- a head that passes has at most four tracks
pub head-width : (h : Head) → head_test h ≡ true → h.ntracks ≤ 4
unfolding head_test
head-width h e = leb-true h.ntracks 4 (and_right (leb 1 h.ntracks) _ (and_left _ _ e))
