-- A well-formed state is one that the reports ask for.
use mathlib.Core.Path.{◌≡◌}
use mathlib.Core.Bool.{true, ◌&&◌}
use mathlib.Core.List.{List}
use Prim.Native.Nat.{ℕ, ◌≤◌}
use native.Mathlib.Omega.{arith}
use lib.Dec.{leb}
use lib.IntN.{ℤ}
use lib.ListN.{length, take}
use lib.Seq.{length-take-le}
use borrow.Author.Tests.{leb-true}
use Rattle.laws.proofs.BoolLaws.{and_left, and_right, and_both}
use Rattle.buffer_state.specs.declared.Frame.{Frame}
use Rattle.buffer_state.specs.declared.Head.{Head}
use Rattle.buffer_state.specs.Layout.{buffer_of, laid_out, well_formed}
use Rattle.buffer_state.specs.Lent.{state_at, well_formed_at}
use Rattle.buffer_state.specs.Limits.{most_tracks}
use Rattle.buffer_state.specs.WellFormed.{good_count, good_tracks, good_frame}
use Rattle.buffer_laws.proofs.GoodLaws.{IsGood, good-facts}
use Rattle.buffer_laws.proofs.LayoutLaws.{IsLaid, laid_out_lem}
use Rattle.buffer_laws.proofs.LentLaws.{lent-whole, lent-plain, lent-good}
use Rattle.buffer_laws.proofs.TestLaws.{all_weaker}
use Rattle.ranges.specs.Bars.{stored, Stores}
use Rattle.ranges.specs.Sweep.{is_sound}
use Rattle.ranges.proofs.TimeLaws.{good-timely, good-lasts}

module _ (h : Head) (ts : List (List ℤ)) (gs : List (List ℕ)) (w : well_formed_at h ts gs ≡ true) where
  layout : IsLaid (state_at h ts gs)
  unfolding well_formed
  layout = laid_out_lem (state_at h ts gs) (and_left (laid_out (state_at h ts gs)) _ (lent-whole h ts gs w))

  good : IsGood (buffer_of (state_at h ts gs))
  good = good-facts (buffer_of (state_at h ts gs)) (lent-good h ts gs w)

  pub track-count : length (take h.ntracks h.tracks) ≡ h.ntracks
  track-count = length-take-le h.ntracks h.tracks (omega (arith, layout.tracks, layout.ntracks))

  pub well_formed-stores : Stores ts gs h.nframes
  well_formed-stores =
      let n : ℕ = length (take h.ntracks h.tracks) in
      record {
        long = (lent-plain h ts gs w).long;
        few = layout.nframes;
        each =
            all_weaker (good_frame n h.last h.group.number) is_sound
            (λ (f : Frame) e. and_both (good-timely n h.last h.group.number f e) (good-lasts n h.last h.group.number f e))
            (stored ts gs h.nframes) good.frames.each;
        order = good.frames.order;
      }

  pub well_formed-tracks : (1 ≤ h.ntracks) × (h.ntracks ≤ most_tracks)
  unfolding good_tracks
  well_formed-tracks =
      let n : ℕ = length (take h.ntracks h.tracks) in
      let some : 1 ≤ n = leb-true 1 n (and_left (leb 1 n) _ (and_left (good_count n) _ good.tracks)) in
      (omega (arith, track-count), layout.ntracks)

  pub few-tracks : (track : ℕ) → (leb 1 track && leb track h.ntracks) ≡ true → track ≤ most_tracks
  few-tracks track e = omega (arith, leb-true track h.ntracks (and_right (leb 1 track) _ e), layout.ntracks)
