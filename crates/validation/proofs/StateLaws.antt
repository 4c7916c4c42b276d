-- The well-formed state from its parts: where the counts are inside the arrays, what is left to ask; where they are not, false.
use mathlib.Core.Path.{◌≡◌, refl, sym}
use mathlib.Core.Bool.{Bool, true, false, ◌&&◌, and-false}
use mathlib.Core.List.{List}
use Prim.Native.Nat.{◌≤◌, ◌<◌}
use native.Mathlib.Omega.{arith}
use lib.ListN.{length, take, drop}
use borrow.Author.Tests.{le-leb, lt-leb, eq-eqb}
use Rattle.laws.proofs.ListLaws.{first-length}
use Rattle.buffer_state.specs.declared.Frame.{Frame}
use Rattle.buffer_state.specs.State.{State}
use Rattle.buffer_state.specs.Layout.{is_zero_frame, is_zero_track, laid_out, well_formed}
use Rattle.buffer_state.specs.Limits.{places}
use Rattle.buffer_state.specs.WellFormed.{all_of, good_track, good_tracks, good_frame, good_frames, is_sorted, distinct_numbers, good_group, good_settings, good_buffer}
use Rattle.validation.specs.Tests.{is_placed}
use Rattle.validation.proofs.PlaceLaws.{placed-parts}

-- the order in which the tests are made
reordered : (a z t y s d r : Bool) → ((z && y) && (t && ((a && (s && d)) && r))) ≡ ((t && y) && ((((a && z) && s) && d) && r))
reordered a false false y s d r = refl
reordered a false true false s d r = refl
reordered false false true true s d r = refl
reordered true false true true s d r = refl
reordered a true false false s d r = refl
reordered a true false true s d r = refl
reordered false true true y s d r = refl
reordered true true true y s d r = refl

module _ (s : State) (frames : length s.frames ≡ places) (tracks : length s.tracks ≡ 4) where
  pub too-many-frames : places < s.nframes → well_formed s ≡ false
  unfolding well_formed laid_out
  too-many-frames h = rw (eq-eqb _ _ frames, eq-eqb _ _ tracks, lt-leb s.nframes places h)

  pub too-many-tracks : s.nframes ≤ places → 4 < s.ntracks → well_formed s ≡ false
  unfolding well_formed laid_out
  too-many-tracks n h = rw (eq-eqb _ _ frames, eq-eqb _ _ tracks, le-leb s.nframes places n, lt-leb s.ntracks 4 h)

  pub no-tracks : s.ntracks ≤ 4 → s.ntracks < 1 → well_formed s ≡ false
  unfolding well_formed good_buffer good_tracks
  no-tracks m h = rw (first-length s.tracks s.ntracks (omega arith), lt-leb 1 s.ntracks h) (and-false (laid_out s))

  pub whole : s.nframes ≤ places → s.ntracks ≤ 4 → 1 ≤ s.ntracks → s.last ≤ 4294967295
      → (is_placed good_track is_zero_track s.ntracks s.tracks
      && (((is_placed (good_frame s.ntracks s.last s.group.number) is_zero_frame s.nframes s.frames && is_sorted (take s.nframes s.frames)) && distinct_numbers (take s.nframes s.frames)) && (good_group s.group && good_settings s.settings)))
      ≡ well_formed s
  unfolding well_formed laid_out good_buffer good_tracks good_frames
  whole n m some last =
      let stored : List Frame = take s.nframes s.frames in
      rw (
        eq-eqb _ _ frames,
        eq-eqb _ _ tracks,
        le-leb s.nframes places n,
        le-leb s.ntracks 4 m,
        le-leb s.last 4294967295 last,
        first-length s.tracks s.ntracks (omega arith),
        first-length s.frames s.nframes (omega arith),
        le-leb 1 s.ntracks some,
        le-leb s.ntracks 4 m,
        le-leb s.nframes places n,
        placed-parts (good_frame s.ntracks s.last s.group.number) is_zero_frame,
        placed-parts good_track is_zero_track,
      )
      (sym (reordered (all_of (good_frame s.ntracks s.last s.group.number) stored) (all_of is_zero_frame (drop s.nframes s.frames))
      (all_of good_track (take s.ntracks s.tracks)) (all_of is_zero_track (drop s.ntracks s.tracks))
      (is_sorted stored) (distinct_numbers stored) (good_group s.group && good_settings s.settings)))
