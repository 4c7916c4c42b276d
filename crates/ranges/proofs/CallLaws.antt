-- What a report answers, by the tests in their order.
use Rattle.std.specs.Prelude.{Ok, Err}
use mathlib.Core.Path.{◌≡◌, sym, ap, ◌∙◌}
use mathlib.Core.Bool.{Bool, true, false, ◌&&◌}
use mathlib.Core.List.{List, ◌++◌}
use Prim.Native.Nat.{ℕ, ◌≤◌, ◌<◌}
use lib.Dec.{leb}
use lib.IntN.{ℤ}
use lib.ListN.{length, take, drop}
use borrow.Author.Tests.{lt-ltb, le-ltb}
use Rattle.buffer_state.specs.declared.Head.{Head}
use Rattle.buffer_state.specs.declared.Refusal.{Refusal}
use Rattle.buffer_state.specs.declared.Refusal.TheVariants.{IllFormed, NoTrack, ShortList}
use Rattle.buffer_state.specs.Answers.{laid_ranges, range_count, ranges_after, track_ranges_result, common_ranges_result, walked_result}
use Rattle.buffer_state.specs.Buffer.{has_track}
use Rattle.buffer_state.specs.Layout.{buffer_of}
use Rattle.buffer_state.specs.Lent.{state_at, well_formed_at}
use Rattle.buffer_state.specs.Ranges.{Range, ranges_of, common_ranges_of, track_ranges, common_ranges}
use Rattle.buffer_state.specs.Refusals.{CallResult}
use Rattle.buffer_state.specs.Walked.{presented, taken_of, walked}
use Rattle.buffer_laws.proofs.LentLaws.{ill-formed-refused, on-well_formed}
use Rattle.ranges.specs.Bars.{stored, Shows, Reported}
use Rattle.ranges.proofs.StoresLaws.{track-count}

-- ---- an answer and a list from a result

pub refused-reported : {result : CallResult (List Range)} (why : Refusal) (before : List (List ℤ)) → result ≡ Err why
    → Reported (Err why) before result before
refused-reported why before e = record { answer = sym (ap range_count e); list = sym (ap (λ (r : CallResult (List Range)). ranges_after r before) e) }

-- the rows that show the ranges, copied to the list
pub done-reported : {result : CallResult (List Range)} {rs : List Range} {spans : List (List ℤ)} {n : ℕ} (after before : List (List ℤ)) → result ≡ Ok rs
    → Shows spans n rs → after ≡ take n spans ++ drop n before → Reported (Ok n) after result before
done-reported {rs = rs} {n = n} after before e s l = record {
  answer = ap Ok s.count ∙ sym (ap range_count e);
  list =
      l ∙ ap (λ (rows : List (List ℤ)). rows ++ drop n before) s.rows ∙ ap (λ (k : ℕ). laid_ranges rs ++ drop k before) s.count
      ∙ sym (ap (λ (r : CallResult (List Range)). ranges_after r before) e);
}

-- ---- a track's ranges, and how many frames their walk takes

module _ (lent track : ℕ) (h : Head) (ts : List (List ℤ)) (gs : List (List ℕ)) where
  pub track-ill-formed : well_formed_at h ts gs ≡ false → track_ranges_result lent track h ts gs ≡ Err IllFormed
  unfolding track_ranges_result
  track-ill-formed e = ill-formed-refused (track_ranges lent track) h ts gs e

  pub walked-ill-formed : well_formed_at h ts gs ≡ false → walked_result lent track h ts gs ≡ Err IllFormed
  unfolding walked_result
  walked-ill-formed e = ill-formed-refused (walked lent track) h ts gs e

  module _ (w : well_formed_at h ts gs ≡ true) (known : Bool) (e : known ≡ (leb 1 track && leb track h.ntracks)) where
    has_track_lem : has_track (buffer_of (state_at h ts gs)) track ≡ known
    has_track_lem = rw (track-count h ts gs w) (sym e)

    module _ (k : known ≡ false) where
      pub track-unknown : track_ranges_result lent track h ts gs ≡ Err NoTrack
      unfolding track_ranges_result track_ranges
      track-unknown = on-well_formed (track_ranges lent track) h ts gs w ∙ rw (has_track_lem ∙ k)

      pub walked-unknown : walked_result lent track h ts gs ≡ Err NoTrack
      unfolding walked_result walked
      walked-unknown = on-well_formed (walked lent track) h ts gs w ∙ rw (has_track_lem ∙ k)

    module _ (k : known ≡ true) where
      pub track-short : lent < length (ranges_of track (stored ts gs h.nframes)) → track_ranges_result lent track h ts gs ≡ Err ShortList
      unfolding track_ranges_result track_ranges
      track-short l = on-well_formed (track_ranges lent track) h ts gs w ∙ rw (has_track_lem ∙ k, lt-ltb _ _ l)

      pub track-reported : length (ranges_of track (stored ts gs h.nframes)) ≤ lent
          → track_ranges_result lent track h ts gs ≡ Ok (ranges_of track (stored ts gs h.nframes))
      unfolding track_ranges_result track_ranges
      track-reported l = on-well_formed (track_ranges lent track) h ts gs w ∙ rw (has_track_lem ∙ k, le-ltb _ _ l)

      pub walked-done : walked_result lent track h ts gs ≡ Ok (taken_of lent (presented track (stored ts gs h.nframes)))
      unfolding walked_result walked
      walked-done = on-well_formed (walked lent track) h ts gs w ∙ rw (has_track_lem ∙ k)

-- ---- the common ranges

module _ (lent : ℕ) (h : Head) (ts : List (List ℤ)) (gs : List (List ℕ)) where
  pub common-ill-formed : well_formed_at h ts gs ≡ false → common_ranges_result lent h ts gs ≡ Err IllFormed
  unfolding common_ranges_result
  common-ill-formed e = ill-formed-refused (common_ranges lent) h ts gs e

  module _ (w : well_formed_at h ts gs ≡ true) where
    pub common-short : lent < length (common_ranges_of h.ntracks (stored ts gs h.nframes)) → common_ranges_result lent h ts gs ≡ Err ShortList
    unfolding common_ranges_result common_ranges
    common-short l = on-well_formed (common_ranges lent) h ts gs w ∙ rw (track-count h ts gs w, lt-ltb _ _ l)

    pub common-reported : length (common_ranges_of h.ntracks (stored ts gs h.nframes)) ≤ lent
        → common_ranges_result lent h ts gs ≡ Ok (common_ranges_of h.ntracks (stored ts gs h.nframes))
    unfolding common_ranges_result common_ranges
    common-reported l = on-well_formed (common_ranges lent) h ts gs w ∙ rw (track-count h ts gs w, le-ltb _ _ l)
