-- What a row's kind says of its result: lines, ranges or a reading, and never more ranges than places lent; and how many frames its call
-- offers.
use Rattle.std.specs.Prelude.{Ok, Err}
use mathlib.Core.Path.{◌≡◌, refl}
use mathlib.Core.Bool.{not}
use mathlib.Core.List.{List, [], ◌∷◌, map}
use Prim.Native.Nat.{ℕ, zero, suc, ◌≤◌, ◌<◌}
use native.Mathlib.Omega.{arith}
use borrow.Author.Tests.{lt-ltb, le-ltb, ltb-true, ltb-false, eqb-true, eqb-false, ne_eqb}
use lib.Dec.{ltb, eqb}
use lib.IntN.{ℤ, pos}
use lib.Ieee.{Float, nan}
use lib.ListN.{length, take, drop, get_or, length-map}
use Rattle.laws.proofs.BoolLaws.{split, by-test}
use Rattle.buffer_state.specs.Append.{Outcome, append}
use Rattle.buffer_state.specs.Batch.{Batch, offered_in, batch}
use Rattle.buffer_state.specs.Buffer.{Buffer, has_track}
use Rattle.buffer_state.specs.Ranges.{Range, ranges_of, common_ranges_of, track_ranges, common_ranges}
use Rattle.buffer_state.specs.Refusals.{CallResult}
use Rattle.buffer_state.specs.Remove.{remove}
use Rattle.buffer_state.specs.Run.{Call, read_call, batch_call, walked_call, seek_call, Answer, by_outcome, by_setting, by_ranges, by_batch, by_walked, by_seek, reply_to, lines_in}
use Rattle.buffer_state.specs.declared.Start.{Start}
use Rattle.buffer_state.specs.Seek.{seek}
use Rattle.buffer_state.specs.Settings.{abort, offset_set, window_start_set, window_end_set}
use Rattle.buffer_state.specs.Walked.{walked}
use Rattle.call_rows.specs.Encoded.{offered_of, lines_call, setting_call, ranges_call_of, of_lines, of_ranges, row_call}
use Rattle.call_rows.specs.Replies.{size_of, doubles_in, ranges_in}
use Rattle.call_list.specs.Listed.{first_frame, frame_count, frames_of_row, offers_of_row, noted, readings_in}
use Rattle.call_list.proofs.ListedLaws.{frames_in}

pub record Shape (kind places : ℕ) (r : CallResult Answer) : Type 0 where
  pub lines : of_lines kind (size_of r) ≡ length (lines_in r)
  pub ranges : of_ranges kind (size_of r) ≡ length (ranges_in r)
  pub few : length (ranges_in r) ≤ of_ranges kind places
  pub readings : noted kind (doubles_in r) ≡ readings_in r

module _ (kind places : ℕ) (b : Buffer) where
  outcome-shape : kind < 2 → (x : CallResult Outcome) → Shape kind places (by_outcome b x).result
  outcome-shape h (Err why) =
      record { lines = rw (lt-ltb kind 2 h); ranges = rw (lt-ltb kind 8 (omega arith)); few = omega arith; readings = rw (ne_eqb kind 7 (λ e. omega arith)) }
  outcome-shape h (Ok o) =
      record { lines = rw (lt-ltb kind 2 h); ranges = rw (lt-ltb kind 8 (omega arith)); few = omega arith; readings = rw (ne_eqb kind 7 (λ e. omega arith)) }

  setting-shape : 2 ≤ kind → kind < 7 → (x : CallResult Buffer) → Shape kind places (by_setting b x).result
  setting-shape h k (Err why) =
      record { lines = rw (le-ltb kind 2 h, ne_eqb kind 10 (λ e. omega arith)); ranges = rw (lt-ltb kind 8 (omega arith)); few = omega arith; readings = rw (ne_eqb kind 7 (λ e. omega arith)) }
  setting-shape h k (Ok c) =
      record { lines = rw (le-ltb kind 2 h, ne_eqb kind 10 (λ e. omega arith)); ranges = rw (lt-ltb kind 8 (omega arith)); few = omega arith; readings = rw (ne_eqb kind 7 (λ e. omega arith)) }

  batch-shape : kind ≡ 10 → (x : CallResult Batch) → Shape kind places (by_batch b x).result
  batch-shape e (Err why) = rw e (record { lines = refl; ranges = refl; few = omega arith; readings = refl })
  batch-shape e (Ok r) = rw e (record { lines = refl; ranges = refl; few = omega arith; readings = refl })

  -- a walk and a seek, whose answers have no list
  module _ (h : 10 < kind) where
    listless : (r : CallResult Answer) → lines_in r ≡ [] → ranges_in r ≡ [] → readings_in r ≡ [] → Shape kind places r
    listless r l s d = record {
      lines = rw (l, le-ltb kind 2 (omega arith), ne_eqb kind 10 (λ e. omega arith));
      ranges = rw (s, le-ltb kind 8 (omega arith), le-ltb kind 10 (omega arith));
      few = rw s (omega arith);
      readings = rw (d, ne_eqb kind 7 (λ e. omega arith));
    }

    walk-shape : (x : CallResult ℕ) → Shape kind places (by_walked b x).result
    walk-shape (Err why) = listless (Err why) refl refl refl
    walk-shape (Ok n) = listless (by_walked b (Ok n)).result refl refl refl

    seek-shape : (x : CallResult Start) → Shape kind places (by_seek b x).result
    seek-shape (Err why) = listless (Err why) refl refl refl
    seek-shape (Ok s) = listless (by_seek b (Ok s)).result refl refl refl

  module _ (h : 8 ≤ kind) (k : kind < 10) where
    ranges-shape : (x : CallResult (List Range)) → length (ranges_in (by_ranges b x).result) ≤ places → Shape kind places (by_ranges b x).result
    ranges-shape (Err why) f =
        record { lines = rw (le-ltb kind 2 (omega arith), ne_eqb kind 10 (λ e. omega arith)); ranges = rw (le-ltb kind 8 h, lt-ltb kind 10 k); few = omega arith; readings = rw (ne_eqb kind 7 (λ e. omega arith)) }
    ranges-shape (Ok rs) f =
        record { lines = rw (le-ltb kind 2 (omega arith), ne_eqb kind 10 (λ e. omega arith)); ranges = rw (le-ltb kind 8 h, lt-ltb kind 10 k); few = rw (le-ltb kind 8 h, lt-ltb kind 10 k) f; readings = rw (ne_eqb kind 7 (λ e. omega arith)) }

    abbrev IsFew : CallResult (List Range) → Type 0
    IsFew x = length (ranges_in (by_ranges b x).result) ≤ places

    track-few : (track : ℕ) → IsFew (track_ranges places track b)
    unfolding track_ranges
    track-few track =
        by-test IsFew (not (has_track b track)) (λ _. omega arith)
        (λ _. by-test IsFew (ltb places (length (ranges_of track b.frames))) (λ _. omega arith) (λ e. ltb-false places (length (ranges_of track b.frames)) e))

    common-few : IsFew (common_ranges places b)
    unfolding common_ranges
    common-few =
        let n = length (common_ranges_of (length b.tracks) b.frames) in
        by-test IsFew (ltb places n) (λ _. omega arith) (λ e. ltb-false places n e)

module _ (row : List ℕ) (stamps : List ℤ) (seconds : List Float) (frames : List (List ℤ)) (b : Buffer) where
  abbrev kind : ℕ
  kind = get_or row 0 0

  abbrev places : ℕ
  places = get_or row 4 0

  abbrev IsShaped : Call → Type 0
  IsShaped c = Shape kind places (reply_to c b).result

  lines-shape : kind < 2 → IsShaped (lines_call row stamps seconds places)
  unfolding reply_to
  lines-shape h =
      by-test IsShaped (eqb kind 0) (λ _. outcome-shape kind places b h (append places (offered_of row stamps) b))
      (λ _. outcome-shape kind places b h (remove places (get_or seconds 0 nan) (get_or seconds 1 nan) b))

  settings-shape : 2 ≤ kind → kind < 7 → IsShaped (setting_call kind (get_or row 2 0) (get_or seconds 0 nan))
  unfolding reply_to
  settings-shape h k =
      let x = get_or seconds 0 nan in
      by-test IsShaped (eqb kind 2) (λ _. setting-shape kind places b h k (abort b))
      (λ _. by-test IsShaped (eqb kind 3) (λ _. setting-shape kind places b h k (Ok b))
      (λ _. by-test IsShaped (eqb kind 4) (λ _. setting-shape kind places b h k (offset_set x b))
      (λ _. by-test IsShaped (eqb kind 5) (λ _. setting-shape kind places b h k (window_start_set x b))
      (λ _. setting-shape kind places b h k (window_end_set x b)))))

  reading-shape : kind ≡ 7 → IsShaped read_call
  unfolding reply_to
  reading-shape e = rw e (record { lines = refl; ranges = refl; few = omega arith; readings = refl })

  reports-shape : 8 ≤ kind → kind < 10 → IsShaped (ranges_call_of row places)
  unfolding reply_to
  reports-shape h k =
      by-test IsShaped (eqb kind 8) (λ _. ranges-shape kind places b h k (track_ranges places (get_or row 1 0) b) (track-few kind places b h k (get_or row 1 0)))
      (λ _. ranges-shape kind places b h k (common_ranges places b) (common-few kind places b h k))

  batches-shape : kind ≡ 10 → IsShaped (batch_call places (map offered_in frames))
  unfolding reply_to
  batches-shape e = batch-shape kind places b e (batch places (map offered_in frames) b)

  walks-shape : 10 < kind → IsShaped (walked_call places (get_or row 1 0))
  unfolding reply_to
  walks-shape h = walk-shape kind places b h (walked places (get_or row 1 0) b)

  seeks-shape : 10 < kind → IsShaped (seek_call (get_or row 1 0) (get_or stamps 0 (pos 0)))
  unfolding reply_to
  seeks-shape h = seek-shape kind places b h (seek (get_or row 1 0) (get_or stamps 0 (pos 0)) b)

  pub row-shape : IsShaped (row_call row stamps seconds frames)
  row-shape =
      split (ltb kind 2) (λ e. rw e (lines-shape (ltb-true kind 2 e)))
      (λ e. split (ltb kind 7) (λ f. rw (e, f) (settings-shape (ltb-false kind 2 e) (ltb-true kind 7 f)))
      (λ f. split (eqb kind 7) (λ g. rw (e, f, g) (reading-shape (eqb-true kind 7 g)))
      (λ g.
      let l : 7 ≤ kind = ltb-false kind 7 f in
      let n : kind ≡ 7 → ⊥ = eqb-false kind 7 g in
      split (ltb kind 10) (λ m. rw (e, f, g, m) (reports-shape (omega (arith, n)) (ltb-true kind 10 m)))
      (λ m. split (eqb kind 10) (λ o. rw (e, f, g, m, o) (batches-shape (eqb-true kind 10 o)))
      (λ o.
      let p : 10 ≤ kind = ltb-false kind 10 m in
      let q : kind ≡ 10 → ⊥ = eqb-false kind 10 o in
      split (eqb kind 11) (λ w. rw (e, f, g, m, o, w) (walks-shape (omega (arith, q)))) (λ w. rw (e, f, g, m, o, w) (seeks-shape (omega (arith, q)))))))))

-- ---- what a row's call offers

take-most : {A : Type 0} (n : ℕ) (l : List A) → length (take n l) ≤ n
take-most zero l = omega arith
take-most (suc n) [] = omega arith
take-most (suc n) (x ∷ l) = omega (arith, take-most n l)

settings-offer : (kind flag : ℕ) (x : Float) → frames_in (setting_call kind flag x) ≡ 0
settings-offer kind flag x =
    let None : Call → Type 0 = λ c. frames_in c ≡ 0 in
    by-test None (eqb kind 2) (λ _. refl)
    (λ _. by-test None (eqb kind 3) (λ _. refl)
    (λ _. by-test None (eqb kind 4) (λ _. refl)
    (λ _. by-test None (eqb kind 5) (λ _. refl) (λ _. refl))))

-- never more frames than the row says
pub row-offers : (row : List ℕ) (stamps : List ℤ) (seconds : List Float) (frames : List (List ℤ))
    → frames_in (row_call row stamps seconds (frames_of_row row frames)) ≤ offers_of_row row
row-offers row stamps seconds frames =
    let kind = get_or row 0 0 in
    let IsFew : Call → Type 0 = λ c. frames_in c ≤ offers_of_row row in
    by-test IsFew (ltb kind 2) (λ _. by-test IsFew (eqb kind 0) (λ e. rw e (omega arith)) (λ _. omega arith))
    (λ _. by-test IsFew (ltb kind 7) (λ _. omega (arith, settings-offer kind (get_or row 2 0) (get_or seconds 0 nan)))
    (λ _. by-test IsFew (eqb kind 7) (λ _. omega arith)
    (λ _. by-test IsFew (ltb kind 10) (λ _. by-test IsFew (eqb kind 8) (λ _. omega arith) (λ _. omega arith))
    (λ _. by-test IsFew (eqb kind 10)
    (λ e.
    let own = frames_of_row row frames in
    let h : kind ≡ 10 = eqb-true kind 10 e in
    let asked : offers_of_row row ≡ frame_count row = rw (ne_eqb kind 0 (λ z. omega arith)) in
    omega (arith, asked, length-map own offered_in, take-most (frame_count row) (drop (first_frame row) frames)))
    (λ _. by-test IsFew (eqb kind 11) (λ _. omega arith) (λ _. omega arith))))))
