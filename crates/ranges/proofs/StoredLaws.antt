-- The stored frames: there are as many as the count says, and their tracks rise, as the rows of tags have them. So those of a track stand
-- together, between two partition points of the rows.
use mathlib.Core.Path.{◌≡◌, sym, ap, subst, ◌∙◌}
use mathlib.Core.Bool.{true, false}
use mathlib.Core.List.{List, []}
use Prim.Native.Nat.{ℕ, ◌+◌, ◌-◌, ◌≤◌, ◌<◌}
use native.Mathlib.Omega.{arith}
use lib.Dec.{ltb, leb}
use lib.IntN.{ℤ}
use lib.ListN.{length, take, drop, get_or, length-drop}
use lib.Seq.{get_or-take, get_or-drop, length-take-le}
use borrow.Author.Tests.{ltb-true, ltb-false, leb-true, leb-false, lt-ltb, le-leb}
use Rattle.std.specs.List.Sorted.{IsNonDecreasingBy, IsPartitionedBy, IsPartitionPoint}
use Rattle.std.proofs.lemmas.Slice.{between_is}
use Rattle.std.proofs.lemmas.List.Sorted.{IsPartitionedBy-leb, IsPartitionedBy-ltb, IsNonDecreasingBy-drop}
use Rattle.laws.proofs.BoolLaws.{split}
use Rattle.laws.proofs.ListLaws.{first-length}
use Rattle.buffer_state.specs.declared.Frame.{Frame}
use Rattle.buffer_state.specs.Layout.{zero_frame}
use Rattle.buffer_state.specs.Lent.{frames_of, Lengths}
use Rattle.buffer_state.specs.Limits.{places}
use Rattle.buffer_laws.proofs.RowLaws.{frames-length, frames-at}
use Rattle.ranges.specs.Bars.{stored, Stores, Parts}
use Rattle.ranges.specs.Sweep.{is_under, from_on}
use Rattle.ranges.proofs.BarLaws.{every}
use Rattle.ranges.proofs.OwnLaws.{sorted-tracks}

-- the track that a row of tags has
abbrev pub track_in : List ℕ → ℕ
track_in g = get_or g 0 0

pub all-places : (ts : List (List ℤ)) (gs : List (List ℕ)) → Lengths ts gs → length (frames_of ts gs) ≡ places
all-places ts gs long = frames-length ts gs (long.0 ∙ sym long.1) ∙ long.0

module _ {ts : List (List ℤ)} {gs : List (List ℕ)} {n : ℕ} (s : Stores ts gs n) where
  pub stored-full : n ≤ length (frames_of ts gs)
  stored-full = omega (arith, all-places ts gs s.long, s.few)

  pub stored-length : length (stored ts gs n) ≡ n
  stored-length = first-length (frames_of ts gs) n stored-full

  rows-length : length (take n gs) ≡ n
  rows-length = length-take-le n gs (omega (arith, s.long.1, s.few))

  -- the track of a frame, as its row has it
  row-track : (i : ℕ) (d : List ℕ) → i < n → (get_or (stored ts gs n) i zero_frame).track ≡ track_in (get_or (take n gs) i d)
  row-track i d h =
      ap (λ (f : Frame). f.track) (get_or-take n (frames_of ts gs) i zero_frame h ∙ frames-at ts gs i [] d (omega (arith, s.long.0, s.few)) (omega (arith, s.long.1, s.few)))
      ∙ ap track_in (sym (get_or-take n gs i d h))

  rows-rise : IsNonDecreasingBy track_in (take n gs)
  rows-rise i j d h k =
      omega (
        arith,
        sorted-tracks (stored ts gs n) s.order i j h (omega (arith, k, rows-length, stored-length)),
        row-track i d (omega (arith, h, k, rows-length)),
        row-track j d (omega (arith, k, rows-length)),
      )

  -- where all rows in front of a place are of lower tracks, and none from there on is
  parts : (track place : ℕ) → place ≤ n → ((k : ℕ) → k < place → track_in (get_or (take n gs) k []) < track)
      → ((k : ℕ) → place ≤ k → k < n → track ≤ track_in (get_or (take n gs) k [])) → Parts track (stored ts gs n) place
  parts track place h below from =
      let fs = stored ts gs n in
      record {
        below =
            every (is_under track) (take place fs) zero_frame
            (λ k l.
            let m : k < place = omega (arith, l, length-take-le place fs (omega (arith, h, stored-length))) in
            rw (get_or-take place fs k zero_frame m) (lt-ltb _ _ (rw (row-track k [] (omega arith)) (below k m))));
        from =
            every (from_on track) (drop place fs) zero_frame
            (λ k l.
            let m : place + k < n = omega (arith, l, length-drop place fs, stored-length) in
            rw (get_or-drop place fs k zero_frame) (le-leb _ _ (rw (row-track (place + k) [] m) (from (place + k) (omega arith) m))));
      }

  -- the rows from a place on
  abbrev pub behind : ℕ → List (List ℕ)
  behind first = take (n - first) (drop first gs)

  behind-is : (first : ℕ) → behind first ≡ drop first (take n gs)
  behind-is first = between_is gs first n

  -- a track's frames stand between the rows of lower tracks and those of higher ones
  module _ (track first count : ℕ) where
    abbrev pub IsFirst : Type 0
    IsFirst = IsPartitionPoint (λ g. ltb (track_in g) track ≡ true) (λ g. ltb (track_in g) track ≡ false) (take n gs) first

    abbrev pub IsCount : Type 0
    IsCount = IsPartitionPoint (λ g. leb (track_in g) track ≡ true) (λ g. leb (track_in g) track ≡ false) (behind first) count

    pub first-partitioned : IsPartitionedBy (λ g. ltb (track_in g) track) (take n gs)
    first-partitioned = IsPartitionedBy-ltb track_in (take n gs) track rows-rise

    pub count-partitioned : IsPartitionedBy (λ g. leb (track_in g) track) (behind first)
    count-partitioned =
        subst (IsPartitionedBy (λ g. leb (track_in g) track)) (sym (behind-is first))
        (IsPartitionedBy-leb track_in (drop first (take n gs)) track (IsNonDecreasingBy-drop track_in first (take n gs) rows-rise))

    module _ (f : IsFirst) (c : IsCount) (h : first ≤ length (take n gs)) (k : count ≤ length (behind first)) where
      pub fits : first + count ≤ n
      fits = omega (arith, h, k, rows-length, ap length (behind-is first), length-drop first (take n gs))

      pub first-parts : Parts track (stored ts gs n) first
      first-parts =
          parts track first (omega (arith, h, rows-length)) (λ i l. ltb-true _ _ (f.0 i [] (omega arith) l))
          (λ i l m. ltb-false _ _ (f.1 i [] l (omega (arith, m, rows-length))))

      row-behind : (i : ℕ) → first ≤ i → get_or (behind first) (i - first) [] ≡ get_or (take n gs) i []
      row-behind i l =
          let e : first + (i - first) ≡ i = omega arith in
          ap (λ (l : List (List ℕ)). get_or l (i - first) []) (behind-is first) ∙ get_or-drop first (take n gs) (i - first) [] ∙ ap (λ (j : ℕ). get_or (take n gs) j []) e

      pub end-parts : Parts (track + 1) (stored ts gs n) (first + count)
      end-parts =
          parts (track + 1) (first + count) fits
          (λ i l.
          split (ltb i first)
          (λ e. let low : track_in (get_or (take n gs) i []) < track = ltb-true _ _ (f.0 i [] (omega arith) (ltb-true i first e)) in omega arith)
          (λ e.
          let on : first ≤ i = ltb-false i first e in
          let high : track_in (get_or (take n gs) i []) ≤ track = rw (← row-behind i on) (leb-true _ _ (c.0 (i - first) [] (omega arith) (omega arith))) in omega arith))
          (λ i l m.
          let inside : i - first < length (behind first) = omega (arith, m, l, rows-length, ap length (behind-is first), length-drop first (take n gs)) in
          let above : track < track_in (get_or (take n gs) i []) = rw (← row-behind i (omega arith)) (leb-false _ _ (c.1 (i - first) [] (omega arith) inside)) in omega arith)
