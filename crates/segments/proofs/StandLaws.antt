-- A walk that stands at samples stands further on after more of them: moved, lost, or lost before. Assumes nothing.
use mathlib.Core.Path.{◌≡◌, refl, sym, ap, ◌∙◌}
use mathlib.Core.Bool.{Bool, true, false, cond}
use mathlib.Core.List.{List, [], ◌∷◌, ◌++◌}
use Prim.Native.Nat.{ℕ, ◌+◌, ◌-◌, ◌<◌}
use native.Mathlib.Omega.{arith}
use lib.IntN.{ℤ}
use lib.ListN.{length, set, length-set}
use lib.Dec.{leb}
use borrow.Author.Tests.{leb-false}
use Rattle.laws.proofs.BoolLaws.{clash, both_ways, split}
use Rattle.buffer_state.specs.WellFormed.{all_of}
use Rattle.media_times.specs.MediaTimes.{in_limits, row_of}
use Rattle.media_times.specs.declared.Sample.{Sample}
use Rattle.segments.specs.Segments.{all_in_limits, rows_of}
use Rattle.segments.specs.Walks.{Known, lost_walk, begun_at, least_of, walk_at, moved_by, laid_rows, Standing}
use Rattle.segments.specs.declared.SegmentTrack.{SegmentTrack}
use Rattle.segments.proofs.LaidLaws.{laid_more, set_past}
use Rattle.segments.proofs.SampleLaws.{stays_out, one_out, one_in, rows_both, rows-length}
use Rattle.segments.proofs.WalkLaws.{walk-in, walk-out, walk-good, moved_on}

-- a walk that is moved on has the time that it is moved to
pub moved-time : (places : ℕ) (w : Known) (n t : ℕ) → (moved_by places w n t).time ≡ t
moved-time places w n t = go (leb n (places - w.count))
  where
    go : (b : Bool) → (cond {A = Known} b (record { good = true; over = w.over; count = w.count + n; time = t }) (record { good = true; over = true; count = places; time = t })).time ≡ t
    go true = refl
    go false = refl

pub begun-time : (w : Known) (t : ℕ) → (begun_at w t).good ≡ true → (begun_at w t).time ≡ t
begun-time w t = go w.good refl
  where
    go : (b : Bool) → w.good ≡ b → (cond {A = Known} b (record { good = true; over = w.over; count = w.count; time = t }) w).good ≡ true
        → (cond {A = Known} b (record { good = true; over = w.over; count = w.count; time = t }) w).time ≡ t
    go true e g = refl
    go false e g = both_ways g e

-- a row that is put or not leaves the places
pub written-length : (write : Bool) (list : List (List ℤ)) (k : ℕ) (r : List ℤ) (after : List (List ℤ)) → after ≡ cond write (set list k r) list → length after ≡ length list
written-length true list k r after e = ap (λ x. length x) e ∙ length-set list k r
written-length false list k r after e = ap (λ x. length x) e

-- a lost walk stands wherever something is outside its limits
pub lost-stands : (of : SegmentTrack) (write : Bool) (before : List (List ℤ)) (l : List Sample) (list : List (List ℤ)) → all_in_limits of.timescale l ≡ false
    → (write ≡ false → list ≡ before) → length list ≡ length before → Standing of write before l lost_walk list
lost-stands of write before l list out kept n = record {
  knows = sym (walk-out of.timescale (length before) l 0 out);
  judging = kept;
  writing = λ _ g. clash (sym g);
  places = n;
}

module _ (of : SegmentTrack) (write : Bool) (before : List (List ℤ)) (l : List Sample) (w : Known) (list : List (List ℤ)) (st : Standing of write before l w list) where
  pub stood : w.good ≡ all_in_limits of.timescale l
  stood = ap (λ (v : Known). v.good) st.knows ∙ walk-good of.timescale (length before) l w.time

  pub standing-count : w.good ≡ true → w.count ≡ least_of (length l) (length before)
  standing-count g = ap (λ (v : Known). v.count) (st.knows ∙ walk-in of.timescale (length before) l w.time (sym stood ∙ g))

  -- at another time it stands where it stood
  pub stands-begun : (t : ℕ) → Standing of write before l (begun_at w t) list
  stands-begun t = go w.good refl
    where
      same : (t : ℕ) {v : Known} → w ≡ v → ◌≡◌ {A = Known} (record { good = true; over = w.over; count = w.count; time = t }) (record { good = true; over = v.over; count = v.count; time = t })
      same t e = λ i. record { good = true; over = (e i).over; count = (e i).count; time = t }

      go : (b : Bool) → w.good ≡ b → Standing of write before l (cond {A = Known} b (record { good = true; over = w.over; count = w.count; time = t }) w) list
      go true g = record {
        knows = same t (st.knows ∙ walk-in of.timescale (length before) l w.time (sym stood ∙ g)) ∙ sym (walk-in of.timescale (length before) l t (sym stood ∙ g));
        judging = st.judging;
        writing = λ h _. st.writing h g;
        places = st.places;
      }
      go false g = st

  -- a walk that is lost stays so
  pub stands-lost : (m : List Sample) → w.good ≡ false → Standing of write before (l ++ m) w list
  stands-lost m g =
      let out : all_in_limits of.timescale l ≡ false = sym stood ∙ g in
      record {
        knows = st.knows ∙ walk-out of.timescale (length before) l w.time out
            ∙ sym (walk-out of.timescale (length before) (l ++ m) w.time (stays_out of.timescale l m out));
        judging = st.judging;
        writing = λ _ h. both_ways h g;
        places = st.places;
      }

  -- more samples, all in their limits, whose rows are written where they are to be
  pub stands-moved : (m : List Sample) (t : ℕ) (after : List (List ℤ)) → w.good ≡ true → all_of (in_limits of.timescale) m ≡ true
      → (write ≡ false → after ≡ list) → (write ≡ true → after ≡ laid_rows (rows_of of (l ++ m)) before) → length after ≡ length list
      → Standing of write before (l ++ m) (moved_by (length list) w (length m) t) after
  stands-moved m t after g p same put n =
      let e : moved_by (length list) w (length m) t ≡ walk_at of.timescale (length before) (l ++ m) t =
      ap (λ k. moved_by k w (length m) t) st.places
      ∙ ap (λ v. moved_by (length before) v (length m) t) st.knows
      ∙ moved_on of.timescale (length before) l m w.time t (sym stood ∙ g) p in
      record {
        knows = e ∙ ap (walk_at of.timescale (length before) (l ++ m)) (sym (moved-time (length list) w (length m) t));
        judging = λ h. same h ∙ st.judging h;
        writing = λ h _. put h;
        places = n ∙ st.places;
      }

  -- one row more, at the count: where there is no place left, nothing is written
  pub row_laid : (s : Sample) → w.good ≡ true → list ≡ laid_rows (rows_of of l) before
      → set list w.count (row_of of.track of.timescale s) ≡ laid_rows (rows_of of (l ++ (s ∷ []))) before
  row_laid s g e =
      let r = row_of of.track of.timescale s in
      let k = standing-count g in
      let n : length list ≡ length before = st.places in
      let more : laid_rows (rows_of of (l ++ (s ∷ []))) before ≡ set list (length l) r =
      ap (λ rs. laid_rows rs before) (rows_both of l (s ∷ [])) ∙ laid_more (rows_of of l) before r ∙ rw (rows-length of l, sym e) in
      split (leb (length l) (length before))
      (λ h. ap (λ i. set list i r) (k ∙ rw h) ∙ sym more)
      (λ h. let m : length before < length l = leb-false (length l) (length before) h in
      set_past list w.count r (rw (k, h) (omega arith)) ∙ sym (set_past list (length l) r (omega arith)) ∙ sym more)

  -- one sample in its limits, with its row where rows are written
  pub stands_one : (s : Sample) (t : ℕ) (after : List (List ℤ)) → w.good ≡ true → in_limits of.timescale s ≡ true
      → after ≡ cond write (set list w.count (row_of of.track of.timescale s)) list
      → Standing of write before (l ++ (s ∷ [])) (moved_by (length after) w 1 t) after
  stands_one s t after g p e =
      let n = written-length write list w.count (row_of of.track of.timescale s) after e in
      rw n
      (stands-moved (s ∷ []) t after g (one_in of.timescale s p)
      (λ h. e ∙ rw h)
      (λ h. e ∙ rw h (row_laid s g (st.writing h g)))
      n)

  -- one that is outside
  pub stands-none : (s : Sample) → in_limits of.timescale s ≡ false → Standing of write before (l ++ (s ∷ [])) lost_walk list
  stands-none s p = lost-stands of write before (l ++ (s ∷ [])) list (one_out of.timescale l s p) st.judging st.places
