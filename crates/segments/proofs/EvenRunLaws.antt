-- A run without columns: each of its samples has the default duration and no composition offset, so that it is decided by its ends; and
-- of its rows only those are written for which there is a place. Assumes nothing.
use mathlib.Core.Path.{◌≡◌, refl, sym, ap, ◌∙◌, subst}
use mathlib.Core.Bool.{Bool, true, false, cond, and-false}
use mathlib.Core.List.{List, [], ◌∷◌, ◌++◌, append_assoc}
use Prim.Native.Nat.{ℕ, zero, suc, ◌+◌, ◌*◌, ◌-◌, ◌≤◌}
use native.Mathlib.Omega.{arith}
use native.Mathlib.Nat.{suc-mul}
use lib.IntN.{ℤ, pos}
use lib.ListN.{length, length-append}
use lib.Dec.{leb, eqb}
use borrow.Author.Tests.{leb-true, leb-false}
use Rattle.laws.proofs.BoolLaws.{split, and_left}
use Rattle.buffer_state.specs.WellFormed.{all_of}
use Rattle.fragments.specs.FullBoxes.{version_of, flag_in, optional}
use Rattle.fragments.specs.Runs.{width_of, signed, sample_at, samples_from}
use Rattle.fragments.specs.declared.Defaults.{Defaults}
use Rattle.fragments.specs.declared.Run.{Run}
use Rattle.media_times.specs.MediaTimes.{in_limits, next, evenly}
use Rattle.media_times.specs.declared.Sample.{Sample}
use Rattle.media_times.proofs.LimitLaws.{limits-by-times}
use Rattle.segments.specs.Listings.{total}
use Rattle.segments.specs.Segments.{all_in_limits, rows_of}
use Rattle.segments.specs.Walks.{Known, lost_walk, least_of, moved_by, rows_for, laid_rows, Standing}
use Rattle.segments.specs.declared.SegmentTrack.{SegmentTrack}
use Rattle.segments.proofs.LaidLaws.{laid-full}
use Rattle.segments.proofs.SampleLaws.{all_both, both-in, more-in, rows_both, rows-length}
use Rattle.segments.proofs.StandLaws.{lost-stands, stood, standing-count, stands-moved}

-- ---- its samples

absent : (word flag : ℕ) → optional word flag 4 ≡ 0 → flag_in word flag ≡ false
unfolding optional
absent word flag = go (flag_in word flag)
  where
    go : (t : Bool) → ◌≡◌ {A = ℕ} (cond t 4 0) 0 → t ≡ false
    go true e = absurd (omega (arith, e))
    go false e = refl

pub samples-length : (d : Defaults) (r : Run) (b : List ℕ) (i n t : ℕ) → length (samples_from d r b i n t) ≡ n
unfolding samples_from
samples-length d r b i zero t = refl
samples-length d r b i (suc n) t = ap suc (samples-length d r b (suc i) n (t + (sample_at d r b i t).duration))

pub no-samples : (d : Defaults) (r : Run) (b : List ℕ) (n t : ℕ) → n ≡ 0 → samples_from d r b 0 n t ≡ []
unfolding samples_from
no-samples d r b n t e = rw e

-- the first n samples, and the m that follow
samples-split : (d : Defaults) (r : Run) (b : List ℕ) (i n m t : ℕ)
    → samples_from d r b i (n + m) t ≡ samples_from d r b i n t ++ samples_from d r b (n + i) m (t + total (samples_from d r b i n t))
unfolding samples_from
samples-split d r b i zero m t =
    let e : 0 + m ≡ m = omega arith in
    let f : 0 + i ≡ i = omega arith in
    let g : t + 0 ≡ t = omega arith in
    rw (e, f, g)
samples-split d r b i (suc n) m t =
    let s = sample_at d r b i t in
    let u = t + s.duration in
    let e : suc n + m ≡ suc (n + m) = omega arith in
    let f : n + suc i ≡ suc n + i = omega arith in
    let g : u + total (samples_from d r b (suc i) n u) ≡ t + (s.duration + total (samples_from d r b (suc i) n u)) = omega arith in
    rw e (ap (λ x. s ∷ x) (samples-split d r b (suc i) n m u ∙ rw (f, g)))

pub at-time : (d : Defaults) (r : Run) (b : List ℕ) (i t : ℕ) → (sample_at d r b i t).time ≡ t
unfolding sample_at
at-time d r b i t = refl

module _ (d : Defaults) (r : Run) (b : List ℕ) (w : width_of r.word ≡ 0) where
  pub even-duration : (i t : ℕ) → (sample_at d r b i t).duration ≡ d.duration
  unfolding sample_at
  even-duration i t = rw (absent r.word 256 (omega arith))

  pub even-offset : (i t : ℕ) → (sample_at d r b i t).offset ≡ pos 0
  unfolding sample_at
  even-offset i t = rw (absent r.word 2048 (omega arith)) (go (eqb (version_of r.word) 0))
    where
      go : (v : Bool) → cond v (pos 0) (signed 0) ≡ pos 0
      go true = refl
      go false = refl

  pub even-total : (i n t : ℕ) → total (samples_from d r b i n t) ≡ n * d.duration
  unfolding samples_from
  even-total i zero t = omega arith
  even-total i (suc n) t =
      let e = even-duration i t in
      let f = even-total (suc i) n (t + (sample_at d r b i t).duration) in
      let m = suc-mul n d.duration in
      omega (arith, e, f, m)

  -- all in their limits exactly where samples like the first are
  pub even-limits : (scale i n t : ℕ) (s : Sample) → s.time ≡ t → s.offset ≡ pos 0 → s.duration ≡ d.duration
      → all_of (in_limits scale) (evenly n s) ≡ all_of (in_limits scale) (samples_from d r b i n t)
  unfolding all_of samples_from evenly
  even-limits scale i zero t s p o q = refl
  even-limits scale i (suc n) t s p o q =
      let x = sample_at d r b i t in
      let one : in_limits scale s ≡ in_limits scale x = limits-by-times scale s x (p ∙ sym (at-time d r b i t)) (o ∙ sym (even-offset i t)) (q ∙ sym (even-duration i t)) in
      let rest : all_of (in_limits scale) (evenly n (next s)) ≡ all_of (in_limits scale) (samples_from d r b (suc i) n (t + x.duration)) =
      even-limits scale (suc i) n (t + x.duration) (next s) (let f = even-duration i t in omega (arith, p, q, f)) o q in
      rw (one, rest)

-- ---- a walk over it

module _ (of : SegmentTrack) (write : Bool) (before : List (List ℤ)) (l : List Sample) (w : Known) (list : List (List ℤ)) (st : Standing of write before l w list)
    (d : Defaults) (r : Run) (b : List ℕ) (t : ℕ) where
  abbrev all : List Sample
  all = samples_from d r b 0 r.count t

  -- a run with a sample outside its limits
  pub run-lost : all_of (in_limits of.timescale) all ≡ false → Standing of write before (l ++ all) lost_walk list
  run-lost e = lost-stands of write before (l ++ all) list (both-in of.timescale l all ∙ rw e (and-false (all_in_limits of.timescale l))) st.judging st.places

  module _ (n : ℕ) (most : n ≤ r.count) where
    abbrev firsts : List Sample
    firsts = samples_from d r b 0 n t

    abbrev rest : List Sample
    rest = samples_from d r b (n + 0) (r.count - n) (t + total firsts)

    parts : all ≡ firsts ++ rest
    parts = let e : r.count ≡ n + (r.count - n) = omega arith in ap (λ k. samples_from d r b 0 k t) e ∙ samples-split d r b 0 n (r.count - n) t

    -- where the places are full after the first rows, or there are no more, the rest changes nothing
    rows-enough : w.good ≡ true → n ≡ least_of r.count (length list - w.count) → laid_rows (rows_of of (l ++ firsts)) before ≡ laid_rows (rows_of of (l ++ all)) before
    rows-enough g e =
        split (leb r.count (length list - w.count))
        (λ h. let k : n ≡ r.count = e ∙ rw h in ap (λ m. laid_rows (rows_of of (l ++ samples_from d r b 0 m t)) before) k)
        (λ h. let k : n ≡ length list - w.count = e ∙ rw h in
        let full : length before ≤ length (rows_of of (l ++ firsts)) = full_by k in
        sym (ap (λ m. laid_rows (rows_of of m) before) (ap (λ x. l ++ x) parts ∙ sym (append_assoc l firsts rest)) ∙ (ap (λ x. laid_rows x before) (rows_both of (l ++ firsts) rest) ∙ laid-full (rows_of of (l ++ firsts)) (rows_of of rest) before full)))
      where
        full_by : n ≡ length list - w.count → length before ≤ length (rows_of of (l ++ firsts))
        full_by k =
            let c = standing-count of write before l w list st g in
            let p = st.places in
            let a = rows-length of (l ++ firsts) in
            let s = length-append l firsts in
            let f = samples-length d r b 0 n t in
            split (leb (length l) (length before))
            (λ h. let c' : w.count ≡ length l = c ∙ rw h in omega (arith, c', p, a, s, f, k, leb-true (length l) (length before) h))
            (λ h. let o = leb-false (length l) (length before) h in omega (arith, o, a, s))

    -- a run inside its limits, of which the first rows were walked
    pub run_moved : (v : Known) (after : List (List ℤ)) (t' : ℕ) → w.good ≡ true → all_of (in_limits of.timescale) all ≡ true → n ≡ rows_for write r.count (length list - w.count)
        → Standing of write before (l ++ firsts) v after
        → Standing of write before (l ++ all) (moved_by (length after) w r.count t') after
    run_moved v after t' g e k z =
        let len : length after ≡ length list = z.places ∙ sym st.places in
        subst (λ m. Standing of write before (l ++ all) (moved_by (length after) w m t') after) (samples-length d r b 0 r.count t)
        (rw len
        (stands-moved of write before l w list st all t' after g e
        (λ h. z.judging h ∙ sym (st.judging h))
        (λ h. z.writing h good ∙ rows-enough g (k ∙ rw h))
        len))
      where
        good : v.good ≡ true
        good =
            stood of write before (l ++ firsts) v after z
            ∙ more-in of.timescale l firsts (sym (stood of write before l w list st) ∙ g)
            (and_left _ (all_of (in_limits of.timescale) rest) (sym (all_both (in_limits of.timescale) firsts rest) ∙ (ap (λ x. all_of (in_limits of.timescale) x) (sym parts) ∙ e)))
