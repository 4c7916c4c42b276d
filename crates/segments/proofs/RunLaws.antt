-- A walk along a run: what is done and what is left of its samples. Assumes nothing.
use mathlib.Core.Path.{◌≡◌, sym, ap, ◌∙◌, subst}
use mathlib.Core.Bool.{Bool, true}
use mathlib.Core.List.{List, [], ◌∷◌, ◌++◌, append_assoc, append-nil}
use Prim.Native.Nat.{ℕ, suc, ◌+◌, ◌-◌, ◌≤◌, ◌<◌}
use native.Mathlib.Omega.{arith}
use lib.IntN.{ℤ}
use Rattle.laws.proofs.BoolLaws.{split}
use Rattle.fragments.specs.Runs.{sample_at, samples_from}
use Rattle.fragments.specs.declared.Defaults.{Defaults}
use Rattle.fragments.specs.declared.Run.{Run}
use Rattle.media_times.specs.declared.Sample.{Sample}
use Rattle.segments.specs.Listings.{total}
use Rattle.segments.specs.Walks.{Known, Standing, IsTimed}
use Rattle.segments.specs.declared.SegmentTrack.{SegmentTrack}
use Rattle.segments.proofs.SampleLaws.{total-both}
use Rattle.segments.proofs.StandLaws.{stands-lost}

-- what is left opens at its first sample
pub samples-open : (d : Defaults) (r : Run) (b : List ℕ) (i n t : ℕ) → i < n
    → samples_from d r b i (n - i) t ≡ sample_at d r b i t ∷ samples_from d r b (i + 1) (n - (i + 1)) (t + (sample_at d r b i t).duration)
unfolding samples_from
samples-open d r b i n t h =
    let e : n - i ≡ suc (n - (i + 1)) = omega arith in
    let f : suc i ≡ i + 1 = omega arith in
    rw (e, f)

pub samples-none : (d : Defaults) (r : Run) (b : List ℕ) (i n t : ℕ) → n ≤ i → samples_from d r b i (n - i) t ≡ []
unfolding samples_from
samples-none d r b i n t h = let e : n - i ≡ 0 = omega arith in rw e

module _ (of : SegmentTrack) (d : Defaults) (r : Run) (b : List ℕ) (n : ℕ) (write : Bool) (w : Known) (lent : List (List ℤ)) where
  -- the samples that are to be walked
  abbrev all : List Sample
  all = samples_from d r b 0 n w.time

  -- A walk before sample i: it has done `done`, and if it still knows where it is, `left` is what follows from there.
  pub record Along (i : ℕ) (v : Known) (list : List (List ℤ)) : Type 0 where
    pub done : List Sample
    pub left : List Sample
    pub all_of : done ++ left ≡ all
    pub on : v.good ≡ true → left ≡ samples_from d r b i (n - i) v.time
    pub timed : v.good ≡ true → v.time ≡ w.time + total done
    pub stands : (before : List (List ℤ)) (l : List Sample) → Standing of write before l w lent → Standing of write before (l ++ done) v list

  module _ (i : ℕ) (v : Known) (list : List (List ℤ)) (a : Along i v list) where
    -- one more sample
    pub along-more : (v' : Known) (list' : List (List ℤ)) → i < n → v.good ≡ true
        → ((before : List (List ℤ)) (l : List Sample) → Standing of write before l v list → Standing of write before (l ++ (sample_at d r b i v.time ∷ [])) v' list')
        → IsTimed (v.time + (sample_at d r b i v.time).duration) v'
        → Along (i + 1) v' list'
    along-more v' list' h g st tm =
        let s = sample_at d r b i v.time in
        let rest = samples_from d r b (i + 1) (n - (i + 1)) (v.time + s.duration) in
        record {
          done = a.done ++ (s ∷ []);
          left = rest;
          all_of = append_assoc a.done (s ∷ []) rest ∙ (ap (λ x. a.done ++ x) (sym (a.on g ∙ samples-open d r b i n v.time h)) ∙ a.all_of);
          on = λ q. ap (samples_from d r b (i + 1) (n - (i + 1))) (sym (tm q));
          timed = λ q. tm q ∙ (let e = a.timed g in let f = total-both a.done (s ∷ []) in omega (arith, e, f));
          stands = λ before l z. rw (sym (append_assoc l a.done (s ∷ []))) (st before (l ++ a.done) (a.stands before l z));
        }

    -- at the end, or where it is lost, it stands after all of them
    pub along-all : (v.good ≡ true → n ≤ i) → (before : List (List ℤ)) (l : List Sample) → Standing of write before l w lent → Standing of write before (l ++ all) v list
    along-all end before l z =
        let st = a.stands before l z in
        split v.good
        (λ g. subst (λ x. Standing of write before (l ++ x) v list) (whole g) st)
        (λ g. subst (λ x. Standing of write before x v list) (append_assoc l a.done a.left ∙ ap (λ x. l ++ x) a.all_of) (stands-lost of write before (l ++ a.done) v list st a.left g))
      where
        whole : v.good ≡ true → a.done ≡ all
        whole g = sym (append-nil a.done) ∙ (ap (λ x. a.done ++ x) (sym (a.on g ∙ samples-none d r b i n v.time (end g))) ∙ a.all_of)

    pub along-timed : (v.good ≡ true → n ≤ i) → IsTimed (w.time + total all) v
    along-timed end g =
        let e = a.timed g in
        let f : total all ≡ total a.done =
        ap (λ x. total x) (sym (sym (append-nil a.done) ∙ (ap (λ x. a.done ++ x) (sym (a.on g ∙ samples-none d r b i n v.time (end g))) ∙ a.all_of))) in
        omega (arith, e, f)
