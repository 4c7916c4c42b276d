-- A table that knows a row of each track and group passed, as long as no two keys share an entry.
use mathlib.Core.Path.{◌≡◌, refl, sym, ap, ap₂, ◌∙◌}
use mathlib.Core.Bool.{true}
use mathlib.Core.List.{List, []}
use Prim.Native.Nat.{ℕ, ◌+◌, ◌≤◌, ◌<◌}
use native.Mathlib.Omega.{arith}
use lib.Dec.{eqb}
use lib.ListN.{length, get_or, set, replicate, length-set, get_or-replicate}
use lib.Seq.{get_or-set_same, get_or-set_other}
use borrow.Author.Tests.{eqb-true, eqb-false}
use Rattle.laws.proofs.BoolLaws.{split, and_left, and_right}
use Rattle.sorting.specs.Sorting.{most}
use Rattle.groups.specs.Groups.{track_in, group_in, Alike, IsSlotted, entries, entry_of, same_key}

entry-inside : (track group : ℕ) → entry_of track group < entries
entry-inside track group = omega arith

pub alike_from : (g h : List ℕ) → same_key g h ≡ true → Alike g h
alike_from g h e = (
  eqb-true (track_in g) (track_in h) (and_left (eqb (track_in g) (track_in h)) (eqb (group_in g) (group_in h)) e),
  eqb-true (group_in g) (group_in h) (and_right (eqb (track_in g) (track_in h)) (eqb (group_in g) (group_in h)) e),
)

module _ (gs : List (List ℕ)) (first n : ℕ) where
  abbrev pub row : ℕ → List ℕ
  row j = get_or gs j []

  abbrev pub entry_at : ℕ → ℕ
  entry_at j = entry_of (track_in (row j)) (group_in (row j))

  -- An entry holds one more than the place that it names, and zero where it names none.
  pub record IsTabled (ss seen : List ℕ) (i : ℕ) : Type 0 where
    pub begun : first ≤ i
    pub inside : i ≤ n
    pub long : length ss ≡ most
    pub full : length seen ≡ entries
    pub below : (x : ℕ) → x < entries → get_or seen x 0 ≤ i
    pub named : (j : ℕ) → first ≤ j → j < i → get_or seen (entry_at j) 0 ≡ get_or ss j 0 + 1
    pub like : (j : ℕ) → first ≤ j → j < i → Alike (row (get_or ss j 0)) (row j)

  pub tabled-none : first ≤ n → (ss : List ℕ) → length ss ≡ most → IsTabled ss (replicate entries 0) first
  tabled-none h ss e = record {
    begun = omega arith;
    inside = h;
    long = e;
    full = refl;
    below = λ x b. omega (arith, get_or-replicate {A = ℕ} entries x 0 0 b);
    named = λ j a b. absurd (omega arith);
    like = λ j a b. absurd (omega arith);
  }

  module _ (ss seen : List ℕ) (i : ℕ) (w : IsTabled ss seen i) (h : i < n) (few : n ≤ most) where
    -- the next row has the place p, which its entry then names
    grown : (p : ℕ) (seen' : List ℕ) → length seen' ≡ entries → Alike (row p) (row i) → get_or seen' (entry_at i) 0 ≡ p + 1
        → ((j : ℕ) → first ≤ j → j < i → get_or seen' (entry_at j) 0 ≡ get_or seen (entry_at j) 0) → ((x : ℕ) → x < entries → get_or seen' x 0 ≤ i + 1)
        → IsTabled (set ss i p) seen' (i + 1)
    grown p seen' full like r same below = record {
      begun = omega (arith, w.begun);
      inside = omega arith;
      long = length-set ss i p ∙ w.long;
      full = full;
      below = below;
      named = λ j a b. split (eqb j i)
          (λ e. rw (eqb-true j i e, here) r)
          (λ e. let c : j < i = omega (arith, eqb-false j i e) in rw (there j c) (same j a c ∙ w.named j a c));
      like = λ j a b. split (eqb j i)
          (λ e. rw (eqb-true j i e, here) like)
          (λ e. let c : j < i = omega (arith, eqb-false j i e) in rw (there j c) (w.like j a c));
    }
      where
        here : get_or (set ss i p) i 0 ≡ p
        here = get_or-set_same ss i p 0 (omega (arith, w.long))

        there : (j : ℕ) → j < i → get_or (set ss i p) j 0 ≡ get_or ss j 0
        there j c = get_or-set_other ss i j p 0 (λ x. omega arith)

    -- the first of its key
    pub tabled-new : get_or seen (entry_at i) 0 ≡ 0 → IsTabled (set ss i i) (set seen (entry_at i) (i + 1)) (i + 1)
    tabled-new free =
        grown i (set seen x (i + 1)) (length-set seen x (i + 1) ∙ w.full) (refl, refl) written
        (λ j a c. get_or-set_other seen x (entry_at j) (i + 1) 0 (λ e.
        let z : get_or seen (entry_at j) 0 ≡ 0 = ap (λ (m : ℕ). get_or seen m 0) e ∙ free in omega (arith, w.named j a c)))
        (λ y b. split (eqb y x)
        (λ e. rw (eqb-true y x e, written) (omega arith))
        (λ e. rw (get_or-set_other seen x y (i + 1) 0 (eqb-false y x e)) (omega (arith, w.below y b))))
      where
        x : ℕ
        x = entry_at i

        written : get_or (set seen x (i + 1)) x 0 ≡ i + 1
        written = get_or-set_same seen x (i + 1) 0 (omega (arith, w.full, entry-inside (track_in (row i)) (group_in (row i))))

    -- like an earlier one
    pub tabled-old : (p : ℕ) → get_or seen (entry_at i) 0 ≡ p + 1 → Alike (row p) (row i) → IsTabled (set ss i p) seen (i + 1)
    tabled-old p e like = grown p seen w.full like e (λ j a c. refl) (λ x b. omega (arith, w.below x b))

  pub tabled-all : (ss seen : List ℕ) (i : ℕ) → IsTabled ss seen i → n ≤ i → n ≤ most → IsSlotted gs first n ss
  tabled-all ss seen i w h few =
      let up : (j : ℕ) → j < n → j < i = λ j a. omega arith in
      record {
        small = λ j a b. omega (arith, w.named j a (up j b), w.below (entry_at j) (entry-inside (track_in (row j)) (group_in (row j))), w.inside);
        apart = λ j k a b c d e.
            let x = w.like j a (up j b) in
            let y = w.like k c (up k d) in
            (sym x.0 ∙ ap (λ (m : ℕ). track_in (row m)) e ∙ y.0, sym x.1 ∙ ap (λ (m : ℕ). group_in (row m)) e ∙ y.1);
        alike = λ j k a b c d like.
            let e : get_or seen (entry_at j) 0 ≡ get_or seen (entry_at k) 0 = ap₂ (λ (t g : ℕ). get_or seen (entry_of t g) 0) like.0 like.1 in
            omega (arith, w.named j a (up j b), w.named k c (up k d));
      }
