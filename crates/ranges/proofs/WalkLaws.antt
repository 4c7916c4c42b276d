-- The two loops of a walk: the rows written, with a walk over the stretches that are left, are the walk over all; what is left is in order
-- exactly where all are; and the stretches taken, with those that a walk takes of what is left, are those that it takes of all.
use mathlib.Core.Path.{◌≡◌, refl, sym, ap, ◌∙◌}
use mathlib.Core.Bool.{Bool, true, false}
use mathlib.Core.List.{List, [], ◌∷◌, ◌++◌, append-nil}
use Prim.Native.Nat.{ℕ, suc, ◌+◌, ◌-◌, ◌≤◌, ◌<◌}
use native.Mathlib.Omega.{arith}
use lib.IntN.{ℤ}
use lib.ListN.{length, take, drop, set, length-set, length-map, length-append, drop_of_length-le}
use lib.Seq.{length-take-le}
use lib.Signed.{lt_z, ◌<ℤ◌, ◌≤ℤ◌}
use mir.Syntax.{w64}
use mir.ValLaws.{to_z-of_z}
use mir.Val.{SFits, of_z, to_z}
use Rattle.laws.proofs.WordLaws.{told₂}
use Rattle.laws.proofs.BoolLaws.{by-test}
use Rattle.laws.proofs.IntLaws.{test-lt, lt_test, le_test, test-ge, ge-test, gt-test, lt-le, le_refl, weaken}
use Rattle.buffer_state.specs.Answers.{laid_ranges}
use Rattle.buffer_state.specs.Limits.{places}
use Rattle.buffer_state.specs.Ranges.{Range, greater_of}
use Rattle.buffer_state.specs.Walked.{taken_from, taken_of}
use Rattle.buffer_laws.proofs.RisingLaws.{greater-left}
use Rattle.ranges.specs.Bars.{row_of, Shows}
use Rattle.ranges.specs.Sweep.{some, grown, swept_from, swept_ranges, in_order, all_in_order, starts_from, starts_rise}
use Rattle.ranges.specs.Walks.{IsNext, Told}
use Rattle.ranges.proofs.BarLaws.{more, shows}
use Rattle.ranges.proofs.SweepLaws.{starts-in_order, swept-opens, swept-extends, order-opens, order-extends}
use Rattle.ranges.proofs.TakenLaws.{taken-opens, taken-extends}

some-swept : (r : Range) (qs : List Range) → 1 ≤ length (swept_from r qs)
unfolding swept_from
some-swept r [] = omega arith
some-swept r (q ∷ qs) = by-test (λ l. 1 ≤ length l) (lt_z r.end q.start) {x = r ∷ swept_from q qs} (λ _. omega arith) (λ _. some-swept (grown r q) qs)

-- a test of two signed numbers, as they are handed on
pub tested : (y z : ℤ) → SFits w64 y → SFits w64 z → {t : Bool} → lt_z (to_z w64 (of_z w64 y)) (to_z w64 (of_z w64 z)) ≡ t → lt_z y z ≡ t
tested y z f g e = sym (told₂ y z f g lt_z (sym e))

pub same_number : (y z : ℤ) → SFits w64 y → SFits w64 z → of_z w64 y ≡ of_z w64 z → y ≡ z
same_number y z f g e = sym (to_z-of_z w64 y f) ∙ ap (to_z w64) e ∙ to_z-of_z w64 z g

module _ (room : ℕ) (all : List Range) where
  -- between two ranges, k of them written and i stretches taken
  pub record Between (spans : List (List ℤ)) (k i : ℕ) : Type 0 where
    pub size : length spans ≡ places
    pub rows : take k spans ++ laid_ranges (swept_ranges (drop i all)) ≡ laid_ranges (swept_ranges all)
    pub order : all_in_order (drop i all) ≡ all_in_order all
    pub taken : i + taken_of (room - k) (drop i all) ≡ taken_of room all

  -- inside a range
  pub record Inside (spans : List (List ℤ)) (r : Range) (k i : ℕ) : Type 0 where
    pub size : length spans ≡ places
    pub rows : take k spans ++ laid_ranges (swept_from r (drop i all)) ≡ laid_ranges (swept_ranges all)
    pub order : in_order r (drop i all) ≡ all_in_order all
    pub taken : i + taken_from r.end (room - (k + 1)) (drop i all) ≡ taken_of room all
    pub lasting : some r ≡ true

  pub begins : (spans : List (List ℤ)) → length spans ≡ places → Between spans 0 0
  begins spans size =
      let e : room - 0 ≡ room = omega arith in
      record { size = size; rows = refl; order = refl; taken = rw e (omega arith) }

  -- a stretch opens a range
  module _ {spans : List (List ℤ)} {k i : ℕ} (inv : Between spans k i) {q : Range} (n : IsNext all i q) where
    pub opens : k < room → Inside spans q k (i + 1)
    unfolding swept_ranges taken_of
    opens h =
        let left = n.next in
        let e : room - k ≡ suc (room - (k + 1)) = omega arith in
        let taken : i + taken_of (suc (room - (k + 1))) (q ∷ drop (i + 1) all) ≡ taken_of room all = rw (e, left) at inv.taken in
        record {
          size = inv.size;
          rows = rw left at inv.rows;
          order = rw left at inv.order;
          taken = omega (arith, taken);
          lasting = n.lasting;
        }

  module _ {spans : List (List ℤ)} {r : Range} {k i : ℕ} (inv : Inside spans r k i) where
    module _ {q : Range} (n : IsNext all i q) where
      abbrev rest : List Range
      rest = drop (i + 1) all

      -- one that starts at or before the end of the range extends it
      module _ (t : lt_z r.end q.start ≡ false) where
        pub extends : (x : Range) → x ≡ grown r q → lt_z q.start r.start ≡ false → Inside spans x k (i + 1)
        extends x g s =
            let left = n.next in
            let m = room - (k + 1) in
            let swept-left : swept_from r (drop i all) ≡ swept_from (grown r q) rest = ap (swept_from r) left ∙ swept-extends r q rest t in
            let taken : taken_from r.end m (drop i all) ≡ suc (taken_from (greater_of r.end q.end) m rest) =
            ap (taken_from r.end m) left ∙ taken-extends r.end q rest t m in
            let far : r.start <ℤ greater_of r.end q.end = lt-le (test-lt inv.lasting) (greater-left r.end q.end) in
            rw g (record {
              size = inv.size;
              rows = ap (λ (l : List Range). take k spans ++ laid_ranges l) (sym swept-left) ∙ inv.rows;
              order = sym (ap (in_order r) left ∙ order-extends r q rest t ∙ rw (le_test (test-ge s))) ∙ inv.order;
              taken = omega (arith, taken, inv.taken);
              lasting = lt_test far;
            })

        -- at one that starts before it, they are out of order
        pub disorder : lt_z q.start r.start ≡ true → all_in_order all ≡ false
        disorder s = sym inv.order ∙ ap (in_order r) n.next ∙ order-extends r q rest t ∙ rw (gt-test (test-lt s))

      -- one that starts where the range ends makes it end where the stretch does
      pub touches : (x : Range) → x.start ≡ r.start → x.end ≡ q.end → r.end ≡ q.start → Inside spans x k (i + 1)
      touches x a b same =
          let later : lt_z r.end q.end ≡ true = rw same n.lasting in
          let e : q.end ≡ greater_of r.end q.end = rw later in
          let from : r.start <ℤ q.start = rw (← same) (test-lt inv.lasting) in
          let back : q.start ≤ℤ r.end = rw same (le_refl q.start) in
          extends (ge-test back) x (λ j. record { start = a j; end = (b ∙ e) j }) (ge-test (weaken from))

      -- one that starts later ends it
      module _ (t : lt_z r.end q.start ≡ true) where
        left-rows : take k spans ++ (row_of r ∷ laid_ranges (swept_ranges (drop i all))) ≡ laid_ranges (swept_ranges all)
        unfolding swept_ranges
        left-rows =
            let left = n.next in
            let e : swept_from r (drop i all) ≡ r ∷ swept_ranges (drop i all) = ap (swept_from r) left ∙ swept-opens r q rest t ∙ ap (λ (l : List Range). r ∷ swept_ranges l) (sym left) in
            ap (λ (l : List Range). take k spans ++ laid_ranges l) (sym e) ∙ inv.rows

        left-order : all_in_order (drop i all) ≡ all_in_order all
        left-order = let left = n.next in ap all_in_order left ∙ sym (ap (in_order r) left ∙ order-opens r q rest t) ∙ inv.order

        left-taken : i + taken_of (room - (k + 1)) (drop i all) ≡ taken_of room all
        left-taken =
            let left = n.next in
            ap (λ (l : List Range). i + taken_of (room - (k + 1)) l) left
            ∙ ap (λ (m : ℕ). i + m) (sym (ap (taken_from r.end (room - (k + 1))) left ∙ taken-opens r.end q rest t (room - (k + 1)))) ∙ inv.taken

        pub leaves : (after : List (List ℤ)) → after ≡ set spans k (row_of r) → k < places → Between after (k + 1) i
        leaves after w few = record {
          size = ap length w ∙ length-set spans k (row_of r) ∙ inv.size;
          rows = rw w (more spans k (row_of r) (laid_ranges (swept_ranges (drop i all))) (omega (arith, inv.size)) ∙ left-rows);
          order = left-order;
          taken = left-taken;
        }

        -- and where there is no room for another, it is the first of one too many
        module _ (full : k + 1 ≡ room) where
          pub too-many-taken : i + 1 ≡ taken_of room all
          unfolding taken_of
          too-many-taken =
              let left = n.next in
              let e : room - (k + 1) ≡ 0 = omega arith in
              rw (e, left) at left-taken

          pub too_many : k < places → room < length (swept_ranges all)
          unfolding swept_ranges
          too_many few =
              let rows : take k spans ++ (row_of r ∷ laid_ranges (swept_from q rest)) ≡ laid_ranges (swept_ranges all) = rw n.next at left-rows in
              let size : length (take k spans ++ (row_of r ∷ laid_ranges (swept_from q rest))) ≡ length (swept_ranges all) = ap length rows ∙ length-map (swept_ranges all) _ in
              omega (
                arith,
                full,
                size,
                length-append (take k spans) (row_of r ∷ laid_ranges (swept_from q rest)),
                length-take-le k spans (omega (arith, few, inv.size)),
                length-map (swept_from q rest) (λ (r : Range). row_of r),
                some-swept q rest,
              )

          pub too-many-order : starts_rise (drop i all) ≡ true → all_in_order all ≡ true
          too-many-order s = sym left-order ∙ ap all_in_order n.next ∙ starts-in_order q rest (sym (ap starts_rise n.next) ∙ s)

    -- no stretch is left
    module _ (none : drop i all ≡ []) where
      pub ends-shown : (after : List (List ℤ)) → after ≡ set spans k (row_of r) → k < places → Shows after (k + 1) (swept_ranges all)
      unfolding swept_from
      ends-shown after w few =
          let full : k < length spans = omega (arith, inv.size) in
          let size : length after ≡ places = ap length w ∙ length-set spans k (row_of r) ∙ inv.size in
          let rows : take (k + 1) after ≡ laid_ranges (swept_ranges all) =
          sym (append-nil (take (k + 1) after)) ∙ (rw w (more spans k (row_of r) [] full))
          ∙ ap (λ (l : List Range). take k spans ++ laid_ranges (swept_from r l)) (sym none) ∙ inv.rows in
          shows after (k + 1) (swept_ranges all) rows (omega (arith, size)) (omega arith)

      pub ends-order : all_in_order all ≡ true
      unfolding in_order
      ends-order = sym inv.order ∙ ap (in_order r) none

      pub ends-taken : i ≡ taken_of room all
      unfolding taken_from
      ends-taken = let t : i + 0 ≡ taken_of room all = rw none at inv.taken in omega (arith, t)

-- ---- what the walk tells where it ends

module _ (room : ℕ) (all : List Range) (spans : List (List ℤ)) where
  pub tells_none : length all ≡ 0 → Told room all spans (record { taken = 0; ranges = 0 })
  unfolding taken_of swept_ranges
  tells_none e = go all e
    where
      go : (l : List Range) → length l ≡ 0 → Told room l spans (record { taken = 0; ranges = 0 })
      go [] e = record {
        taken = refl;
        shows = λ h. (record { rows = refl; count = refl; few = omega arith }, refl);
        early = λ h. absurd (omega arith);
      }
      go (q ∷ qs) e = absurd (omega arith)

  pub tells-no-room : room ≡ 0 → 0 < length all → Told room all spans (record { taken = 1; ranges = 1 })
  unfolding taken_of swept_ranges
  tells-no-room none some = rw none (go all some)
    where
      go : (l : List Range) → 0 < length l → Told 0 l spans (record { taken = 1; ranges = 1 })
      go [] h = absurd (omega arith)
      go (q ∷ qs) h = record {
        taken = refl;
        shows = λ l. absurd (omega arith);
        early = λ l. record { more = some-swept q qs; some = omega arith; few = omega arith; order = λ s. starts-in_order q qs s };
      }

module _ (room : ℕ) (all : List Range) {spans : List (List ℤ)} {r : Range} {k i : ℕ} (inv : Inside room all spans r k i) where
  -- at the last stretch
  pub tells_all : (n : ℕ) → n ≡ i → drop i all ≡ [] → (after : List (List ℤ)) → after ≡ set spans k (row_of r) → k < places → k < room
      → Told room all after (record { taken = n; ranges = k + 1 })
  tells_all n e none after w few fits = record {
    taken = e ∙ ends-taken room all inv none;
    shows = λ h. (ends-shown room all inv none after w few, ends-order room all inv none);
    early = λ h. absurd (omega arith);
  }

  -- at the first of a range too many
  pub tells-early : {q : Range} (n : IsNext all i q) (t : lt_z r.end q.start ≡ true) → k + 1 ≡ room → k < places → i < length all → (after : List (List ℤ))
      → Told room all after (record { taken = i + 1; ranges = k + 1 + 1 })
  tells-early n t full few h after =
      let back : i + 1 - 1 ≡ i = omega arith in
      record {
        taken = too-many-taken room all inv n t full;
        shows = λ l. absurd (omega arith);
        early = λ l. record {
          more = too_many room all inv n t full few;
          some = omega arith;
          few = omega arith;
          order = λ s. too-many-order room all inv n t full (rw back at s);
        };
      }

-- ---- the loop that tests whether stretches rise

module _ {all : List Range} {i : ℕ} {q : Range} (n : IsNext all i q) where
  pub rise_begins : starts_from q (drop (i + 1) all) ≡ starts_rise (drop i all)
  rise_begins = sym (ap starts_rise n.next)

  module _ (r : Range) where
    pub rise-breaks : lt_z q.start r.start ≡ true → starts_from r (drop i all) ≡ false
    unfolding starts_from
    rise-breaks t = ap (starts_from r) n.next ∙ rw (gt-test (test-lt t))

    pub rise-goes-on : lt_z q.start r.start ≡ false → starts_from r (drop i all) ≡ starts_from q (drop (i + 1) all)
    unfolding starts_from
    rise-goes-on t = ap (starts_from r) n.next ∙ rw (le_test (test-ge t))

pub rise-ends : (r : Range) (all : List Range) (i : ℕ) → length all ≤ i → starts_from r (drop i all) ≡ true
unfolding starts_from
rise-ends r all i h = ap (starts_from r) (drop_of_length-le all {i = i} h)
