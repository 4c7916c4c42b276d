use Rattle.std.proofs.Common.{◌≡◌, sym, ap, ◌∙◌, Bool, true, false, ◌&&◌, [], ◌+◌, ◌-◌, ◌≤◌, ◌<◌, Option, arith, ltb, take, drop, get_or}
use Rattle.std.specs.Option.{unwrap_or}
use Rattle.laws.proofs.BoolLaws.{and_both}
use Rattle.buffer_state.specs.Layout.{zero_frame}
use Rattle.sorting.specs.Sorting.{following}
use Rattle.buffer_state.specs.Lent.{frame_of}
use Rattle.numbers.specs.Numbers.{number_in, numbers_of}
use Rattle.validation.specs.Tests.{good_row}
use Rattle.validation.proofs.ExamineLaws.{fail-row, fail-order, rows_pass, rows_end, numbers-next, numbers-end, first-before, first-number}
use Rattle.validation.proofs.examine.Goals as goal
use Rattle.validation.proofs.examine.Goals.{Else-n-eq0}

some : (c : Else-n-eq0) → 0 < c.args.n
some c = omega (arith, c.if-n-eq0.false)

pub returns-then-n-eq0 : goal.returns-then-n-eq0
returns-then-n-eq0 c =
    let a = c.args in
    let h : a.n ≤ 0 = omega (arith, c.if-n-eq0.true) in
    record { good_value = sym (rows_end a.tracks a.last a.group a.times.now a.tags.now a.n c.requires.0 c.requires.1 0 zero_frame h); tags_value = λ q. numbers-end a.tracks a.last a.group a.times.now a.tags.now a.n c.requires.0 c.requires.1 0 zero_frame 0 h }

pub returns-then-not-good_row-clause-good_value : goal.returns-then-not-good_row-clause-good_value
returns-then-not-good_row-clause-good_value c =
    let a = c.args in
    sym (fail-row a.tracks a.last a.group a.times.now a.tags.now a.n c.requires.0 c.requires.1 0 zero_frame (some (goal.at.returns-then-not-good_row-clause-good_value c).Else-n-eq0) (sym c.good_row.ensures ∙ c.if-not-good_row.true))

pub loop-i-init : goal.loop-i-init
loop-i-init c =
    let a = c.args in
    let h = some (goal.at.loop-i-init c).Else-n-eq0 in
    let t = get_or a.times.now 0 [] in
    let m = get_or a.tags.now 0 [] in
    let e : good_row a.tracks a.last a.group t m ≡ true = sym c.good_row.ensures ∙ c.if-not-good_row.false in
    let rest : Bool = following ltb (number_in m) (numbers_of (drop 1 (take a.n a.tags.now))) in (
      sym (rows_pass a.tracks a.last a.group a.times.now a.tags.now a.n c.requires.0 c.requires.1 0 zero_frame h e (first-before a.tracks a.last a.group t m e)),
      ap (λ (b : Bool). (true && b) && rest) (sym (first-number a.tracks a.last a.group t m e)) ∙ numbers-next a.tracks a.last a.group a.times.now a.tags.now a.n c.requires.0 c.requires.1 0 zero_frame true h,
    )

pub returns-then-not-good_row-2-clause-good_value : goal.returns-then-not-good_row-2-clause-good_value
returns-then-not-good_row-2-clause-good_value c =
    let a = c.args in
    let i = c.loop-i.i in
    sym (fail-row a.tracks a.last a.group a.times.now a.tags.now a.n c.requires.0 c.requires.1 i (frame_of (get_or a.times.now (i - 1) []) (get_or a.tags.now (i - 1) [])) c.loop-i-test.true (sym c.good_row-in-loop-i.ensures ∙ c.if-not-good_row-2.true)) ∙ c.loop-i.invariant.0

pub returns-then-not-row_before-clause-good_value : goal.returns-then-not-row_before-clause-good_value
returns-then-not-row_before-clause-good_value c =
    let a = c.args in
    let i = c.loop-i.i in
    sym (fail-order a.tracks a.last a.group a.times.now a.tags.now a.n c.requires.0 c.requires.1 i (frame_of (get_or a.times.now (i - 1) []) (get_or a.tags.now (i - 1) [])) c.loop-i-test.true (sym c.row_before.ensures ∙ c.if-not-row_before.true)) ∙ c.loop-i.invariant.0

pub loop-i-preserved : goal.loop-i-preserved
loop-i-preserved c =
    let a = c.args in
    let i = c.loop-i.i in
    let e : i + 1 - 1 ≡ i = omega arith in (
      rw e (sym (rows_pass a.tracks a.last a.group a.times.now a.tags.now a.n c.requires.0 c.requires.1 i (frame_of (get_or a.times.now (i - 1) []) (get_or a.tags.now (i - 1) [])) c.loop-i-test.true (sym c.good_row-in-loop-i.ensures ∙ c.if-not-good_row-2.false) (sym c.row_before.ensures ∙ c.if-not-row_before.false)) ∙ c.loop-i.invariant.0),
      rw (e, c.number_of.ensures, c.number_of-in-loop-i.ensures) (numbers-next a.tracks a.last a.group a.times.now a.tags.now a.n c.requires.0 c.requires.1 i (frame_of (get_or a.times.now (i - 1) []) (get_or a.tags.now (i - 1) [])) c.loop-i.rising c.loop-i-test.true ∙ c.loop-i.invariant.1),
    )

pub returns : goal.returns
returns c =
    let a = c.args in
    let i = c.loop-i.i in
    let before = frame_of (get_or a.times.now (i - 1) []) (get_or a.tags.now (i - 1) []) in record {
      good_value = sym (rows_end a.tracks a.last a.group a.times.now a.tags.now a.n c.requires.0 c.requires.1 i before c.loop-i-test.false) ∙ c.loop-i.invariant.0;
      tags_value = λ q.
          let rising : c.loop-i.rising ≡ true = ap (λ (o : Option Bool). unwrap_or o false) q in
          sym c.loop-i.invariant.1 ∙ and_both rising (numbers-end a.tracks a.last a.group a.times.now a.tags.now a.n c.requires.0 c.requires.1 i before (number_in (get_or a.tags.now (i - 1) [])) c.loop-i-test.false);
    }
