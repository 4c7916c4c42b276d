use Rattle.std.proofs.Common.{◌≡◌, sym, ◌∙◌, true, arith, length, rules}
use Rattle.buffer_state.specs.declared.Refusal.TheVariants.{ShortList}
use Rattle.buffer_state.specs.Answers.{common_ranges_result}
use Rattle.buffer_state.specs.Lent.{well_formed_at}
use Rattle.buffer_state.specs.Ranges.{common_ranges}
use Rattle.validation.proofs.CheckLaws.{passed, refused_by, handed_on}
use Rattle.ranges.proofs.StoresLaws.{well_formed-stores, well_formed-tracks}
use Rattle.ranges.proofs.CallLaws.{refused-reported, done-reported, common-short, common-reported}
use Rattle.ranges.proofs.common_ranges.Goals as goal
use Rattle.ranges.proofs.common_ranges.Goals.{In_ok-check}

well : (e : In_ok-check) → let a = e.args in well_formed_at a.h a.times.now a.tags.now ≡ true
well e = passed _ (sym e.check.ensures ∙ e.in_ok-check.was)

pub returns-in_err-check : goal.returns-in_err-check
unfolding common_ranges_result
returns-in_err-check c =
    let a = c.args in
    rw (handed_on _ c.from_residual.ensures.1)
    (refused-reported c.in_err-check.field-0.0 a.list.now
    (refused_by (common_ranges (length a.list.now)) a.h a.times.now a.tags.now (sym c.check.ensures ∙ c.in_err-check.was)))

pub overflow_cast-h : goal.overflow_cast-h
overflow_cast-h c =
    let a = c.args in
    let few = (well_formed-tracks a.h a.times.now a.tags.now (well (goal.at.overflow_cast-h c).In_ok-check)).1 in
    record { fits = omega (arith, few) }

pub common_bars-all-requires : goal.common_bars-all-requires
common_bars-all-requires c =
    let a = c.args in
    let tracks = well_formed-tracks a.h a.times.now a.tags.now (well (goal.at.common_bars-all-requires c).In_ok-check) in
    (well_formed-stores a.h a.times.now a.tags.now (well (goal.at.common_bars-all-requires c).In_ok-check), tracks.0, tracks.1, search rules)

pub returns-then-list-all : goal.returns-then-list-all
returns-then-list-all c =
    let a = c.args in
    refused-reported ShortList a.list.now
    (common-short (length a.list.now) a.h a.times.now a.tags.now (well (goal.at.returns-then-list-all c).In_ok-check) (c.common_bars-all.ensures.over c.if-list-all.true))

pub returns : goal.returns
returns c =
    let a = c.args in
    let shows = c.common_bars-all.ensures.shows c.if-list-all.false in
    done-reported _ a.list.now
    (common-reported (length a.list.now) a.h a.times.now a.tags.now (well (goal.at.returns c).In_ok-check) (rw shows.count at c.if-list-all.false)) shows c.copy_rows.ensures
