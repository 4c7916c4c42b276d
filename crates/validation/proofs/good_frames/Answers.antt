use Rattle.std.proofs.Common.{◌≡◌, sym, ap, ◌∙◌, true, false, arith, take, drop, Some, is_some}
use Rattle.std.proofs.lemmas.List.{length-take-le}
use Rattle.buffer_state.specs.Layout.{zero_frame}
use Rattle.buffer_state.specs.WellFormed.{all_of}
use Rattle.sorting.specs.Sorting.{occurrences}
use Rattle.numbers.specs.Numbers.{no_repeat, numbers_of}
use Rattle.validation.specs.Tests.{is_zero_time, is_zero_tag, rows_from}
use Rattle.numbers.proofs.NumberLaws.{numbers-take}
use Rattle.numbers.proofs.OnceLaws.{rising-once}
use Rattle.validation.proofs.FramesLaws.{frames-whole, rows-numbers}
use Rattle.validation.proofs.good_frames.Goals as goal
use Rattle.validation.proofs.good_frames.Goals.{Else-not-no_times, After-examine, In-Some}

-- what each part said
no-later-times : (c : Else-not-no_times) → let a = c.args in all_of is_zero_time (drop a.n a.times.now) ≡ true
no-later-times c = sym c.no_times.ensures ∙ c.if-not-no_times.false

no-later-tags : (c : After-examine) → let a = c.args in all_of is_zero_tag (drop a.n a.tags.now) ≡ true
no-later-tags c = sym c.no_tags.ensures ∙ c.if-not-no_tags.false

rows-good : (c : In-Some) → let a = c.args in
    rows_from a.tracks a.last a.group zero_frame (take a.n a.times.now) (take a.n a.tags.now) ≡ true
rows-good c = sym c.examine.ensures.good_value ∙ ap is_some c.in-Some.is

pub returns-then-not-no_times : goal.returns-then-not-no_times
returns-then-not-no_times c =
    let a = c.args in
    let e : all_of is_zero_time (drop a.n a.times.now) ≡ false = sym c.no_times.ensures ∙ c.if-not-no_times.true in
    sym (frames-whole a.n a.tracks a.last a.group a.times.now a.tags.now c.requires.1 c.requires.0 ∙ rw e)

pub returns-then-not-no_tags : goal.returns-then-not-no_tags
returns-then-not-no_tags c =
    let a = c.args in
    let e : all_of is_zero_tag (drop a.n a.tags.now) ≡ false = sym c.no_tags.ensures ∙ c.if-not-no_tags.true in
    sym (frames-whole a.n a.tracks a.last a.group a.times.now a.tags.now c.requires.1 c.requires.0 ∙ rw (no-later-times (goal.at.returns-then-not-no_tags c).Else-not-no_times, e))

pub returns-in-None : goal.returns-in-None
returns-in-None c =
    let a = c.args in
    let e : rows_from a.tracks a.last a.group zero_frame (take a.n a.times.now) (take a.n a.tags.now) ≡ false = sym c.examine.ensures.good_value ∙ ap is_some c.in-None.is in
    sym (frames-whole a.n a.tracks a.last a.group a.times.now a.tags.now c.requires.1 c.requires.0 ∙ rw (no-later-times (goal.at.returns-in-None c).Else-not-no_times, no-later-tags (goal.at.returns-in-None c).After-examine, e))

pub returns-then-rising : goal.returns-then-rising
returns-then-rising c =
    let a = c.args in
    let rises = c.examine.ensures.tags_value (c.in-Some.is ∙ ap Some c.if-rising.true) in
    let e : no_repeat (take a.n (numbers_of a.tags.now)) ≡ true = ap no_repeat (sym (numbers-take a.n a.tags.now)) ∙ rising-once 0 _ rises in
    c.if-rising.true
    ∙ sym (frames-whole a.n a.tracks a.last a.group a.times.now a.tags.now c.requires.1 c.requires.0 ∙ rw (no-later-times (goal.at.returns-then-rising c).Else-not-no_times, no-later-tags (goal.at.returns-then-rising c).After-examine, rows-good (goal.at.returns-then-rising c).In-Some, e))

pub distinct-requires : goal.distinct-requires
distinct-requires c =
    let a = c.args in
    let zeros = rows-numbers a.n a.tracks a.last a.group a.times.now a.tags.now c.requires.1 c.requires.0 (rows-good (goal.at.distinct-requires c).In-Some) in
    (omega (arith, c.requires.0, c.requires.1.1, length-take-le a.n a.tags.now), ap (occurrences 0) (numbers-take a.n a.tags.now) ∙ zeros)

pub returns-else-rising : goal.returns-else-rising
returns-else-rising c =
    let a = c.args in
    c.distinct.ensures ∙ ap no_repeat (numbers-take a.n a.tags.now)
    ∙ sym (frames-whole a.n a.tracks a.last a.group a.times.now a.tags.now c.requires.1 c.requires.0 ∙ rw (no-later-times (goal.at.returns-else-rising c).Else-not-no_times, no-later-tags (goal.at.returns-else-rising c).After-examine, rows-good (goal.at.returns-else-rising c).In-Some))
