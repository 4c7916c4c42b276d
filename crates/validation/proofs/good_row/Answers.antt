use Rattle.std.proofs.Common.{◌≡◌, sym, ap, ◌∙◌, true, false, ◌&&◌}
use Rattle.buffer_state.specs.WellFormed.{good_frame}
use Rattle.buffer_state.specs.Lent.{plain_time, plain_tag}
use Rattle.validation.specs.Tests.{good_row}
use Rattle.validation.proofs.good_row.Goals as goal

pub returns-then-not-plain_rows : goal.returns-then-not-plain_rows
unfolding good_row
returns-then-not-plain_rows c =
    let a = c.args in
    let e : (plain_time a.time && plain_tag a.tag) ≡ false = sym c.plain_rows.ensures ∙ c.if-not-plain_rows.true in
    rw e

pub returns : goal.returns
unfolding good_row
returns c =
    let a = c.args in
    let e : (plain_time a.time && plain_tag a.tag) ≡ true = sym c.plain_rows.ensures ∙ c.if-not-plain_rows.false in
    rw e (c.good_frame.ensures ∙ ap (good_frame a.tracks a.last a.group) c.frame_of.ensures)
