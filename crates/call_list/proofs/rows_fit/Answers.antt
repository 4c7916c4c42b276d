use Rattle.std.proofs.Common.{◌≡◌, sym, ◌∙◌, ◌-◌, [], add-one, get_or}
use Rattle.call_list.specs.Listed.{offers_of_row}
use Rattle.call_list.proofs.ClaimLaws.{rows_step}
use Rattle.call_list.proofs.rows_fit.Goals as goal

pub loop-row-preserved : goal.loop-row-preserved
loop-row-preserved c =
    let a = c.args in
    let i = c.loop-row.row-index in
    let left : c.saturating_sub-room.result ≡ c.loop-row.room - offers_of_row (get_or a.calls.now i []) = rw c.offers_of_row.ensures at c.saturating_sub-room.ensures in
    rw (add-one, left) (sym (rows_step a.frames c.loop-row.room a.calls.now i c.loop-row-test.true (sym c.row_fits.ensures ∙ c.if-not-row_fits.false)) ∙ c.loop-row.invariant)
