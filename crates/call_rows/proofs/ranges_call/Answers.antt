use Rattle.call_rows.proofs.ReplyLaws.{track-spanned, common-spanned}
use Rattle.call_rows.specs.Replies.{lent}
use Rattle.call_rows.proofs.ranges_call.Goals as goal

pub returns-then-row-eq-TRACK_RANGES : goal.returns-then-row-eq-TRACK_RANGES
returns-then-row-eq-TRACK_RANGES c =
    let a = c.args in
    let r = c.track_ranges in
    track-spanned (lent a.h a.times.now a.tags.now) a.row a.list.now r.new.list r.result c.if-row-eq-TRACK_RANGES.true r.ensures.answer r.ensures.list

pub returns : goal.returns
returns c =
    let a = c.args in
    let r = c.common_ranges in
    common-spanned (lent a.h a.times.now a.tags.now) a.row a.list.now r.new.list r.result c.if-row-eq-TRACK_RANGES.false r.ensures.answer r.ensures.list
