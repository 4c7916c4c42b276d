use Rattle.call_rows.proofs.ReplyLaws.{append-lined, remove-lined}
use Rattle.call_rows.specs.Replies.{lent}
use Rattle.call_rows.proofs.lines_call.Goals as goal

pub returns-then-row-eq-APPEND : goal.returns-then-row-eq-APPEND
returns-then-row-eq-APPEND c =
    let a = c.args in
    let r = c.append in
    append-lined (lent a.h.now a.times.now a.tags.now) a.row a.stamps a.seconds a.fates.now r.result r.new.h r.new.times r.new.tags r.new.fates
    c.offered_of.result c.if-row-eq-APPEND.true c.offered_of.ensures (r.ensures.answer, (r.ensures.head, (r.ensures.times, (r.ensures.tags, r.ensures.lines))))

pub returns : goal.returns
returns c =
    let a = c.args in
    let r = c.remove in
    remove-lined (lent a.h.now a.times.now a.tags.now) a.row a.stamps a.seconds a.fates.now r.result r.new.h r.new.times r.new.tags r.new.fates
    c.if-row-eq-APPEND.false (r.ensures.answer, (r.ensures.head, (r.ensures.times, (r.ensures.tags, r.ensures.lines))))
