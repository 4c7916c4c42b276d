use Rattle.std.proofs.Common.{◌≡◌, ap}
use Rattle.call_rows.specs.Replies.{lent, step_in, counted}
use Rattle.call_rows.specs.declared.Given.{Given}
use Rattle.call_rows.proofs.ReplyLaws.{mapped, walk-reply}
use Rattle.call_rows.proofs.walked_step.Goals as goal

pub returns : goal.returns
returns c =
    let a = c.args in
    let s = lent a.h a.times.now a.tags.now in
    rw (c.of.ensures, mapped Given.Count c.walked.result c.map.result c.map.ensures.cases, c.walked.ensures) (walk-reply s a.room a.track)
