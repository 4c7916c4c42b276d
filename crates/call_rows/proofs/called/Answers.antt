use Rattle.std.proofs.Common.{◌≡◌, ap, ◌∙◌, ℤ, get_or, pos, arith, rules, w64, SFits}
use mir.ValLaws.{to_z-of_z}
use Rattle.buffer_state.specs.Answers.{seek_result}
use Rattle.call_rows.specs.Replies.{lent, given}
use Rattle.call_rows.specs.declared.Given.{Given}
use Rattle.call_rows.proofs.ReplyLaws.{mapped, made-lines, made-setting, made-reading, made-ranges, made-batch, made-walk, made-seek}
use Rattle.call_rows.proofs.called.Goals as goal

pub returns-in-0 : goal.returns-in-0
returns-in-0 c =
    let a = c.args in
    let q = mapped Given.Count c.lines_call.result c.map-in-0.result c.map-in-0.ensures.cases in
    rw q (made-lines (lent a.h.now a.times.now a.tags.now) a.row a.stamps a.seconds a.frames.now a.fates.now c.lines_call.new.fates a.list.now a.list.now
    _ c.lines_call.new.times c.lines_call.new.tags (omega (arith, c.in-0)) c.lines_call.ensures)

pub returns-in-2-to-6 : goal.returns-in-2-to-6
returns-in-2-to-6 c =
    let a = c.args in
    rw c.and.ensures (made-setting (lent a.h.now a.times.now a.tags.now) a.row a.stamps a.seconds a.frames.now a.fates.now a.fates.now a.list.now a.list.now
    _ (omega (arith, c.in-2-to-6)) (omega (arith, c.in-2-to-6)) c.setting_call.ensures)

pub returns-in-7 : goal.returns-in-7
returns-in-7 c =
    let a = c.args in
    made-reading (lent a.h.now a.times.now a.tags.now) a.row a.stamps a.seconds a.frames.now a.fates.now a.fates.now a.list.now a.list.now
    c.map.result (omega (arith, c.in-7)) (mapped Given.Settings c.read_settings.result c.map.result c.map.ensures.cases ∙ ap (given Given.Settings) c.read_settings.ensures)

pub returns-in-8 : goal.returns-in-8
returns-in-8 c =
    let a = c.args in
    let q = mapped Given.Count c.ranges_call.result c.map-in-8.result c.map-in-8.ensures.cases in
    rw q (made-ranges (lent a.h.now a.times.now a.tags.now) a.row a.stamps a.seconds a.frames.now a.fates.now a.fates.now a.list.now c.ranges_call.new.list
    _ (omega (arith, c.in-8)) (omega (arith, c.in-8)) c.ranges_call.ensures)

pub returns-in-10 : goal.returns-in-10
returns-in-10 c =
    let a = c.args in
    let r = c.append_batch in
    made-batch (lent a.h.now a.times.now a.tags.now) a.row a.stamps a.seconds a.frames.now a.fates.now r.new.fates a.list.now a.list.now
    r.result c.map-in-10.result r.new.h r.new.times r.new.tags (omega (arith, c.in-10)) (mapped Given.Batch r.result c.map-in-10.result c.map-in-10.ensures.cases)
    (r.ensures.answer, (r.ensures.head, (r.ensures.times, (r.ensures.tags, r.ensures.lines))))

pub returns-in-11 : goal.returns-in-11
returns-in-11 c =
    let a = c.args in
    made-walk (lent a.h.now a.times.now a.tags.now) a.row a.stamps a.seconds a.frames.now a.fates.now a.fates.now a.list.now a.list.now
    c.map-in-11.result (omega (arith, c.in-11)) (mapped Given.Count c.walked.result c.map-in-11.result c.map-in-11.ensures.cases ∙ ap (given Given.Count) c.walked.ensures)

pub returns-in_default : goal.returns-in_default
returns-in_default c =
    let a = c.args in
    let z = get_or a.stamps 0 (pos 0) in
    let fits : SFits w64 z = search rules in
    made-seek (lent a.h.now a.times.now a.tags.now) a.row a.stamps a.seconds a.frames.now a.fates.now a.fates.now a.list.now a.list.now
    c.map-in_default.result (omega (arith, c.in_default))
    (mapped Given.Decoding c.seek.result c.map-in_default.result c.map-in_default.ensures.cases
    ∙ ap (given Given.Decoding) (c.seek.ensures.answer ∙ ap (λ (t : ℤ). seek_result (get_or a.row 1 0) t a.h.now a.times.now a.tags.now) (to_z-of_z w64 z fits)))
