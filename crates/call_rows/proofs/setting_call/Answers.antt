use Rattle.std.proofs.Common.{arith}
use Rattle.call_rows.proofs.ReplyLaws.{abort-quiet, mode-quiet, offset-quiet, window-start-quiet, window_end-quiet}
use Rattle.call_rows.specs.Replies.{lent}
use Rattle.call_rows.proofs.setting_call.Goals as goal

pub returns-in-2 : goal.returns-in-2
returns-in-2 c =
    let a = c.args in
    let r = c.abort in
    abort-quiet (lent a.h.now a.times.now a.tags.now) a.flag a.x r.result r.new.h a.kind (omega (arith, c.in-2)) (r.ensures.answer, r.ensures.head)

pub returns-in-3 : goal.returns-in-3
returns-in-3 c =
    let a = c.args in
    let r = c.set_mode in
    mode-quiet (lent a.h.now a.times.now a.tags.now) a.flag a.x r.result r.new.h a.kind c.mode_of.result (omega (arith, c.in-3)) c.mode_of.ensures (r.ensures.answer, r.ensures.head)

pub returns-in-4 : goal.returns-in-4
returns-in-4 c =
    let a = c.args in
    let r = c.set_offset in
    offset-quiet (lent a.h.now a.times.now a.tags.now) a.flag a.x r.result r.new.h a.kind (omega (arith, c.in-4)) (r.ensures.answer, r.ensures.head)

pub returns-in-5 : goal.returns-in-5
returns-in-5 c =
    let a = c.args in
    let r = c.set_window_start in
    window-start-quiet (lent a.h.now a.times.now a.tags.now) a.flag a.x r.result r.new.h a.kind (omega (arith, c.in-5)) (r.ensures.answer, r.ensures.head)

pub returns-in_default : goal.returns-in_default
returns-in_default c =
    let a = c.args in
    let r = c.set_window_end in
    window_end-quiet (lent a.h.now a.times.now a.tags.now) a.flag a.x r.result r.new.h a.kind (λ e. omega (arith, e, c.in_default)) (λ e. omega (arith, e, c.in_default)) (λ e. omega (arith, e, c.in_default)) (λ e. omega (arith, e, c.in_default)) (r.ensures.answer, r.ensures.head)
