use Rattle.std.proofs.Common.{◌≡◌, refl, ◌∙◌, ℕ, ◌+◌, ◌-◌, ◌≤◌, arith, length, get_or}
use Rattle.call_rows.specs.Encoded.{of_lines, of_ranges}
use Rattle.call_rows.specs.Replies.{lent}
use Rattle.call_list.proofs.PartLaws.{called_at, walked_at}
use Rattle.call_list.proofs.call_at.Goals as goal
use Rattle.call_list.proofs.call_at.Goals.{After-of_lines, After-of_ranges}

lines-asked : (c : After-of_lines) → let a = c.args in c.of_lines.result ≡ of_lines (get_or a.row 0 0) (get_or a.row 4 0)
lines-asked c = c.of_lines.ensures

ranges-asked : (c : After-of_ranges) → let a = c.args in c.of_ranges.result ≡ of_ranges (get_or a.row 0 0) (get_or a.row 4 0)
ranges-asked c = c.of_ranges.ensures

lines-within : (c : After-of_lines) → let a = c.args in a.at + c.of_lines.result ≤ length a.lines.now
lines-within c = omega (arith, lines-asked c)

ranges-within : (c : After-of_ranges) → let a = c.args in a.placed + c.of_ranges.result ≤ length a.list.now
ranges-within c = omega (arith, ranges-asked c)

pub returns-then-kind-eq-WALKED : goal.returns-then-kind-eq-WALKED
returns-then-kind-eq-WALKED c =
    let a = c.args in
    walked_at a.row a.stamps a.seconds a.frames.now (lent a.h a.times.now a.tags.now) c.walked_step.result a.lines.now a.at a.list.now a.placed (get_or a.row 4 0)
    c.if-kind-eq-WALKED.true refl c.walked_step.ensures

pub returns : goal.returns
returns c =
    let a = c.args in
    let n : ℕ = a.at + c.of_lines.result - a.at in
    let m : ℕ = a.placed + c.of_ranges.result - a.placed in
    let count : ℕ = c.first_frame-first.result + c.frame_count.result - c.first_frame-first.result in
    let en : n ≡ c.of_lines.result = omega arith in
    let em : m ≡ c.of_ranges.result = omega arith in
    let ec : count ≡ c.frame_count.result = omega arith in
    called_at a.row a.stamps a.seconds a.frames.now c.first_frame-first.result count (lent a.h a.times.now a.tags.now) c.make_call.result c.make_call.new.times c.make_call.new.tags a.lines.now a.at n a.list.now a.placed m
    c.if-kind-eq-WALKED.false c.first_frame-first.ensures (ec ∙ c.frame_count.ensures) (en ∙ lines-asked (goal.at.returns c).After-of_lines) (em ∙ ranges-asked (goal.at.returns c).After-of_ranges) (omega (arith, lines-within (goal.at.returns c).After-of_lines)) (omega (arith, ranges-within (goal.at.returns c).After-of_ranges))
    c.make_call.new.fates c.make_call.new.list c.make_call.ensures c.make_call.auto.fates c.make_call.auto.list
