use Rattle.std.proofs.Common.{◌≡◌, sym, ◌∙◌, true, false, ◌≤◌, rules, leb, pos, le-leb}
use mathlib.Core.Bool.{and-true}
use Rattle.laws.proofs.WordLaws.{told}
use Rattle.seconds.specs.Seconds.{same_int}
use Rattle.buffer_state.specs.Limits.{result_time, last_group}
use Rattle.buffer_state.specs.WellFormed.{good_group}
use Rattle.validation.proofs.good_group.Goals as goal
use Rattle.validation.proofs.good_group.Goals.{After-result_time}

-- a number of 32 bits is a group number
numbered : (c : After-result_time) → leb c.args.g.number last_group ≡ true
numbered c =
    let n : c.args.g.number ≤ last_group = search rules in
    le-leb c.args.g.number last_group n

pub returns-then-not-result_time : goal.returns-then-not-result_time
unfolding good_group
returns-then-not-result_time c =
    let g = c.args.g in
    let e : result_time g.end ≡ false = sym (told g.end (search rules) result_time c.result_time.ensures) ∙ c.if-not-result_time.true in
    rw e

pub returns-then-g : goal.returns-then-g
unfolding good_group
returns-then-g c =
    let g = c.args.g in
    let e : result_time g.end ≡ true = sym (told g.end (search rules) result_time c.result_time.ensures) ∙ c.if-not-result_time.false in
    let begun : g.begun ≡ true = c.if-g.true in
    rw (e, begun, numbered (goal.at.returns-then-g c).After-result_time, and-true (result_time g.start)) (told g.start (search rules) result_time c.result_time-then-g.ensures)

pub returns : goal.returns
unfolding good_group
returns c =
    let g = c.args.g in
    let e : result_time g.end ≡ true = sym (told g.end (search rules) result_time c.result_time.ensures) ∙ c.if-not-result_time.false in
    let unset : g.begun ≡ false = c.if-g.false in
    rw (e, unset, numbered (goal.at.returns c).After-result_time, and-true (same_int g.start (pos 0))) (told g.start (search rules) (λ z. same_int z (pos 0)) c.same_int.ensures)
