use Rattle.std.proofs.Common.{◌≡◌, refl, ap, ◌∙◌, get_or, pos, ℕ, ℤ, [], w64, of_z, to_z, SFits, Fits, rules, bit_or}
use Rattle.std.proofs.Math.Facts.{of_z-to_z, Fits-or, Fits-of_z}
use Rattle.buffer_state.specs.WellFormed.{all_of}
use Rattle.validation.specs.Tests.{is_zero_time}
use Rattle.validation.proofs.ZeroLaws.{ended, or-none, rows_past, past-is, past-width, times-turn}
use Rattle.validation.proofs.no_times.Goals as goal

-- the bits of a column and a time's, read as a number and back
kept : (n : ℕ) (z : ℤ) → Fits w64 n → SFits w64 z → of_z w64 (to_z w64 (bit_or n (of_z w64 z))) ≡ bit_or n (of_z w64 z)
kept n z f g = of_z-to_z (Fits-or f (Fits-of_z g))

pub loop-time-init : goal.loop-time-init
loop-time-init c = refl

pub loop-time-preserved : goal.loop-time-preserved
loop-time-preserved c =
    let ts = rows_past c.args.times.now c.args.n in
    let l = c.loop-time in
    let t = get_or ts l.time-index [] in
    let x : SFits w64 (get_or t 0 (pos 0)) = search rules in
    let y : SFits w64 (get_or t 1 (pos 0)) = search rules in
    let turn = times-turn ts l.time-index c.loop-time-test.true (past-width c.args.times.now c.args.n 2 c.told-times l.time-index c.loop-time-test.true) l.a-bits l.b-bits x y in
    rw (kept l.a-bits (get_or t 0 (pos 0)) l.auto.a-fits x, kept l.b-bits (get_or t 1 (pos 0)) l.auto.b-fits y)
    (turn ∙ (rw (of_z-to_z l.auto.a-fits, of_z-to_z l.auto.b-fits) at l.invariant))

pub returns : goal.returns
returns c =
    let ts = rows_past c.args.times.now c.args.n in
    let l = c.loop-time in
    or-none l.a-bits l.b-bits
    ∙ ended is_zero_time ts l.time-index _ _ c.loop-time-test.false (rw (of_z-to_z l.auto.a-fits, of_z-to_z l.auto.b-fits) at l.invariant)
    ∙ ap (all_of is_zero_time) (past-is c.args.times.now c.args.n)
