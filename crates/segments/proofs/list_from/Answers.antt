use Rattle.std.proofs.Common.{refl, arith, ◌<◌, length, drop_of_length-le}
use Rattle.segments.proofs.ListedLaws.{past_end}
use Rattle.segments.proofs.list_from.Goals as goal

pub returns-in_default : goal.returns-in_default
returns-in_default c =
    let a = c.args in
    let l = c.in_default.ensures.lookup.0 in
    let h : length a.s.now < a.at = grind (arith, l) in
    rw (drop_of_length-le a.s.now {i = a.at} (omega (arith, h)), past_end a.of (length a.list.now)) (record { value = refl; list_after = refl })
