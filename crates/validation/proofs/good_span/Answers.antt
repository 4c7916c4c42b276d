use Rattle.std.proofs.Common.{◌≡◌, ◌-◌, ◌≤◌, ◌<◌, ◌^◌, arith, pos, w64, SFits, rules}
use lib.Signed.{le_z}
use Rattle.laws.proofs.WordLaws.{told, told₂}
use Rattle.validation.proofs.ExamineLaws.{span-tests}
use Rattle.validation.proofs.good_span.Goals as goal

pub returns : goal.returns
returns c =
    let f = c.args.f in
    let h : f.duration < 2 ^ 32 = search rules in
    let k : f.duration ≤ 4000000000000 = omega arith in
    let z = pos (4000000000000 - f.duration) in
    let w : SFits w64 z = record { sfits = omega arith } in
    let v : SFits w64 c.latest_start.result = rw c.latest_start.ensures w in
    let a : c.at_most.result ≡ le_z (pos 0) f.pts = told f.pts (search rules) (le_z (pos 0)) c.at_most.ensures in
    let b : c.at_most-2.result ≡ le_z f.pts c.latest_start.result = told₂ f.pts c.latest_start.result (search rules) v le_z c.at_most-2.ensures in
    rw (a, b, c.latest_start.ensures) (span-tests f.pts f.duration k)
