use Rattle.std.proofs.Common.{◌≡◌, rules}
use Rattle.laws.proofs.WordLaws.{told}
use Rattle.buffer_state.specs.Append.{is_offerable}
use Rattle.buffer_state.specs.Limits.{offered_time}
use Rattle.append.proofs.is_offerable.Goals as goal

pub returns : goal.returns
unfolding is_offerable
returns c =
    let f = c.args.f in
    let e₁ : c.offered_time.result ≡ offered_time f.pts = told f.pts (search rules) offered_time c.offered_time.ensures in
    let e₂ : c.offered_time-2.result ≡ offered_time f.dts = told f.dts (search rules) offered_time c.offered_time-2.ensures in
    rw (e₁, e₂, c.good_duration.ensures)
