use Rattle.std.proofs.Common.{◌≡◌, rules, ℤ}
use Rattle.laws.proofs.WordLaws.{told₂}
use Rattle.buffer_state.specs.WellFormed.{good_end, good_settings}
use Rattle.validation.proofs.good_settings.Goals as goal

pub returns : goal.returns
unfolding good_settings
returns c =
    let t = c.args.t in
    let e : c.good_end.result ≡ good_end t.start.micros t.end t.limit =
    told₂ t.start.micros t.limit (search rules) (search rules) (λ (y z : ℤ). good_end y t.end z) c.good_end.ensures in
    rw (c.good_offset.ensures, c.good_start.ensures, e)
