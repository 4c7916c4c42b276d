use Rattle.std.proofs.Common.{refl, length}
use Rattle.segments.proofs.ListedLaws.{is_refused, gives-malformed}
use Rattle.segments.proofs.list_movie.Goals as goal

pub returns-in_err-w : goal.returns-in_err-w
returns-in_err-w c =
    let a = c.args in
    let r = c.in_err-w.ensures in
    rw (gives-malformed a.of a.b.now (length a.list.now) r.0, is_refused c.from_residual.result c.from_residual.ensures.0 c.from_residual.ensures.1) (record { value = refl; list_after = r.1 refl })
