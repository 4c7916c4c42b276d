use Rattle.std.proofs.Common.{refl, length}
use Rattle.segments.proofs.ListedLaws.{is_refused, segment-by-movie}
use Rattle.segments.proofs.list_whole.Goals as goal

pub returns-in_err-lone : goal.returns-in_err-lone
returns-in_err-lone c =
    let a = c.args in
    rw (segment-by-movie a.of (length a.list.now) a.s.now, c.in_err-lone.ensures.value, is_refused c.from_residual.result c.from_residual.ensures.0 c.from_residual.ensures.1) (record { value = refl; list_after = refl })

pub returns : goal.returns
returns c =
    let a = c.args in
    rw (segment-by-movie a.of (length a.list.now) a.s.now, c.in_ok-lone.ensures.value) c.list_movie.ensures
