use Rattle.std.proofs.Common.{refl, ◌∙◌, arith, pos, ◌+ℤ◌}
use borrow.Author.Tests.{le-leb}
use Rattle.media_times.proofs.LimitLaws.{scale-most, lasts-is}
use Rattle.media_times.proofs.TestLaws.{tried}
use Rattle.media_times.proofs.lasts.Goals as goal

pub overflow_mul-result : goal.overflow_mul-result
overflow_mul-result c = omega (arith, scale-most c.args.scale c.requires)

pub returns-then-s-ge1 : goal.returns-then-s-ge1
returns-then-s-ge1 c =
    let s = c.args.s in
    tried _ _ _ (le-leb 1 s.duration c.if-s-ge1.true) refl
    ∙ lasts-is c.args.scale c.requires (pos s.time +ℤ s.offset) s.duration
