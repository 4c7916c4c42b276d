use Rattle.std.proofs.Common.{sym, ◌∙◌}
use Rattle.lumps.proofs.HeaderLaws.{more-shows}
use Rattle.lumps.proofs.in_header.Goals as goal

pub returns-in-More : goal.returns-in-More
returns-in-More c =
    let e = sym c.in-More.is ∙ c.begun_by.ensures.is in
    record { shows = more-shows c.args.r c.args.b c.requires.0 c.requires.1 e; keeps = λ k. cc }
