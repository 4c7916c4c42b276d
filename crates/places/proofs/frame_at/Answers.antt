use Rattle.std.proofs.Common.{sym, ◌∙◌}
use Rattle.buffer_laws.proofs.RowLaws.{frames-at}
use Rattle.places.proofs.frame_at.Goals as goal

pub returns : goal.returns
returns c =
    let a = c.args in
    c.frame_of.ensures ∙ sym (frames-at a.times.now a.tags.now a.i _ _ c.requires.0 c.requires.1)
