use Rattle.heads.proofs.HeadLaws.{head-set}
use Rattle.heads.proofs.with_track.Goals as goal

pub returns : goal.returns
returns c = let a = c.args in λ b e. head-set b a.h e a.n a.t c.requires.0 c.requires.1
