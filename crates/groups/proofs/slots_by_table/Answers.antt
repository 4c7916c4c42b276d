use Rattle.groups.proofs.TableLaws.{tabled-none}
use Rattle.groups.proofs.slots_by_table.Goals as goal

pub loop-i-init : goal.loop-i-init
loop-i-init c = let a = c.args in tabled-none a.tags.now a.first a.n c.requires.0 a.slots.now c.requires.3
