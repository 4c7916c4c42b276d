use Rattle.std.proofs.Common.{to_z-of_z}
use Rattle.validation.proofs.SettingsLaws.{answer-converts}
use Rattle.validation.proofs.converts_to.Goals as goal

pub returns : goal.returns
returns c = rw (c.eq.ensures, c.micros_of.ensures, to_z-of_z c.ranges.z) (answer-converts _ c.args.x c.args.z)
