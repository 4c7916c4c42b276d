use Rattle.std.proofs.Common.{sym, ap, ◌∙◌, not}
use lib.Ieee.{binary64, is_nan}
use lib.Ieee.Bits.{nan_bits_is}
use Rattle.seconds.proofs.is_number.Goals as goal

pub returns : goal.returns
returns c = ap not (c.is_nan.ensures.value ∙ ap is_nan c.f64_from_bits_with_nan.ensures ∙ sym (nan_bits_is binary64 c.args.bits))
