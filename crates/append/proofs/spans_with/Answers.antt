use Rattle.append.proofs.SpanLaws.{spans-one}
use Rattle.append.proofs.spans_with.Goals as goal

pub returns : goal.returns
returns c = spans-one c.args.track c.args.s c.requires
