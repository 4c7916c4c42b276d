use Rattle.boxes.specs.Items.{items_of}
use Rattle.segments.specs.Listings.{with_run}
use Rattle.segments.specs.Walks.{known}
use Rattle.segments.proofs.FurtherLaws.{BetweenAt}
use Rattle.segments.proofs.walk_runs.Given as goal

abbrev pub invariant-loop-part : goal.invariant-loop-part
invariant-loop-part l = BetweenAt l.fn.of l.fn.write (known l.fn.w) l.fn.list (with_run l.fn.d l.fn.time) l.fn.s l.fn.time (items_of l.part-iterator) (known l.v) l.list
