use Rattle.boxes.specs.Items.{items_of}
use Rattle.segments.specs.Listings.{with_fragment}
use Rattle.segments.specs.Walks.{known}
use Rattle.segments.proofs.FurtherLaws.{Between}
use Rattle.segments.proofs.walk_movie.Given as goal

abbrev pub invariant-loop-part : goal.invariant-loop-part
invariant-loop-part l = Between l.fn.of l.fn.write (known l.fn.w) l.fn.list (with_fragment l.fn.of) l.fn.s (items_of l.part-iterator) (known l.v) l.list
