-- What the inner functions of a lump promise.
use Rattle.std.specs.Prelude.{◌≡◌, Bool, false, ◌&&◌, ◌≤◌, eqb}
use Rattle.segments.specs.Listings.{moof_kind}
use Rattle.lumps.specs.Readers.{most_kept, most_left}
use Rattle.lumps.specs.declared.Begun.{Begun}
use Rattle.lumps.specs.declared.Begun.TheVariants.{More, Stuck, Large, Opens}
use Rattle.lumps.specs.declared.LumpReader.{LumpReader}
use Rattle.lumps.specs.declared.Phase.{Phase}
use Rattle.lumps.specs.declared.Phase.TheVariants as phase

-- how long a body can be that a header begins
abbrev pub IsBounded : Begun → Type 0
IsBounded More = Unit {0}
IsBounded Stuck = Unit {0}
IsBounded Large = Unit {0}
IsBounded (Opens kind left) = (left ≤ most_left) × (kind ≡ moof_kind → left ≤ most_kept)

-- whether a segment may end where a reader stands: between two boxes, and after one movie fragment
abbrev pub whole_in : Phase → LumpReader → Bool
whole_in phase.Heading r = eqb r.seen 0 && eqb r.fragments 1
whole_in phase.Passing r = false
whole_in phase.Keeping r = false
whole_in phase.Stuck r = false
whole_in phase.Large r = false
