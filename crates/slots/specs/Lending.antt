-- What a session holds once what it lent of the slot in use has ended.
use Rattle.std.specs.Prelude.{Option, Some}
use Rattle.std.specs.Borrow.{Lends, LendsIf, MutBor, Fml}
use Rattle.std.specs.contracts.option.Option as option
use Rattle.slots.specs.Slots.{with_used}
use Rattle.slots.specs.contracts.Session.{the_row}
use Rattle.slots.specs.contracts.Slot as slot
use Rattle.slots.specs.declared.Session.{Session}
use Rattle.slots.specs.declared.Slot.{Slot}

-- the slot in use ends as the last value behind r, and the rest of the session stays
abbrev pub LendsSlot : MutBor Session → MutBor (Option Slot) → Fml
LendsSlot s r = Lends the_row (option.the_row slot.the_row) s r (with_used s.now)

-- the same of its buffer; where there is none, the session stays
abbrev pub LendsUsed : MutBor Session → Option (MutBor Slot) → Fml
LendsUsed s r = LendsIf the_row slot.the_row s r (λ w. with_used s.now (Some w)) s.now
