-- Document 01, "Refusal numbers", and those of document 02, which join them. A refusal number is that document's term: the number that a refused call returns.
use Rattle.std.specs.Prelude.{Bool, cond, ℕ, Option, None, Some, Result, Ok, Err}
use Rattle.buffer_state.specs.declared.Refusal.{Refusal}
use Rattle.buffer_state.specs.declared.Refusal.TheVariants.{IllFormed, ShortFates, NoTrack, FrameLimits, Seconds, Order, ResultLimits, Full, LastNumber, ShortList, Kinds, Malformed, LentSize, LargeFragment, NoStart}

-- The table. The calls' own definitions say exactly when each is given, and in which order.
abbrev pub refusal_number : Refusal → ℕ
refusal_number IllFormed = 1
refusal_number ShortFates = 2
refusal_number NoTrack = 3
refusal_number FrameLimits = 4
refusal_number Seconds = 5
refusal_number Order = 6
refusal_number ResultLimits = 7
refusal_number Full = 8
refusal_number LastNumber = 9
refusal_number ShortList = 10
refusal_number Kinds = 11
refusal_number Malformed = 12
refusal_number LentSize = 13
refusal_number LargeFragment = 14
refusal_number NoStart = 15

-- of what stopped a batch: 0 where nothing did
abbrev pub stop_number : Option Refusal → ℕ
stop_number None = 0
stop_number (Some why) = refusal_number why

-- what a call gives: its result, or one refusal
abbrev pub CallResult : Type 0 → Type 0
CallResult A = Result A Refusal

-- The first refusal that applies is given: each call lists its tests in the set order, then its result.
abbrev pub refuse_if : {A : Type 0} → Bool → Refusal → CallResult A → CallResult A
refuse_if test why otherwise = cond test (Err why) otherwise
