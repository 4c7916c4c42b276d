use Rattle.std.proofs.Common.{ℕ, ◌≤◌, ◌<◌, ◌≡◌, [], length, take, get_or}
use Rattle.sorting.specs.Sorting.{most}
use Rattle.groups.specs.Groups.{key_in, place_of}
use Rattle.groups.proofs.slots_by_sort.Given as goal

abbrev pub invariant-loop-i : goal.invariant-loop-i
invariant-loop-i l = (length l.slots ≡ most) × ((j : ℕ) → l.first ≤ j → j < l.i → get_or l.slots j 0 ≡ place_of (key_in (get_or l.tags j [])) (take l.m l.keys))
