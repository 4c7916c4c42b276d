use Rattle.std.proofs.Common.{rules, arith, ◌≡◌, length}
use Rattle.sorting.specs.Sorting.{most}
use Rattle.groups.proofs.RankLaws.{ranked}
use Rattle.groups.proofs.slots_by_sort.Goals as goal
use Rattle.groups.proofs.slots_by_sort.Goals.{Start, After-keys_of-keys, After-sort, After-other-2-1}

abbrev start : After-other-2-1 → Start
start c = (goal.at.After-other-2-1 c).Start

keys-long : (k : After-keys_of-keys) → length k.keys_of-keys.result ≡ most
keys-long k = search rules

sort-long : (o : After-sort) → length o.sort.new.x ≡ most
sort-long o = search rules

pub returns : goal.returns
returns c =
    let s = start (goal.at.returns c).After-other-2-1 in
    let a = s.args in
    ranked a.tags.now a.first a.n s.requires.2 c.keys_of-keys.result _ c.loop-i.slots c.keys_of-keys.ensures (keys-long (goal.at.returns c).After-keys_of-keys) (sort-long (goal.at.returns c).After-sort) c.sort.ensures (λ j b h. c.loop-i.invariant.1 j b (omega (arith, c.loop-i-test.false)))
