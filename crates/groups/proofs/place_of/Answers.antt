use Rattle.std.proofs.Common.{sym, ltb, rules}
use Rattle.std.proofs.lemmas.List.Sorted.{IsPartitionPoint-from_clause}
use Rattle.groups.proofs.RankLaws.{below-first, place-parted}
use Rattle.groups.proofs.place_of.Goals as goal

-- the closure tests whether a number is below x
pub returns : goal.returns
returns c =
    let x = c.args.x in
    let found = c.partition_point.ensures in
    sym (place-parted x _ _ c.requires found.bound (IsPartitionPoint-from_clause (λ y. ltb y x) _ _ found.partitioned (below-first x _ c.requires) (λ a r g called. search rules)))
