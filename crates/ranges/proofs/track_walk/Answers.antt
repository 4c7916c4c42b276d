use Rattle.std.proofs.Common.{rules, ◌∙◌, ltb, leb, take}
use Rattle.std.proofs.lemmas.List.Sorted.{IsPartitionPoint-from_clause}
use Rattle.ranges.proofs.StoredLaws.{track_in, behind, IsFirst, IsCount, first-partitioned, count-partitioned, fits, first-parts, end-parts}
use Rattle.ranges.proofs.TrackLaws.{track-standing, track-walked}
use Rattle.ranges.proofs.track_walk.Goals as goal
use Rattle.ranges.proofs.track_walk.Goals.{After-partition_point-count}

-- the two points part the rows
at-first : (c : After-partition_point-count) → IsFirst c.requires.0 c.args.track c.partition_point-first.result c.partition_point-count.result
at-first c =
    IsPartitionPoint-from_clause (λ g. ltb (track_in g) c.args.track) (take c.args.n c.args.tags.now) c.partition_point-first.result
    c.partition_point-first.ensures.partitioned (first-partitioned c.requires.0 c.args.track 0 0) (λ a r g called. search rules)

at-count : (c : After-partition_point-count) → IsCount c.requires.0 c.args.track c.partition_point-first.result c.partition_point-count.result
at-count c =
    IsPartitionPoint-from_clause (λ g. leb (track_in g) c.args.track) (behind c.requires.0 c.partition_point-first.result) c.partition_point-count.result
    c.partition_point-count.ensures.partitioned (count-partitioned c.requires.0 c.args.track c.partition_point-first.result 0) (λ a r g called. search rules)

pub walk_stored-requires : goal.walk_stored-requires
walk_stored-requires c =
    let p = (goal.at.walk_stored-requires c).After-partition_point-count in
    let to = fits c.requires.0 c.args.track _ _ (at-first p) (at-count p) c.partition_point-first.ensures.bound c.partition_point-count.ensures.bound in
    (track-standing c.requires.0 c.args.track c.partition_point-first.result c.partition_point-count.result to, c.requires.2)

pub walk_sorted-requires : goal.walk_sorted-requires
walk_sorted-requires c =
    let p = (goal.at.walk_sorted-requires c).After-partition_point-count in
    let to = fits c.requires.0 c.args.track _ _ (at-first p) (at-count p) c.partition_point-first.ensures.bound c.partition_point-count.ensures.bound in
    (track-standing c.requires.0 c.args.track c.partition_point-first.result c.partition_point-count.result to, c.walk_stored.auto.spans ∙ c.requires.2)

pub returns-in-Some : goal.returns-in-Some
returns-in-Some c =
    let p = (goal.at.returns-in-Some c).After-partition_point-count in
    let a = at-first p in
    let b = at-count p in
    let h = c.partition_point-first.ensures.bound in
    let k = c.partition_point-count.ensures.bound in
    let told = track-walked c.requires.0 c.args.track c.partition_point-first.result c.partition_point-count.result (fits c.requires.0 c.args.track _ _ a b h k)
    (first-parts c.requires.0 c.args.track _ _ a b h k) (end-parts c.requires.0 c.args.track _ _ a b h k) c.in-Some.ensures in
    record { taken_value = told.0; bars = told.1 }

pub returns-in-None : goal.returns-in-None
returns-in-None c =
    let p = (goal.at.returns-in-None c).After-partition_point-count in
    let a = at-first p in
    let b = at-count p in
    let h = c.partition_point-first.ensures.bound in
    let k = c.partition_point-count.ensures.bound in
    let told = track-walked c.requires.0 c.args.track c.partition_point-first.result c.partition_point-count.result (fits c.requires.0 c.args.track _ _ a b h k)
    (first-parts c.requires.0 c.args.track _ _ a b h k) (end-parts c.requires.0 c.args.track _ _ a b h k) c.walk_sorted.ensures in
    record { taken_value = told.0; bars = told.1 }
