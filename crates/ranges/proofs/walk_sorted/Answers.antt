use Rattle.std.proofs.Common.{◌≡◌, refl, ap, subst, ◌∙◌, ℕ, arith, length, take, length-take-le}
use Rattle.sorting.specs.Sorting.{occurrences}
use Rattle.buffer_state.specs.Lent.{frames_of}
use Rattle.ranges.specs.Walks.{keys_of, standing_ranges, Arranges, Tells}
use Rattle.ranges.proofs.TrackLaws.{keyed_ranges, sorted-ordered, sorted-arranged, ordered-walked, told-walks}
use Rattle.ranges.proofs.walk_sorted.Goals as goal
use Rattle.ranges.proofs.walk_sorted.Goals.{After-sort}

-- the sorted keys are those of the frames
kept : (o : After-sort) → let a = o.args in
    (x : ℕ) → occurrences x (take a.count o.sort.new.x) ≡ occurrences x (keys_of (frames_of a.times.now a.tags.now) a.count a.first)
kept o x = o.sort.ensures.kept x ∙ ap (occurrences x) o.keys_of.ensures

full : (o : After-sort) → length (take o.args.count o.sort.new.x) ≡ o.args.count
full o = length-take-le o.args.count o.sort.new.x (omega (arith, o.requires.0.fits, o.keys_of.auto.keys, o.sort.auto.x))

-- so they are in order
arranged : (o : After-sort) → let a = o.args in let fs = frames_of a.times.now a.tags.now in
    Arranges (keyed_ranges fs (take a.count o.sort.new.x)) (standing_ranges fs a.first a.count)
arranged o = sorted-arranged o.requires.0 (take o.args.count o.sort.new.x) (full o) o.sort.ensures.rising (kept o)

pub walk_ordered-requires : goal.walk_ordered-requires
walk_ordered-requires c =
    let o = (goal.at.walk_ordered-requires c).After-sort in
    (sorted-ordered o.requires.0 (take o.args.count o.sort.new.x) (full o) o.sort.ensures.rising (kept o) _ refl, c.requires.1)

pub unwrap-requires : goal.unwrap-requires
unwrap-requires c = ordered-walked c.args.room c.walk_ordered.new.spans c.walk_ordered.result c.walk_ordered.ensures (arranged (goal.at.unwrap-requires c).After-sort)

pub returns : goal.returns
returns c =
    let a = c.args in
    let fs = frames_of a.times.now a.tags.now in
    let told = subst (Tells a.room (keyed_ranges fs (take a.count c.sort.new.x)) c.walk_ordered.new.spans) c.unwrap.ensures c.walk_ordered.ensures in
    told-walks told (arranged (goal.at.returns c).After-sort)
