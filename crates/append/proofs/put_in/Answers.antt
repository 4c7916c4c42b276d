use Rattle.std.proofs.Common.{◌≡◌, ap, ◌∙◌, true, List, take}
use Rattle.buffer_state.specs.declared.Frame.{Frame}
use Rattle.buffer_state.specs.Layout.{zero_frame, padded_list}
use Rattle.buffer_state.specs.Lent.{frames_of, times_of, tags_of}
use Rattle.buffer_state.specs.Limits.{places}
use Rattle.buffer_state.specs.Store.{is_before, kept, insert_sorted}
use Rattle.buffer_state.specs.WellFormed.{is_sorted}
use Rattle.buffer_laws.proofs.StoreLaws.{left-pairs}
use Rattle.taking.specs.Taking.{in_spans}
use Rattle.append.specs.Settled.{overlap_at}
use Rattle.append.proofs.HeldLaws.{held_first, held-insertable}
use Rattle.append.proofs.StoredLaws.{freed}
use Rattle.append.proofs.put_in.Goals as goal
use Rattle.append.proofs.put_in.Goals.{Start}

-- the frames left, which are in order
abbrev left : Start → List Frame
left s = let a = s.args in kept (overlap_at a.spans a.n a.times.now a.tags.now)

in_order : (s : Start) → is_sorted (left s) ≡ true
unfolding is_sorted
in_order s = let a = s.args in left-pairs (in_spans a.spans) 4 (take a.n (frames_of a.times.now a.tags.now)) is_before s.requires.0.order

pub insert-requires : goal.insert-requires
insert-requires c =
    let a = c.args in
    let e = c.take_in-out.ensures in
    held-insertable (left (goal.at.insert-requires c).Start) c.take_in-out.result.left c.take_in-out.new.times c.take_in-out.new.tags e.counts.0 e.times e.tags
    (freed a.spans a.n a.first a.times.now a.tags.now c.requires.0 c.requires.1 c.requires.2) (in_order (goal.at.insert-requires c).Start)

pub returns : goal.returns
returns c =
    let e = c.take_in-out.ensures in
    let f = c.args.f in
    let first = held_first (left (goal.at.returns c).Start) c.take_in-out.result.left c.take_in-out.new.times c.take_in-out.new.tags e.counts.0 e.times e.tags in record { times = c.insert.ensures.times ∙ ap (λ (l : List Frame). times_of (padded_list places zero_frame (insert_sorted f l))) first; tags = c.insert.ensures.tags ∙ ap (λ (l : List Frame). tags_of (padded_list places zero_frame (insert_sorted f l))) first; lines = e.lines; counts = e.counts }
