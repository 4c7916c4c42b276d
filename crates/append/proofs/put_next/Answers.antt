use Rattle.std.proofs.Common.{◌≡◌, ap, ◌∙◌, List, ◌<◌}
use Rattle.buffer_state.specs.declared.Frame.{Frame}
use Rattle.buffer_state.specs.declared.Head.{Head}
use Rattle.buffer_state.specs.Append.{Pass, step_nine, stored_as}
use Rattle.buffer_state.specs.Layout.{zero_frame, padded_list}
use Rattle.buffer_state.specs.Lent.{times_of, tags_of, head_of}
use Rattle.buffer_state.specs.Limits.{places, last_number}
use Rattle.buffer_state.specs.Store.{insert_sorted}
use Rattle.append.specs.Settled.{pass_at, storing_at}
use Rattle.append.proofs.StoredLaws.{held-head, held-count, held-store, needing-track}
use Rattle.append.proofs.put_next.Goals as goal
use Rattle.append.proofs.put_next.Goals.{Start, After-need_track-k, After-step_nine-nine}

abbrev storing : Start → Pass
storing s = let a = s.args in storing_at a.h.now a.times.now a.tags.now a.g

abbrev frames : Start → List Frame
frames s = let a = s.args in (pass_at a.h.now a.times.now a.tags.now a.g).buffer.frames

headed : (c : After-need_track-k) → c.need_track-k.result ≡ head_of (storing (goal.at.After-need_track-k c).Start).buffer
headed c =
    let a = c.args in
    c.need_track-k.ensures (pass_at a.h.now a.times.now a.tags.now a.g).buffer (held-head a.h.now a.times.now a.tags.now c.requires.0.whole)

nine : (c : After-step_nine-nine) → c.step_nine-nine.result ≡ head_of (step_nine (storing (goal.at.After-step_nine-nine c).Start) (frames (goal.at.After-step_nine-nine c).Start))
nine c =
    let a = c.args in
    c.step_nine-nine.ensures (storing (goal.at.After-step_nine-nine c).Start).buffer (frames (goal.at.After-step_nine-nine c).Start) (headed (goal.at.After-step_nine-nine c).After-need_track-k) (held-count a.h.now a.times.now a.tags.now c.requires.0.whole)

pub step_nine-nine-requires : goal.step_nine-nine-requires
step_nine-nine-requires c =
    let a = c.args in
    let number : c.need_track-k.result.last < last_number = rw (headed c) c.requires.0.number in
    (needing-track a.h.now a.times.now a.tags.now a.g c.requires.0 c.need_track-k.result (headed c), c.requires.0.pts, number, c.requires.1)

pub insert-requires : goal.insert-requires
insert-requires c =
    let a = c.args in
    let h = held-store a.h.now a.times.now a.tags.now c.requires.0.whole in
    (c.requires.1, h.long, h.hold, h.order)

pub returns : goal.returns
unfolding step_nine
returns c = let new = c.stored_as-f.ensures ∙ ap (λ (h : Head). stored_as h.last h.group.number c.args.g) (nine (goal.at.returns c).After-step_nine-nine) in record { head = nine (goal.at.returns c).After-step_nine-nine; times = c.insert.ensures.times ∙ ap (λ (y : Frame). times_of (padded_list places zero_frame (insert_sorted y (frames (goal.at.returns c).Start)))) new; tags = c.insert.ensures.tags ∙ ap (λ (y : Frame). tags_of (padded_list places zero_frame (insert_sorted y (frames (goal.at.returns c).Start)))) new }
