use Rattle.std.proofs.Common.{◌≡◌, refl, sym, ap, ap₂, subst, ◌∙◌, true, not, ◌&&◌, List, [], ◌++◌, ℕ, arith, eqb, ℤ, length, drop, take_all, Ok, Err}
use Rattle.laws.proofs.ListLaws.{first-length}
use Rattle.laws.proofs.WordLaws.{told}
use Rattle.seconds.specs.Seconds.{Bound}
use Rattle.buffer_state.specs.declared.Frame.{Frame}
use Rattle.buffer_state.specs.declared.Refusal.TheVariants.{LastNumber}
use Rattle.buffer_state.specs.declared.Track.{Track}
use Rattle.buffer_state.specs.Answers.{written}
use Rattle.buffer_state.specs.Layout.{zero_frame, padded_list}
use Rattle.buffer_state.specs.Lent.{frames_of, times_of, tags_of}
use Rattle.buffer_state.specs.Limits.{places, last_group}
use Rattle.buffer_state.specs.Remove.{removal_lacks_group}
use Rattle.buffer_state.specs.Store.{Line}
use Rattle.buffer_state.specs.WellFormed.{all_of}
use Rattle.buffer_laws.proofs.AnswerLaws.{answered}
use Rattle.buffer_laws.proofs.LentLaws.{lent_back}
use Rattle.taking.specs.Loss.{loss_of as loss_in, bound_in}
use Rattle.taking.specs.Taking.{in_spans, taken_marks}
use Rattle.remove.specs.Edges.{FarSpans}
use Rattle.remove.specs.Loss.{loss_of, is_loss, settled_by}
use Rattle.remove.proofs.CallLaws.{over-refused, over_done, by-loss, head-left, kept_left, lines-told, nothing-goes}
use Rattle.remove.proofs.LossLaws.{taken-loss}
use Rattle.remove.proofs.PlaceLaws.{held, laid, long, few, order, holding, on-tracks}
use Rattle.remove.proofs.remove_over.Goals as goal
use Rattle.remove.proofs.remove_over.Goals.{After-far_spans-spans, After-lacks_group}

-- the stretches begin at the start
far : (c : After-far_spans-spans) → let a = c.args in
    FarSpans a.start (bound_in a.end) (held a.h.now a.times.now a.tags.now).frames c.far_spans-spans.result
far c =
    let a = c.args in
    subst (λ (z : ℤ). FarSpans z (bound_in a.end) (held a.h.now a.times.now a.tags.now).frames c.far_spans-spans.result)
    (told a.start c.ranges.start (λ z. z) c.open_from.ensures.0)
    c.far_spans-spans.ensures

-- the stretches, from where refusal 9 is decided
abbrev spanned : After-lacks_group → After-far_spans-spans
spanned c = (goal.at.After-lacks_group c).After-far_spans-spans

-- the loss that is found with the tracks by their numbers is the buffer's
lost : (c : After-lacks_group) → let g = spanned c in let a = g.args in let marks = taken_marks g.far_spans-spans.result 6 (held a.h.now a.times.now a.tags.now).frames in
    loss_in c.by_number-numbered.result marks ≡ loss_of (held a.h.now a.times.now a.tags.now) marks
lost c =
    let g = spanned c in
    let a = g.args in
    let marks = taken_marks g.far_spans-spans.result 6 (held a.h.now a.times.now a.tags.now).frames in
    ap (λ (l : List Track). loss_in l marks) c.by_number-numbered.ensures ∙ taken-loss a.h.now a.times.now a.tags.now g.requires.0 g.far_spans-spans.result

-- so refusal 9 is the definition's
lacking : (c : After-lacks_group) → let a = (spanned c).args in
    c.lacks_group.result ≡ removal_lacks_group a.start (bound_in a.end) (held a.h.now a.times.now a.tags.now)
lacking c =
    let g = spanned c in
    let a = g.args in
    c.lacks_group.ensures ∙ ap (λ (l : Bound). is_loss l && eqb a.h.now.group.number last_group) (lost c)
    ∙ by-loss a.h.now a.times.now a.tags.now g.requires.0 a.start (bound_in a.end) g.far_spans-spans.result (far g)

pub first_in-requires : goal.first_in-requires
first_in-requires c =
    let a = c.args in
    let l = long a.h.now a.times.now a.tags.now c.requires.0 in
    (omega (arith, (laid a.h.now a.times.now a.tags.now c.requires.0).nframes, l.0), l.0 ∙ sym l.1, on-tracks a.h.now a.times.now a.tags.now c.requires.0)

pub returns-in_default : goal.returns-in_default
returns-in_default c =
    let a = c.args in
    let stored = (held a.h.now a.times.now a.tags.now).frames in
    let count = first-length (frames_of a.times.now a.tags.now) a.h.now.nframes (few a.h.now a.times.now a.tags.now c.requires.0) in
    let none : all_of (λ (x : Frame). not (in_spans c.far_spans-spans.result x)) stored ≡ true =
    ap (all_of (λ (x : Frame). not (in_spans c.far_spans-spans.result x))) (sym (take_all a.h.now.nframes stored (omega (arith, count)))) ∙ c.in_default.ensures.before in
    let back = lent_back a.h.now a.times.now a.tags.now c.requires.0 in let told = answered a.h.now a.times.now a.tags.now a.fates.now (Ok (record { after = held a.h.now a.times.now a.tags.now; lines = [] }))
    (nothing-goes a.h.now a.times.now a.tags.now c.requires.0 a.start (bound_in a.end) c.far_spans-spans.result (far (goal.at.returns-in_default c).After-far_spans-spans) none)
    refl
    back.head
    back.times
    back.tags
    refl in record { answer = told.0; head = told.1.0; times = told.1.1.0; tags = told.1.1.1.0; lines = told.1.1.1.1 }

pub returns-then-lacks_group : goal.returns-then-lacks_group
returns-then-lacks_group c =
    let a = (spanned (goal.at.returns-then-lacks_group c).After-lacks_group).args in let told = answered a.h.now a.times.now a.tags.now a.fates.now (Err LastNumber)
    (over-refused a.start (bound_in a.end) (held a.h.now a.times.now a.tags.now) (sym (lacking (goal.at.returns-then-lacks_group c).After-lacks_group) ∙ c.if-lacks_group.true)) refl refl refl refl refl in record { answer = told.0; head = told.1.0; times = told.1.1.0; tags = told.1.1.1.0; lines = told.1.1.1.1 }

pub take_in-out-requires : goal.take_in-out-requires
take_in-out-requires c =
    let a = c.args in
    let w = c.requires.0 in
    let l = laid a.h.now a.times.now a.tags.now w in (
      l.nframes,
      long a.h.now a.times.now a.tags.now w,
      holding a.h.now a.times.now a.tags.now w,
      order a.h.now a.times.now a.tags.now w,
      on-tracks a.h.now a.times.now a.tags.now w,
      omega arith,
      omega (arith, l.nframes, c.requires.1),
      c.in-Some.ensures.1.inside,
      c.in-Some.ensures.1.before,
    )

pub settled-requires : goal.settled-requires
settled-requires c =
    let a = (spanned (goal.at.settled-requires c).After-lacks_group).args in
    let found = ap (λ (l : Bound). is_loss l && eqb a.h.now.group.number last_group) c.take_in-out.ensures.lost in
    ((laid a.h.now a.times.now a.tags.now (spanned (goal.at.settled-requires c).After-lacks_group).requires.0).ntracks, found ∙ sym c.lacks_group.ensures ∙ c.if-lacks_group.false)

pub returns : goal.returns
returns c =
    let g = spanned (goal.at.returns c).After-lacks_group in
    let a = g.args in
    let out = c.take_in-out.ensures in
    let head = head-left a.h.now a.times.now a.tags.now g.requires.0 a.start (bound_in a.end) g.far_spans-spans.result (far g) in
    let left = kept_left a.h.now a.times.now a.tags.now g.requires.0 a.start (bound_in a.end) g.far_spans-spans.result (far g) in
    let lines = lines-told a.h.now a.times.now a.tags.now g.requires.0 a.start (bound_in a.end) g.far_spans-spans.result (far g) in
    let settled = c.settled.ensures ∙ ap₂ (λ (x : Bound) (n : ℕ). settled_by x n a.h.now) (out.lost ∙ lost (goal.at.returns c).After-lacks_group) out.counts.0 ∙ head in
    let answer = ap Ok (out.counts.1 ∙ ap length lines) in let told = answered a.h.now a.times.now a.tags.now a.fates.now _
    (over_done a.start (bound_in a.end) (held a.h.now a.times.now a.tags.now) (sym (lacking (goal.at.returns c).After-lacks_group) ∙ c.if-lacks_group.false))
    answer
    settled
    (out.times ∙ ap (λ (x : List Frame). times_of (padded_list places zero_frame x)) left)
    (out.tags ∙ ap (λ (x : List Frame). tags_of (padded_list places zero_frame x)) left)
    (out.lines ∙ ap (λ (x : List Line). written x ++ drop (length x) a.fates.now) lines) in record { answer = told.0; head = told.1.0; times = told.1.1.0; tags = told.1.1.1.0; lines = told.1.1.1.1 }
