use Rattle.std.proofs.Common.{sym, ap, subst, ◌∙◌, ℕ, ◌++◌, arith, ℤ, take, drop, w64}
use lib.ListN.{take-append-drop}
use mir.ValLaws.{to_z-of_z}
use Rattle.buffer_state.specs.Answers.{line_count, head_after, times_after, tags_after, list_after}
use Rattle.buffer_state.specs.Append.{Outcome}
use Rattle.buffer_state.specs.Layout.{buffer_of}
use Rattle.buffer_state.specs.Lent.{state_at}
use Rattle.buffer_state.specs.Refusals.{CallResult}
use Rattle.append.specs.Settled.{Before, Follows}
use Rattle.append.proofs.AnswerLaws.{state-head}
use Rattle.append.proofs.FollowLaws.{follows-track, follows-ready, follows-result}
use Rattle.append.proofs.StoredLaws.{held-head, held-count}
use Rattle.batch.proofs.append_at.Goals as goal
use Rattle.batch.proofs.append_at.Goals.{In-Some}

followed : (c : In-Some) → let a = c.args in Follows (buffer_of (state_at a.h.now a.times.now a.tags.now)) a.f c.in-Some.g a.bound
followed c =
    let a = c.args in
    let b = buffer_of (state_at a.h.now a.times.now a.tags.now) in
    subst (λ (z : ℤ). Follows b a.f c.in-Some.g z) (to_z-of_z w64 a.bound c.ranges.bound)
    (c.follows.ensures b (held-head a.h.now a.times.now a.tags.now c.requires.0) c.in-Some.g c.in-Some.is)

pub follows-requires : goal.follows-requires
follows-requires c = let a = c.args in state-head a.h.now a.times.now a.tags.now c.requires.0

pub put_next-requires : goal.put_next-requires
put_next-requires c =
    let a = c.args in
    let k = followed (goal.at.put_next-requires c).In-Some in
    (follows-ready a.h.now a.times.now a.tags.now c.requires.0 a.f _ _ k, omega (arith, k.room, held-count a.h.now a.times.now a.tags.now c.requires.0))

pub returns-in-Some : goal.returns-in-Some
returns-in-Some c =
    let a = c.args in
    let g = c.in-Some.g in
    let b = buffer_of (state_at a.h.now a.times.now a.tags.now) in
    let k = followed (goal.at.returns-in-Some c).In-Some in
    let before = subst (λ (n : ℕ). Before n a.bound b.frames) (sym (follows-track b a.f g a.bound k)) c.requires.1 in
    let done = sym (follows-result a.h.now a.times.now a.tags.now c.requires.0 a.f g a.bound k before) in
    record {
      answer = ap line_count done;
      head = c.put_next.ensures.head ∙ ap (λ (x : CallResult Outcome). head_after x a.h.now) done;
      times = c.put_next.ensures.times ∙ ap (λ (x : CallResult Outcome). times_after x a.times.now) done;
      tags = c.put_next.ensures.tags ∙ ap (λ (x : CallResult Outcome). tags_after x a.tags.now) done;
      lines = sym (take-append-drop a.at a.fates.now) ∙ ap (λ (x : CallResult Outcome). take a.at a.fates.now ++ list_after x (drop a.at a.fates.now)) done;
    }
