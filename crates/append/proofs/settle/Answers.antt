use Rattle.std.proofs.Common.{◌≡◌, sym, ap, ◌∙◌, List, arith, w64}
use mir.ValLaws.{to_z-of_z}
use Rattle.buffer_state.specs.declared.Frame.{Frame}
use Rattle.buffer_state.specs.Answers.{line_count, head_after, times_after, tags_after}
use Rattle.buffer_state.specs.Append.{Outcome, Pass}
use Rattle.buffer_state.specs.Layout.{zero_frame, padded_list}
use Rattle.buffer_state.specs.Lent.{times_of, tags_of, head_of}
use Rattle.buffer_state.specs.Limits.{places}
use Rattle.buffer_state.specs.Refusals.{CallResult}
use Rattle.buffer_laws.proofs.LentLaws.{lent_back}
use Rattle.heads.specs.Heads.{drop_cause}
use Rattle.append.specs.Settled.{pass_at}
use Rattle.append.proofs.SettleLaws.{drop-frames, drop-result}
use Rattle.append.proofs.StoredLaws.{held-head, held-good, held-store}
use Rattle.append.proofs.settle.Goals as goal
use Rattle.append.proofs.settle.Goals.{Start, After-drop_cause-cause}

abbrev pass : Start → Pass
pass s = let a = s.args in pass_at a.p.head a.times.now a.tags.now a.p.frame

headed : (s : Start) → s.args.p.head ≡ head_of (pass s).buffer
headed s = let a = s.args in held-head a.p.head a.times.now a.tags.now s.requires.0.whole

told : (c : After-drop_cause-cause) → c.drop_cause-cause.result ≡ drop_cause (pass (goal.at.After-drop_cause-cause c).Start)
told c = c.drop_cause-cause.ensures (pass (goal.at.After-drop_cause-cause c).Start).buffer (headed (goal.at.After-drop_cause-cause c).Start)

pub store_frame-requires : goal.store_frame-requires
store_frame-requires c = (
  c.requires.0,
  sym (told (goal.at.store_frame-requires c).After-drop_cause-cause) ∙ c.if-cause-eq0.true,
  rw (to_z-of_z w64 c.args.bound c.ranges.bound) c.requires.1,
  c.requires.2,
)

pub drop_frame-requires : goal.drop_frame-requires
drop_frame-requires c =
    let a = c.args in
    let r = c.requires.0 in
    (r.track, (held-store a.p.head a.times.now a.tags.now r.whole).few, r.number, omega (arith, c.if-cause-eq0.false), c.requires.3)

pub returns : goal.returns
returns c =
    let a = c.args in
    let s = (goal.at.returns c).Start in
    let r = c.requires.0 in
    let e = told (goal.at.returns c).After-drop_cause-cause in
    let cause = c.drop_cause-cause.result in
    let held = lent_back a.p.head a.times.now a.tags.now r.whole in
    let few = (held-good a.p.head a.times.now a.tags.now r.whole).frames.few in
    let same = sym (drop-frames (pass s) cause) in
    let res = sym (drop-result (pass s) cause e (omega (arith, c.if-cause-eq0.false)) few) in
    record {
      answer = ap line_count res;
      head = c.drop_frame.ensures.head (pass s).buffer (headed s) e ∙ ap (λ (x : CallResult Outcome). head_after x a.p.head) (sym res) ∙ ap (λ (x : CallResult Outcome). head_after x a.h.now) res;
      times = held.times ∙ ap (λ (fs : List Frame). times_of (padded_list places zero_frame fs)) same ∙ ap (λ (x : CallResult Outcome). times_after x a.times.now) res;
      tags = held.tags ∙ ap (λ (fs : List Frame). tags_of (padded_list places zero_frame fs)) same ∙ ap (λ (x : CallResult Outcome). tags_after x a.tags.now) res;
      lines = c.drop_frame.ensures.lines (pass s).buffer (headed s) e;
    }
