use Rattle.std.proofs.Common.{rules, arith, ◌≤◌, ◌<◌, ◌≡◌, refl, sym, ap, ◌∙◌, not, length, get_or}
use Rattle.buffer_state.specs.Layout.{zero_frame}
use Rattle.buffer_laws.proofs.TestLaws.{all_none, all-step, all-stop}
use Rattle.buffer_state.specs.Lent.{frames_of}
use Rattle.buffer_laws.proofs.RowLaws.{frames-length}
use Rattle.taking.specs.Taking.{in_spans}
use Rattle.taking.proofs.GoneLaws.{all-next, track-inside}
use Rattle.taking.proofs.first_in.Invariants.{out}
use Rattle.taking.proofs.first_in.Goals as goal
use Rattle.taking.proofs.first_in.Goals.{Start, After-frame_at-g, After-in_span}

full : (s : Start) → s.args.n ≤ length (frames_of s.args.times.now s.args.tags.now)
full s = omega (arith, frames-length s.args.times.now s.args.tags.now s.requires.1, s.requires.0)

-- the frame at the place has a track with a stretch
inside : (c : After-frame_at-g) → c.frame_at-g.result.track < 5
inside c =
    let a = c.args in
    rw c.frame_at-g.ensures (track-inside (frames_of a.times.now a.tags.now) a.n c.loop-i.i c.loop-i-test.true c.requires.2)

-- whether it is in that stretch
told : (c : After-in_span)
    → let a = c.args in
    in_spans a.spans (get_or (frames_of a.times.now a.tags.now) c.loop-i.i zero_frame) ≡ c.in_span.result
told c = sym (c.in_span.ensures ∙ ap (in_spans c.args.spans) c.frame_at-g.ensures)

pub loop-i-init : goal.loop-i-init
loop-i-init c = (refl, all_none (out c.args.spans))

pub bounds-spans-k : goal.bounds-spans-k
bounds-spans-k c = let h = inside (goal.at.bounds-spans-k c).After-frame_at-g in search rules

pub returns-then-in_span : goal.returns-then-in_span
returns-then-in_span c =
    let a = c.args in (
      c.loop-i-test.true,
      record {
        inside = omega (arith, c.loop-i-test.true);
        before = c.loop-i.invariant.1;
        here = λ _. sym c.loop-i.invariant.0
            ∙ all-stop (out a.spans) (frames_of a.times.now a.tags.now) a.n (full (goal.at.returns-then-in_span c).Start) c.loop-i.i zero_frame c.loop-i-test.true (ap not (told (goal.at.returns-then-in_span c).After-in_span ∙ c.if-in_span.true));
      },
    )

pub loop-i-preserved : goal.loop-i-preserved
loop-i-preserved c =
    let a = c.args in (
      sym (all-step (out a.spans) (frames_of a.times.now a.tags.now) a.n (full (goal.at.loop-i-preserved c).Start) c.loop-i.i zero_frame c.loop-i-test.true (ap not (told (goal.at.loop-i-preserved c).After-in_span ∙ c.if-in_span.false)))
          ∙ c.loop-i.invariant.0,
      all-next (out a.spans) (frames_of a.times.now a.tags.now) a.n (full (goal.at.loop-i-preserved c).Start) c.loop-i.i zero_frame c.loop-i-test.true (ap not (told (goal.at.loop-i-preserved c).After-in_span ∙ c.if-in_span.false)) c.loop-i.invariant.1,
    )
