use Rattle.std.proofs.Common.{◌≡◌, sym, ap, ◌∙◌, List, ℕ, ◌+◌, ◌-◌, ◌≤◌, arith, length, take, get_or, Ok}
use Rattle.buffer_state.specs.declared.Frame.{Frame}
use Rattle.buffer_state.specs.Refusals.{CallResult}
use Rattle.buffer_state.specs.declared.Start as declared
use Rattle.buffer_state.specs.Layout.{zero_frame}
use Rattle.buffer_state.specs.Lent.{frames_of}
use Rattle.buffer_state.specs.Limits.{places}
use Rattle.buffer_state.specs.Seek.{from_flagged, start_by}
use Rattle.buffer_state.specs.Store.{is_of}
use Rattle.buffer_laws.proofs.RowLaws.{frames-length}
use Rattle.seek.specs.Places.{same_group}
use Rattle.seek.proofs.WalkLaws.{start_with, walk-past, walk-on, walk-found, walk-over}
use Rattle.seek.proofs.walk_back.Goals as goal
use Rattle.seek.proofs.walk_back.Goals.{Start, After-frame_at-f, In-loop-i, After-same_group}

-- the frames, all places of them
abbrev held : Start → List Frame
held s = frames_of s.args.times.now s.args.tags.now

long : (s : Start) → length (held s) ≡ places
long s = let l = s.requires.0 in frames-length s.args.times.now s.args.tags.now (l.0 ∙ sym l.1) ∙ l.0

-- a place that the walk reaches is one of the store's
reached : (c : In-loop-i) → c.loop-i.i ≤ places
reached c = omega arith

-- what is told of the frame at the place reached
own : (c : After-same_group) → let f = c.frame_at-f.result in
    c.same_group.result ≡ is_of f.track f.group (get_or (held (goal.at.After-same_group c).Start) (c.loop-i.i - 1) zero_frame)
own c =
    let f = c.frame_at-f.result in
    c.same_group.ensures ∙ ap (is_of f.track f.group) c.frame_at-g.ensures

inside : (c : In-loop-i) → c.loop-i.i ≤ length (held (goal.at.In-loop-i c).Start)
inside c = omega (arith, reached c, long (goal.at.In-loop-i c).Start)

-- the answer for the frame that was read is that for the frame at the place
read : (c : After-frame_at-f) → let f = c.frame_at-f.result in let g = get_or (held (goal.at.After-frame_at-f c).Start) c.args.at zero_frame in
    start_by f (from_flagged (same_group f (take (c.args.at + 1) (held (goal.at.After-frame_at-f c).Start)))) ≡ start_by g (from_flagged (same_group g (take (c.args.at + 1) (held (goal.at.After-frame_at-f c).Start))))
read c = ap (λ (f : Frame). start_by f (from_flagged (same_group f (take (c.args.at + 1) (held (goal.at.After-frame_at-f c).Start))))) c.frame_at-f.ensures

-- an answer by its numbers
abbrev told : ℕ → ℕ → ℕ → CallResult declared.Start
told target flagged n = Ok (record { target = target; flagged = flagged; count = n })

pub returns-then-g : goal.returns-then-g
returns-then-g c =
    let f = c.frame_at-f.result in
    let e = c.frame_at-g.ensures in
    let flag = sym (ap (λ (x : Frame). x.flagged) e) ∙ c.if-g.true in
    let more : c.loop-i.count + 1 ≡ 1 + c.loop-i.count = omega arith in
    ap (λ (n : ℕ). told f.number c.frame_at-g.result.number n) more
    ∙ ap (λ (x : Frame). told f.number x.number (1 + c.loop-i.count)) e
    ∙ sym (c.loop-i.invariant.1 ∙ walk-found f (held (goal.at.returns-then-g c).Start) zero_frame c.loop-i.i (omega arith) (inside (goal.at.returns-then-g c).In-loop-i) c.loop-i.count _ (own (goal.at.returns-then-g c).After-same_group) c.if-same_group.true flag)
    ∙ read (goal.at.returns-then-g c).After-frame_at-f

pub loop-i-preserved-else-g : goal.loop-i-preserved-else-g
loop-i-preserved-else-g c =
    let flag = sym (ap (λ (x : Frame). x.flagged) c.frame_at-g.ensures) ∙ c.if-g.false in (
      omega arith,
      c.loop-i.invariant.1 ∙ walk-on c.frame_at-f.result (held (goal.at.loop-i-preserved-else-g c).Start) zero_frame c.loop-i.i (omega arith) (inside (goal.at.loop-i-preserved-else-g c).In-loop-i) c.loop-i.count _ (own (goal.at.loop-i-preserved-else-g c).After-same_group) c.if-same_group.true flag,
    )

pub loop-i-preserved : goal.loop-i-preserved
loop-i-preserved c = (
  omega arith,
  c.loop-i.invariant.1 ∙ walk-past c.frame_at-f.result (held (goal.at.loop-i-preserved c).Start) zero_frame c.loop-i.i (omega arith) (inside (goal.at.loop-i-preserved c).In-loop-i) c.loop-i.count _ (own (goal.at.loop-i-preserved c).After-same_group) c.if-same_group.false,
)

pub returns : goal.returns
returns c =
    let f = c.frame_at-f.result in
    let first : c.loop-i.i ≡ 0 = omega arith in
    sym (c.loop-i.invariant.1 ∙ ap (λ (i : ℕ). start_with c.loop-i.count f (from_flagged (same_group f (take i (held (goal.at.returns c).Start))))) first ∙ walk-over f (held (goal.at.returns c).Start) c.loop-i.count)
    ∙ read (goal.at.returns c).After-frame_at-f
