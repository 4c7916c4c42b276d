use Rattle.std.proofs.Common.{◌≡◌, sym, ap, ◌∙◌, ◌&&◌, ◌-◌, ◌≤◌, arith, eqb, ℤ, length, get_or, w64, to_z, of_z}
use Rattle.buffer_state.specs.declared.Frame.{Frame}
use Rattle.buffer_state.specs.Layout.{zero_frame}
use Rattle.buffer_state.specs.Lent.{frames_of}
use Rattle.buffer_state.specs.Limits.{places}
use Rattle.buffer_state.specs.Ranges.{covers}
use Rattle.buffer_state.specs.Seek.{picked, pick}
use Rattle.buffer_laws.proofs.RowLaws.{frames-length}
use Rattle.seek.specs.Places.{is_timed, placed_target}
use Rattle.seek.proofs.TargetLaws.{timed-at, target-end, target_more, target-same}
use Rattle.seek.proofs.target_at.Goals as goal
use Rattle.seek.proofs.target_at.Goals.{Start, After-shows, else-shows-via-then-shows+else-is_picked, else-shows-via-else-shows}

long : (s : Start) → length (frames_of s.args.times.now s.args.tags.now) ≡ places
long s = let l = s.requires.long in frames-length s.args.times.now s.args.tags.now (l.0 ∙ sym l.1) ∙ l.0

inside : (s : Start) → s.args.n ≤ length (frames_of s.args.times.now s.args.tags.now)
inside s = omega (arith, s.requires.few, long s)

-- the instant, as it is handed on
abbrev at-instant : Start → ℤ
at-instant s = to_z w64 (of_z w64 s.args.instant)

-- what is told of the frame at the next place
shown : (c : After-shows) → let f = get_or (frames_of c.args.times.now c.args.tags.now) (c.loop-i.i - 1) zero_frame in
    c.shows.result ≡ (eqb f.track c.args.track && covers (at-instant (goal.at.After-shows c).Start) f)
shown c = c.shows.ensures ∙ ap (λ (f : Frame). eqb f.track c.args.track && covers (at-instant (goal.at.After-shows c).Start) f) c.frame_at-f.ensures

pub loop-i-init : goal.loop-i-init
loop-i-init c = (tt, target-end c.args.track (at-instant c) (frames_of c.args.times.now c.args.tags.now) c.args.n (inside c))

pub shows-requires : goal.shows-requires
shows-requires c =
    let fs = frames_of c.args.times.now c.args.tags.now in
    ap is_timed c.frame_at-f.ensures ∙ timed-at fs c.args.n (c.loop-i.i - 1) (omega arith) c.requires.each

pub loop-i-preserved-then-is_picked : goal.loop-i-preserved-then-is_picked
loop-i-preserved-then-is_picked c =
    let fs = frames_of c.args.times.now c.args.tags.now in
    let l = (goal.at.loop-i-preserved-then-is_picked c).After-shows in
    let s = (goal.at.loop-i-preserved-then-is_picked c).Start in
    let e = c.frame_at-f.ensures in
    let p = c.if-is_picked.ensures in
    let nearer : pick (get_or fs (c.loop-i.i - 1) zero_frame) (placed_target fs c.loop-i.best) ≡ picked (get_or fs (c.loop-i.i - 1) zero_frame) = cc in (
      omega arith,
      target_more c.args.track (at-instant s) fs c.args.n (inside s) c.loop-i.i c.loop-i-test.true (omega arith) c.shows.result (shown l) c.if-shows.true
          ∙ ap (pick (get_or fs (c.loop-i.i - 1) zero_frame)) c.loop-i.invariant.1 ∙ nearer,
    )

pub loop-i-preserved : goal.loop-i-preserved
loop-i-preserved c =
    let fs = frames_of c.args.times.now c.args.tags.now in
    let l = (goal.at.loop-i-preserved c).After-shows in
    let s = (goal.at.loop-i-preserved c).Start in
    elim c.else-shows.branch [
      | else-shows-via-then-shows+else-is_picked w ↦ let p = w.if-is_picked.ensures in
          let e = c.frame_at-f.ensures in
          let still : pick (get_or fs (c.loop-i.i - 1) zero_frame) (placed_target fs c.loop-i.best) ≡ placed_target fs c.loop-i.best = cc in (
            c.loop-i.invariant.0,
            target_more c.args.track (at-instant s) fs c.args.n (inside s) c.loop-i.i c.loop-i-test.true (omega arith) c.shows.result (shown l) w.if-shows.true
                ∙ ap (pick (get_or fs (c.loop-i.i - 1) zero_frame)) c.loop-i.invariant.1 ∙ still,
          )
      | else-shows-via-else-shows w ↦ (
        c.loop-i.invariant.0,
        target-same c.args.track (at-instant s) fs c.args.n (inside s) c.loop-i.i c.loop-i-test.true (omega arith) c.shows.result (shown l) w.if-shows.false
            ∙ c.loop-i.invariant.1,
      )
    ]
