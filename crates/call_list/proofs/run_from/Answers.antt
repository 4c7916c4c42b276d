use Rattle.std.proofs.Common.{refl, List, [], ℕ, suc, ◌+◌, ◌≤◌, ◌<◌, add-one, arith, length, get_or, set, w64, Fits, rules}
use Rattle.buffer_state.specs.Lent.{buffer_in}
use Rattle.call_rows.specs.Encoded.{of_lines, of_ranges}
use Rattle.call_rows.specs.Replies.{lent}
use Rattle.call_list.specs.Listed.{first_frame, frame_count, lists_of}
use Rattle.call_list.proofs.ListedLaws.{filled-inside}
use Rattle.call_list.proofs.LoopLaws.{Room, room, numbers_of, Sofar, sofar-none, lines-room, ranges-room, frames-room, turn, ended}
use Rattle.call_list.proofs.run_from.Goals as goal
use Rattle.call_list.proofs.run_from.Goals.{Start, In-loop-i, After-readings-1}

fit : (c : Start)
    → Room c.args.calls.now c.args.stamps.now c.args.seconds.now c.args.frames.now
    (lists_of c.args.answers.now c.args.lines.now c.args.list.now c.args.readings.now c.args.times.now c.args.tags.now)
fit c = room _ _ _ _ _ c.requires.1

lists-fit : (c : Start)
    → Fits w64 (length c.args.calls.now) × Fits w64 (length c.args.lines.now) × Fits w64 (length c.args.list.now)
lists-fit c = (search rules, search rules, search rules)

-- a place for this call in each list
record Places (c : In-loop-i) : Type 0 where
  pub stamps : c.loop-i.i < length c.args.stamps.now
  pub seconds : c.loop-i.i < length c.args.seconds.now
  pub answers : c.loop-i.i < length c.loop-i.answers
  pub readings : c.loop-i.read < length c.loop-i.readings

places : (c : In-loop-i) → Places c
places c =
    let r = fit (goal.at.In-loop-i c).Start in
    let S = c.loop-i.invariant in
    record {
      stamps = omega (arith, r.stamps);
      seconds = omega (arith, r.seconds);
      answers = omega (arith, r.answers, S.answers.same);
      readings = omega (arith, r.readings, S.readings.same, S.read_few);
    }

-- the call's row
abbrev row : In-loop-i → List ℕ
row c = get_or c.args.calls.now c.loop-i.i []

lines-here : (c : In-loop-i) → c.loop-i.at + of_lines (get_or (row c) 0 0) (get_or (row c) 4 0) ≤ length c.loop-i.lines
lines-here c = lines-room _ _ _ _ _ _ c.requires.0.good c.requires.0.empty (fit (goal.at.In-loop-i c).Start) _ _ _ _ _ _ c.loop-i.invariant c.loop-i-test.true (row c) refl

ranges-here : (c : In-loop-i) → c.loop-i.placed + of_ranges (get_or (row c) 0 0) (get_or (row c) 4 0) ≤ length c.loop-i.list
ranges-here c = ranges-room _ _ _ _ _ _ c.requires.0.good c.requires.0.empty (fit (goal.at.In-loop-i c).Start) _ _ _ _ _ _ c.loop-i.invariant c.loop-i-test.true (row c) refl

frames-here : (c : In-loop-i) → first_frame (row c) + frame_count (row c) ≤ length c.args.frames.now
frames-here c = frames-room _ _ _ _ _ _ c.requires.0.good c.requires.0.empty (fit (goal.at.In-loop-i c).Start) _ _ _ _ _ _ c.loop-i.invariant c.loop-i-test.true (row c) refl

-- the turn, up to the sums
turned : (c : After-readings-1) →
    let a = c.args in
    let o = c.loop-i in
    let t = c.call_at-t.result in
    Sofar a.calls.now a.stamps.now a.seconds.now a.frames.now (buffer_in (lent a.start a.times.now a.tags.now))
    (lists_of a.answers.now a.lines.now a.list.now a.readings.now a.times.now a.tags.now)
    (lists_of (set o.answers o.i (numbers_of t)) c.call_at-t.new.lines c.call_at-t.new.list c.note_reading-read.new.readings
    c.call_at-t.new.times c.call_at-t.new.tags)
    t.head (o.at + of_lines (get_or (row (goal.at.After-readings-1 c).In-loop-i) 0 0) t.count) (o.placed + of_ranges (get_or (row (goal.at.After-readings-1 c).In-loop-i) 0 0) t.count) c.note_reading-read.result (suc o.i)
turned c =
    turn _ _ _ _ _ _ c.requires.0.good c.requires.0.empty (fit (goal.at.After-readings-1 c).Start) _ _ _ _ _ _ c.loop-i.invariant c.loop-i-test.true (row (goal.at.After-readings-1 c).In-loop-i) refl
    (get_or c.args.stamps.now c.loop-i.i []) (get_or c.args.seconds.now c.loop-i.i []) refl refl c.call_at-t.result
    _ _ _ _ _ _ _ _ _ c.call_at-t.ensures c.call_at-t.auto.lines c.call_at-t.auto.list refl
    c.note_reading-read.ensures.list c.note_reading-read.auto.readings refl refl c.note_reading-read.ensures.count

pub loop-i-init : goal.loop-i-init
loop-i-init c = sofar-none _ _ _ _ _ _ c.args.start c.requires.0.held

pub bounds-stamps-i : goal.bounds-stamps-i
bounds-stamps-i c = (places (goal.at.bounds-stamps-i c).In-loop-i).stamps

pub bounds-seconds-i : goal.bounds-seconds-i
bounds-seconds-i c = (places (goal.at.bounds-seconds-i c).In-loop-i).seconds

pub call_at-t-requires : goal.call_at-t-requires
call_at-t-requires c = (lines-here (goal.at.call_at-t-requires c).In-loop-i, ranges-here (goal.at.call_at-t-requires c).In-loop-i, frames-here (goal.at.call_at-t-requires c).In-loop-i)

pub bounds-answers-i : goal.bounds-answers-i
bounds-answers-i c = (places (goal.at.bounds-answers-i c).In-loop-i).answers

pub note_reading-read-requires : goal.note_reading-read-requires
note_reading-read-requires c = (places (goal.at.note_reading-read-requires c).In-loop-i).readings

pub overflow_add-at : goal.overflow_add-at
overflow_add-at c = record { fits = omega (arith, c.of_lines-at.ensures, filled-inside (turned (goal.at.overflow_add-at c).After-readings-1).lines, (lists-fit (goal.at.overflow_add-at c).Start).1.fits) }

pub overflow_add-placed : goal.overflow_add-placed
overflow_add-placed c = record { fits = omega (arith, c.of_ranges-placed.ensures, filled-inside (turned (goal.at.overflow_add-placed c).After-readings-1).ranges, (lists-fit (goal.at.overflow_add-placed c).Start).2.fits) }

pub loop-i-preserved : goal.loop-i-preserved
loop-i-preserved c = rw (add-one, c.of_lines-at.ensures, c.of_ranges-placed.ensures) (turned (goal.at.loop-i-preserved c).After-readings-1)

pub returns : goal.returns
returns c = ended _ _ _ _ _ _ _ _ _ _ _ _ c.loop-i.invariant c.loop-i-test.false
