use Rattle.std.proofs.Common.{rules, ◌<◌}
use Rattle.buffer_state.specs.Lent.{frames_of}
use Rattle.taking.specs.Taking.{in_spans}
use Rattle.taking.proofs.GoneLaws.{track-inside}
use Rattle.taking.proofs.SlotLaws.{marking-none, marking-more, marking-all}
use Rattle.taking.proofs.mark.Goals as goal
use Rattle.taking.proofs.mark.Goals.{At-loop-i, After-frame_at-g}

abbrev at : After-frame_at-g → At-loop-i
at f = (goal.at.After-frame_at-g f).At-loop-i

-- the frame's track has a stretch, and its slot a bit
inside : (f : After-frame_at-g) → f.frame_at-g.result.track < 5
inside f =
    let d = at f in
    let a = d.args in
    rw f.frame_at-g.ensures (track-inside (frames_of a.times.now a.tags.now) a.n d.loop-i.i f.loop-i-test.true d.requires.2)

pub loop-i-init : goal.loop-i-init
loop-i-init c =
    let a = c.args in
    marking-none a.times.now a.tags.now a.n a.first (in_spans a.spans) a.cause c.fill_slots.new.slots c.requires.0 c.requires.1 c.fill_slots.ensures c.requires.4 c.requires.5

pub bounds-spans-t : goal.bounds-spans-t
bounds-spans-t c = let h = inside (goal.at.bounds-spans-t c).After-frame_at-g in search rules

pub loop-i-preserved : goal.loop-i-preserved
loop-i-preserved c =
    let d = at (goal.at.loop-i-preserved c).After-frame_at-g in
    let a = d.args in
    marking-more a.times.now a.tags.now a.n a.first (in_spans a.spans) a.cause d.fill_slots.new.slots d.requires.0 d.requires.1 d.fill_slots.ensures d.loop-i.on d.loop-i.causes d.loop-i.i d.loop-i.invariant c.loop-i-test.true c.goes_by-c.result
    (rw c.frame_at-g.ensures at c.goes_by-c.ensures)

pub returns : goal.returns
returns c =
    let a = c.args in
    record { marks = marking-all a.times.now a.tags.now a.n a.first (in_spans a.spans) a.cause c.fill_slots.new.slots c.requires.0 c.requires.1 c.fill_slots.ensures c.loop-i.on c.loop-i.causes c.loop-i.i c.loop-i.invariant c.loop-i-test.false; before = c.loop-i.invariant.before }
