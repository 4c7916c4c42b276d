use Rattle.std.proofs.Common.{ap, ◌∙◌, ◌+◌, ◌<◌, arith, get_or}
use Rattle.laws.proofs.BoolLaws.{and_left}
use Rattle.buffer_state.specs.Layout.{zero_frame}
use Rattle.buffer_state.specs.Lent.{frames_of}
use Rattle.buffer_state.specs.Limits.{places}
use Rattle.ranges.specs.Sweep.{is_timely, key_of}
use Rattle.ranges.proofs.KeyLaws.{up-sound, one-keyed, all-keyed}
use Rattle.ranges.proofs.keys_of.Goals as goal
use Rattle.ranges.proofs.keys_of.Goals.{In-loop-k}

inside : (c : In-loop-k) → c.args.first + c.loop-k.k < places
inside c = omega (arith, c.requires.1, c.loop-k-test.true)

pub key_of-requires : goal.key_of-requires
key_of-requires c =
    let fs = frames_of c.args.times.now c.args.tags.now in
    let f = get_or fs (c.args.first + c.loop-k.k) zero_frame in
    (ap is_timely c.frame_at.ensures ∙ and_left (is_timely f) _ (up-sound fs c.args.first c.args.count c.requires.3 c.loop-k.k c.loop-k-test.true), inside (goal.at.key_of-requires c).In-loop-k)

pub loop-k-preserved : goal.loop-k-preserved
loop-k-preserved c =
    one-keyed c.loop-k.invariant c.loop-k-test.true (omega (arith, inside (goal.at.loop-k-preserved c).In-loop-k)) _
    (c.key_of.ensures ∙ ap (key_of (c.args.first + c.loop-k.k)) c.frame_at.ensures)

pub returns : goal.returns
returns c = all-keyed c.loop-k.invariant (omega arith) (omega arith)
