use Rattle.buffer_state.specs.Lent.{buffer_in}
use Rattle.call_rows.specs.Replies.{lent}
use Rattle.call_list.specs.Listed.{lists_of}
use Rattle.call_list.proofs.LoopLaws.{Sofar}
use Rattle.call_list.proofs.run_from.Given as goal

abbrev pub invariant-loop-i : goal.invariant-loop-i
invariant-loop-i l = Sofar l.calls l.stamps l.seconds l.frames (buffer_in (lent l.initial.h l.initial.times l.initial.tags)) (lists_of l.initial.answers l.initial.lines l.initial.list l.initial.readings l.initial.times l.initial.tags) (lists_of l.answers l.lines l.list l.readings l.times l.tags) l.h l.at l.placed l.read l.i
