use Rattle.std.proofs.Common.{◌≡◌, None, ◌≤◌, ◌-◌, length, drop}
use Rattle.std.specs.Option.{option_map}
use Rattle.std.specs.Prelude.{IfSome, slice_range}
use Rattle.boxes.specs.Items.{items_of}
use Rattle.boxes.specs.Lone.{lone_among}
use Rattle.boxes.proofs.LoneLaws.{Placed}
use Rattle.boxes.proofs.lone.Given as goal

-- the items still to come decide what all of them do, with the body met so far, which lies before them
abbrev pub invariant-loop-part : goal.invariant-loop-part
invariant-loop-part l = record {
  within : l.cursor.at ≤ length l.s;
  ordered : IfSome l.found (λ body. body.start ≤ body.end);
  before : IfSome l.found (λ body. body.end ≤ length l.s);
  place : Placed l.found (λ body. body.start) l.kind l.s l.cursor.at;
  answer : lone_among l.kind l.after (option_map (λ body. slice_range l.s body.start body.end) l.found) (items_of (drop l.cursor.at l.s)) ≡ lone_among l.kind l.after None (items_of l.s);
}

abbrev pub decreases-loop-part : goal.decreases-loop-part
decreases-loop-part l = length l.s - l.cursor.at
