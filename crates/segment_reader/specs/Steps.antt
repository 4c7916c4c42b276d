-- Document 02, No. 1: what a reader finds at its place in a segment, and the place after it. A place past the end finds no box.
use Rattle.std.specs.Prelude.{cond, List, ℕ, ◌+◌, length, drop, leb, Option, Some, None, Result, Ok, Err}
use Rattle.boxes.specs.Boxes.{Mp4Box, refused, step_of, past_front}
use Rattle.boxes.specs.declared.Malformed.{Malformed}

-- the box that a step finds
abbrev pub box_in : Result (Option (Mp4Box × List ℕ)) Malformed → Result (Option Mp4Box) Malformed
box_in (Ok None) = Ok None
box_in (Ok (Some x)) = Ok (Some x.0)
box_in (Err e) = Err e

abbrev pub step_from : List ℕ → ℕ → Result (Option Mp4Box) Malformed
step_from s at = cond (leb at (length s)) (box_in (step_of (drop at s))) refused

-- past the box that was found; else the same place
abbrev pub place_after : List ℕ → ℕ → ℕ
place_after s at = at + past_front (drop at s)
