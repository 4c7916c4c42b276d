use Rattle.std.proofs.Common.{◌≡◌, ◌&&◌, eqb, drop}
use Rattle.buffer_state.specs.WellFormed.{all_of}
use Rattle.validation.specs.Tests.{is_zero_tag}
use Rattle.validation.proofs.no_tags.Given as goal

abbrev pub invariant-loop-tag : goal.invariant-loop-tag
invariant-loop-tag l = ((((eqb l.a 0 && eqb l.b 0) && (eqb l.c 0 && eqb l.d 0)) && eqb l.e 0) && all_of is_zero_tag (drop l.tag-index l.tag-items)) ≡ all_of is_zero_tag l.tag-items
