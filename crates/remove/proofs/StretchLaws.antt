-- The stretch of time from the answers to its two times; and an instant holds a bound and nothing else.
use Rattle.std.specs.Prelude.{Option, Result, Ok, Err}
use mathlib.Core.Path.{◌≡◌, refl}
use mathlib.Core.Bool.{Bool, true, false, cond, not, ◌||◌}
use lib.IntN.{ℤ}
use lib.Ieee.{Float}
use Rattle.seconds.specs.Seconds.{Bound, unbounded, at, is_convertible, is_convertible_end, micros_of, bound_of, end_place, micros_answer, end_answer}
use Rattle.seconds.specs.declared.OutOfRange.{OutOfRange}
use Rattle.buffer_state.specs.declared.Refusal.TheVariants.{Seconds}
use Rattle.buffer_state.specs.Refusals.{CallResult}
use Rattle.taking.specs.Loss.{bound_in}
use Rattle.remove.specs.Edges.{instant_of, in_order, stretch_of}

pub bound-back : (b : Bound) → bound_in (instant_of b) ≡ b
bound-back unbounded = refl
bound-back (at z) = refl

-- refused where either time is
abbrev pub stretch_from : Result ℤ OutOfRange → Result (Option ℤ) OutOfRange → CallResult (ℤ × Option ℤ)
stretch_from (Err why) e = Err Seconds
stretch_from (Ok z) (Err why) = Err Seconds
stretch_from (Ok z) (Ok e) = in_order z e

from-tests : (p q : Bool) (z : ℤ) (b : Bound)
    → stretch_from (cond p (Ok z) (Err (record {}))) (cond q (Ok (end_place b)) (Err (record {}))) ≡ cond (not p || not q) (Err Seconds) (in_order z (instant_of b))
from-tests false q z b = refl
from-tests true false z b = refl
from-tests true true z unbounded = refl
from-tests true true z (at y) = refl

pub stretch_from_lem : (x y : Float) → stretch_from (micros_answer x) (end_answer y) ≡ stretch_of x y
stretch_from_lem x y = from-tests (is_convertible x) (is_convertible_end y) (micros_of x) (bound_of y)
