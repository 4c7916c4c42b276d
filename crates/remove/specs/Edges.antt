-- A removal in the words of the code: instants or none, and the stretches up to the far edges of all tracks in one array.
use Rattle.std.specs.Prelude.{Bool, cond, not, ◌&&◌, ◌||◌, List, ◌≡◌, ℕ, ◌<◌, ℤ, pos, Float, get_or, Option, None, Some, Ok, Err}
use Rattle.std.specs.Int.Signed.{lt_z}
use Rattle.seconds.specs.Seconds.{Bound, unbounded, at, is_convertible, is_convertible_end, micros_of, bound_of}
use Rattle.buffer_state.specs.declared.Frame.{Frame}
use Rattle.buffer_state.specs.declared.Refusal.TheVariants.{Seconds, Order}
use Rattle.buffer_state.specs.Refusals.{CallResult}
use Rattle.buffer_state.specs.Remove.{before_bound, far_edge}
use Rattle.taking.specs.declared.Span.{Span}
use Rattle.taking.specs.Loss.{bound_in}
use Rattle.taking.specs.Taking.{no_span}

-- ---- bounds

-- the instant that a bound is, which need not be there
abbrev pub instant_of : Bound → Option ℤ
instant_of unbounded = None
instant_of (at z) = Some z

-- ---- the stretch of time

-- refusal 6, or the start and the end
abbrev pub in_order : ℤ → Option ℤ → CallResult (ℤ × Option ℤ)
in_order s e = cond (lt_z s (pos 0) || not (before_bound s (bound_in e))) (Err Order) (Ok (s, e))

-- refusal 5 of either time, then by the order
abbrev pub stretch_of : Float → Float → CallResult (ℤ × Option ℤ)
stretch_of start end = cond (not (is_convertible start) || not (is_convertible_end end)) (Err Seconds) (in_order (micros_of start) (instant_of (bound_of end)))

-- ---- far edges

-- past every presentation time of a well-formed state
abbrev pub beyond : ℤ
beyond = pos 4000000000001

-- from the start up to an edge, or past every time where there is none
abbrev pub edge_time : Bound → ℤ
edge_time unbounded = beyond
edge_time (at z) = z

abbrev pub up_to : ℤ → Bound → Span
up_to s edge = record { start = s; end = edge_time edge }

-- the array holds each track's stretch, up to its far edge
abbrev pub FarSpans : ℤ → Bound → List Frame → List Span → Type 0
FarSpans s e fs spans = (track : ℕ) → track < 5 → get_or spans track no_span ≡ up_to s (far_edge track e fs)

-- a flagged frame at or after the end
abbrev pub opens_after : Bound → Frame → Bool
opens_after e f = f.flagged && not (before_bound f.pts e)

-- such a frame in front of an edge is a nearer one, if it is earlier
abbrev pub is_nearer : Frame → Bound → ℤ → Bool
is_nearer f e edge = opens_after e f && lt_z f.pts edge
