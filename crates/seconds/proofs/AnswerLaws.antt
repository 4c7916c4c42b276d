-- What a double is answered, by its tests.
use Rattle.std.specs.Prelude.{Option, Some, None, Result, Ok, Err, IsErr}
use mathlib.Core.Path.{◌≡◌, refl, sym, ap, ◌∙◌}
use mathlib.Core.Bool.{true, false, cond}
use lib.IntN.{ℤ}
use lib.Ieee.{Float, nan, inf, fin}
use Rattle.laws.proofs.BoolLaws.{clash}
use Rattle.seconds.specs.Seconds.{is_convertible, micros_of, micros_answer, is_plus_infinity, is_convertible_end, bound_of, end_answer}
use Rattle.seconds.specs.declared.OutOfRange.{OutOfRange}

pub answer_at : (x : Float) (z : ℤ) → is_convertible x ≡ true → micros_of x ≡ z → Ok z ≡ micros_answer x
answer_at x z h e = rw (h, e)

-- plus infinity is no end
pub end-unbounded : (x : Float) → is_plus_infinity x ≡ true → Ok None ≡ end_answer x
unfolding is_convertible_end bound_of
end-unbounded nan h = clash (sym h)
end-unbounded (inf true) h = clash (sym h)
end-unbounded (inf false) h = refl
end-unbounded (fin s m e) h = clash (sym h)

-- an answer as that to an end
abbrev pub as_end : Result ℤ OutOfRange → Result (Option ℤ) OutOfRange
as_end (Ok z) = Ok (Some z)
as_end (Err why) = Err why

-- any other end is answered like a time
pub end_answer_lem : (x : Float) → is_plus_infinity x ≡ false → as_end (micros_answer x) ≡ end_answer x
unfolding is_convertible_end is_convertible bound_of
end_answer_lem nan h = refl
end_answer_lem (inf true) h = refl
end_answer_lem (inf false) h = clash h
end_answer_lem (fin s m e) h = if_ok (is_convertible (fin s m e))
  where
    if_ok : (t : _) → as_end (cond t (Ok (micros_of (fin s m e))) (Err (record {}))) ≡ cond t (Ok (Some (micros_of (fin s m e)))) (Err (record {}))
    if_ok true = refl
    if_ok false = refl

-- refused where the time is
pub end-refused : (x : Float) → is_plus_infinity x ≡ false → {why : OutOfRange} → micros_answer x ≡ Err why → (r : Result (Option ℤ) OutOfRange) → IsErr r → r ≡ end_answer x
end-refused x h e (Ok p) bad = clash (sym bad)
end-refused x h e (Err why) bad = ap as_end (sym e) ∙ end_answer_lem x h
