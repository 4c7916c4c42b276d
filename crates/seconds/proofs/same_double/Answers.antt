use Rattle.std.proofs.Common.{◌≡◌, sym, ap, ◌∙◌, true, Float, eqb-true, eq-eqb}
use lib.Ieee.{binary64, fits, of_bits, to_bits}
use lib.Ieee.Bits.{of_bits-to_bits}
use denote.Floats.{passes}
use Rattle.seconds.proofs.DoubleLaws.{same_by}
use Rattle.seconds.proofs.same_double.Goals as goal

back : (x : Float) → fits binary64 x ≡ true → of_bits binary64 (to_bits binary64 x) ≡ x
back x h = of_bits-to_bits binary64 x (passes (fits binary64 x) h)

pub returns : goal.returns
returns c =
    let a = c.args.a in
    let b = c.args.b in
    rw (c.f64_to_bits_with_nan.ensures, c.f64_to_bits_with_nan-2.ensures)
    (same_by a b _ (λ h. sym (back a c.well_formed.0.1) ∙ ap (of_bits binary64) (eqb-true _ _ h) ∙ back b c.well_formed.1.0.1) (λ e. eq-eqb _ _ (ap (to_bits binary64) e)))
