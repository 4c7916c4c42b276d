use Rattle.std.proofs.Common.{◌≡◌, sym, ap, ◌∙◌, true, ◌+◌, ◌-◌, ◌^◌, ◌<◌, ◌≤◌, Ok, arith, T, w64, to_z-of_z}
use lib.Ieee.{binary64, fits}
use denote.Floats.{passes}
use Rattle.seconds.specs.Seconds.{signed, is_convertible}
use Rattle.seconds.proofs.AnswerLaws.{answer_at}
use Rattle.seconds.proofs.ProductLaws.{nearest-limit}
use Rattle.seconds.proofs.DoubleLaws.{sign_of, exponent_of, digits_of, convertible-number, exponent-in, small-double, large-double}
use Rattle.seconds.proofs.micros_of.Goals as goal
use Rattle.seconds.proofs.micros_of.Goals.{Else-not-in_range}

module _ (c : Else-not-in_range) where
  fits-x : T (fits binary64 c.args.x)
  fits-x = passes (fits binary64 c.args.x) c.well_formed.0.1

  converts : is_convertible c.args.x ≡ true
  converts = sym c.in_range.ensures ∙ c.if-not-in_range.false

  asked : 1002 ≤ exponent_of c.args.x → (2 ^ 52 + digits_of c.args.x < 2 ^ 53) × (27 ≤ 1069 - exponent_of c.args.x) × (1069 - exponent_of c.args.x < 68)
  asked h = omega (arith, exponent-in c.args.x fits-x converts, h)

pub float_to_bits-bits : goal.float_to_bits-bits
float_to_bits-bits c = convertible-number c.args.x (converts c)

pub returns-then-exponent-lt1002 : goal.returns-then-exponent-lt1002
returns-then-exponent-lt1002 c =
    let at = (goal.at.returns-then-exponent-lt1002 c).Else-not-in_range in
    answer_at c.args.x _ (converts at) (small-double c.args.x (fits-x at) (converts at) c.if-exponent-lt1002.true)

pub overflow_sub-exponent : goal.overflow_sub-exponent
overflow_sub-exponent c = let at = (goal.at.overflow_sub-exponent c).Else-not-in_range in omega (arith, exponent-in c.args.x (fits-x at) (converts at))

pub nearest-n-requires : goal.nearest-n-requires
nearest-n-requires c = asked (goal.at.nearest-n-requires c).Else-not-in_range c.if-exponent-lt1002.false

pub with_sign-requires : goal.with_sign-requires
with_sign-requires c =
    let a = asked (goal.at.with_sign-requires c).Else-not-in_range c.if-exponent-lt1002.false in
    omega (arith, c.nearest-n.ensures, nearest-limit _ _ a.0 a.1 (sign_of c.args.x))

pub returns : goal.returns
returns c =
    let at = (goal.at.returns c).Else-not-in_range in
    ap Ok (to_z-of_z {w = w64} (record { sfits = c.with_sign.type_inv }))
    ∙ answer_at c.args.x c.with_sign.result (converts at)
    (large-double c.args.x (fits-x at) (converts at) c.if-exponent-lt1002.false ∙ ap (signed (sign_of c.args.x)) (sym c.nearest-n.ensures) ∙ sym c.with_sign.ensures)
