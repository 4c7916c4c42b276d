use Rattle.std.proofs.Common.{◌≡◌, sym, ◌∙◌, ◌*◌, ◌/◌, ◌%◌, ◌^◌, ◌≤◌, arith, Fits-le, Fits-lit}
use Rattle.std.specs.Cmp.{ranked}
use Rattle.std.proofs.lemmas.Nat.{one_shl}
use Rattle.seconds.proofs.ProductLaws.{whole-limit, product-down, product-half, product-up}
use Rattle.seconds.proofs.nearest.Goals as goal
use Rattle.seconds.proofs.nearest.Goals.{Start}

-- what the code shifts 1 to
unit-is : (c : Start) → 1 * 2 ^ c.args.j % 2 ^ 128 ≡ 2 ^ c.args.j
unit-is c = one_shl c.args.j 128 (omega (arith, c.requires.2))

whole-in : (c : Start) → c.args.m * 15625 / (1 * 2 ^ c.args.j % 2 ^ 128) ≤ 1048576000000
whole-in c = rw (unit-is c) (whole-limit _ _ c.requires.0 c.requires.1)

pub overflow_cast-whole : goal.overflow_cast-whole
overflow_cast-whole c = Fits-le (whole-in (goal.at.overflow_cast-whole c).Start) (Fits-lit tt)

pub overflow_add-result : goal.overflow_add-result
overflow_add-result c = Fits-le (omega (arith, whole-in (goal.at.overflow_add-result c).Start)) (Fits-lit {n = 1048576000001} tt)

pub tie-requires : goal.tie-requires
tie-requires c = omega (arith, whole-in (goal.at.tie-requires c).Start)

pub returns-in-Less : goal.returns-in-Less
returns-in-Less c = product-down c.args.negative _ _ _ (unit-is (goal.at.returns-in-Less c).Start) (ranked _ _ _ (sym c.in-Less.is ∙ c.cmp.ensures))

pub returns-in-Equal : goal.returns-in-Equal
returns-in-Equal c = c.tie.ensures ∙ product-half c.args.negative _ _ _ (unit-is (goal.at.returns-in-Equal c).Start) (ranked _ _ _ (sym c.in-Equal.is ∙ c.cmp.ensures))

pub returns-in-Greater : goal.returns-in-Greater
returns-in-Greater c = product-up c.args.negative _ _ _ (unit-is (goal.at.returns-in-Greater c).Start) (ranked _ _ _ (sym c.in-Greater.is ∙ c.cmp.ensures))
