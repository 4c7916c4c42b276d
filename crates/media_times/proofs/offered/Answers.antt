use Rattle.std.proofs.Common.{refl, ◌≡◌, sym, ◌∙◌, ◌*◌, arith, pos, negsuc, ◌*ℤ◌, w64, SFits, to_z, of_z}
use lib.Signed.{le_z}
use mir.ValLaws.{to_z-of_z}
use Rattle.media_times.proofs.RoundLaws.{mag-neg, fits, kept, product-fits}
use Rattle.media_times.proofs.LimitLaws.{scale-most, offered-is}
use Rattle.media_times.proofs.TestLaws.{tried, failed}
use Rattle.media_times.proofs.offered.Goals as goal
use Rattle.media_times.proofs.offered.Goals.{After-from-d}

-- the scale as it is cast
cast : (c : After-from-d) → to_z w64 (of_z w64 c.from-d.result) ≡ pos c.args.scale
cast c = kept c.from-d.result c.from-d.type_inv ∙ c.from-d.ensures

earliest : (c : After-from-d) → SFits w64 (negsuc 999999 *ℤ pos c.args.scale)
earliest c =
    let n = c.args.scale in
    fits (negsuc 999999 *ℤ pos n) (omega (arith, mag-neg (1000000 * n) (1000000 * n) (omega arith), scale-most n c.requires.0))

latest : (c : After-from-d) → SFits w64 (pos 1000000000001 *ℤ pos c.args.scale)
latest c = fits (pos 1000000000001 *ℤ pos c.args.scale) (omega (arith, scale-most c.args.scale c.requires.0))

pub overflow_mul-result-then-d-t : goal.overflow_mul-result-then-d-t
overflow_mul-result-then-d-t c = rw (cast (goal.at.overflow_mul-result-then-d-t c).After-from-d) (latest (goal.at.overflow_mul-result-then-d-t c).After-from-d)

-- the two products as the code compares them
low : (c : After-from-d) → le_z (to_z w64 (of_z w64 (negsuc 999999 *ℤ to_z w64 (of_z w64 c.from-d.result)))) (to_z w64 (of_z w64 c.args.t)) ≡ le_z (negsuc 999999 *ℤ pos c.args.scale) c.args.t
low c = rw (cast c, to_z-of_z w64 c.args.t c.ranges.t, to_z-of_z w64 (negsuc 999999 *ℤ pos c.args.scale) (earliest c))

pub returns-then-d-t : goal.returns-then-d-t
returns-then-d-t c =
    let a = c.args in
    let s = (goal.at.returns-then-d-t c).After-from-d in
    rw (cast s, to_z-of_z w64 a.t c.ranges.t, to_z-of_z w64 (a.t *ℤ pos 1000000) (product-fits a.t c.requires.1), to_z-of_z w64 (pos 1000000000001 *ℤ pos a.scale) (latest s))
    (tried _ _ _ (sym (low s) ∙ c.if-d-t.true) refl ∙ offered-is a.scale c.requires.0 a.t)

pub returns-else-d-t : goal.returns-else-d-t
returns-else-d-t c =
    let a = c.args in
    let s = (goal.at.returns-else-d-t c).After-from-d in
    failed _ _ _ (sym (low s) ∙ c.if-d-t.false) c.if-d-t.false ∙ offered-is a.scale c.requires.0 a.t
