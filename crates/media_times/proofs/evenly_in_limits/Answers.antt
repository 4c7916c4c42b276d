use Rattle.std.proofs.Common.{refl, ◌≡◌, sym, ap₂, ◌∙◌, ℕ, ◌+◌, ◌*◌, ◌-◌, ◌≤◌, arith, pos, w64, to_z}
use mir.ValLaws.{to_z_pos}
use Rattle.media_times.proofs.EvenLaws.{no-samples, run-too-late, evenly-by-ends}
use Rattle.media_times.proofs.TestLaws.{tried, failed}
use Rattle.media_times.proofs.evenly_in_limits.Goals as goal
use Rattle.media_times.proofs.evenly_in_limits.Goals.{Else-n-eq0, After-from-2, Else-before-gt-LATEST}

some : (c : Else-n-eq0) → 1 ≤ c.args.n
some c = omega (arith, c.if-n-eq0.false)

-- the media time of the last sample
last-time : (c : After-from-2) → let a = c.args in
    a.s.time + c.from.result * c.from-2.result ≡ a.s.time + (a.n - 1) * a.s.duration
last-time c = ap₂ (λ (k d : ℕ). c.args.s.time + k * d) c.from.ensures c.from-2.ensures

-- and as it is cast
last-cast : (c : Else-before-gt-LATEST) → let x = c.args.s.time + c.from.result * c.from-2.result in to_z w64 x ≡ pos x
last-cast c = to_z_pos w64 (c.args.s.time + c.from.result * c.from-2.result) (omega (arith, c.if-before-gt-LATEST.false, c.if-s-gt-LATEST.false))

pub returns-then-n-eq0 : goal.returns-then-n-eq0
returns-then-n-eq0 c = let g = c.args in sym (no-samples g.scale g.n g.s c.if-n-eq0.true)

pub returns-then-s-gt-LATEST : goal.returns-then-s-gt-LATEST
returns-then-s-gt-LATEST c =
    let g = c.args in
    sym (run-too-late g.scale c.requires.0 g.n g.s c.requires.1 (some (goal.at.returns-then-s-gt-LATEST c).Else-n-eq0) (omega (arith, c.if-s-gt-LATEST.true)))

pub returns-then-before-gt-LATEST : goal.returns-then-before-gt-LATEST
returns-then-before-gt-LATEST c =
    let g = c.args in
    sym (run-too-late g.scale c.requires.0 g.n g.s c.requires.1 (some (goal.at.returns-then-before-gt-LATEST c).Else-n-eq0) (omega (arith, c.if-before-gt-LATEST.true, last-time (goal.at.returns-then-before-gt-LATEST c).After-from-2)))

pub returns-then-lasts : goal.returns-then-lasts
returns-then-lasts c =
    let g = c.args in
    let w = goal.at.returns-then-lasts c in
    rw (c.offered.ensures, last-cast w.Else-before-gt-LATEST, last-time w.After-from-2)
    (tried _ _ _ (sym c.lasts.ensures ∙ c.if-lasts.true) refl ∙ sym (evenly-by-ends g.scale c.requires.0 g.n g.s c.requires.1 (some w.Else-n-eq0)))

pub returns-else-lasts : goal.returns-else-lasts
returns-else-lasts c =
    let g = c.args in
    let w = goal.at.returns-else-lasts c in
    failed _ _ _ (sym c.lasts.ensures ∙ c.if-lasts.false) c.if-lasts.false ∙ sym (evenly-by-ends g.scale c.requires.0 g.n g.s c.requires.1 (some w.Else-n-eq0))
