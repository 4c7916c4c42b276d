use Rattle.std.proofs.Common.{◌≡◌, sym, ◌∙◌, arith, pos, ◌+ℤ◌, w64, to_z, of_z}
use mir.ValLaws.{to_z_pos}
use Rattle.media_times.specs.MediaTimes.{in_limits}
use Rattle.laws.proofs.BoolLaws.{clash}
use Rattle.media_times.proofs.RoundLaws.{kept}
use Rattle.media_times.proofs.LimitLaws.{too-late}
use Rattle.media_times.proofs.TestLaws.{tried, failed}
use Rattle.media_times.proofs.in_limits.Goals as goal
use Rattle.media_times.proofs.in_limits.Goals.{Else-s-gt-LATEST, After-presented, then-offered, else-offered}

-- the two times as they are handed on
shown : (c : After-presented) → let s = c.args.s in to_z w64 (of_z w64 c.presented.result) ≡ pos s.time +ℤ s.offset
shown c = kept c.presented.result c.presented.type_inv ∙ c.presented.ensures

decoded : (c : Else-s-gt-LATEST) → let s = c.args.s in to_z w64 s.time ≡ pos s.time
decoded c = to_z_pos w64 c.args.s.time (omega (arith, c.if-s-gt-LATEST.false))

pub returns-then-s-gt-LATEST : goal.returns-then-s-gt-LATEST
returns-then-s-gt-LATEST c = sym (too-late c.args.scale c.requires.0 c.args.s c.if-s-gt-LATEST.true)

pub returns-then-offered-2 : goal.returns-then-offered-2
unfolding in_limits
returns-then-offered-2 c =
    let e = rw (shown (goal.at.returns-then-offered-2 c).After-presented) at c.offered.ensures in
    elim c.if-offered.branch [
      | then-offered w ↦
          let d = rw (decoded (goal.at.returns-then-offered-2 c).Else-s-gt-LATEST) at w.offered-then-offered.ensures in
          tried _ _ _ (sym e ∙ w.if-offered.true) (tried _ _ _ (sym d ∙ sym w.value-is ∙ c.if-offered-2.true) c.lasts.ensures)
      | else-offered w ↦ clash (sym c.if-offered-2.true ∙ w.value-is ∙ w.if-offered.false)
    ]

pub returns-else-offered-2 : goal.returns-else-offered-2
unfolding in_limits
returns-else-offered-2 c =
    let e = rw (shown (goal.at.returns-else-offered-2 c).After-presented) at c.offered.ensures in
    elim c.if-offered.branch [
      | then-offered w ↦
          let d = rw (decoded (goal.at.returns-else-offered-2 c).Else-s-gt-LATEST) at w.offered-then-offered.ensures in
          tried _ _ _ (sym e ∙ w.if-offered.true) (failed _ _ _ (sym d ∙ sym w.value-is ∙ c.if-offered-2.false) c.if-offered-2.false)
      | else-offered w ↦ failed _ _ _ (sym e ∙ w.if-offered.false) c.if-offered-2.false
    ]
