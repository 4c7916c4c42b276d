use Rattle.std.proofs.Common.{◌≡◌, ℤ, pos, get_or, ℕ, w64, SFits, cond, rules}
use mir.ValLaws.{to_z-of_z}
use Rattle.laws.proofs.WordLaws.{told, told₂}
use Rattle.seconds.specs.Seconds.{same_int}
use Rattle.buffer_state.specs.Batch.{field_in, is_flag, offered_in}
use Rattle.batch.proofs.offered_in.Goals as goal

pub returns : goal.returns
unfolding offered_in
returns c =
    let at : ℕ → ℤ = λ (i : ℕ). get_or c.args.row i (pos 0) in
    let flag : SFits w64 (at 4) = record { sfits = c.flag-1.given } in
    let track : c.field_in-track.result ≡ field_in (at 0) = told (at 0) (record { sfits = c.field_in-arg-1.given }) field_in c.field_in-track.ensures in
    let flagged : c.same_int-flagged.result ≡ same_int (at 4) (pos 1) = told (at 4) flag (λ z. same_int z (pos 1)) c.same_int-flagged.ensures in
    let duration : c.duration_in-duration.result ≡ cond (is_flag (at 4)) (field_in (at 3)) 0 =
    told₂ (at 4) (at 3) flag (record { sfits = c.duration_in-arg-1.given }) (λ y z. cond (is_flag y) (field_in z) 0) c.duration_in-duration.ensures in
    let pts : SFits w64 (at 1) = search rules in
    let dts : SFits w64 (at 2) = search rules in
    λ j. record { track = track j; flagged = flagged j; duration = duration j; pts = to_z-of_z w64 (at 1) pts j; dts = to_z-of_z w64 (at 2) dts j }
