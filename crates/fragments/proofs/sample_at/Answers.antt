use Rattle.std.proofs.Common.{sym, ap, ap₂, ◌∙◌, ◌+◌, ◌≤◌, arith, length, w64}
use mir.ValLaws.{to_z-of_z}
use Rattle.fragments.specs.Runs.{width_of, offset_by, flags_of, sample_at}
use Rattle.fragments.proofs.FragmentLaws.{there, field_is, row_fits}
use Rattle.fragments.proofs.sample_at.Goals as goal
use Rattle.fragments.proofs.sample_at.Goals.{After-sample_from-at}

-- the columns lie in the body
columns : (c : After-sample_from-at) → let a = c.args in c.sample_from-at.result + width_of a.r.word ≤ length a.b.now
columns c = omega (arith, c.sample_from-at.ensures, row_fits c.args.b.now c.args.r c.args.i c.requires.0 c.requires.1)

pub field_at-duration-requires : goal.field_at-duration-requires
field_at-duration-requires c e = omega (arith, columns (goal.at.field_at-duration-requires c).After-sample_from-at, there c.args.r.word 256 4 (sym c.flag_in.ensures ∙ e))

pub field_at-size-requires : goal.field_at-size-requires
field_at-size-requires c e = omega (arith, columns (goal.at.field_at-size-requires c).After-sample_from-at, c.size_column.ensures.0, there c.args.r.word 512 4 (sym c.flag_in-2.ensures ∙ e))

pub field_at-own-requires : goal.field_at-own-requires
field_at-own-requires c e = omega (arith, columns (goal.at.field_at-own-requires c).After-sample_from-at, c.flags_column.ensures.0, there c.args.r.word 1024 4 (sym c.flag_in-3.ensures ∙ e))

pub field_at-raw-requires : goal.field_at-raw-requires
field_at-raw-requires c e = omega (arith, columns (goal.at.field_at-raw-requires c).After-sample_from-at, c.offset_column.ensures.0, there c.args.r.word 2048 4 (sym c.flag_in-4.ensures ∙ e))

pub returns : goal.returns
unfolding sample_at
returns c =
    let a = c.args in
    let b = c.args.b.now in
    let at = c.sample_from-at.ensures in
    let duration = field_is b a.d.duration c.field_at-duration.ensures at c.flag_in.ensures in
    let size = field_is b a.d.size c.field_at-size.ensures (ap₂ ◌+◌ at c.size_column.ensures.0) c.flag_in-2.ensures in
    let own = field_is b a.d.flags c.field_at-own.ensures (ap₂ ◌+◌ at c.flags_column.ensures.0) c.flag_in-3.ensures in
    let raw = field_is b 0 c.field_at-raw.ensures (ap₂ ◌+◌ at c.offset_column.ensures.0) c.flag_in-4.ensures in
    let kept = to_z-of_z w64 c.offset_by-offset.result (record { sfits = c.offset_by-offset.type_inv }) in
    let offset = kept ∙ (c.offset_by-offset.ensures.0 ∙ ap (offset_by a.r.word) raw) in
    let flags = c.flags_of-flags.ensures ∙ ap (flags_of b a.r a.i) own in
    ((λ j. record { time = a.time; offset = offset j; duration = duration j; size = size j; flags = flags j }), rw kept c.offset_by-offset.ensures.1)
