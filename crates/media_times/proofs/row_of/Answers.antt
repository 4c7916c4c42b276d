use Rattle.std.proofs.Common.{Bool, true, false, cond, ℕ, ◌/◌, ◌%◌, [], ◌∷◌, refl, ◌≡◌, ap, ap₂, ◌∙◌, ◌<◌, arith, ℤ, pos, ◌+ℤ◌, w64, SFits, to_z, of_z, rules}
use lib.Dec.{eqb}
use mir.Val.{bool_byte}
use mir.ValLaws.{to_z-of_z, to_z_pos}
use Rattle.media_times.specs.MediaTimes.{micros_of, pts_of, dts_of, end_of, duration_of, row_of}
use Rattle.media_times.proofs.RoundLaws.{fits, kept}
use Rattle.media_times.proofs.LimitLaws.{scale-some, presented-small, end-small, duration-small}
use Rattle.media_times.proofs.row_of.Goals as goal
use Rattle.media_times.proofs.row_of.Goals.{Start, After-presented-t, After-micros-pts, After-micros-dts, After-from, After-micros-end}

-- a test as a number
flag : (b : Bool) → bool_byte b ≡ cond b 1 0
flag true = refl
flag false = refl

short : (c : Start) → c.args.s.duration < 4294967296
short c = search rules

shown : (c : After-presented-t) → let s = c.args.s in to_z w64 (of_z w64 c.presented-t.result) ≡ pos s.time +ℤ s.offset
shown c = kept c.presented-t.result c.presented-t.type_inv ∙ c.presented-t.ensures

decoded : (c : Start) → let s = c.args.s in to_z w64 s.time ≡ pos s.time
decoded c = to_z_pos w64 c.args.s.time (omega (arith, c.requires.1.1))

ended : (c : After-from) → let s = c.args.s in
    to_z w64 (of_z w64 c.presented-t.result) +ℤ to_z w64 (of_z w64 c.from.result) ≡ pos s.time +ℤ s.offset +ℤ pos s.duration
ended c = ap₂ ◌+ℤ◌ (shown (goal.at.After-from c).After-presented-t) (kept c.from.result c.from.type_inv ∙ c.from.ensures)

ended-fits : (c : Start) → let s = c.args.s in SFits w64 (pos s.time +ℤ s.offset +ℤ pos s.duration)
ended-fits c = let s = c.args.s in fits (pos s.time +ℤ s.offset +ℤ pos s.duration) (omega (arith, end-small s c.requires.1.1 c.requires.1.0 (short c)))

-- the converted times
pts-is : (c : After-micros-pts) → let a = c.args in to_z w64 (of_z w64 c.micros-pts.result) ≡ pts_of a.scale a.s
pts-is c = kept c.micros-pts.result c.micros-pts.type_inv ∙ c.micros-pts.ensures ∙ ap (λ (z : ℤ). micros_of z c.args.scale) (shown (goal.at.After-micros-pts c).After-presented-t)

dts-is : (c : After-micros-dts) → let a = c.args in to_z w64 (of_z w64 c.micros-dts.result) ≡ dts_of a.scale a.s
dts-is c = kept c.micros-dts.result c.micros-dts.type_inv ∙ c.micros-dts.ensures ∙ ap (λ (z : ℤ). micros_of z c.args.scale) (decoded (goal.at.After-micros-dts c).Start)

end_is : (c : After-micros-end) → let a = c.args in to_z w64 (of_z w64 c.micros-end.result) ≡ end_of a.scale a.s
end_is c =
    kept c.micros-end.result c.micros-end.type_inv ∙ c.micros-end.ensures
    ∙ ap (λ (z : ℤ). micros_of (to_z w64 (of_z w64 z)) c.args.scale) (ended (goal.at.After-micros-end c).After-from)
    ∙ ap (λ (z : ℤ). micros_of z c.args.scale) (to_z-of_z w64 _ (ended-fits (goal.at.After-micros-end c).Start))

duration-fits : (c : Start) → SFits w64 (duration_of c.args.scale c.args.s)
duration-fits c = fits (duration_of c.args.scale c.args.s) (duration-small c.args.s c.requires.1.1 c.requires.1.0 (short c) c.args.scale)

pub micros-pts-requires : goal.micros-pts-requires
micros-pts-requires c = (scale-some c.args.scale c.requires.0, rw (shown c) (omega (arith, presented-small c.args.s c.requires.1.1 c.requires.1.0)))

pub micros-dts-requires : goal.micros-dts-requires
micros-dts-requires c = (scale-some c.args.scale c.requires.0, rw (decoded (goal.at.micros-dts-requires c).Start) (omega (arith, c.requires.1.1)))

pub micros-end-requires : goal.micros-end-requires
micros-end-requires c =
    let s = c.args.s in
    (scale-some c.args.scale c.requires.0, rw (ended c, to_z-of_z w64 (pos s.time +ℤ s.offset +ℤ pos s.duration) (ended-fits (goal.at.micros-end-requires c).Start)) (omega (arith, end-small s c.requires.1.1 c.requires.1.0 (short (goal.at.micros-end-requires c).Start))))

pub overflow_sub-result : goal.overflow_sub-result
overflow_sub-result c = rw (end_is (goal.at.overflow_sub-result c).After-micros-end, pts-is (goal.at.overflow_sub-result c).After-micros-pts) (duration-fits (goal.at.overflow_sub-result c).Start)

pub returns : goal.returns
unfolding row_of
returns c =
    let s = c.args.s in
    let w = goal.at.returns c in
    rw (
      pts-is w.After-micros-pts,
      dts-is w.After-micros-dts,
      end_is w.After-micros-end,
      to_z-of_z w64 (duration_of c.args.scale s) (duration-fits w.Start),
      kept c.from-2.result c.from-2.type_inv,
      c.from-2.ensures,
      kept c.from-3.result c.from-3.type_inv,
      c.from-3.ensures,
      kept c.from-4.result c.from-4.type_inv,
      c.from-4.ensures,
    )
    (ap (λ (n : ℕ). pos c.args.track ∷ pts_of c.args.scale s ∷ dts_of c.args.scale s ∷ duration_of c.args.scale s ∷ pos n ∷ pos s.size ∷ []) (flag (eqb (s.flags / 65536 % 2) 0)))
