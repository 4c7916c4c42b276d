use Rattle.std.proofs.Common.{◌≡◌, sym, ◌∙◌, true, false, ◌&&◌, ◌≤◌, arith, length, rules}
use Rattle.buffer_state.specs.Lent.{well_formed_at}
use Rattle.validation.specs.Tests.{head_test, frames_test}
use Rattle.validation.proofs.WholeLaws.{too_many, well_formed-parts, head-width}
use Rattle.validation.proofs.is_well_formed.Goals as goal
use Rattle.validation.proofs.is_well_formed.Goals.{Start, Else-n-gt-PLACES}

full : (c : Start) → length c.args.h.tracks ≡ 4
full c = c.well_formed.0.1.1.0.1.0.1

parts : (c : Else-n-gt-PLACES) → let a = c.args in
    well_formed_at a.h a.times.now a.tags.now ≡ (head_test a.h && frames_test a.h.nframes a.h.ntracks a.h.last a.h.group.number a.times.now a.tags.now)
parts c =
    let a = c.args in
    let last : a.h.last ≤ 4294967295 = search rules in
    well_formed-parts a.h a.times.now a.tags.now c.requires (full (goal.at.Else-n-gt-PLACES c).Start) c.if-n-gt-PLACES.false last

pub returns-then-n-gt-PLACES : goal.returns-then-n-gt-PLACES
returns-then-n-gt-PLACES c = sym (too_many c.args.h c.args.times.now c.args.tags.now c.requires (full (goal.at.returns-then-n-gt-PLACES c).Start) c.if-n-gt-PLACES.true)

pub returns-then-not-good_head : goal.returns-then-not-good_head
returns-then-not-good_head c =
    let e : head_test c.args.h ≡ false = sym c.good_head.ensures ∙ c.if-not-good_head.true in
    sym (parts (goal.at.returns-then-not-good_head c).Else-n-gt-PLACES ∙ rw e)

pub overflow_cast-tracks : goal.overflow_cast-tracks
overflow_cast-tracks c =
    let e : head_test c.args.h ≡ true = sym c.good_head.ensures ∙ c.if-not-good_head.false in
    record { fits = omega (arith, head-width c.args.h e) }

pub returns : goal.returns
returns c =
    let e : head_test c.args.h ≡ true = sym c.good_head.ensures ∙ c.if-not-good_head.false in
    c.good_frames.ensures ∙ sym (parts (goal.at.returns c).Else-n-gt-PLACES ∙ rw e)
