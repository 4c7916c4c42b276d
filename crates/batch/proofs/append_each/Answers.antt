use Rattle.std.proofs.Common.{◌≡◌, sym, ap, subst, ◌∙◌, ◌∷◌, map, ◌+◌, ◌≤◌, ◌<◌, arith, rules, ℤ, length, drop, drop_of_length-le, w64, of_z, to_z, SFits, ℕ, Ok, None}
use lib.ListN.{length-map}
use lib.Signed.{le_z}
use mir.ValLaws.{to_z-of_z}
use Rattle.buffer_state.specs.declared.Offered.{Offered}
use Rattle.buffer_state.specs.Answers.{append_result}
use Rattle.buffer_state.specs.Append.{Outcome}
use Rattle.buffer_state.specs.Batch.{offered_in, most_frames}
use Rattle.buffer_state.specs.Layout.{buffer_of}
use Rattle.buffer_state.specs.Lent.{state_at}
use Rattle.buffer_state.specs.Limits.{places}
use Rattle.buffer_state.specs.Refusals.{CallResult}
use Rattle.append.specs.Settled.{Before}
use Rattle.append.proofs.StoredLaws.{held-count, held-store}
use Rattle.batch.specs.Bounds.{bound_at}
use Rattle.batch.specs.Each.{each_at, Going}
use Rattle.heads.specs.Heads.{HasTrack}
use Rattle.batch.proofs.BoundLaws.{bounds-own, set-raised, set-high}
use Rattle.batch.proofs.EachLaws.{rows_next, going-first, room-left, result-held, ends, stops, track-kept, goes}
use Rattle.batch.proofs.append_each.Goals as goal
use Rattle.batch.proofs.append_each.Goals.{Start, At-loop-i, In-loop-i, After-bound_of-bound, After-append_at, In-Ok, After-bound_after}

abbrev start : At-loop-i → Start
start d = (goal.at.At-loop-i d).Start

abbrev going : (d : At-loop-i)
    → let a = (start d).args in
    let l = d.loop-i in
    Going (buffer_of (state_at a.h.now a.times.now a.tags.now)) (map offered_in a.frames.now) a.fates.now l.i l.h l.times l.tags l.bounds l.at l.fates
going d = d.loop-i.invariant

few : (d : At-loop-i) → let a = (start d).args in length (map offered_in a.frames.now) ≤ most_frames
few d = let s = start d in omega (arith, length-map s.args.frames.now offered_in, s.requires.1)

stored : (d : At-loop-i) → let a = (start d).args in length (buffer_of (state_at a.h.now a.times.now a.tags.now)).frames ≤ places
stored d =
    let s = start d in
    let a = s.args in
    omega (arith, held-count a.h.now a.times.now a.tags.now s.requires.0, (held-store a.h.now a.times.now a.tags.now s.requires.0).few)

-- the turn's frame, and the result of its append
abbrev in-loop : After-bound_of-bound → In-loop-i
in-loop w = (goal.at.After-bound_of-bound w).In-loop-i

abbrev at-loop : After-bound_of-bound → At-loop-i
at-loop w = (in-loop w).before

abbrev offered : After-bound_of-bound → Offered
offered w = w.offered_in-f.result

next : (w : After-bound_of-bound)
    → let d = at-loop w in
    let fs = map offered_in (start d).args.frames.now in
    drop d.loop-i.i fs ≡ offered w ∷ drop (d.loop-i.i + 1) fs
next w =
    let d = at-loop w in
    let rows = (start d).args.frames.now in
    rows_next rows d.loop-i.i (in-loop w).loop-i-test.true
    ∙ ap (λ (f : Offered). f ∷ drop (d.loop-i.i + 1) (map offered_in rows)) (sym w.offered_in-f.ensures)

abbrev asked : After-append_at → After-bound_of-bound
asked t = (goal.at.After-append_at t).After-bound_of-bound

abbrev result : After-append_at → CallResult Outcome
result t = let l = (at-loop (asked t)).loop-i in append_result places (offered (asked t)) l.h l.times l.tags

-- it is accepted: so many lines, and its track is still one of the head's
abbrev accepted : In-Ok → After-append_at
accepted c = (goal.at.In-Ok c).After-append_at

kept_on : (n : In-Ok) → HasTrack (accepted n).append_at.new.h (offered (asked (accepted n))).track
kept_on n =
    let t = accepted n in
    let d = at-loop (asked t) in
    let a = (start d).args in
    let k = d.loop-i in
    track-kept _ _ a.fates.now k.i k.h k.times k.tags k.bounds k.at k.fates (going d) (offered (asked t)) (next (asked t)) (result t)
    (result-held _ _ a.fates.now k.i k.h k.times k.tags k.bounds k.at k.fates (going d) (offered (asked t))) _ n.in-Ok.ensures.answer n.in-Ok.ensures.head

pub loop-i-init : goal.loop-i-init
loop-i-init c =
    let a = c.args in
    going-first a.h.now a.times.now a.tags.now c.requires.0 (map offered_in a.frames.now) a.fates.now c.bounds_of-bounds.result c.bounds_of-bounds.ensures

pub append_at-requires : goal.append_at-requires
append_at-requires c =
    let w = (goal.at.append_at-requires c).After-bound_of-bound in
    let d = at-loop w in
    let s = start d in
    let a = s.args in
    let l = d.loop-i in
    let g = going d in
    let frames = (buffer_of (state_at l.h l.times l.tags)).frames in
    let bound : to_z w64 (of_z w64 c.bound_of-bound.result) ≡ c.bound_of-bound.result = to_z-of_z w64 c.bound_of-bound.result (search rules) in (
      g.whole,
      subst (λ (z : ℤ). Before (offered w).track z frames) (sym (bound ∙ c.bound_of-bound.ensures)) (bounds-own l.bounds frames g.bounded (offered w).track),
      room-left _ _ a.fates.now l.i l.h l.times l.tags l.bounds l.at l.fates g (few d) s.requires.2 (stored d) (omega (arith, length-map a.frames.now offered_in, (in-loop w).loop-i-test.true)),
    )

pub bounds-bounds-k : goal.bounds-bounds-k
bounds-bounds-k c = let h = kept_on (goal.at.bounds-bounds-k c).In-Ok in omega (arith, h.1, h.2)

pub bound_after-requires : goal.bound_after-requires
bound_after-requires c = kept_on (goal.at.bound_after-requires c).In-Ok

pub bounds-bounds-k-in-Ok : goal.bounds-bounds-k-in-Ok
bounds-bounds-k-in-Ok c = let h = kept_on (goal.at.bounds-bounds-k-in-Ok c).In-Ok in omega (arith, h.1, h.2)

pub returns-in-Err : goal.returns-in-Err
unfolding each_at
returns-in-Err c =
    let t = (goal.at.returns-in-Err c).After-append_at in
    let d = at-loop (asked t) in
    let a = (start d).args in
    let k = d.loop-i in
    let e = c.in-Err.ensures in
    let told = stops _ _ a.fates.now k.i k.h k.times k.tags k.bounds k.at k.fates (going d) (offered (asked t)) (next (asked t)) (result t)
    (result-held _ _ a.fates.now k.i k.h k.times k.tags k.bounds k.at k.fates (going d) (offered (asked t))) c.in-Err.why e.answer a.h.now e.head e.times e.tags e.lines in
    record { answer = told.0; head = told.1.0; times = told.1.1.0; tags = told.1.1.1.0; lines = told.1.1.1.1 }

pub loop-i-preserved : goal.loop-i-preserved
loop-i-preserved c =
    let o = (goal.at.loop-i-preserved c).In-Ok in
    let t = accepted o in
    let d = at-loop (asked t) in
    let a = (start d).args in
    let k = d.loop-i in
    let g = going d in
    let e = c.in-Ok.ensures in
    let h = kept_on o in
    let track = (offered (asked t)).track in
    let inside : track < length k.bounds = omega (arith, g.bounded.five, h.1, h.2) in
    let new : to_z w64 (of_z w64 c.bound_after.result) ≡ c.bound_after.result = to_z-of_z w64 c.bound_after.result (search rules) in
    let before : SFits w64 (bound_at k.bounds track) = search rules in
    let old = to_z-of_z w64 _ before in
    goes _ _ a.fates.now k.i k.h k.times k.tags k.bounds k.at k.fates g (offered (asked t)) (next (asked t)) (result t)
    (result-held _ _ a.fates.now k.i k.h k.times k.tags k.bounds k.at k.fates g (offered (asked t))) _ e.answer e.head e.times e.tags e.lines
    (set-raised k.bounds track _ inside (rw new (ap (λ (z : ℤ). le_z z c.bound_after.result) (sym old) ∙ c.bound_after.ensures.0)))
    (set-high k.bounds track _ inside c.append_at.new.h (rw new c.bound_after.ensures.1))

pub returns : goal.returns
unfolding each_at
returns c =
    let d = (goal.at.returns c).At-loop-i in
    let a = (start d).args in
    let k = c.loop-i in
    let all : k.i ≡ length a.frames.now = omega (arith, c.loop-i.auto.i-end, c.loop-i-test.false) in
    let told = ends _ _ a.fates.now k.i k.h k.times k.tags k.bounds k.at k.fates (going d) (drop_of_length-le (map offered_in a.frames.now) {i = k.i} (omega (arith, length-map a.frames.now offered_in, all))) a.h.now in
    record { answer = ap (λ (n : ℕ). Ok (record { frames = n; lines = k.at; stop = None })) (sym all) ∙ told.0; head = told.1.0; times = told.1.1.0; tags = told.1.1.1.0; lines = told.1.1.1.1 }
