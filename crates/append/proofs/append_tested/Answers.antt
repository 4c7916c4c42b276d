use Rattle.std.proofs.Common.{◌≡◌, refl, sym, ap, ◌∙◌, subst, true, false, ◌&&◌, ◌≤◌, arith, ne_eqb, leb, eqb, length, take, Err, rules, w64}
use mir.ValLaws.{to_z-of_z}
use Rattle.buffer_state.specs.declared.Refusal.TheVariants.{NoTrack, FrameLimits, LastNumber}
use Rattle.buffer_state.specs.Append.{is_offerable}
use Rattle.buffer_state.specs.Buffer.{Buffer}
use Rattle.buffer_state.specs.Layout.{buffer_of}
use Rattle.buffer_state.specs.Lent.{frames_of, state_at}
use Rattle.buffer_state.specs.Limits.{places, last_number}
use Rattle.buffer_laws.proofs.AnswerLaws.{answered}
use Rattle.heads.specs.declared.Passed.{Passed}
use Rattle.heads.specs.Heads.{decision, decided}
use Rattle.heads.proofs.PassLaws.{told-refused, IsLast, told-last}
use Rattle.append.specs.Settled.{pass_at, settled_result, IsReady, Before}
use Rattle.append.proofs.AnswerLaws.{refused-three, refused-four, refused-nine, stops, goes_on, state-head, state-track, last_pass-track, last_pass-count, last_pass-back, last_pass-ready}
use Rattle.append.proofs.StoredLaws.{held-head}
use Rattle.append.proofs.append_tested.Goals as goal
use Rattle.append.proofs.append_tested.Goals.{Start, Else-not-has_track, Else-not-is_offerable, Else-h, After-last_pass, In_ok-p}

-- the buffer that is held
abbrev held : Start → Buffer
held s = let a = s.args in buffer_of (state_at a.h.now a.times.now a.tags.now)

-- the call is as if lent so many lines
lines : places ≤ places
lines = omega arith

track : (c : Else-not-has_track) → let a = c.args in (leb 1 a.f.track && leb a.f.track a.h.now.ntracks) ≡ true
track c = sym c.has_track.ensures ∙ c.if-not-has_track.false

good : (c : Else-not-is_offerable) → is_offerable c.args.f ≡ true
good c = sym c.is_offerable.ensures ∙ c.if-not-is_offerable.false

abbrev at-start : Else-h → Start
at-start c = (goal.at.Else-h c).Start

number : (c : Else-h) → eqb (at-start c).args.h.now.last last_number ≡ false
number c = ne_eqb _ _ c.if-h.false

-- what both passes decide
told : (c : After-last_pass) → let s = at-start (goal.at.After-last_pass c).Else-h in c.last_pass.result ≡ decided (decision (held s) s.args.f)
told c = let s = at-start (goal.at.After-last_pass c).Else-h in c.last_pass.ensures (held s) (held-head s.args.h.now s.args.times.now s.args.tags.now s.requires.0)

-- nothing stops the frame, so the pass is the last
last : (c : In_ok-p) → let s = at-start (goal.at.In_ok-p c).Else-h in IsLast (held s) s.args.f c.in_ok-p.p
last c = told-last _ _ _ (sym c.in_ok-p.was ∙ told (goal.at.In_ok-p c).After-last_pass)

pub returns-then-not-has_track : goal.returns-then-not-has_track
returns-then-not-has_track c =
    let a = c.args in
    let told = answered a.h.now a.times.now a.tags.now a.fates.now (Err NoTrack)
    (refused-three _ a.f a.h.now a.times.now a.tags.now c.requires.0 lines (sym c.has_track.ensures ∙ c.if-not-has_track.true))
    refl refl refl refl refl in
    record { answer = told.0; head = told.1.0; times = told.1.1.0; tags = told.1.1.1.0; lines = told.1.1.1.1 }

pub returns-then-not-is_offerable : goal.returns-then-not-is_offerable
returns-then-not-is_offerable c =
    let a = c.args in
    let told = answered a.h.now a.times.now a.tags.now a.fates.now (Err FrameLimits)
    (refused-four _ a.f a.h.now a.times.now a.tags.now c.requires.0 lines (track (goal.at.returns-then-not-is_offerable c).Else-not-has_track) (sym c.is_offerable.ensures ∙ c.if-not-is_offerable.true))
    refl refl refl refl refl in
    record { answer = told.0; head = told.1.0; times = told.1.1.0; tags = told.1.1.1.0; lines = told.1.1.1.1 }

pub returns-then-h : goal.returns-then-h
returns-then-h c =
    let a = c.args in
    let told = answered a.h.now a.times.now a.tags.now a.fates.now (Err LastNumber)
    (refused-nine _ a.f a.h.now a.times.now a.tags.now c.requires.0 lines (track (goal.at.returns-then-h c).Else-not-has_track) (good (goal.at.returns-then-h c).Else-not-is_offerable) c.if-h.true)
    refl refl refl refl refl in
    record { answer = told.0; head = told.1.0; times = told.1.1.0; tags = told.1.1.1.0; lines = told.1.1.1.1 }

pub last_pass-requires : goal.last_pass-requires
last_pass-requires c =
    let a = c.args in
    (state-head a.h.now a.times.now a.tags.now c.requires.0, good (goal.at.last_pass-requires c).Else-not-is_offerable, state-track a.h.now a.times.now a.tags.now c.requires.0 a.f (track (goal.at.last_pass-requires c).Else-not-has_track))

pub returns-in_err-p : goal.returns-in_err-p
returns-in_err-p c =
    let a = c.args in
    let why = c.in_err-p.field-0.0 in
    let out : c.from_residual.result ≡ Err why = search rules in
    let told = answered a.h.now a.times.now a.tags.now a.fates.now (Err why)
    (stops _ a.f a.h.now a.times.now a.tags.now c.requires.0 lines (track (goal.at.returns-in_err-p c).Else-not-has_track) (good (goal.at.returns-in_err-p c).Else-not-is_offerable) (number (goal.at.returns-in_err-p c).Else-h) why
    (told-refused _ why (sym c.in_err-p.was ∙ told (goal.at.returns-in_err-p c).After-last_pass)))
    out refl refl refl refl in
    record { answer = told.0; head = told.1.0; times = told.1.1.0; tags = told.1.1.1.0; lines = told.1.1.1.1 }

pub settle-requires : goal.settle-requires
settle-requires c =
    let l = last (goal.at.settle-requires c).In_ok-p in
    let a = c.args in
    let w = c.requires.0 in
    let has = state-track a.h.now a.times.now a.tags.now w a.f (track (goal.at.settle-requires c).Else-not-has_track) in
    let own = last_pass-track a.h.now a.times.now a.tags.now w a.f in
    let count = last_pass-count a.h.now a.times.now a.tags.now w a.f in
    let ok =
    subst (λ (d : Passed). IsReady d.head a.times.now a.tags.now d.frame
    × Before d.frame.track a.bound (take d.head.nframes (frames_of a.times.now a.tags.now)) × (d.head.nframes ≤ length a.fates.now))
    (sym l.told)
    (last_pass-ready a.h.now a.times.now a.tags.now w a.f has (number (goal.at.settle-requires c).Else-h) l.inside l.group, rw (own, count) c.requires.1, omega (arith, count, c.requires.2)) in
    (ok.0, rw (to_z-of_z w64 a.bound c.ranges.bound) ok.1, ok.2, c.requires.3)

pub returns : goal.returns
returns c =
    let l = last (goal.at.returns c).In_ok-p in
    let a = c.args in
    let w = c.requires.0 in
    let back =
    ap (λ (d : Passed). settled_result (pass_at d.head a.times.now a.tags.now d.frame)) l.told
    ∙ ap settled_result (last_pass-back a.h.now a.times.now a.tags.now w a.f) in
    let e = c.settle.ensures in
    let told = answered a.h.now a.times.now a.tags.now a.fates.now _
    (goes_on _ a.f a.h.now a.times.now a.tags.now w lines (track (goal.at.returns c).Else-not-has_track) (good (goal.at.returns c).Else-not-is_offerable) (number (goal.at.returns c).Else-h) l.inside l.group ∙ sym back)
    e.answer e.head e.times e.tags e.lines in
    record { answer = told.0; head = told.1.0; times = told.1.1.0; tags = told.1.1.1.0; lines = told.1.1.1.1 }
