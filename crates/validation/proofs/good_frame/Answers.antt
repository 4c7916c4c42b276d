use Rattle.std.proofs.Common.{◌≡◌, sym, ◌∙◌, true, false, ◌&&◌, leb, le-leb, rules}
use borrow.Author.Tests.{lt-leb}
use Rattle.laws.proofs.WordLaws.{told}
use Rattle.buffer_state.specs.Limits.{result_time, good_duration}
use Rattle.validation.proofs.ExamineLaws.{frame-in-order}
use Rattle.validation.proofs.good_frame.Goals as goal
use Rattle.validation.proofs.good_frame.Goals.{Else-not-f-tracks, Else-not-f-last, Else-group-f, After-good_duration, After-result_time}

-- what each test said
on-track : (c : Else-not-f-tracks) → let a = c.args in (leb 1 a.f.track && leb a.f.track a.tracks) ≡ true
on-track c = c.if-not-f-tracks.false

numbered : (c : Else-not-f-last) → let a = c.args in (leb 1 a.f.number && leb a.f.number a.last) ≡ true
numbered c = c.if-not-f-last.false

grouped : (c : Else-group-f) → let a = c.args in leb a.f.group a.group ≡ true
grouped c = let a = c.args in le-leb a.f.group a.group c.if-group-f.false

lasting : (c : After-good_duration) → c.good_duration.result ≡ good_duration c.args.f.duration
lasting c = c.good_duration.ensures

decoded : (c : After-result_time) → c.result_time.result ≡ result_time c.args.f.dts
decoded c = told c.args.f.dts (search rules) result_time c.result_time.ensures

pub returns-then-not-f-tracks : goal.returns-then-not-f-tracks
returns-then-not-f-tracks c =
    let a = c.args in
    let e : (leb 1 a.f.track && leb a.f.track a.tracks) ≡ false = c.if-not-f-tracks.true in
    sym (frame-in-order a.tracks a.last a.group a.f ∙ rw e)

pub returns-then-not-f-last : goal.returns-then-not-f-last
returns-then-not-f-last c =
    let a = c.args in
    let e : (leb 1 a.f.number && leb a.f.number a.last) ≡ false = c.if-not-f-last.true in
    sym (frame-in-order a.tracks a.last a.group a.f ∙ rw (on-track (goal.at.returns-then-not-f-last c).Else-not-f-tracks, e))

pub returns-then-group-f : goal.returns-then-group-f
returns-then-group-f c =
    let a = c.args in
    let e : leb a.f.group a.group ≡ false = lt-leb a.f.group a.group c.if-group-f.true in
    sym (frame-in-order a.tracks a.last a.group a.f ∙ rw (on-track (goal.at.returns-then-group-f c).Else-not-f-tracks, numbered (goal.at.returns-then-group-f c).Else-not-f-last, e))

pub returns-then-not-good_duration : goal.returns-then-not-good_duration
returns-then-not-good_duration c =
    let a = c.args in
    let e : good_duration a.f.duration ≡ false = sym (lasting (goal.at.returns-then-not-good_duration c).After-good_duration) ∙ c.if-not-good_duration.true in
    sym (frame-in-order a.tracks a.last a.group a.f ∙ rw (on-track (goal.at.returns-then-not-good_duration c).Else-not-f-tracks, numbered (goal.at.returns-then-not-good_duration c).Else-not-f-last, grouped (goal.at.returns-then-not-good_duration c).Else-group-f, e))

pub returns-then-not-result_time : goal.returns-then-not-result_time
returns-then-not-result_time c =
    let a = c.args in
    let d : good_duration a.f.duration ≡ true = sym (lasting (goal.at.returns-then-not-result_time c).After-good_duration) ∙ c.if-not-good_duration.false in
    let e : result_time a.f.dts ≡ false = sym (decoded (goal.at.returns-then-not-result_time c).After-result_time) ∙ c.if-not-result_time.true in
    sym (frame-in-order a.tracks a.last a.group a.f ∙ rw (on-track (goal.at.returns-then-not-result_time c).Else-not-f-tracks, numbered (goal.at.returns-then-not-result_time c).Else-not-f-last, grouped (goal.at.returns-then-not-result_time c).Else-group-f, d, e))

pub returns : goal.returns
returns c =
    let a = c.args in
    let d : good_duration a.f.duration ≡ true = sym (lasting (goal.at.returns c).After-good_duration) ∙ c.if-not-good_duration.false in
    let t : result_time a.f.dts ≡ true = sym (decoded (goal.at.returns c).After-result_time) ∙ c.if-not-result_time.false in
    c.good_span.ensures ∙ sym (frame-in-order a.tracks a.last a.group a.f ∙ rw (on-track (goal.at.returns c).Else-not-f-tracks, numbered (goal.at.returns c).Else-not-f-last, grouped (goal.at.returns c).Else-group-f, d, t))
