use Rattle.std.proofs.Common.{◌≡◌, sym, ap, subst, ◌∙◌, true, ◌&&◌, arith, leb-true, leb, ltb-true, ne_eqb, eqb, ◌||◌}
use lib.Signed.{le_z}
use Rattle.laws.proofs.BoolLaws.{and_left, and_right}
use Rattle.laws.proofs.WordLaws.{told}
use Rattle.buffer_state.specs.declared.Head.{Head}
use Rattle.buffer_state.specs.Append.{Pass, is_overlapped}
use Rattle.buffer_state.specs.Buffer.{Buffer}
use Rattle.buffer_state.specs.Lent.{head_of}
use Rattle.buffer_state.specs.Limits.{result_time, last_number}
use Rattle.buffer_laws.proofs.AppendLaws.{last-from, last_pass-good}
use Rattle.buffer_laws.proofs.GoodLaws.{good-facts}
use Rattle.buffer_laws.proofs.LayoutLaws.{few-tracks}
use Rattle.heads.specs.Heads.{HasTrack, IsCalm}
use Rattle.append.specs.Settled.{Follows}
use Rattle.buffer_state.specs.declared.Offered.{Offered}
use Rattle.buffer_state.specs.declared.Track.{Track}
use Rattle.heads.proofs.PassLaws.{some-same}
use Rattle.append.proofs.SpanLaws.{unspanned}
use Rattle.append.proofs.follows.Goals as goal
use Rattle.append.proofs.follows.Goals.{Start, Else-not-has_track, Else-h-eq-LAST_NUMBER, In_ok-g}

has : (c : Else-not-has_track) → let a = c.args in (leb 1 a.f.track && leb a.f.track a.h.ntracks) ≡ true
has c = sym c.has_track.ensures ∙ c.if-not-has_track.false

abbrev start : Else-h-eq-LAST_NUMBER → Start
start c = (goal.at.Else-h-eq-LAST_NUMBER c).Start

track : (c : Else-h-eq-LAST_NUMBER) → HasTrack (start c).args.h (start c).args.f.track
track c =
    let s = start c in
    let a = s.args in
    let t = has (goal.at.Else-h-eq-LAST_NUMBER c).Else-not-has_track in
    let few = few-tracks s.requires.held s.requires.good in
    let count = ap (λ (k : Head). k.ntracks) s.requires.laid in
    (leb-true 1 a.f.track (and_left _ _ t), leb-true a.f.track a.h.ntracks (and_right (leb 1 a.f.track) _ t), omega (arith, few, count))

abbrev tested : In_ok-g → Else-h-eq-LAST_NUMBER
tested c = (goal.at.In_ok-g c).Else-h-eq-LAST_NUMBER

calm : (c : In_ok-g) (b : Buffer) → (start (tested c)).args.h ≡ head_of b → IsCalm b (start (tested c)).args.f c.in_ok-g.g
calm c b e = c.steady_frame.ensures b e _ c.in_ok-g.was

-- is on the same track
own : (c : In_ok-g) → HasTrack (start (tested c)).args.h c.in_ok-g.g.track
own c =
    let s = start (tested c) in
    let g = s.requires in
    let same = ap (λ (p : Pass). p.frame.track) (sym (calm c g.held g.laid).last) ∙ (last-from g.held s.args.f).frame.track in
    subst (HasTrack s.args.h) (sym same) (track (tested c))

-- and inside the limits
shown : (c : In_ok-g) → result_time c.in_ok-g.g.pts ≡ true
shown c =
    let s = start (tested c) in
    let g = s.requires in
    let k = calm c g.held g.laid in
    ap (λ (p : Pass). result_time p.frame.pts) (sym k.last) ∙ (last_pass-good g.held s.args.f (good-facts g.held g.good) k.inside k.group).fit.pts

pub drop_cause-requires : goal.drop_cause-requires
drop_cause-requires c = (own (goal.at.drop_cause-requires c).In_ok-g, shown (goal.at.drop_cause-requires c).In_ok-g)

pub track_of-requires : goal.track_of-requires
track_of-requires c = own (goal.at.track_of-requires c).In_ok-g

pub span_of-span-requires : goal.span_of-span-requires
span_of-span-requires c = shown (goal.at.span_of-span-requires c).In_ok-g

pub returns-then-is_free-h : goal.returns-then-is_free-h
returns-then-is_free-h c =
    λ b e g some.
    let a = c.args in
    let d = (goal.at.returns-then-is_free-h c).In_ok-g in
    let free : (le_z a.bound c.span_of-span.result.start || le_z c.span_of-span.result.end c.span_of-span.result.start) ≡ true =
    sym (told a.bound c.ranges.bound (λ z. le_z z c.span_of-span.result.start || le_z c.span_of-span.result.end c.span_of-span.result.start) c.is_free.ensures) ∙ and_left _ _ c.if-is_free-h.true in
    subst (λ (x : Offered). Follows b a.f x a.bound) (some-same some)
    (record {
      track = ap (λ (k : Head). leb 1 a.f.track && leb a.f.track k.ntracks) (sym e) ∙ has (goal.at.Else-h-eq-LAST_NUMBER (tested d)).Else-not-has_track;
      offered = sym c.is_offerable.ensures ∙ c.if-not-is_offerable.false;
      number = ap (λ (k : Head). eqb k.last last_number) (sym e) ∙ ne_eqb _ _ c.if-h-eq-LAST_NUMBER.false;
      calm = calm d b e;
      stays = sym (c.drop_cause.ensures b e) ∙ c.if-drop_cause-ne0.false;
      free = λ x early. ap (λ (t : Track). is_overlapped t c.in_ok-g.g x) (sym (c.track_of.ensures b e)) ∙ sym (c.span_of-span.ensures x) ∙ unspanned _ c.span_of-span.result a.bound free x early;
      room = omega (arith, ltb-true a.h.nframes 1024 (and_right c.is_free.result _ c.if-is_free-h.true), ap (λ (k : Head). k.nframes) e);
    })
