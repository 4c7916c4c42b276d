use Rattle.std.proofs.Common.{◌≡◌, refl, sym, ◌∙◌, ◌^◌, ◌<◌, rules, w64, SFits, to_z, of_z}
use borrow.Author.Tests.{not-true, not-false}
use lib.Signed.{lt_z}
use mir.ValLaws.{to_z-of_z}
use Rattle.laws.proofs.WordLaws.{told₂}
use Rattle.buffer_state.specs.Append.{end_offered}
use Rattle.limits.proofs.LimitLaws.{end_fits}
use Rattle.append.proofs.SpanLaws.{spans-own, spans-none, spans_on}
use Rattle.append.proofs.span_of.Goals as goal
use Rattle.append.proofs.span_of.Goals.{Start, After-end_offered-e, After-below}

shown : (c : Start) → SFits w64 c.args.f.pts
shown c = search rules

lasting : (c : Start) → c.args.f.duration < 2 ^ 32
lasting c = search rules

reached : (c : Start) → SFits w64 c.args.t.end
reached c = search rules

-- the end of the new frame
ended : (c : After-end_offered-e) → SFits w64 c.end_offered-e.result
ended c = rw c.end_offered-e.ensures (end_fits c.args.f.pts c.args.f.duration c.requires (lasting (goal.at.After-end_offered-e c).Start))

end-told : (c : After-end_offered-e) → to_z w64 (of_z w64 c.end_offered-e.result) ≡ end_offered c.args.f
end-told c = to_z-of_z w64 c.end_offered-e.result (ended c) ∙ c.end_offered-e.ensures

-- highest end is above P
above : (c : After-below) → let a = c.args in c.below.result ≡ lt_z a.f.pts a.t.end
above c = told₂ c.args.f.pts c.args.t.end (shown (goal.at.After-below c).Start) (reached (goal.at.After-below c).Start) lt_z c.below.ensures

pub returns-then-not-t : goal.returns-then-not-t
returns-then-not-t c = spans-own c.args.t c.args.f _ (not-true _ c.if-not-t.true) (to_z-of_z w64 c.args.f.pts (shown (goal.at.returns-then-not-t c).Start)) (end-told (goal.at.returns-then-not-t c).After-end_offered-e)

pub returns-then-below : goal.returns-then-below
returns-then-below c =
    let z = to_z w64 (of_z w64 c.end_offered-e.result) in
    spans-none c.args.t c.args.f (record { start = z; end = z }) (not-false _ c.if-not-t.false) (sym (above (goal.at.returns-then-below c).After-below) ∙ c.if-below.true) refl

pub returns : goal.returns
returns c = spans_on c.args.t c.args.f _ (not-false _ c.if-not-t.false) (sym (above (goal.at.returns c).After-below) ∙ c.if-below.false) (to_z-of_z w64 c.args.t.end (reached (goal.at.returns c).Start)) (end-told (goal.at.returns c).After-end_offered-e)
