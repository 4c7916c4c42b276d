use Rattle.std.proofs.Common.{◌≡◌, sym, ap, ◌∙◌, not, ◌&&◌, ◌^◌, ◌<◌, rules, ℤ, w64, SFits}
use lib.Signed.{lt_z}
use Rattle.laws.proofs.WordLaws.{told₂}
use Rattle.buffer_state.specs.declared.Track.{Track}
use Rattle.buffer_state.specs.Append.{Pass, end_offered, before_window, above, past_window, lacks_random_access}
use Rattle.buffer_state.specs.Buffer.{Buffer}
use Rattle.limits.proofs.LimitLaws.{end_fits}
use Rattle.buffer_state.specs.declared.Head.{Head}
use Rattle.buffer_state.specs.Lent.{head_of}
use Rattle.heads.proofs.CauseLaws.{cause-one, cause-two, cause-three, cause-none}
use Rattle.heads.proofs.drop_cause.Goals as goal
use Rattle.heads.proofs.drop_cause.Goals.{Start, After-below, After-past_window, After-track_of-t}

shown : (c : Start) → SFits w64 c.args.g.pts
shown c = search rules

lasting : (c : Start) → c.args.g.duration < 2 ^ 32
lasting c = search rules

opened : (c : Start) → SFits w64 c.args.h.settings.start.micros
opened c = search rules

closed : (c : Start) → SFits w64 c.args.h.settings.limit
closed c = search rules

abbrev passed : (c : Start) → Buffer → Pass
passed c b = record { buffer = b; frame = c.args.g }

-- the start, from where each test was made
abbrev at₁ : After-below → Start
at₁ c = (goal.at.After-below c).Start

abbrev at₂ : After-past_window → Start
at₂ c = at₁ (goal.at.After-past_window c).After-below

abbrev at₃ : After-track_of-t → Start
at₃ c = at₂ (goal.at.After-track_of-t c).After-past_window

-- step 4's answer
early : (c : After-below) (b : Buffer) → let s = at₁ c in s.args.h ≡ head_of b → c.below.result ≡ before_window (passed s b)
early c b e =
    let s = at₁ c in
    let g = s.args.g in
    told₂ g.pts s.args.h.settings.start.micros (shown s) (opened s) lt_z c.below.ensures ∙ ap (λ (k : Head). lt_z g.pts k.settings.start.micros) e

-- step 5's answer
long : (c : After-past_window) (b : Buffer) → let s = at₂ c in s.args.h ≡ head_of b → c.past_window.result ≡ past_window (passed s b)
long c b e =
    let s = at₂ c in
    let h = s.args.h in
    let g = s.args.g in
    let ended : SFits w64 c.end_offered.result = rw c.end_offered.ensures (end_fits g.pts g.duration s.requires.1 (lasting s)) in
    told₂ h.settings.limit c.end_offered.result (closed s) ended (above h.settings.end) c.past_window.ensures
    ∙ ap (λ (z : ℤ). above h.settings.end h.settings.limit z) c.end_offered.ensures
    ∙ ap (λ (k : Head). above k.settings.end k.settings.limit (end_offered g)) e

-- step 6's answer
unaided : (c : After-track_of-t) (b : Buffer) → let s = at₃ c in s.args.h ≡ head_of b
    → (c.track_of-t.result.need && not s.args.g.flagged) ≡ lacks_random_access (passed s b)
unaided c b e =
    let s = at₃ c in
    ap (λ (t : Track). t.need && not s.args.g.flagged) (c.track_of-t.ensures b e)

pub returns-then-below : goal.returns-then-below
returns-then-below c =
    let s = at₁ (goal.at.returns-then-below c).After-below in
    λ b e. cause-one (passed s b) (sym (early (goal.at.returns-then-below c).After-below b e) ∙ c.if-below.true)

pub returns-then-past_window : goal.returns-then-past_window
returns-then-past_window c =
    let s = at₁ (goal.at.returns-then-past_window c).After-below in
    λ b e. cause-two (passed s b) (sym (early (goal.at.returns-then-past_window c).After-below b e) ∙ c.if-below.false) (sym (long (goal.at.returns-then-past_window c).After-past_window b e) ∙ c.if-past_window.true)

pub returns-then-t-g : goal.returns-then-t-g
returns-then-t-g c =
    let s = at₁ (goal.at.returns-then-t-g c).After-below in
    λ b e. cause-three (passed s b) (sym (early (goal.at.returns-then-t-g c).After-below b e) ∙ c.if-below.false) (sym (long (goal.at.returns-then-t-g c).After-past_window b e) ∙ c.if-past_window.false) (sym (unaided (goal.at.returns-then-t-g c).After-track_of-t b e) ∙ c.if-t-g.true)

pub returns : goal.returns
returns c =
    let s = at₁ (goal.at.returns c).After-below in
    λ b e. cause-none (passed s b) (sym (early (goal.at.returns c).After-below b e) ∙ c.if-below.false) (sym (long (goal.at.returns c).After-past_window b e) ∙ c.if-past_window.false) (sym (unaided (goal.at.returns c).After-track_of-t b e) ∙ c.if-t-g.false)
