use Rattle.std.proofs.Common.{◌≡◌, ap, ◌∙◌, ◌+◌, ◌^◌, ◌<◌, rules, arith, ℤ, length, w64, SFits}
use Rattle.laws.proofs.WordLaws.{told}
use Rattle.buffer_state.specs.declared.Frame.{Frame}
use Rattle.buffer_state.specs.declared.Track.{Track}
use Rattle.buffer_state.specs.Append.{end_offered, raised, stored_as, followed, step_nine}
use Rattle.buffer_state.specs.Buffer.{Buffer, with_frames, with_last, with_group, with_track, with_end}
use Rattle.buffer_state.specs.Store.{insert_sorted}
use Rattle.buffer_laws.proofs.OrderLaws.{insert-length}
use Rattle.limits.proofs.LimitLaws.{end_fits}
use Rattle.buffer_state.specs.declared.Head.{Head}
use Rattle.buffer_state.specs.Lent.{head_of}
use Rattle.heads.specs.Heads.{next_head, grown_head}
use Rattle.heads.proofs.step_nine.Goals as goal
use Rattle.heads.proofs.step_nine.Goals.{Start}

lasting : (c : Start) → c.args.f.duration < 2 ^ 32
lasting c = search rules

pub returns : goal.returns
unfolding step_nine
returns c =
    let f = c.args.f in
    let ended : SFits w64 c.end_offered.result = rw c.end_offered.ensures (end_fits f.pts f.duration c.requires.1 (lasting (goal.at.returns c).Start)) in
    λ b left e d.
    let numbered : c.numbered-k.result ≡ head_of (with_last b (b.last + 1)) = c.numbered-k.ensures ∙ ap next_head e in
    let raised-to : c.group_raised-group.result ≡ with_end b.group (raised b.group.end (end_offered f)) =
    told c.end_offered.result ended (λ z. with_end c.numbered-k.result.group (raised c.numbered-k.result.group.end z)) c.group_raised-group.ensures
    ∙ ap (λ (h : Head). with_end h.group (raised h.group.end c.end_offered.result)) numbered
    ∙ ap (λ (z : ℤ). with_end b.group (raised b.group.end z)) c.end_offered.ensures in
    let x : Frame = stored_as (b.last + 1) b.group.number f in
    let count : c.args.left + 1 ≡ length (insert_sorted x left) = omega (arith, insert-length x left, d) in
    let c' : Buffer = with_frames (with_group (with_last b (b.last + 1)) (with_end b.group (raised b.group.end (end_offered f)))) (insert_sorted x left) in
    let grown : c.grown-m.result ≡ head_of c' = c.grown-m.ensures ∙ (λ j. grown_head (numbered j) (count j) (raised-to j)) in
    c.with_track.ensures c' grown
    ∙ ap (λ (x : Track). head_of (with_track c' f.track x)) (c.followed-t.ensures ∙ ap (λ (x : Track). followed x f) (c.track_of.ensures b e))
