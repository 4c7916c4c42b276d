use Rattle.std.proofs.Common.{rules, arith, ℕ, ◌+◌, ◌-◌, ◌/◌, ◌≤◌, ◌<◌, ◌≡◌, refl, sym, ap, subst, ◌∙◌, List, get_or-take, length, take, get_or}
use Rattle.buffer_state.specs.declared.Frame.{Frame}
use Rattle.buffer_state.specs.Layout.{zero_frame}
use Rattle.buffer_state.specs.Store.{is_before}
use Rattle.laws.proofs.ListLaws.{first-length}
use Rattle.buffer_state.specs.Lent.{frames_of}
use Rattle.buffer_laws.proofs.RowLaws.{frames-length}
use Rattle.places.proofs.PlaceLaws.{Past, InFront, goes_at, goes-past, goes-front, ends-front}
use Rattle.places.proofs.place_of.Goals as goal
use Rattle.places.proofs.place_of.Goals.{Start}

-- the frames that the arrays hold, and the first n of them
abbrev held : Start → List Frame
held s = frames_of s.args.times.now s.args.tags.now

few : (s : Start) → s.args.n ≤ length (held s)
few s = omega (arith, frames-length s.args.times.now s.args.tags.now s.requires.1, s.requires.0)

count : (s : Start) → length (take s.args.n (held s)) ≡ s.args.n
count s = first-length (held s) s.args.n (few s)

-- the frame read at a place is the one among the first n
read : (s : Start) (m : ℕ) → m < s.args.n → (x : Frame) → x ≡ get_or (held s) m zero_frame → x ≡ get_or (take s.args.n (held s)) m zero_frame
read s m h x e = e ∙ sym (get_or-take s.args.n (held s) m zero_frame h)

pub returns-then-n-lt1 : goal.returns-then-n-lt1
returns-then-n-lt1 c = goes_at c.args.f _ 0 (search rules) refl (ends-front c.args.f (held (goal.at.returns-then-n-lt1 c).Start) c.args.n 0 (few (goal.at.returns-then-n-lt1 c).Start) (omega arith))

pub returns-then-not-frame_before : goal.returns-then-not-frame_before
returns-then-not-frame_before c =
    let n : ℕ = c.args.n in
    let h : n - 1 < n = omega arith in
    let k : n - 1 + 1 ≡ n = omega arith in
    let e = ap (is_before c.args.f) (sym (read (goal.at.returns-then-not-frame_before c).Start (n - 1) h _ c.frame_at.ensures)) ∙ sym c.frame_before.ensures ∙ c.if-not-frame_before.true in
    goes_at c.args.f _ n (omega (arith, count (goal.at.returns-then-not-frame_before c).Start))
    (subst (Past c.args.f _) k (goes-past c.args.f _ (n - 1) zero_frame (omega (arith, count (goal.at.returns-then-not-frame_before c).Start)) c.requires.2 e))
    (ends-front c.args.f (held (goal.at.returns-then-not-frame_before c).Start) n n (few (goal.at.returns-then-not-frame_before c).Start) (omega arith))

pub loop-low-init : goal.loop-low-init
loop-low-init c =
    let n : ℕ = c.args.n in
    let h : n - 1 < n = omega arith in
    let e = ap (is_before c.args.f) (sym (read (goal.at.loop-low-init c).Start (n - 1) h _ c.frame_at.ensures)) ∙ sym c.frame_before.ensures ∙ c.if-not-frame_before.false in
    (search rules, search rules, refl, goes-front c.args.f _ (n - 1) zero_frame (omega (arith, count (goal.at.loop-low-init c).Start)) e)

pub loop-low-preserved-then-frame_before : goal.loop-low-preserved-then-frame_before
loop-low-preserved-then-frame_before c =
    let m : ℕ = (c.loop-low.low + c.loop-low.high) / 2 in
    let h : m < c.args.n = omega arith in
    let e = ap (is_before c.args.f) (sym (read (goal.at.loop-low-preserved-then-frame_before c).Start m h _ c.frame_at-in-loop-low.ensures)) ∙ sym c.frame_before-in-loop-low.ensures ∙ c.if-frame_before.true in
    (omega arith, omega arith, c.loop-low.invariant.2, goes-front c.args.f _ m zero_frame (omega (arith, count (goal.at.loop-low-preserved-then-frame_before c).Start)) e)

pub loop-low-preserved : goal.loop-low-preserved
loop-low-preserved c =
    let m : ℕ = (c.loop-low.low + c.loop-low.high) / 2 in
    let h : m < c.args.n = omega arith in
    let e = ap (is_before c.args.f) (sym (read (goal.at.loop-low-preserved c).Start m h _ c.frame_at-in-loop-low.ensures)) ∙ sym c.frame_before-in-loop-low.ensures ∙ c.if-frame_before.false in
    (omega arith, omega arith, goes-past c.args.f _ m zero_frame (omega (arith, count (goal.at.loop-low-preserved c).Start)) c.requires.2 e, c.loop-low.invariant.3)

pub returns : goal.returns
returns c =
    let e : c.loop-low.high ≡ c.loop-low.low = omega arith in
    goes_at c.args.f _ c.loop-low.low (omega (arith, count (goal.at.returns c).Start)) c.loop-low.invariant.2 (subst (InFront c.args.f _) e c.loop-low.invariant.3)
