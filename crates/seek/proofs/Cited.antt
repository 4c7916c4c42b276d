-- What a reader can cite of a seek: what an answer says, when there is a target, and when there is none to decode from. Of the frames to
-- decode, buffer_laws' DecodeLaws say more: they lead to the target, the first alone is flagged, the last is the target, and they are all
-- that lead to it from the first on, each once.
use Rattle.std.specs.Prelude.{Ok, Err}
use mathlib.Core.Path.{◌≡◌, refl, sym, ap, ◌∙◌}
use mathlib.Core.Bool.{Bool, true, false, cond, not, ◌&&◌, ◌||◌}
use mathlib.Core.List.{List, [], ◌∷◌}
use mathlib.Core.Logic.{◌↔◌}
use Prim.Native.Nat.{ℕ}
use lib.Dec.{eqb}
use lib.IntN.{ℤ}
use lib.ListN.{length}
use Rattle.laws.proofs.BoolLaws.{clash, split}
use Rattle.buffer_state.specs.declared.Frame.{Frame}
use Rattle.buffer_state.specs.declared.Refusal.{Refusal}
use Rattle.buffer_state.specs.declared.Refusal.TheVariants.{NoStart}
use Rattle.buffer_state.specs.Buffer.{Buffer, has_track}
use Rattle.buffer_state.specs.Ranges.{covers, in_ranges, ranges_of}
use Rattle.buffer_state.specs.Refusals.{CallResult}
use Rattle.buffer_state.specs.declared.Start.{Start}
use Rattle.buffer_state.specs.Seek.{Target, none, picked, over, target_of, leads_to, up_to, or_else, from_flagged, to_decode, start_by, start_to, seek}
use Rattle.buffer_state.specs.WellFormed.{all_of}
use Rattle.buffer_laws.proofs.RangeLaws.{ranges-cover}
use Rattle.buffer_laws.proofs.SeekLaws.{IsPicked, Covering, held-has-target, target-covers, target-greatest}

-- ---- an answer

-- The target covers the instant, and no frame of the track that does is over it; the flagged frame is the first to decode; and the count is
-- that of the frames to decode.
pub record Answered (b : Buffer) (track : ℕ) (t : ℤ) (s : Start) : Type 0 where
  pub target : Frame
  pub first : Frame
  pub rest : List Frame
  pub number : s.target ≡ target.number
  pub covering : Covering track t b.frames target
  pub greatest : all_of (λ (g : Frame). not (eqb g.track track && covers t g) || not (over g target)) b.frames ≡ true
  pub decoded : to_decode target b.frames ≡ first ∷ rest
  pub flagged : s.flagged ≡ first.number
  pub count : s.count ≡ length (to_decode target b.frames)

refused-not-done : {A : Type 0} {why : Refusal} {s : Start} → Err why ≡ Ok s → A
refused-not-done e = clash (sym (ap is_done e))
  where
    is_done : CallResult Start → Bool
    is_done (Err why) = false
    is_done (Ok s) = true

done-same : {r s : Start} → ◌≡◌ {A = CallResult Start} (Ok r) (Ok s) → r ≡ s
done-same e = cc

by-decoded : (b : Buffer) (track : ℕ) (t : ℤ) (s : Start) (f : Frame) → target_of track t b.frames ≡ picked f → (fs : List Frame) → to_decode f b.frames ≡ fs
    → start_by f fs ≡ Ok s → Answered b track t s
by-decoded b track t s f e [] d k = refused-not-done k
by-decoded b track t s f e (g ∷ gs) d k =
    let same = done-same k in
    record {
      target = f;
      first = g;
      rest = gs;
      number = sym (ap (λ (x : Start). x.target) same);
      covering = target-covers track t f b.frames e;
      greatest = target-greatest track t f b.frames e;
      decoded = d;
      flagged = sym (ap (λ (x : Start). x.flagged) same);
      count = sym (ap (λ (x : Start). x.count) same) ∙ sym (ap length d);
    }

by-target : (b : Buffer) (track : ℕ) (t : ℤ) (s : Start) (r : Target) → target_of track t b.frames ≡ r → start_to r b.frames ≡ Ok s → Answered b track t s
by-target b track t s none e k = refused-not-done k
by-target b track t s (picked f) e k = by-decoded b track t s f e (to_decode f b.frames) refl k

pub answered : (b : Buffer) (track : ℕ) (t : ℤ) (s : Start) → seek track t b ≡ Ok s → Answered b track t s
unfolding seek
answered b track t s =
    split (has_track b track)
    (λ has e. by-target b track t s (target_of track t b.frames) refl (rw has at e))
    (λ lacks e. refused-not-done (rw lacks at e))

-- ---- a target

-- Every instant that the bar shows as held has a target.
pub shown-has-target : (b : Buffer) (track : ℕ) (t : ℤ) → in_ranges t (ranges_of track b.frames) ≡ true → IsPicked (target_of track t b.frames)
shown-has-target b track t e = held-has-target track t b.frames (sym (ranges-cover track t b.frames) ∙ e)

-- ---- refusal 15

-- there is no target, or no flagged frame leads to it
abbrev pub startless : Target → List Frame → Bool
startless none fs = true
startless (picked f) fs = all_of (λ (g : Frame). not (leads_to f g && g.flagged)) fs

abbrev empty : List Frame → Bool
empty [] = true
empty (f ∷ fs) = false

-- what is left of the frames from a flagged one on, where the next is flagged or not
empty-else : (later : List Frame) (on : Bool) (f : Frame) (fs : List Frame) → empty (or_else later (cond on (f ∷ fs) [])) ≡ (not on && empty later)
empty-else [] true f fs = refl
empty-else [] false f fs = refl
empty-else (x ∷ xs) true f fs = refl
empty-else (x ∷ xs) false f fs = refl

none-decoded : (f : Frame) (fs : List Frame) → empty (from_flagged (up_to f fs)) ≡ all_of (λ (g : Frame). not (leads_to f g && g.flagged)) fs
unfolding from_flagged up_to all_of
none-decoded f [] = refl
none-decoded f (g ∷ gs) =
    split (leads_to f g)
    (λ e. rw e (empty-else (from_flagged (up_to f gs)) g.flagged g (up_to f gs) ∙ ap (λ (b : Bool). not g.flagged && b) (none-decoded f gs)))
    (λ e. rw e (none-decoded f gs))

-- without frames to decode, and only then, there is no start
no_start : (f : Frame) (fs : List Frame) → (start_by f fs ≡ Err NoStart) ↔ (empty fs ≡ true)
no_start f [] = (λ _. refl, λ _. refl)
no_start f (g ∷ gs) = (λ e. refused-not-done (sym e), λ e. clash (sym e))

startless-refused : (fs : List Frame) (r : Target) → (start_to r fs ≡ Err NoStart) ↔ (startless r fs ≡ true)
unfolding to_decode
startless-refused fs none = (λ _. refl, λ _. refl)
startless-refused fs (picked f) =
    let k = no_start f (from_flagged (up_to f fs)) in
    (λ e. sym (none-decoded f fs) ∙ k.0 e, λ e. k.1 (none-decoded f fs ∙ e))

-- A seek on a track that is there is refused 15 exactly if no frame covers the instant or no such flagged frame exists.
pub refused-exactly : (b : Buffer) (track : ℕ) (t : ℤ) → has_track b track ≡ true
    → (seek track t b ≡ Err NoStart) ↔ (startless (target_of track t b.frames) b.frames ≡ true)
unfolding seek
refused-exactly b track t has =
    let k = startless-refused b.frames (target_of track t b.frames) in
    (λ e. k.0 (rw has at e), λ e. rw has (k.1 e))
