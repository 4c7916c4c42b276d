-- The first frame that goes and ends its track, one frame after another; and the head after its loss is the definition's buffer, laid out.
use Rattle.std.specs.Prelude.{Option, None, Some, is_some}
use mathlib.Core.Path.{◌≡◌, refl, sym, ap, ◌∙◌}
use mathlib.Core.Bool.{Bool, true, false, cond, ◌&&◌, ◌||◌}
use mathlib.Core.List.{List, [], ◌∷◌, map}
use Prim.Native.Nat.{ℕ, ◌≤◌}
use native.Mathlib.Omega.{arith}
use lib.IntN.{ℤ}
use lib.ListN.{length, length-map}
use Rattle.laws.proofs.ListLaws.{first-length}
use Rattle.seconds.specs.Seconds.{Bound, unbounded, at}
use Rattle.buffer_state.specs.declared.Frame.{Frame}
use Rattle.buffer_state.specs.declared.Head.{Head}
use Rattle.buffer_state.specs.Append.{moved, regrouped_buffer}
use Rattle.buffer_state.specs.Buffer.{Buffer, with_frames, zero_track, restarted_track, restart_all}
use Rattle.buffer_state.specs.Lent.{head_of, well_formed_at}
use Rattle.buffer_state.specs.Limits.{most_tracks}
use Rattle.buffer_state.specs.Remove.{ends_track, after_loss, ends_any}
use Rattle.buffer_state.specs.Store.{Marked}
use Rattle.buffer_state.specs.WellFormed.{all_of}
use Rattle.buffer_laws.proofs.LentLaws.{lent_back}
use Rattle.buffer_laws.proofs.StoreLaws.{frames_of as frames_in, marks-frames}
use Rattle.buffer_laws.proofs.TestLaws.{all_first, all_rest}
use Rattle.places.proofs.ListLaws.{full-all}
use Rattle.taking.specs.declared.Span.{Span}
use Rattle.taking.specs.Taking.{in_spans, taken_marks}
use Rattle.taking.specs.Loss.{bound_in, loss_of as loss_in}
use Rattle.taking.proofs.MarkLaws.{still}
use Rattle.remove.specs.Loss.{loss_of, is_loss, settled_by}
use Rattle.remove.proofs.PlaceLaws.{held, laid, is_good, each-good, track_of_lem}

-- frames that stay are no loss
pub loss-still : (b : Buffer) (l : List Frame) → loss_of b (map still l) ≡ unbounded
unfolding loss_of
loss-still b [] = refl
loss-still b (f ∷ l) = loss-still b l

-- ---- the loss that the taking finds, with the tracks by their numbers, is the buffer's

module _ (h : Head) (ts : List (List ℤ)) (gs : List (List ℕ)) (w : well_formed_at h ts gs ≡ true) where
  marks-loss : (ms : List Marked) → all_of (is_good h ts gs w) (frames_in ms) ≡ true → loss_in (zero_track ∷ h.tracks) ms ≡ loss_of (held h ts gs) ms
  unfolding loss_in loss_of
  marks-loss [] good = refl
  marks-loss (m ∷ ms) good =
      rw (track_of_lem h ts gs w m.frame (all_first (is_good h ts gs w) m.frame (frames_in ms) good), marks-loss ms (all_rest (is_good h ts gs w) m.frame (frames_in ms) good))

  pub taken-loss : (spans : List Span) → loss_in (zero_track ∷ h.tracks) (taken_marks spans 6 (held h ts gs).frames) ≡ loss_of (held h ts gs) (taken_marks spans 6 (held h ts gs).frames)
  taken-loss spans = marks-loss (taken_marks spans 6 (held h ts gs).frames) (rw (marks-frames (in_spans spans) 6 (held h ts gs).frames) (each-good h ts gs w))

-- an instant is a loss where there is one
pub set-loss : (o : Option ℤ) → is_some o ≡ is_loss (bound_in o)
set-loss None = refl
set-loss (Some z) = refl

-- refusal 9 asks for both
pub nothing-lacks : (l : Bound) (last : Bool) → last ≡ false → (is_loss l && last) ≡ false
nothing-lacks unbounded last e = refl
nothing-lacks (at z) last e = e

pub loss-lacks : (l : Bound) (last : Bool) → last ≡ true → (is_loss l && last) ≡ is_loss l
loss-lacks unbounded last e = refl
loss-lacks (at z) last e = e

-- there is one exactly where refusal 9 asks for a group
pub any-loss : (ms : List Marked) (b : Buffer) → ends_any ms b ≡ is_loss (loss_of b ms)
unfolding ends_any loss_of
any-loss [] b = refl
any-loss (m ∷ ms) b = go (ends_track b m) (any-loss ms b)
  where
    go : (t : Bool) → ends_any ms b ≡ is_loss (loss_of b ms) → (t || ends_any ms b) ≡ is_loss (cond t (at m.frame.pts) (loss_of b ms))
    go true e = refl
    go false e = e

-- ---- the head

-- the buffer after a loss there
after_at : Bound → Buffer → Buffer
after_at unbounded b = b
after_at (at p) b = regrouped_buffer b p

after_first : (ms : List Marked) (b : Buffer) → after_loss ms b ≡ after_at (loss_of b ms) b
unfolding after_loss loss_of after_at
after_first [] b = refl
after_first (m ∷ ms) b = go (ends_track b m) (after_first ms b)
  where
    go : (t : Bool) → after_loss ms b ≡ after_at (loss_of b ms) b
        → cond t (regrouped_buffer b m.frame.pts) (after_loss ms b) ≡ after_at (cond t (at m.frame.pts) (loss_of b ms)) b
    go true e = refl
    go false e = e

-- without a loss the buffer stays
pub no-loss : (ms : List Marked) (b : Buffer) → loss_of b ms ≡ unbounded → after_loss ms b ≡ b
unfolding after_at
no-loss ms b e = after_first ms b ∙ ap (λ (l : Bound). after_at l b) e

module _ (h : Head) (ts : List (List ℤ)) (gs : List (List ℕ)) (w : well_formed_at h ts gs ≡ true) (ks : List Frame) where
  at-loss : (l : Bound) → settled_by l (length ks) h ≡ head_of (with_frames (after_at l (held h ts gs)) ks)
  unfolding after_at regrouped_buffer moved
  at-loss unbounded =
      let e = (lent_back h ts gs w).head in
      λ i. record {
        tracks = (e i).tracks;
        ntracks = (e i).ntracks;
        nframes = length ks;
        mode = h.mode;
        group = h.group;
        last = h.last;
        settings = h.settings;
      }
  at-loss (at p) =
      let b = held h ts gs in
      let l = laid h ts gs w in
      let k : h.ntracks ≤ length h.tracks = rw l.tracks l.ntracks in
      let count : length (restart_all b.tracks) ≡ h.ntracks = length-map b.tracks restarted_track ∙ first-length h.tracks h.ntracks k in
      let zeros = full-all zero_track h.tracks h.ntracks most_tracks k (ap (λ (x : Head). x.tracks) (lent_back h ts gs w).head) h.ntracks (omega arith) (restart_all b.tracks) count in
      λ i. record {
        tracks = zeros i;
        ntracks = sym count i;
        nframes = length ks;
        mode = h.mode;
        group = (regrouped_buffer b p).group;
        last = h.last;
        settings = h.settings;
      }

  -- what is left, settled by the first loss, is what the definition leaves, laid out
  pub settled-loss : (ms : List Marked) → settled_by (loss_of (held h ts gs) ms) (length ks) h ≡ head_of (with_frames (after_loss ms (held h ts gs)) ks)
  settled-loss ms = at-loss (loss_of (held h ts gs) ms) ∙ ap (λ (b : Buffer). head_of (with_frames b ks)) (sym (after_first ms (held h ts gs)))
