-- Reading a place while the loop runs, and what the arrays hold when it has ended.
use mathlib.Core.Path.{◌≡◌, sym, ap, ◌∙◌}
use mathlib.Core.List.{List, [], ◌++◌, map}
use Prim.Native.Nat.{ℕ, ◌-◌, ◌≤◌, ◌<◌}
use native.Mathlib.Omega.{arith}
use lib.IntN.{ℤ}
use lib.ListN.{length, take, drop, get_or, replicate}
use Rattle.buffer_state.specs.declared.Frame.{Frame}
use Rattle.buffer_state.specs.Layout.{zero_frame, padded_list}
use Rattle.buffer_state.specs.Lent.{time_of, tag_of, frames_of, times_of, tags_of, Lengths}
use Rattle.buffer_state.specs.Limits.{places}
use Rattle.buffer_state.specs.Store.{Marked, kept, lines_of}
use Rattle.buffer_laws.proofs.RowLaws.{frames-length}
use Rattle.places.specs.Places.{Holding, cleared_places}
use Rattle.places.proofs.ListLaws.{zeros-from}
use Rattle.taking.specs.Marks.{lines_then}
use Rattle.taking.proofs.TurnLaws.{map_read, later-read, written_all, cleared-all}
use Rattle.taking.proofs.LoopLaws.{line_of, Taking}

module _ (ts : List (List ℤ)) (gs ls : List (List ℕ)) (n : ℕ) (all : List Marked) (few : n ≤ places) (long : Lengths ts gs) (hold : Holding ts gs n) where
  pub full : n ≤ length (frames_of ts gs)
  full = omega (arith, frames-length ts gs (long.0 ∙ sym long.1), long.0)

  module _ (times : List (List ℤ)) (tags fates : List (List ℕ)) (k m i : ℕ) (w : Taking ts gs ls n all times tags fates k m i) where
    pub time-read : i < n → get_or times i [] ≡ time_of (get_or (frames_of ts gs) i zero_frame)
    unfolding times_of
    time-read h =
        later-read time_of (kept all) ts times k w.some w.times_are i [] w.few
        ∙ ap (λ (x : List (List ℤ)). get_or x i []) hold.times ∙ map_read time_of (frames_of ts gs) i zero_frame [] (omega (arith, full))

    pub tag_read : i < n → get_or tags i [] ≡ tag_of (get_or (frames_of ts gs) i zero_frame)
    unfolding tags_of
    tag_read h =
        later-read tag_of (kept all) gs tags k w.some w.tags_are i [] w.few
        ∙ ap (λ (x : List (List ℕ)). get_or x i []) hold.tags ∙ map_read tag_of (frames_of ts gs) i zero_frame [] (omega (arith, full))

    -- the end
    module _ (none : drop i all ≡ []) where
      none_kept : drop k (kept all) ≡ []
      unfolding kept
      none_kept = w.kept_left ∙ ap kept none

      none_told : drop m (lines_of all) ≡ []
      unfolding lines_of
      none_told = w.lines_left ∙ ap lines_of none

      left : k ≡ length (kept all)
      left = (written_all time_of (kept all) ts times k w.some w.times_are none_kept).1

      lines : m ≡ length (lines_of all)
      lines = (written_all line_of (lines_of all) ls fates m w.lines w.fates_are none_told).1

      told : fates ≡ lines_then all ls
      told =
          (written_all line_of (lines_of all) ls fates m w.lines w.fates_are none_told).0
          ∙ ap (λ (j : ℕ). map line_of (lines_of all) ++ drop j ls) lines

      zeros : drop n (frames_of ts gs) ≡ replicate (places - n) zero_frame
      zeros = zeros-from zero_frame (frames_of ts gs) n places full hold.zeros n (omega arith)

      closed : {B : Type 0} (f : Frame → B) (d t : List B) → t ≡ map f (take k (kept all)) ++ drop k d → d ≡ map f (frames_of ts gs)
          → cleared_places (f zero_frame) k n t ≡ map f (padded_list places zero_frame (kept all))
      closed {B} f d t e rows =
          let q = (written_all f (kept all) d t k w.some e none_kept).0 ∙ ap (λ (x : List B). map f (kept all) ++ drop k x) rows in
          cleared-all f zero_frame (kept all) (frames_of ts gs) t k n places left (omega (arith, w.few, w.inside)) (omega arith) full q zeros

      pub ended : (cleared_places (time_of zero_frame) k n times ≡ times_of (padded_list places zero_frame (kept all)))
          × (cleared_places (tag_of zero_frame) k n tags ≡ tags_of (padded_list places zero_frame (kept all)))
          × (fates ≡ lines_then all ls) × (k ≡ length (kept all)) × (m ≡ length (lines_of all))
      unfolding times_of tags_of
      ended = (closed time_of ts times w.times_are hold.times, closed tag_of gs tags w.tags_are hold.tags, told, left, lines)
