-- What a loop that takes frames out keeps, whichever marks they have: of the frames passed, the kept ones stand in front and the lines of
-- the others are written.
use mathlib.Core.Path.{◌≡◌, ap, ◌∙◌}
use mathlib.Core.Bool.{true, false}
use mathlib.Core.List.{List, [], ◌∷◌, ◌++◌, map}
use Prim.Native.Nat.{ℕ, ◌+◌, ◌≤◌, ◌<◌}
use native.Mathlib.Omega.{arith}
use lib.Dec.{eqb}
use lib.IntN.{ℤ}
use lib.ListN.{length, take, drop, get_or, set, length-set}
use Rattle.buffer_state.specs.declared.Frame.{Frame}
use Rattle.buffer_state.specs.Layout.{zero_frame}
use Rattle.buffer_state.specs.Lent.{time_of, tag_of, frames_of}
use Rattle.buffer_state.specs.Store.{Marked, Line, kept, lines_of}
use Rattle.taking.specs.Marks.{mark}
use Rattle.taking.proofs.TurnLaws.{next_of, written_next}

abbrev pub line_of : Line → List ℕ
line_of x = x.number ∷ x.cause ∷ []

module _ (ts : List (List ℤ)) (gs ls : List (List ℕ)) (n : ℕ) (marks : List Marked) where
  pub record Taking (times : List (List ℤ)) (tags fates : List (List ℕ)) (k m i : ℕ) : Type 0 where
    pub inside : i ≤ n
    pub few : k ≤ i
    pub told : m ≤ i
    pub some : k ≤ length (kept marks)
    pub lines : m ≤ length (lines_of marks)
    pub times_are : times ≡ map time_of (take k (kept marks)) ++ drop k ts
    pub tags_are : tags ≡ map tag_of (take k (kept marks)) ++ drop k gs
    pub fates_are : fates ≡ map line_of (take m (lines_of marks)) ++ drop m ls
    pub kept_left : drop k (kept marks) ≡ kept (drop i marks)
    pub lines_left : drop m (lines_of marks) ≡ lines_of (drop i marks)
    pub times_long : length times ≡ length ts
    pub tags_long : length tags ≡ length gs
    pub fates_long : length fates ≡ length ls

  module _ (times : List (List ℤ)) (tags fates : List (List ℕ)) (k m i : ℕ) (w : Taking times tags fates k m i) (h : i < n) where
    abbrev here : Frame
    here = get_or (frames_of ts gs) i zero_frame

    abbrev rest : List Marked
    rest = drop (i + 1) marks

    module _ (cause : ℕ) (next : drop i marks ≡ mark here cause ∷ rest) where
      -- the frame goes, and its line is written
      pub turn-gone : eqb cause 0 ≡ false → m < length ls → Taking times tags (set fates m (here.number ∷ cause ∷ [])) k (m + 1) (i + 1)
      unfolding kept lines_of
      turn-gone d room =
          let line : Line = record { number = here.number; cause = cause } in
          let q : drop m (lines_of marks) ≡ line ∷ lines_of rest = w.lines_left ∙ ap lines_of next ∙ rw d in
          let p : drop k (kept marks) ≡ kept rest = w.kept_left ∙ ap kept next ∙ rw d in
          let o = next_of (lines_of marks) m line (lines_of rest) q in
          record {
            inside = omega arith;
            few = omega (arith, w.few);
            told = omega (arith, w.told);
            some = w.some;
            lines = omega (arith, o.0);
            times_are = w.times_are;
            tags_are = w.tags_are;
            fates_are = written_next line_of (lines_of marks) ls fates m w.lines w.fates_are line (lines_of rest) q room;
            kept_left = p;
            lines_left = o.2;
            times_long = w.times_long;
            tags_long = w.tags_long;
            fates_long = length-set fates m _ ∙ w.fates_long;
          }

      -- the frame stays, and moves up
      pub turn-kept : eqb cause 0 ≡ true → k < length ts → k < length gs → Taking (set times k (time_of here)) (set tags k (tag_of here)) fates (k + 1) m (i + 1)
      unfolding kept lines_of
      turn-kept d a b =
          let p : drop k (kept marks) ≡ here ∷ kept rest = w.kept_left ∙ ap kept next ∙ rw d in
          let q : drop m (lines_of marks) ≡ lines_of rest = w.lines_left ∙ ap lines_of next ∙ rw d in
          let o = next_of (kept marks) k here (kept rest) p in
          record {
            inside = omega arith;
            few = omega (arith, w.few);
            told = omega (arith, w.told);
            some = omega (arith, o.0);
            lines = w.lines;
            times_are = written_next time_of (kept marks) ts times k w.some w.times_are here (kept rest) p a;
            tags_are = written_next tag_of (kept marks) gs tags k w.some w.tags_are here (kept rest) p b;
            fates_are = w.fates_are;
            kept_left = o.2;
            lines_left = q;
            times_long = length-set times k _ ∙ w.times_long;
            tags_long = length-set tags k _ ∙ w.tags_long;
            fates_long = w.fates_long;
          }
