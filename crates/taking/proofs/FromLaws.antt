-- Where the loop begins: the frames before the first one that goes stay where they are.
use mathlib.Core.Path.{◌≡◌, refl, sym, ap, ◌∙◌}
use mathlib.Core.List.{List, ◌++◌, map}
use Prim.Native.Nat.{ℕ, ◌≤◌}
use native.Mathlib.Omega.{arith}
use lib.IntN.{ℤ}
use lib.ListN.{length, take, drop, length-append, take-append-drop}
use lib.Seq.{take-take, take_at, drop_at}
use Rattle.laws.proofs.ListLaws.{first-length, take-map}
use Rattle.buffer_state.specs.declared.Frame.{Frame}
use Rattle.buffer_state.specs.Lent.{time_of, tag_of, frames_of, times_of, tags_of}
use Rattle.buffer_state.specs.Store.{Marked, kept, lines_of}
use Rattle.places.specs.Places.{Holding}
use Rattle.taking.proofs.MarkLaws.{still, kept-still, lines-still}
use Rattle.taking.proofs.LoopLaws.{Taking}

module _ (ts : List (List ℤ)) (gs ls : List (List ℕ)) (n : ℕ) (marks : List Marked) where
  abbrev stored : List Frame
  stored = take n (frames_of ts gs)

  module _ (full : n ≤ length (frames_of ts gs)) (hold : Holding ts gs n) (first : ℕ) (h : first ≤ n) (out : take first marks ≡ map still (take first stored)) where
    abbrev early : List Frame
    early = take first stored

    abbrev late : List Marked
    late = drop first marks

    all : marks ≡ map still early ++ late
    all = sym (take-append-drop first marks) ∙ ap (λ (ms : List Marked). ms ++ late) out

    all-kept : kept marks ≡ early ++ kept late
    all-kept = ap kept all ∙ kept-still early late

    count : length early ≡ first
    count = first-length stored first (omega (arith, first-length (frames_of ts gs) n full))

    front : take first (kept marks) ≡ early
    front = ap (take first) all-kept ∙ take_at early (kept late) first count

    same_rows : {B : Type 0} (f : Frame → B) (d : List B) → d ≡ map f (frames_of ts gs) → d ≡ map f (take first (kept marks)) ++ drop first d
    same_rows {B} f d e =
        let rows : map f (take first (kept marks)) ≡ take first d =
        ap (map f) (front ∙ take-take first n (frames_of ts gs) h) ∙ take-map f first (frames_of ts gs) ∙ ap (take first) (sym e) in
        sym (ap (λ (x : List B). x ++ drop first d) rows ∙ take-append-drop first d)

    pub taking-from : Taking ts gs ls n marks ts gs ls first 0 first
    unfolding times_of tags_of
    taking-from = record {
      inside = h;
      few = omega arith;
      told = omega arith;
      some = omega (arith, ap length all-kept, length-append early (kept late), count);
      lines = omega arith;
      times_are = same_rows time_of ts hold.times;
      tags_are = same_rows tag_of gs hold.tags;
      fates_are = refl;
      kept_left = ap (drop first) all-kept ∙ drop_at early (kept late) first count;
      lines_left = ap lines_of all ∙ lines-still early late;
      times_long = refl;
      tags_long = refl;
      fates_long = refl;
    }
