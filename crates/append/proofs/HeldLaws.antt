-- The arrays that hold a list of frames: what an insertion asks of them.
use mathlib.Core.Path.{◌≡◌, sym, ap, subst, ◌∙◌}
use mathlib.Core.Bool.{true}
use mathlib.Core.List.{List}
use Prim.Native.Nat.{ℕ, ◌<◌}
use native.Mathlib.Omega.{arith}
use lib.IntN.{ℤ}
use lib.ListN.{length, take}
use lib.Seq.{take-append_seam}
use Rattle.buffer_state.specs.declared.Frame.{Frame}
use Rattle.buffer_state.specs.Layout.{zero_frame, padded_list}
use Rattle.buffer_state.specs.Lent.{frames_of, times_of, tags_of, Lengths}
use Rattle.buffer_state.specs.Limits.{places}
use Rattle.buffer_state.specs.WellFormed.{is_sorted}
use Rattle.buffer_laws.proofs.LayoutLaws.{padded-length}
use Rattle.buffer_laws.proofs.RowLaws.{frames-back, times-length, tags-length}
use Rattle.places.specs.Places.{Holding}

abbrev pub IsInsertable : ℕ → List (List ℤ) → List (List ℕ) → Type 0
IsInsertable n ts gs = (n < places) × Lengths ts gs × Holding ts gs n × (is_sorted (take n (frames_of ts gs)) ≡ true)

module _ (l : List Frame) where
  abbrev array : List Frame
  array = padded_list places zero_frame l

  first_back : take (length l) (frames_of (times_of array) (tags_of array)) ≡ l
  first_back = ap (take (length l)) (frames-back array) ∙ take-append_seam l _

  held : length l < places → is_sorted l ≡ true → IsInsertable (length l) (times_of array) (tags_of array)
  held h s =
      let long : length array ≡ places = padded-length places zero_frame l (omega arith) in (
        h,
        (times-length array ∙ long, tags-length array ∙ long),
        record {
          times = ap times_of (sym (frames-back array));
          tags = ap tags_of (sym (frames-back array));
          zeros = frames-back array ∙ ap (padded_list places zero_frame) (sym first_back);
        },
        ap is_sorted first_back ∙ s,
      )

  module _ (n : ℕ) (ts : List (List ℤ)) (gs : List (List ℕ)) (e : n ≡ length l) (p : ts ≡ times_of array) (q : gs ≡ tags_of array) where
    pub held_first : take n (frames_of ts gs) ≡ l
    held_first = (λ j. take (e j) (frames_of (p j) (q j))) ∙ first_back

    pub held-insertable : length l < places → is_sorted l ≡ true → IsInsertable n ts gs
    held-insertable h s =
        subst (λ (x : List (List ℕ)). IsInsertable n ts x) (sym q)
        (subst (λ (x : List (List ℤ)). IsInsertable n x (tags_of array)) (sym p)
        (subst (λ (x : ℕ). IsInsertable x (times_of array) (tags_of array)) (sym e) (held h s)))
