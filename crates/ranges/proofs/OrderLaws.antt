-- Frames in an order: the place of each, and the stretch that it covers.
use mathlib.Core.Path.{◌≡◌, sym, ap, ◌∙◌}
use mathlib.Core.Bool.{true}
use mathlib.Core.List.{List, ◌∷◌, map}
use Prim.Native.Nat.{ℕ, ◌+◌, ◌≤◌, ◌<◌}
use native.Mathlib.Numerals.{add-one}
use native.Mathlib.Omega.{arith}
use lib.IntN.{ℤ}
use lib.ListN.{length, drop, get_or, length-map, get_or-map}
use lib.Seq.{drop-cons}
use Rattle.laws.proofs.BoolLaws.{and_left}
use Rattle.buffer_state.specs.declared.Frame.{Frame}
use Rattle.buffer_state.specs.Layout.{zero_frame}
use Rattle.buffer_state.specs.Lent.{frames_of}
use Rattle.buffer_state.specs.Limits.{places}
use Rattle.buffer_state.specs.Ranges.{Range}
use Rattle.buffer_state.specs.Walked.{interval_of}
use Rattle.ranges.specs.declared.Order.{Order}
use Rattle.ranges.specs.declared.Order.TheVariants.{Stored, Keyed}
use Rattle.ranges.specs.Sweep.{is_timely, is_sound, some}
use Rattle.ranges.specs.Walks.{sound_at, stretch_at, places_in, count_in, stretches_in, Named, Ordered, IsNext}
use Rattle.ranges.proofs.BarLaws.{all-at}
use Rattle.ranges.proofs.KeyLaws.{up_at, up-length}
use Rattle.ranges.proofs.OwnLaws.{sound-some}

places-length : (o : Order) → length (places_in o) ≡ count_in o
places-length (Stored first count) = up-length count first
places-length (Keyed keys) = length-map keys.now _

pub place-stored : (o : Order) (first count i : ℕ) → o ≡ Stored first count → Named o → i < count_in o → (first + i ≡ get_or (places_in o) i 0) × (first + i < places)
place-stored o first count i e n h =
    let fits : first + count ≤ places = rw e at n in
    let inside : i < count = rw e at h in
    rw e (sym (up_at count first i inside), omega arith)

module _ {ts : List (List ℤ)} {gs : List (List ℕ)} {o : Order} (s : Ordered ts gs o) where
  pub order-length : length (stretches_in (frames_of ts gs) o) ≡ count_in o
  order-length = length-map (places_in o) _ ∙ places-length o

  -- the frame at a place of the order
  module _ (i : ℕ) (h : i < count_in o) (place : ℕ) (p : place ≡ get_or (places_in o) i 0) (f : Frame) (d : f ≡ get_or (frames_of ts gs) place zero_frame) where
    order-sound : is_sound f ≡ true
    order-sound =
        ap is_sound (d ∙ ap (λ (m : ℕ). get_or (frames_of ts gs) m zero_frame) p)
        ∙ all-at (sound_at (frames_of ts gs)) (places_in o) i 0 (omega (arith, h, places-length o)) s.each

    pub order-timely : is_timely f ≡ true
    order-timely = and_left (is_timely f) _ order-sound

    pub order-next : (r : Range) → r ≡ interval_of f → IsNext (stretches_in (frames_of ts gs) o) i r
    order-next r e =
        let g = stretch_at (frames_of ts gs) in
        let l = places_in o in
        let here : get_or (map g l) i (g 0) ≡ r = get_or-map g l i 0 ∙ ap g (sym p) ∙ sym (e ∙ ap interval_of d) in
        let cut : drop i (map g l) ≡ get_or (map g l) i (g 0) ∷ drop (i + 1) (map g l) = rw add-one (drop-cons (map g l) i (g 0) (omega (arith, h, order-length))) in
        record {
          next = cut ∙ ap (λ (q : Range). q ∷ drop (i + 1) (map g l)) here;
          lasting = ap some e ∙ sound-some f order-sound;
        }
