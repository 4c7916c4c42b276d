-- A frame put where the arrays were opened for it: they hold the frames with it among them.
use mathlib.Core.Path.{◌≡◌, sym, ap, ◌∙◌}
use mathlib.Core.List.{List, ◌++◌}
use Prim.Native.Nat.{ℕ, ◌+◌, ◌≤◌, ◌<◌}
use native.Mathlib.Omega.{arith}
use lib.IntN.{ℤ}
use lib.ListN.{length, take, drop, set}
use Rattle.laws.proofs.ListLaws.{first-length}
use Rattle.buffer_state.specs.declared.Frame.{Frame}
use Rattle.buffer_state.specs.Layout.{zero_frame, padded_list}
use Rattle.buffer_state.specs.Limits.{places}
use Rattle.buffer_state.specs.Store.{insert_sorted}
use Rattle.buffer_laws.proofs.OrderLaws.{insert-length}
use Rattle.places.proofs.ListLaws.{full-all}
use Rattle.buffer_state.specs.Lent.{time_of, tag_of, frames_of, times_of, tags_of, Lengths}
use Rattle.places.specs.Places.{opened, GoesAt, Holding}
use Rattle.buffer_laws.proofs.RowLaws.{frames-length}
use Rattle.places.proofs.OpenLaws.{open-filled, map-filled}

module _ (f : Frame) (ts : List (List ℤ)) (gs : List (List ℕ)) (n p : ℕ) (h : n < places) (k : Lengths ts gs) (w : Holding ts gs n) (a : GoesAt f (take n (frames_of ts gs)) p) where
  full : length (frames_of ts gs) ≡ places
  full = frames-length ts gs (k.0 ∙ sym k.1) ∙ k.0

  count : length (take n (frames_of ts gs)) ≡ n
  count = first-length (frames_of ts gs) n (omega (arith, full))

  pub goes-inside : p ≤ n
  goes-inside = omega (arith, a.inside, count)

  filled : set (opened p n (frames_of ts gs)) p f ≡ padded_list places zero_frame (insert_sorted f (take n (frames_of ts gs)))
  filled =
      open-filled (frames_of ts gs) n (omega (arith, full)) p goes-inside f
      ∙ ap (λ (l : List Frame). l ++ drop (n + 1) (frames_of ts gs)) a.put
      ∙ full-all zero_frame (frames_of ts gs) n places (omega (arith, full)) w.zeros (n + 1) (omega arith)
      (insert_sorted f (take n (frames_of ts gs))) (omega (arith, insert-length f (take n (frames_of ts gs)), count))

  pub times-filled : set (opened p n ts) p (time_of f) ≡ times_of (padded_list places zero_frame (insert_sorted f (take n (frames_of ts gs))))
  unfolding times_of
  times-filled = ap (λ (l : List (List ℤ)). set (opened p n l) p (time_of f)) w.times ∙ map-filled time_of (frames_of ts gs) p n f ∙ ap times_of filled

  pub tags-filled : set (opened p n gs) p (tag_of f) ≡ tags_of (padded_list places zero_frame (insert_sorted f (take n (frames_of ts gs))))
  unfolding tags_of
  tags-filled = ap (λ (l : List (List ℕ)). set (opened p n l) p (tag_of f)) w.tags ∙ map-filled tag_of (frames_of ts gs) p n f ∙ ap tags_of filled
