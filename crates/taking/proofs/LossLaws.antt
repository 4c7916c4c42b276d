-- The first loss, one frame after another.
use Rattle.std.specs.Prelude.{Option, None, Some, is_some}
use mathlib.Core.Path.{◌≡◌, refl, sym, ap, ◌∙◌}
use mathlib.Core.Bool.{Bool, true, false, cond, and-false}
use mathlib.Core.List.{List, [], ◌∷◌, ◌++◌, map}
use Prim.Native.Nat.{ℕ}
use lib.Dec.{eqb}
use lib.IntN.{ℤ}
use lib.ListN.{take, drop, get_or, take-append-drop}
use borrow.Author.Tests.{eq-eqb, ne_eqb}
use Rattle.laws.proofs.BoolLaws.{clash}
use Rattle.seconds.specs.Seconds.{Bound, unbounded, at}
use Rattle.buffer_state.specs.declared.Frame.{Frame}
use Rattle.buffer_state.specs.declared.Track.{Track}
use Rattle.buffer_state.specs.Buffer.{zero_track}
use Rattle.buffer_state.specs.Store.{Marked}
use Rattle.taking.specs.Loss.{bound_in, earlier, ends, loss_here, loss_of}
use Rattle.taking.specs.Marks.{mark}
use Rattle.taking.proofs.MarkLaws.{still}

pub earlier-none : (b : Bound) → earlier b unbounded ≡ b
earlier-none unbounded = refl
earlier-none (at z) = refl

-- ---- the loss that a frame is, as the code holds it

is_at : Bound → Bool
is_at unbounded = false
is_at (at z) = true

pub some-loss : (o : Option ℤ) (t : Track) (g : Frame) → bound_in o ≡ loss_here t g → is_some o ≡ true → ends t g ≡ true
unfolding is_at
some-loss None t g h e = clash (sym e)
some-loss (Some z) t g h e = go (ends t g) h
  where
    go : (b : Bool) → at z ≡ cond b (at g.pts) unbounded → b ≡ true
    go true k = refl
    go false k = clash (ap is_at k)

pub none-loss : (o : Option ℤ) (t : Track) (g : Frame) → bound_in o ≡ loss_here t g → is_some o ≡ false → ends t g ≡ false
unfolding is_at
none-loss None t g h e = go (ends t g) h
  where
    go : (b : Bool) → unbounded ≡ cond b (at g.pts) unbounded → b ≡ false
    go true k = clash (sym (ap is_at k))
    go false k = refl
none-loss (Some z) t g h e = clash e

module _ (ts : List Track) where
  -- frames that stay are no loss
  loss-still : (l : List Frame) (ms : List Marked) → loss_of ts (map still l ++ ms) ≡ loss_of ts ms
  unfolding loss_of
  loss-still [] ms = refl
  loss-still (f ∷ l) ms = loss-still l ms

  pub loss-first : (ms : List Marked) (first : ℕ) (l : List Frame) → take first ms ≡ map still l → loss_of ts (drop first ms) ≡ loss_of ts ms
  loss-first ms first l out =
      sym (loss-still l _)
      ∙ ap (λ (early : List Marked). loss_of ts (early ++ drop first ms)) (sym out)
      ∙ ap (loss_of ts) (take-append-drop first ms)

  pub loss-none : (ms : List Marked) → ms ≡ [] → loss_of ts ms ≡ unbounded
  unfolding loss_of
  loss-none ms e = rw e

  -- ---- the next frame

  module _ (g : Frame) (c : ℕ) (ms rest : List Marked) (next : ms ≡ mark g c ∷ rest) where
    pub loss-stays : c ≡ 0 → loss_of ts ms ≡ loss_of ts rest
    unfolding loss_of
    loss-stays e = rw (next, eq-eqb c 0 e)

    pub loss-passed : ends (get_or ts g.track zero_track) g ≡ false → loss_of ts ms ≡ loss_of ts rest
    unfolding loss_of
    loss-passed e = rw (next, e, and-false _)

    pub loss_here_lem : (c ≡ 0 → ⊥) → ends (get_or ts g.track zero_track) g ≡ true → loss_of ts ms ≡ at g.pts
    unfolding loss_of
    loss_here_lem some e = rw (next, e, ne_eqb c 0 some)

    -- a frame that goes is the loss, or it is further on
    pub loss-gone : (lost : Bound) → eqb c 0 ≡ false → earlier (earlier lost (loss_here (get_or ts g.track zero_track) g)) (loss_of ts rest) ≡ earlier lost (loss_of ts ms)
    unfolding loss_of
    loss-gone unbounded some = rw (next, some) (by_end (ends (get_or ts g.track zero_track) g))
      where
        by_end : (t : Bool) → earlier (cond t (at g.pts) unbounded) (loss_of ts rest) ≡ cond t (at g.pts) (loss_of ts rest)
        by_end true = refl
        by_end false = refl
    loss-gone (at z) some = refl
