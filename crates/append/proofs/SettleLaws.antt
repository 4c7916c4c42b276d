-- The last pass settled: by the cause that steps 4 to 6 give, the frame is dropped or stored.
use Rattle.std.specs.Prelude.{Ok, Err}
use mathlib.Core.Path.{◌≡◌, refl}
use mathlib.Core.Bool.{Bool, true, false, cond}
use mathlib.Core.List.{List, [], ◌∷◌, ◌++◌}
use Prim.Native.Nat.{ℕ, ◌≤◌, ◌<◌}
use native.Mathlib.Omega.{arith}
use lib.Dec.{ltb, eqb}
use lib.ListN.{length, drop, set}
use borrow.Author.Tests.{le-ltb, lt-ltb}
use Rattle.laws.proofs.BoolLaws.{by-test}
use Rattle.buffer_state.specs.declared.Refusal.TheVariants.{Full}
use Rattle.buffer_state.specs.Append.{Pass, before_window, past_window, lacks_random_access, dropped_outcome, needing_buffer, stored, settled}
use Rattle.buffer_state.specs.Buffer.{Buffer}
use Rattle.buffer_state.specs.Limits.{places}
use Rattle.heads.specs.Heads.{drop_cause, drop_buffer}
use Rattle.append.specs.Settled.{settled_result}

module _ (p : Pass) where
  -- steps 4 to 9 by the cause
  settled-drop : 1 ≤ drop_cause p → settled p ≡ dropped_outcome (drop_buffer p.buffer p.frame.track (drop_cause p)) (drop_cause p)
  unfolding settled drop_cause drop_buffer
  settled-drop = go (before_window p) (past_window p) (lacks_random_access p)
    where
      go : (t u v : Bool) → 1 ≤ cond t 1 (cond u 2 (cond v 3 0))
          → cond t (dropped_outcome (needing_buffer true p) 1) (cond u (dropped_outcome (needing_buffer true p) 2) (cond v (dropped_outcome p.buffer 3) (stored (record { buffer = needing_buffer false p; frame = p.frame }))))
          ≡ dropped_outcome (cond (eqb (cond t 1 (cond u 2 (cond v 3 0))) 3) p.buffer (needing_buffer true p)) (cond t 1 (cond u 2 (cond v 3 0)))
      go true u v h = refl
      go false true v h = refl
      go false false true h = refl
      go false false false h = absurd (omega arith)

  settled-store : drop_cause p ≡ 0 → settled p ≡ stored (record { buffer = needing_buffer false p; frame = p.frame })
  unfolding settled drop_cause
  settled-store = go (before_window p) (past_window p) (lacks_random_access p)
    where
      go : (t u v : Bool) → ◌≡◌ {A = ℕ} (cond t 1 (cond u 2 (cond v 3 0))) 0
          → cond t (dropped_outcome (needing_buffer true p) 1) (cond u (dropped_outcome (needing_buffer true p) 2) (cond v (dropped_outcome p.buffer 3) (stored (record { buffer = needing_buffer false p; frame = p.frame }))))
          ≡ stored (record { buffer = needing_buffer false p; frame = p.frame })
      go true u v h = absurd (omega arith)
      go false true v h = absurd (omega arith)
      go false false true h = absurd (omega arith)
      go false false false h = refl

  -- ---- after refusal 8

  pub drop-frames : (cause : ℕ) → (drop_buffer p.buffer p.frame.track cause).frames ≡ p.buffer.frames
  unfolding drop_buffer
  drop-frames cause = by-test (λ (b : Buffer). b.frames ≡ p.buffer.frames) (eqb cause 3) (λ _. refl) (λ _. refl)

  -- a dropped frame needs no room
  pub drop-result : (cause : ℕ) → cause ≡ drop_cause p → 1 ≤ cause → length p.buffer.frames ≤ places
      → settled_result p ≡ Ok (dropped_outcome (drop_buffer p.buffer p.frame.track cause) cause)
  unfolding settled_result
  drop-result cause e h few =
      let o : settled p ≡ dropped_outcome (drop_buffer p.buffer p.frame.track cause) cause =
      rw e (settled-drop (omega arith)) in
      let room : ltb places (length (drop_buffer p.buffer p.frame.track cause).frames) ≡ false = rw (drop-frames cause) (le-ltb _ _ few) in
      rw (o, room)

  module _ (e : drop_cause p ≡ 0) where
    pub store-full : places < length (stored (record { buffer = needing_buffer false p; frame = p.frame })).after.frames → settled_result p ≡ Err Full
    unfolding settled_result
    store-full h = rw (settled-store e, lt-ltb _ _ h)

    pub store-result : length (stored (record { buffer = needing_buffer false p; frame = p.frame })).after.frames ≤ places
        → settled_result p ≡ Ok (stored (record { buffer = needing_buffer false p; frame = p.frame }))
    unfolding settled_result
    store-result h = rw (settled-store e, le-ltb _ _ h)

-- one line written
pub one_line : {A : Type 0} (l : List A) (x : A) → 1 ≤ length l → set l 0 x ≡ (x ∷ []) ++ drop 1 l
one_line [] x h = absurd (omega arith)
one_line (y ∷ l) x h = refl
