-- What the answer of the test says of a call on a head and two arrays: it is refused as the test is, or goes on with the buffer that they hold.
use mathlib.Core.Path.{◌≡◌, refl, sym, ap}
use mathlib.Core.Bool.{Bool, true, false, cond, not}
use mathlib.Core.List.{List}
use Prim.Native.Nat.{ℕ}
use lib.IntN.{ℤ}
use Rattle.std.specs.Prelude.{Result, Ok, Err}
use Rattle.std.specs.Result.{is_ok, IsErrAnd}
use Rattle.laws.proofs.BoolLaws.{clash}
use Rattle.buffer_state.specs.declared.Head.{Head}
use Rattle.buffer_state.specs.declared.Refusal.{Refusal}
use Rattle.buffer_state.specs.declared.Refusal.TheVariants.{IllFormed}
use Rattle.buffer_state.specs.Buffer.{Buffer}
use Rattle.buffer_state.specs.Layout.{buffer_of}
use Rattle.buffer_state.specs.Lent.{state_at, well_formed_at, on_lent}
use Rattle.buffer_state.specs.Refusals.{CallResult}
use Rattle.buffer_laws.proofs.LentLaws.{on-well_formed}
use Rattle.validation.specs.Tests.{checked}

pub passed : (whole : Bool) {u : Unit {0}} → checked whole ≡ Ok u → whole ≡ true
passed true e = refl
passed false e = clash (sym (ap is_ok e))

pub refused : (whole : Bool) {why : Refusal} → checked whole ≡ Err why → whole ≡ false
refused true e = clash (ap is_ok e)
refused false e = refl

-- an error that `?` hands on as it is, or as the refusal that it becomes
pub handed_on : {A E : Type 0} (r : Result A E) {why : E} → IsErrAnd r (λ (e : E). e ≡ why) → r ≡ Err why
handed_on (Ok x) h = absurd h
handed_on (Err e) h = ap Err h

module _ {A : Type 0} (call : Buffer → CallResult A) (h : Head) (ts : List (List ℤ)) (gs : List (List ℕ)) where
  pub refused_by : {why : Refusal} → checked (well_formed_at h ts gs) ≡ Err why → on_lent call h ts gs ≡ Err why
  unfolding on_lent
  refused_by {why} = go (well_formed_at h ts gs)
    where
      as_refused : CallResult (Unit {0}) → CallResult A
      as_refused (Ok u) = Err IllFormed
      as_refused (Err e) = Err e

      go : (w : Bool) → checked w ≡ Err why → cond (not w) (Err IllFormed) (call (buffer_of (state_at h ts gs))) ≡ Err why
      go true e = clash (ap is_ok e)
      go false e = ap as_refused e

  pub goes_on : {u : Unit {0}} → checked (well_formed_at h ts gs) ≡ Ok u → on_lent call h ts gs ≡ call (buffer_of (state_at h ts gs))
  goes_on e = on-well_formed call h ts gs (passed (well_formed_at h ts gs) e)
