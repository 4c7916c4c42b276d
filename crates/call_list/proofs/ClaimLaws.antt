-- How a run ends, and what holds then.
use Rattle.std.specs.Prelude.{Some, Result, Ok, Err, IsErrAnd}
use Rattle.std.specs.Result.{result_err}
use mathlib.Core.Path.{◌≡◌, refl, sym, ap, subst, ◌∙◌}
use mathlib.Core.Bool.{Bool, true, false}
use mathlib.Core.List.{List, []}
use Prim.Native.Nat.{ℕ, suc, ◌-◌, ◌≤◌, ◌<◌}
use native.Mathlib.Omega.{arith}
use lib.Dec.{leb}
use lib.IntN.{ℤ}
use lib.ListN.{length, drop, get_or, drop_of_length-le}
use lib.Seq.{drop-cons}
use Rattle.buffer_state.specs.declared.Head.{Head}
use Rattle.buffer_state.specs.declared.Refusal.{Refusal}
use Rattle.buffer_state.specs.Answers.{created, times_created, tags_created}
use Rattle.buffer_state.specs.Buffer.{Buffer, fresh}
use Rattle.buffer_state.specs.Lent.{lent_of, buffer_in}
use Rattle.buffer_state.specs.Refusals.{CallResult}
use Rattle.buffer_state.specs.Run.{Call, run, total}
use Rattle.buffer_state.specs.Settings.{create}
use Rattle.buffer_state.specs.WellFormed.{good_buffer}
use Rattle.buffer_laws.proofs.GoodLaws.{facts-good}
use Rattle.buffer_laws.proofs.LentLaws.{held_back}
use Rattle.account.specs.Account.{IsAccount}
use Rattle.account.proofs.Claim.{made, made-head, fresh-good, run-accounts}
use Rattle.call_rows.specs.Replies.{lent}
use Rattle.call_list.specs.declared.Ran.{Ran}
use Rattle.call_list.specs.declared.Unrun.{Unrun}
use Rattle.call_list.specs.declared.Unrun.TheVariants.{Unfit, Refused}
use Rattle.call_list.specs.Listed.{row_fits, offers_of_row, rows_fit, ranges_of_row, long_enough, fits, Lists, Replayed, unmade, unrun_for, Ends, IsBegun}

-- ---- whether a list can be run, row by row

module _ (frames room : ℕ) (rows : List (List ℕ)) (i : ℕ) where
  pub rows_stop : i < length rows → row_fits frames room (get_or rows i []) ≡ false → rows_fit frames room (drop i rows) ≡ false
  unfolding rows_fit
  rows_stop h e = rw (drop-cons rows i [] h, e)

  pub rows_step : i < length rows → row_fits frames room (get_or rows i []) ≡ true
      → rows_fit frames room (drop i rows) ≡ rows_fit frames (room - offers_of_row (get_or rows i [])) (drop (suc i) rows)
  unfolding rows_fit
  rows_step h e = rw (drop-cons rows i [] h, e)

  pub rows_end : length rows ≤ i → rows_fit frames room (drop i rows) ≡ true
  unfolding rows_fit
  rows_end h = rw (drop_of_length-le rows {i = i} h)

-- ---- a creation, by its contract

pub record Creation (kinds : List ℕ) (r : Result Head Refusal) (ts₀ ts : List (List ℤ)) (gs₀ gs : List (List ℕ)) : Type 0 where
  pub answer : r ≡ created (create kinds)
  pub times : ts ≡ times_created (create kinds) ts₀
  pub tags : gs ≡ tags_created (create kinds) gs₀

module _ (kinds : List ℕ) (r : Result Head Refusal) (ts₀ ts : List (List ℤ)) (gs₀ gs : List (List ℕ)) (c : Creation kinds r ts₀ ts gs₀ gs) where
  -- ---- that is not refused

  module _ (h : Head) (a : r ≡ Ok h) where
    accepted : create kinds ≡ Ok (fresh kinds)
    accepted = made kinds (sym c.answer ∙ a)

    begun-state : lent h ts gs ≡ lent_of (fresh kinds)
    begun-state =
        let head = made-head kinds (sym c.answer ∙ a) in
        let first = c.times ∙ ap (λ (x : CallResult Buffer). times_created x ts₀) accepted in
        let second = c.tags ∙ ap (λ (x : CallResult Buffer). tags_created x gs₀) accepted in
        λ i. lent (head i) (first i) (second i)

    pub held-fresh : buffer_in (lent h ts gs) ≡ fresh kinds
    held-fresh = ap buffer_in begun-state ∙ held_back (fresh kinds)

    pub begun : IsBegun (lent h ts gs)
    begun = record {
      held = begun-state ∙ ap lent_of (sym held-fresh);
      good = ap good_buffer held-fresh ∙ facts-good (fresh kinds) (fresh-good kinds accepted);
      empty = ap (λ (b : Buffer). b.frames) held-fresh;
    }

  -- ---- that is refused: the arrays are as they were

  kept_by : (x : CallResult Buffer) (why : Refusal) → created x ≡ Err why → (times_created x ts₀ ≡ ts₀) × (tags_created x gs₀ ≡ gs₀)
  kept_by (Err y) why e = (refl, refl)
  kept_by (Ok b) why e = let z : ◌≡◌ {A = ℕ} 0 1 = cc in absurd (omega arith)

  pub kept-arrays : (why : Refusal) → r ≡ Err why → (ts ≡ ts₀) × (gs ≡ gs₀)
  kept-arrays why a =
      let k = kept_by (create kinds) why (sym c.answer ∙ a) in
      (c.times ∙ k.0, c.tags ∙ k.1)

-- ---- how a run ends

refused-by : (x : CallResult Buffer) (why : Refusal) → created x ≡ Err why → Some (Refused why) ≡ unmade x
refused-by (Err y) why e = let f : y ≡ why = cc in ap (λ (w : Refusal). Some (Refused w)) (sym f)
refused-by (Ok b) why e = let z : ◌≡◌ {A = ℕ} 0 1 = cc in absurd (omega arith)

module _ (kinds : List ℕ) (cs : List Call) (before : Lists) (fit : Bool) where
  pub record IsEnded (after : Lists) (q : Result Ran Unrun) : Type 0 where
    pub ending : result_err q ≡ unrun_for kinds fit
    pub claim : Ends q kinds cs before after

  pub unfit : fit ≡ false → IsEnded before (Err Unfit)
  unfolding unrun_for
  unfit f = record { ending = rw f; claim = refl }

  module _ (r : Result Head Refusal) (ts : List (List ℤ)) (gs : List (List ℕ)) (c : Creation kinds r before.times ts before.tags gs) (f : fit ≡ true) where
    -- the lists are as they were, but for the arrays, which a creation clears
    abbrev begun_lists : Lists
    begun_lists = record { answers = before.answers; lines = before.lines; ranges = before.ranges; readings = before.readings; times = ts; tags = gs }

    pub refused-run : (why : Refusal) → r ≡ Err why → (q : Result Ran Unrun) → IsErrAnd q (λ e. e ≡ Refused why) → IsEnded begun_lists q
    unfolding unrun_for
    refused-run why a (Ok ran) e = absurd e
    refused-run why a (Err y) e =
        let k = kept-arrays kinds r _ ts _ gs c why a in
        record {
          ending = rw f (ap (λ (x : Unrun). Some x) e ∙ refused-by (create kinds) why (sym c.answer ∙ a));
          claim = λ i. record { answers = before.answers; lines = before.lines; ranges = before.ranges; readings = before.readings; times = k.0 i; tags = k.1 i };
        }

    pub completed : (h : Head) → r ≡ Ok h → (ran : Ran) (after : Lists) → Replayed (buffer_in (lent h ts gs)) cs ran begun_lists after → IsEnded after (Ok ran)
    unfolding unrun_for
    completed h a ran after l =
        let done = accepted kinds r _ ts _ gs c h a in
        let p : Replayed (fresh kinds) cs ran begun_lists after = subst (λ (b : Buffer). Replayed b cs ran begun_lists after) (held-fresh kinds r _ ts _ gs c h a) l in
        let q : Replayed (fresh kinds) cs ran before after = record { state = p.state; answers = p.answers; lines = p.lines; ranges = p.ranges; readings = p.readings } in
        record {
          ending = rw (f, done);
          claim = record { replayed = q; account = subst (IsAccount (run (fresh kinds) cs)) (sym q.state) (run-accounts kinds done cs) };
        }
