-- A run grows by a call: what it hands out, what the lists hold, and how much room is left.
use Rattle.std.specs.Prelude.{Ok, Err}
use mathlib.Core.Path.{◌≡◌, refl, sym, ap, ◌∙◌}
use mathlib.Core.List.{List, [], ◌∷◌, ◌++◌, map, append_assoc, append-nil}
use Prim.Native.Nat.{ℕ, zero, suc, ◌+◌, ◌≤◌, ◌<◌}
use native.Mathlib.Nat.{add-zero}
use native.Mathlib.Numerals.{add-one}
use native.Mathlib.Omega.{arith}
use lib.ListN.{length, take, drop, set, length-append, length-drop, length-map, take-append-drop}
use lib.Seq.{take_at, set_split, drop-append-add, drop-drop}
use Rattle.buffer_state.specs.declared.Offered.{Offered}
use Rattle.buffer_state.specs.Buffer.{Buffer}
use Rattle.buffer_state.specs.Refusals.{CallResult}
use Rattle.buffer_state.specs.Run.{Call, append_call, remove_call, abort_call, mode_call, offset_call, window_start_call, window_end_call, read_call, ranges_call, common_call, batch_call, walked_call, seek_call, Answer, Entry, reply_to, run, last_of, lines_in, handed_out, accepted_in, offered_by, offers, total}
use Rattle.buffer_state.specs.Store.{Line}
use Rattle.buffer_laws.proofs.CallLaws.{numbers_after, total-ones}
use Rattle.buffer_laws.proofs.RunLaws.{run-lawful}
use Rattle.buffer_laws.proofs.StoreLaws.{frame_weight}
use Rattle.call_list.specs.Listed.{all_out, Filled}
use Rattle.call_rows.specs.Replies.{written_at}

-- ---- one call more

abbrev pub entry_of : Call → Buffer → Entry
entry_of c b = record { call = c; result = (reply_to c b).result }

pub last_more : (b : Buffer) (cs : List Call) (c : Call) → last_of b (cs ++ (c ∷ [])) ≡ (reply_to c (last_of b cs)).after
unfolding last_of
last_more b [] c = refl
last_more b (d ∷ cs) c = last_more (reply_to d b).after cs c

pub run_more : (b : Buffer) (cs : List Call) (c : Call) → run b (cs ++ (c ∷ [])) ≡ run b cs ++ (entry_of c (last_of b cs) ∷ [])
unfolding run last_of
run_more b [] c = refl
run_more b (d ∷ cs) c = λ i. entry_of d b ∷ run_more (reply_to d b).after cs c i

pub out-more : {A : Type 0} (of : CallResult Answer → List A) (es : List Entry) (e : Entry) → all_out of (es ++ (e ∷ [])) ≡ all_out of es ++ of e.result
unfolding all_out
out-more of [] e = append-nil (of e.result)
out-more of (d ∷ es) e = ap (λ l. of d.result ++ l) (out-more of es e) ∙ sym (append_assoc (of d.result) (all_out of es) (of e.result))

pub lines-out : (es : List Entry) → all_out lines_in es ≡ handed_out es
unfolding all_out handed_out
lines-out [] = refl
lines-out (e ∷ es) = ap (λ (l : List Line). lines_in e.result ++ l) (lines-out es)

pub map-append : {A B : Type 0} (f : A → B) (xs ys : List A) → map f (xs ++ ys) ≡ map f xs ++ map f ys
map-append f [] ys = refl
map-append f (x ∷ xs) ys = λ i. f x ∷ map-append f xs ys i

-- ---- a list filled from its front

module _ {A : Type 0} where
  pub filled_none : (before : List A) → Filled [] before before 0
  filled_none before = record { count = refl; list = refl; same = refl }

  -- the same elements and the same count, otherwise said
  pub refilled : {new new' before after : List A} {n n' : ℕ} → new ≡ new' → n ≡ n' → Filled new before after n → Filled new' before after n'
  refilled {new} {new'} {before} {after} {n} {n'} e d f = record {
    count = sym d ∙ f.count ∙ ap length e;
    list = f.list ∙ (λ i. e i ++ drop (d i) before);
    same = f.same;
  }

  pub set-written : (l : List A) (i : ℕ) (x : A) → i < length l → set l i x ≡ written_at l i (x ∷ [])
  set-written l i x h = rw add-one (set_split l i x h)

  pub written_none : (l : List A) (i : ℕ) → written_at l i [] ≡ l
  written_none l i = rw (add-zero i) (take-append-drop i l)

  pub filled-inside : {new before after : List A} {n : ℕ} → Filled new before after n → n ≤ length before
  filled-inside {new} {before} {after} {n} f =
      omega (arith, f.count, f.same, ap length f.list, length-append new (drop n before), length-drop n before)

  pub filled_more : {new before after after' : List A} {n : ℕ} → Filled new before after n → (more : List A)
      → after' ≡ written_at after n more → length after' ≡ length after → Filled (new ++ more) before after' (n + length more)
  filled_more {new} {before} {after} {after'} {n} f more e l = record {
    count = omega (arith, f.count, length-append new more);
    list =
        let front : take n after ≡ new = ap (take n) f.list ∙ take_at new (drop n before) n (sym f.count) in
        let rest : drop (n + length more) after ≡ drop (n + length more) before =
        ap (drop (n + length more)) f.list
        ∙ ap (λ (k : ℕ). drop (k + length more) (new ++ drop n before)) f.count
        ∙ drop-append-add new (drop n before) (length more) ∙ drop-drop (length more) n before in
        e ∙ (λ i. front i ++ (more ++ rest i)) ∙ sym (append_assoc new more (drop (n + length more) before));
    same = l ∙ f.same;
  }

-- ---- how much is handed out

numbers-length : (n k : ℕ) → length (numbers_after n k) ≡ k
unfolding numbers_after
numbers-length n zero = refl
numbers-length n (suc k) = omega (arith, numbers-length (n + 1) k)

-- the frames that a call offers
abbrev pub frames_in : Call → ℕ
frames_in (append_call lent f) = 1
frames_in (remove_call lent start end) = 0
frames_in abort_call = 0
frames_in (mode_call m) = 0
frames_in (offset_call x) = 0
frames_in (window_start_call x) = 0
frames_in (window_end_call x) = 0
frames_in read_call = 0
frames_in (ranges_call lent track) = 0
frames_in (common_call lent) = 0
frames_in (batch_call lent fs) = length fs
frames_in (walked_call lent track) = 0
frames_in (seek_call track t) = 0

take-few : {A : Type 0} (n : ℕ) (l : List A) → length (take n l) ≤ length l
take-few n l = omega (arith, ap length (take-append-drop n l), length-append (take n l) (drop n l))

offered-few : (c : Call) (r : CallResult Answer) → length (offered_by c r) ≤ frames_in c
offered-few (append_call lent f) (Err why) = omega arith
offered-few (append_call lent f) (Ok a) = omega arith
offered-few (remove_call lent start end) r = omega arith
offered-few abort_call r = omega arith
offered-few (mode_call m) r = omega arith
offered-few (offset_call x) r = omega arith
offered-few (window_start_call x) r = omega arith
offered-few (window_end_call x) r = omega arith
offered-few read_call r = omega arith
offered-few (ranges_call lent track) r = omega arith
offered-few (common_call lent) r = omega arith
offered-few (batch_call lent fs) r = omega (arith, length-map (take (accepted_in r) fs) (λ (f : Offered). f.track), take-few (accepted_in r) fs)
offered-few (walked_call lent track) r = omega arith
offered-few (seek_call track t) r = omega arith

offers-few : (b : Buffer) (cs : List Call) → length (offers (run b cs)) ≤ total frames_in cs
unfolding run offers total
offers-few b [] = omega arith
offers-few b (c ∷ cs) =
    let r = reply_to c b in
    omega (arith, length-append (offered_by c r.result) (offers (run r.after cs)), offered-few c r.result, offers-few r.after cs)

-- from a buffer without frames there are never more lines than frames offered
pub lines-few : (b : Buffer) (cs : List Call) → b.frames ≡ [] → length (handed_out (run b cs)) ≤ total frames_in cs
unfolding total
lines-few b cs e =
    let w : frame_weight (λ _. 1) b.frames ≡ 0 = ap (frame_weight (λ _. 1)) e in
    omega (
      arith,
      (run-lawful b cs).weight (λ _. 1),
      w,
      total-ones (handed_out (run b cs)),
      total-ones (numbers_after b.last (length (offers (run b cs)))),
      numbers-length b.last (length (offers (run b cs))),
      offers-few b cs,
    )
