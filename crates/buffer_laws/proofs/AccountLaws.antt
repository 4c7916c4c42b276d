-- The account of the plain run, for every list of calls on a buffer whose creation was not refused: each number from 1 to the last
-- given is found exactly once, no other is found, and on each track offered equals stored plus dropped plus removed.
-- Both follow from the run's law by one choice each of the weight of a number.
use Rattle.std.specs.Prelude.{Ok}
use mathlib.Core.Path.{◌≡◌, refl, sym, ap, ap₂, ◌∙◌}
use mathlib.Core.Bool.{Bool, true, false, cond, ◌&&◌}
use mathlib.Core.List.{List, [], ◌∷◌, ◌++◌, append_assoc}
use Prim.Native.Nat.{ℕ, zero, suc, ◌+◌, ◌-◌, ◌≤◌, ◌<◌}
use native.Mathlib.Nat.{zero-add}
use native.Mathlib.Omega.{arith}
use lib.Dec.{leb, ltb, eqb}
use lib.ListN.{length, length-append}
use lib.Seq.{get_or_at}
use borrow.Author.Tests.{leb-true, leb-false, eqb-true, eqb-false, lt-ltb, le-ltb, le-leb, lt-leb}
use Rattle.laws.proofs.BoolLaws.{split, and_left, and_right}
use Rattle.buffer_state.specs.declared.Frame.{Frame}
use Rattle.buffer_state.specs.Buffer.{Buffer, fresh}
use Rattle.buffer_state.specs.Settings.{create}
use Rattle.buffer_state.specs.Store.{Line}
use Rattle.buffer_state.specs.Run.{Call, reply_to, lines_in, offered_by, run, last_of, handed_out, offers, track_offered, on_offered, total, count, found_stored, found_told, offered_on, stored_on, told_on, dropped_on, removed_on}
use Rattle.buffer_state.specs.WellFormed.{all_of}
use Rattle.buffer_laws.proofs.TestLaws.{all_first, all_rest, all_none}
use Rattle.buffer_laws.proofs.StoreLaws.{frame_weight}
use Rattle.buffer_laws.proofs.GoodLaws.{IsGood}
use Rattle.buffer_laws.proofs.AppendLaws.{known_cause}
use Rattle.buffer_laws.proofs.SettingLaws.{created-good}
use Rattle.buffer_laws.proofs.CallLaws.{numbers_after}
use Rattle.buffer_laws.proofs.RunLaws.{reply-lawful, run-lawful}

-- ---- conservation, in numbers

-- For each call: the numbers stored after it and on its lines are, each counted as often, those stored before it and those that it
-- gave: the next one for an append that is not refused, the next n for a batch of which n frames were accepted, none for any other.
pub numbers-kept : (c : Call) (b : Buffer) (k : ℕ)
    → found_stored k (reply_to c b).after + count (λ (l : Line). eqb k l.number) (lines_in (reply_to c b).result)
    ≡ found_stored k b + count (eqb k) (numbers_after b.last (length (offered_by c (reply_to c b).result)))
unfolding found_stored count
numbers-kept c b k = (reply-lawful c b).weight (λ (n : ℕ). cond (eqb k n) 1 0)

-- ---- found exactly once

-- how often k is among the numbers after a, so many of them
abbrev among : ℕ → ℕ → ℕ → ℕ
among k a m = cond (ltb a k && leb k (a + m)) 1 0

outside-before : (k a m : ℕ) → k ≤ a → among k a m ≡ 0
outside-before k a m h = rw (le-ltb a k h)

outside-after : (k a m : ℕ) → a + m < k → among k a m ≡ 0
outside-after k a m h = rw (lt-ltb a k (omega arith), lt-leb k (a + m) h)

inside : (k a m : ℕ) → a < k → k ≤ a + m → among k a m ≡ 1
inside k a m h g = rw (lt-ltb a k h, le-leb k (a + m) g)

-- the first of them, or among the rest
among-more : (k a m : ℕ) → cond (eqb k (a + 1)) 1 0 + among k (a + 1) m ≡ among k a (suc m)
among-more k a m =
    split (eqb k (a + 1))
    (λ e. let h : k ≡ a + 1 = eqb-true k (a + 1) e in
    rw (e, outside-before k (a + 1) m (omega arith), inside k a (suc m) (omega arith) (omega arith)))
    (λ e. let h : k ≡ a + 1 → ⊥ = eqb-false k (a + 1) e in
    rw e (omega (
      arith,
      split (leb k a)
          (λ t. let l : k ≤ a = leb-true k a t in outside-before k (a + 1) m (omega arith) ∙ sym (outside-before k a (suc m) l))
          (λ t. let l : a < k = leb-false k a t in
          split (leb k (a + suc m))
          (λ u. let o : k ≤ a + suc m = leb-true k (a + suc m) u in inside k (a + 1) m (omega (arith, h)) (omega arith) ∙ sym (inside k a (suc m) l o))
          (λ u. let o : a + suc m < k = leb-false k (a + suc m) u in outside-after k (a + 1) m (omega arith) ∙ sym (outside-after k a (suc m) o))),
    )))

among-numbers : (k a m : ℕ) → total (λ (n : ℕ). cond (eqb k n) 1 0) (numbers_after a m) ≡ among k a m
unfolding numbers_after total
among-numbers k a zero =
    sym (split (leb k a) (λ t. outside-before k a 0 (leb-true k a t)) (λ t. outside-after k a 0 (omega (arith, leb-false k a t))))
among-numbers k a (suc m) = ap (λ (x : ℕ). cond (eqb k (a + 1)) 1 0 + x) (among-numbers k (a + 1) m) ∙ among-more k a m

-- From a fresh buffer, after every list of calls: a number from 1 to the last given is found exactly once, on one stored frame or
-- one line, and no other number is found.
pub found-once : (kinds : List ℕ) (cs : List Call) (k : ℕ)
    → found_stored k (last_of (fresh kinds) cs) + found_told k (run (fresh kinds) cs) ≡ cond (leb 1 k && leb k (last_of (fresh kinds) cs).last) 1 0
unfolding found_stored found_told count total
found-once kinds cs k =
    let law = run-lawful (fresh kinds) cs in
    let w : ℕ → ℕ = λ (n : ℕ). cond (eqb k n) 1 0 in
    law.weight w ∙ zero-add _ ∙ among-numbers k 0 (length (offers (run (fresh kinds) cs)))
    ∙ ap (λ (n : ℕ). cond (leb 1 k && leb k n) 1 0) (sym law.last)

-- ---- offered, stored, dropped and removed

-- the tracks of the numbers, in order, are the tracks offered
offered-tracks : (v : ℕ → ℕ) (before rest : List ℕ)
    → total (λ (n : ℕ). v (track_offered (before ++ rest) n)) (numbers_after (length before) (length rest)) ≡ total v rest
unfolding numbers_after total
offered-tracks v before [] = refl
offered-tracks v before (x ∷ rest) =
    let here : track_offered (before ++ (x ∷ rest)) (length before + 1) ≡ x = get_or_at before x rest 0 (length before + 1 - 1) (omega arith) in
    let more : length (before ++ (x ∷ [])) ≡ length before + 1 = length-append before (x ∷ []) in
    let shift : (before ++ (x ∷ [])) ++ rest ≡ before ++ (x ∷ rest) = append_assoc before (x ∷ []) rest in
    rw here (ap (λ (t : ℕ). v x + t) (rw (more, shift) at (offered-tracks v (before ++ (x ∷ [])) rest)))

-- equal where a test passes, and the test passes on every element
total-same : {A : Type 0} (p : A → Bool) (v w : A → ℕ) → ((x : A) → p x ≡ true → v x ≡ w x) → (l : List A) → all_of p l ≡ true → total v l ≡ total w l
unfolding total
total-same p v w h [] e = refl
total-same p v w h (x ∷ xs) e = ap₂ ◌+◌ (h x (all_first p x xs e)) (total-same p v w h xs (all_rest p x xs e))

total-sum : {A : Type 0} (v w : A → ℕ) (l : List A) → total (λ (x : A). v x + w x) l ≡ total v l + total w l
unfolding total
total-sum v w [] = refl
total-sum v w (x ∷ xs) = omega (arith, total-sum v w xs)

-- a line of a known cause is dropped or removed, and not both
either : (mine : Bool) (c : ℕ) → (leb 1 c && leb c 6) ≡ true → cond mine 1 0 ≡ cond (mine && (leb 1 c && leb c 3)) 1 0 + cond (mine && (leb 4 c && leb c 6)) 1 0
either false c e = refl
either true c e =
    let from : 1 ≤ c = leb-true 1 c (and_left _ _ e) in
    let to : c ≤ 6 = leb-true c 6 (and_right (leb 1 c) _ e) in
    split (leb c 3)
    (λ t. let h : c ≤ 3 = leb-true c 3 t in rw (le-leb 1 c from, t, lt-leb 4 c (omega arith)))
    (λ t. let h : 3 < c = leb-false c 3 t in rw (le-leb 1 c from, t, le-leb 4 c (omega arith), le-leb c 6 to))

-- On each track offered equals stored plus dropped plus removed.
pub tracks-balance : (kinds : List ℕ) (cs : List Call) (track : ℕ) → create kinds ≡ Ok (fresh kinds)
    → offered_on track (run (fresh kinds) cs)
    ≡ stored_on track (last_of (fresh kinds) cs) + (dropped_on track (run (fresh kinds) cs) + removed_on track (run (fresh kinds) cs))
unfolding offered_on stored_on told_on count total
tracks-balance kinds cs track made =
    let law = run-lawful (fresh kinds) cs in
    let tracks = offers (run (fresh kinds) cs) in
    let v : ℕ → ℕ = λ (x : ℕ). cond (eqb track x) 1 0 in
    let w : ℕ → ℕ = λ (n : ℕ). v (track_offered tracks n) in
    let good : IsGood (fresh kinds) = rw made at (created-good kinds) in
    let placed : all_of (on_offered tracks) (last_of (fresh kinds) cs).frames ≡ true = law.placed good [] refl (all_none (on_offered [])) in
    let stored : total (λ (f : Frame). v f.track) (last_of (fresh kinds) cs).frames ≡ frame_weight w (last_of (fresh kinds) cs).frames =
    total-same (on_offered tracks) _ _ (λ f h. ap v (eqb-true f.track _ h)) (last_of (fresh kinds) cs).frames placed in
    let lines = handed_out (run (fresh kinds) cs) in
    let told =
    total-same known_cause (λ (l : Line). w l.number) _ (λ l h. either (eqb track (track_offered tracks l.number)) l.cause h) lines law.causes
    ∙ total-sum _ _ lines in
    omega (arith, offered-tracks v [] tracks, law.weight w, stored, told)
