-- Arrays that a loop overwrites from the front, and arrays with zeros past the first n.
use mathlib.Core.Path.{◌≡◌, sym, ap, ◌∙◌}
use mathlib.Core.List.{List, [], ◌∷◌, ◌++◌}
use Prim.Native.Nat.{ℕ, zero, suc, ◌+◌, ◌-◌, ◌≤◌, ◌<◌}
use native.Mathlib.Numerals.{add-one}
use native.Mathlib.Omega.{arith}
use lib.ListN.{length, take, drop, get_or, set, replicate}
use lib.Seq.{drop-cons, get_or-append-add, get_or-drop, set_at, append_snoc, drop-append-add}
use Rattle.laws.proofs.ListLaws.{first-length}
use Rattle.buffer_state.specs.Layout.{padded_list}

-- ---- the front of an array

module _ {A : Type 0} (p d : List A) (k : ℕ) (e : k ≡ length p) where
  -- one more element is written past those written
  pub front-more : (x : A) → k < length d → set (p ++ drop k d) k x ≡ (p ++ (x ∷ [])) ++ drop (k + 1) d
  front-more x h = rw (append_snoc, add-one, drop-cons d k x h) (set_at p (get_or d k x) (drop (suc k) d) x k (sym e))

  -- an element past the front is the one that was there
  pub front_read : (i : ℕ) (z : A) → k ≤ i → get_or (p ++ drop k d) i z ≡ get_or d i z
  front_read i z h =
      let q : i ≡ length p + (i - k) = omega arith in
      let r : k + (i - k) ≡ i = omega arith in
      ap (λ (x : ℕ). get_or (p ++ drop k d) x z) q ∙ get_or-append-add p (drop k d) (i - k) z ∙ get_or-drop k d (i - k) z ∙ ap (λ (x : ℕ). get_or d x z) r

-- ---- zeros past the first n

drop-replicate : {A : Type 0} (k n : ℕ) (z : A) → drop k (replicate n z) ≡ replicate (n - k) z
drop-replicate zero n z = let e : n - 0 ≡ n = omega arith in rw e
drop-replicate (suc k) zero z = let e : 0 - suc k ≡ 0 = omega arith in rw e
drop-replicate (suc k) (suc n) z = let e : suc n - suc k ≡ n - k = omega arith in rw e (drop-replicate k n z)

module _ {A : Type 0} (z : A) (l : List A) (n places : ℕ) (k : n ≤ length l) (w : l ≡ padded_list places z (take n l)) where
  pub zeros-from : (m : ℕ) → n ≤ m → drop m l ≡ replicate (places - m) z
  zeros-from m h =
      let e : length (take n l) ≡ n = first-length l n k in
      let a : m ≡ length (take n l) + (m - n) = omega arith in
      let b : (places - length (take n l)) - (m - n) ≡ places - m = omega arith in
      ap (drop m) w
      ∙ ap (λ (x : ℕ). drop x (padded_list places z (take n l))) a
      ∙ drop-append-add (take n l) (replicate (places - length (take n l)) z) (m - n)
      ∙ drop-replicate (m - n) (places - length (take n l)) z
      ∙ ap (λ (c : ℕ). replicate c z) b

  -- what takes the first m places is padded to the end
  pub full-all : (m : ℕ) → n ≤ m → (p : List A) → length p ≡ m → p ++ drop m l ≡ padded_list places z p
  full-all m h p q = rw (zeros-from m h, q)
