-- Laws of the definitions of specs/Boxes.antt and specs/Items.antt: numbers at a place, what a head that was found fits, and how a list of
-- boxes opens at its first box. Assumes nothing.
use mathlib.Core.Path.{◌≡◌, refl, sym, ap, ◌∙◌, subst}
use mathlib.Core.List.{List, [], ◌∷◌}
use Prim.Native.Nat.{ℕ, zero, suc, ◌+◌, ◌*◌, ◌-◌, ◌≤◌, ◌<◌}
use native.Mathlib.Omega.{arith}
use native.Mathlib.Nat.{add-zero}
use borrow.Author.Tests.{leb-true}
use Rattle.laws.proofs.BoolLaws.{by-test}
use lib.ListN.{length, get_or, take, drop}
use lib.Seq.{get_or-drop, drop-drop}
use Rattle.std.proofs.lemmas.List.{length-drop, length-take-le}
use lib.Dec.{ltb, leb, eqb}
use Rattle.std.specs.Prelude.{Option, Some, None, Result, Ok, Err}
use Rattle.std.specs.List.{slice_range}
use Rattle.std.specs.Int.{w32, w64, from_be_bytes}
use Rattle.boxes.specs.declared.Header.{Header}
use Rattle.boxes.specs.declared.Malformed.{Malformed}
use Rattle.boxes.specs.Boxes.{be4, be8, Mp4Box, refused, sized_of, front_of, onto, box_of, split_front, step_of, size_by, past_front, length_by, before_body, body_start, following_boxes, skipping, boxes_of}
use Rattle.boxes.specs.Items.{following_items, items_past, items_of, collected}

-- the number in 4 bytes from a place on, by its bytes
pub be4-at : (s : List ℕ) (at : ℕ) → be4 (drop at s) ≡ get_or s at 0 * 16777216 + get_or s (at + 1) 0 * 65536 + get_or s (at + 2) 0 * 256 + get_or s (at + 3) 0
unfolding be4
be4-at s at = simp (get_or-drop, add-zero)

-- the number in 8 bytes, by its halves
pub be8-at : (s : List ℕ) (at : ℕ) → be8 (drop at s) ≡ be4 (drop at s) * 4294967296 + be4 (drop (at + 4) s)
unfolding be8
be8-at s at = simp drop-drop

-- and as std reads them
pub be4_read : (s : List ℕ) → 4 ≤ length s → from_be_bytes w32 (take 4 s) ≡ be4 s
unfolding be4
be4_read (a ∷ b ∷ c ∷ d ∷ s) h = omega arith
be4_read [] h = absurd (omega arith)
be4_read (a ∷ []) h = absurd (omega arith)
be4_read (a ∷ b ∷ []) h = absurd (omega arith)
be4_read (a ∷ b ∷ c ∷ []) h = absurd (omega arith)

pub be8_read : (s : List ℕ) → 8 ≤ length s → from_be_bytes w64 (take 8 s) ≡ be8 s
unfolding be4 be8
be8_read (a ∷ b ∷ c ∷ d ∷ s) h = low s (omega arith)
  where
    low : (r : List ℕ) → 4 ≤ length r → from_be_bytes w64 (take 8 (a ∷ b ∷ c ∷ d ∷ r)) ≡ be8 (a ∷ b ∷ c ∷ d ∷ r)
    low (e ∷ f ∷ g ∷ i ∷ r) k = omega arith
    low [] k = absurd (omega arith)
    low (e ∷ []) k = absurd (omega arith)
    low (e ∷ f ∷ []) k = absurd (omega arith)
    low (e ∷ f ∷ g ∷ []) k = absurd (omega arith)
be8_read [] h = absurd (omega arith)
be8_read (a ∷ []) h = absurd (omega arith)
be8_read (a ∷ b ∷ []) h = absurd (omega arith)
be8_read (a ∷ b ∷ c ∷ []) h = absurd (omega arith)

-- what a head that was found fits: the header has at least 8 bytes, and lies in the box, which lies in the list
pub record Inside (n : ℕ) (h : Header) : Type 0 where
  pub least : 8 ≤ h.length
  pub length : h.length ≤ h.size
  pub size : h.size ≤ n

abbrev Fitting : ℕ → Result (Option Header) Malformed → Type 0
Fitting n (Ok None) = Unit {0}
Fitting n (Err e) = Unit {0}
Fitting n (Ok (Some h)) = Inside n h

sized-fitting : (s : List ℕ) (header size : ℕ) → 8 ≤ header → Fitting (length s) (sized_of s header size)
sized-fitting s header size k =
    by-test (Fitting (length s)) (leb header size)
    (λ p. by-test (Fitting (length s)) (leb size (length s)) (λ q. record { least = k; length = leb-true _ _ p; size = leb-true _ _ q }) (λ q. tt))
    (λ p. tt)

front-fitting : (s : List ℕ) → Fitting (length s) (front_of s)
front-fitting s =
    by-test (Fitting (length s)) (eqb (length s) 0) (λ _. tt)
    (λ _. by-test (Fitting (length s)) (ltb (length s) 8) (λ _. tt)
    (λ _. by-test (Fitting (length s)) (eqb (be4 s) 1)
    (λ _. by-test (Fitting (length s)) (ltb (length s) 16) (λ _. tt) (λ _. sized-fitting s 16 (be8 (drop 8 s)) (omega arith)))
    (λ _. sized-fitting s 8 (be4 s) (omega arith))))

pub found_inside : (s : List ℕ) (h : Header) → front_of s ≡ Ok (Some h) → Inside (length s) h
found_inside s h e = rw e at (front-fitting s)

drop-less : (n b : ℕ) (s : List ℕ) → 0 < n → drop n (b ∷ s) ≡ drop (n - 1) s
drop-less zero b s h = absurd (omega arith)
drop-less (suc n) b s h = let e : n ≡ suc n - 1 = omega arith in ap (λ (k : ℕ). drop k s) e

-- to skip is to drop
pub skipping-drop : (s : List ℕ) (k : ℕ) → k ≤ length s → skipping s k ≡ boxes_of (drop k s)
unfolding skipping
skipping-drop [] zero h = refl
skipping-drop [] (suc k) h = absurd (omega arith)
skipping-drop (b ∷ s) zero h = refl
skipping-drop (b ∷ s) (suc k) h = skipping-drop s k (omega arith)

-- how a list opens: at a head that was found, its box and then the boxes of the rest
pub boxes-found : (s : List ℕ) (h : Header) → front_of s ≡ Ok (Some h) → boxes_of s ≡ onto (box_of s h) (boxes_of (drop h.size s))
unfolding skipping
boxes-found [] h e = let z : ◌≡◌ {A = ℕ} 0 1 = cc in absurd (omega arith)
boxes-found (b ∷ s) h e =
    let i = found_inside (b ∷ s) h e in
    rw e (ap (onto (box_of (b ∷ s) h)) (skipping-drop s (h.size - 1) (omega arith) ∙ ap boxes_of (sym (drop-less h.size b s (omega arith)))))

-- where no box stands, it is refused
pub boxes-bad : (s : List ℕ) → front_of s ≡ refused → boxes_of s ≡ refused
unfolding skipping
boxes-bad [] e = let z : ◌≡◌ {A = ℕ} 0 1 = cc in absurd (omega arith)
boxes-bad (b ∷ s) e = rw e

-- where nothing is left, there are no boxes
pub boxes-end : (s : List ℕ) → front_of s ≡ Ok None → boxes_of s ≡ Ok []
unfolding skipping
boxes-end [] e = refl
boxes-end (b ∷ s) e = rw e

-- how a box that was found at a place ends: further on, and with its body
pub record Ends (s : List ℕ) (at next : ℕ) (body : List ℕ) : Type 0 where
  pub start : next - length body ≡ body_start s at
  pub further : at < next
  pub bytes : slice_range s (next - length body) next ≡ body

pub box_found : (s : List ℕ) (at next : ℕ) (x : Mp4Box) (rest : List ℕ) → step_of (drop at s) ≡ Ok (Some (x, rest)) → next ≡ at + past_front (drop at s) → Ends s at next x.body
box_found s at next x rest e n = go (front_of (drop at s)) refl e
  where
    go : (f : Result (Option Header) Malformed) → front_of (drop at s) ≡ f → split_front (drop at s) f ≡ Ok (Some (x, rest)) → Ends s at next x.body
    go (Ok None) i j = let z : ◌≡◌ {A = ℕ} 0 1 = cc in absurd (omega arith)
    go (Err y) i j = let z : ◌≡◌ {A = ℕ} 0 1 = cc in absurd (omega arith)
    go (Ok (Some h)) i j =
        let p : ◌≡◌ {A = Mp4Box × List ℕ} (box_of (drop at s) h, drop h.size (drop at s)) (x, rest) = cc in
        let m : next ≡ at + h.size = n ∙ ap (λ f. at + size_by f) i in
        let b : before_body (drop at s) ≡ h.length = ap length_by i in
        let k = found_inside (drop at s) h i in
        let d : length (take (h.size - h.length) (drop h.length (drop at s))) ≡ h.size - h.length = length-take-le _ _ (omega (arith, length-drop h.length (drop at s))) in
        let a : at + h.size - (h.size - h.length) ≡ at + h.length = omega arith in
        let c : at + h.size - (at + h.length) ≡ h.size - h.length = omega arith in
        subst (λ z. Ends s at next z.0.body) p (record {
          start = rw (d, m, b, a) refl;
          further = omega arith;
          bytes = rw (d, m, a, c) (ap (take (h.size - h.length)) (sym (drop-drop h.length at s)));
        })

-- ---- the items of a loop

-- to go past bytes is to drop them
pub items_past-drop : (s : List ℕ) (k : ℕ) → k ≤ length s → items_past s k ≡ items_of (drop k s)
unfolding items_past
items_past-drop [] zero h = refl
items_past-drop [] (suc k) h = absurd (omega arith)
items_past-drop (b ∷ s) zero h = refl
items_past-drop (b ∷ s) (suc k) h = items_past-drop s k (omega arith)

-- the items that a step leads to
abbrev pub after_step : Result (Option (Mp4Box × List ℕ)) Malformed → List (Result Mp4Box Malformed)
after_step (Ok None) = []
after_step (Ok (Some x)) = Ok x.0 ∷ items_of x.1
after_step (Err e) = Err e ∷ []

-- what comes of bytes is their first item and what comes of the rest
pub items_of_step : (s : List ℕ) → items_of s ≡ after_step (step_of s)
unfolding items_past
items_of_step [] = refl
items_of_step (b ∷ s) = go (front_of (b ∷ s)) refl
  where
    go : (f : Result (Option Header) Malformed) → front_of (b ∷ s) ≡ f → items_of (b ∷ s) ≡ after_step (split_front (b ∷ s) f)
    go (Ok None) e = rw e
    go (Err x) e = rw e
    go (Ok (Some h)) e =
        let i = found_inside (b ∷ s) h e in
        rw e (ap (λ (l : List (Result Mp4Box Malformed)). Ok (box_of (b ∷ s) h) ∷ l) (items_past-drop s (h.size - 1) (omega arith) ∙ ap items_of (sym (drop-less h.size b s (omega arith)))))

-- the items are the boxes, or the fault among them
items-past-collected : (s : List ℕ) (k : ℕ) → collected (items_past s k) ≡ skipping s k
unfolding items_past skipping
items-past-collected [] zero = refl
items-past-collected [] (suc k) = refl
items-past-collected (b ∷ s) (suc k) = items-past-collected s k
items-past-collected (b ∷ s) zero = go (front_of (b ∷ s)) (items-past-collected s)
  where
    go : (f : Result (Option Header) Malformed) → ((k : ℕ) → collected (items_past s k) ≡ skipping s k)
        → collected (following_items (b ∷ s) f (λ k. items_past s k)) ≡ following_boxes (b ∷ s) f (λ k. skipping s k)
    go (Ok None) rest = refl
    go (Err x) rest = refl
    go (Ok (Some h)) rest = ap (onto (box_of (b ∷ s) h)) (rest (h.size - 1))

pub items_are : (s : List ℕ) → collected (items_of s) ≡ boxes_of s
items_are s = items-past-collected s 0
