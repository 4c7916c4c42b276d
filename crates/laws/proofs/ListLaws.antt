-- Lists under a loop: the first n elements of an array, read or mapped one at a time.
use mathlib.Core.Path.{◌≡◌, refl, sym, ap, ap₂, ◌∙◌}
use mathlib.Core.List.{List, [], ◌∷◌, ◌++◌, map, map-append}
use Prim.Native.Nat.{ℕ, zero, suc, ◌+◌, ◌≤◌, ◌<◌}
use native.Mathlib.Numerals.{add-one}
use native.Mathlib.Omega.{arith}
use lib.ListN.{length, take, drop, get_or, set, length-take, length-map, drop_of_length-le}
use lib.Seq.{drop-cons, get_or-take, get_or_at, set_at, append_snoc, take-suc, take-suc-set, take_all}

-- what owning a struct says of a field that is an array
pub mapped-length : {A B : Type 0} (f : A → B) (l : List A) (n : ℕ) → length (map f l) ≡ n → length l ≡ n
mapped-length f l n e = sym (length-map l f) ∙ e

pub take-map : {A B : Type 0} (f : A → B) (n : ℕ) (l : List A) → map f (take n l) ≡ take n (map f l)
take-map f zero l = refl
take-map f (suc n) [] = refl
take-map f (suc n) (x ∷ l) = λ i. f x ∷ take-map f n l i

module _ {A : Type 0} (l : List A) (n : ℕ) (k : n ≤ length l) where
  pub first-length : length (take n l) ≡ n
  first-length = rw length-take (omega arith)

  -- one turn of a loop over the first n
  pub first_next : (i : ℕ) (z : A) → i < n → drop i (take n l) ≡ get_or l i z ∷ drop (i + 1) (take n l)
  first_next i z h =
      let h' : i < length (take n l) = rw first-length h in
      rw (add-one, ← get_or-take n l i z, drop-cons (take n l) i z)

  pub first-end : (i : ℕ) → n ≤ i → drop i (take n l) ≡ []
  first-end i h = drop_of_length-le (take n l) {i = i} (rw first-length h)

-- one more element is mapped from one array into another
pub mapped-more : {A B : Type 0} (f : A → B) (l : List A) (out : List B) (i : ℕ) (z : A) (x : B) → i < length l → i < length out
    → take i out ≡ map f (take i l) → x ≡ f (get_or l i z) → take (i + 1) (set out i x) ≡ map f (take (i + 1) l)
mapped-more {B = B} f l out i z x h k e d =
    rw (add-one, take-suc-set out i x k, take-suc l i z h, map-append f (take i l) (get_or l i z ∷ []))
    (ap₂ (λ (p : List B) (y : B). p ++ (y ∷ [])) e d)

-- all of them are
pub all-mapped : {A B : Type 0} (f : A → B) (l : List A) (out : List B) (i : ℕ) → length l ≤ i → length out ≤ i
    → take i out ≡ map f (take i l) → out ≡ map f l
all-mapped f l out i h k e = sym (take_all i out k) ∙ e ∙ ap (map f) (take_all i l h)

-- an array is mapped in place, from its front
module _ {A : Type 0} (f : A → A) (l : List A) where
  abbrev pub mapped_to : ℕ → List A
  mapped_to i = map f (take i l) ++ drop i l

  module _ (i : ℕ) (z : A) (h : i < length l) where
    front : length (map f (take i l)) ≡ i
    front = length-map (take i l) f ∙ (rw length-take (omega arith))

    pub mapped-read : get_or (mapped_to i) i z ≡ get_or l i z
    mapped-read = rw (drop-cons l i z h) (get_or_at (map f (take i l)) (get_or l i z) (drop (suc i) l) z i front)

    pub mapped_next : set (mapped_to i) i (f (get_or l i z)) ≡ mapped_to (i + 1)
    mapped_next =
        rw (add-one, take-suc l i z h, map-append f (take i l) (get_or l i z ∷ []), append_snoc, drop-cons l i z h)
        (set_at (map f (take i l)) (get_or l i z) (drop (suc i) l) (f (get_or l i z)) i front)
