-- An array overwritten from its front by the images of a list, one at a time; then cleared up to n.
use mathlib.Core.Path.{◌≡◌, refl, sym, ap, ◌∙◌}
use mathlib.Core.List.{List, [], ◌∷◌, ◌++◌, map, map-append, append_assoc, cons-ne-nil}
use Prim.Native.Nat.{ℕ, zero, suc, ◌+◌, ◌-◌, ◌≤◌, ◌<◌}
use native.Mathlib.Nat.{not-suc-le-zero}
use native.Mathlib.Numerals.{add-one}
use native.Mathlib.Omega.{arith}
use lib.ListN.{length, take, drop, get_or, set, replicate, length-map, length-drop, replicate-append-replicate}
use lib.Seq.{length-take-le, take_all, take_at, drop-append-add}
use Rattle.places.proofs.ListLaws.{front-more, front_read}
use Rattle.buffer_state.specs.Layout.{padded_list}

-- the next of a list
pub next_of : {A : Type 0} (l : List A) (k : ℕ) (x : A) (r : List A) → drop k l ≡ x ∷ r → (k < length l) × (take (k + 1) l ≡ take k l ++ (x ∷ [])) × (drop (k + 1) l ≡ r)
next_of l k x r e = rw (add-one k) (go l k e)
  where
    go : (l : List _) (k : ℕ) → drop k l ≡ x ∷ r → (k < length l) × (take (suc k) l ≡ take k l ++ (x ∷ [])) × (drop (suc k) l ≡ r)
    go [] zero e = absurd (cons-ne-nil x r (sym e))
    go [] (suc k) e = absurd (cons-ne-nil x r (sym e))
    go (y ∷ l) zero e = let p : y ≡ x = cc in let q : l ≡ r = cc in (omega arith, rw p, q)
    go (y ∷ l) (suc k) e = let g = go l k e in (omega (arith, g.0), ap (λ (z : List _). y ∷ z) g.1, g.2)

-- an element inside is read whatever stands past the end
pub map_read : {A B : Type 0} (f : A → B) (l : List A) (i : ℕ) (z : A) (y : B) → i < length l → get_or (map f l) i y ≡ f (get_or l i z)
map_read f [] i z y h = absurd (not-suc-le-zero h)
map_read f (x ∷ l) zero z y h = refl
map_read f (x ∷ l) (suc i) z y h = map_read f l i z y (omega arith)

module _ {A B : Type 0} (f : A → B) (l : List A) (d t : List B) (k : ℕ) (h : k ≤ length l) (e : t ≡ map f (take k l) ++ drop k d) where
  front : k ≡ length (map f (take k l))
  front = sym (length-map (take k l) f ∙ length-take-le k l h)

  -- what is not overwritten yet
  pub later-read : (i : ℕ) (z : B) → k ≤ i → get_or t i z ≡ get_or d i z
  later-read i z g = ap (λ (x : List B). get_or x i z) e ∙ front_read (map f (take k l)) d k front i z g

  -- one image more
  pub written_next : (x : A) (r : List A) → drop k l ≡ x ∷ r → k < length d → set t k (f x) ≡ map f (take (k + 1) l) ++ drop (k + 1) d
  written_next x r q g =
      rw (e, (next_of l k x r q).1, map-append f (take k l) (x ∷ []))
      (front-more (map f (take k l)) d k front (f x) g)

  -- all of them are written
  pub written_all : drop k l ≡ [] → (t ≡ map f l ++ drop k d) × (k ≡ length l)
  written_all q =
      let n : k ≡ length l = omega (arith, ap length q, length-drop k l) in
      (e ∙ ap (λ (x : List A). map f x ++ drop k d) (take_all k l (omega arith)), n)

-- what stands past n, and zeros from k up to it
pub cleared-all : {A B : Type 0} (f : A → B) (z : A) (l fs : List A) (t : List B) (k n places : ℕ) → k ≡ length l → k ≤ n → n ≤ places → n ≤ length fs
    → t ≡ map f l ++ drop k (map f fs) → drop n fs ≡ replicate (places - n) z
    → (take k t ++ replicate (n - k) (f z)) ++ drop n t ≡ map f (padded_list places z l)
cleared-all {A} {B} f z l fs t k n places e h g w q r =
    let ml : length (map f l) ≡ k = length-map l f ∙ sym e in
    let a : take k t ≡ map f l = ap (take k) q ∙ take_at (map f l) (drop k (map f fs)) k ml in
    let b : drop n t ≡ map f (drop n fs) = past in
    let c : (n - k) + (places - n) ≡ places - length l = omega arith in
    rw (a, b, r, map-append f l (replicate (places - length l) z), map-replicate (places - n), map-replicate (places - length l), ← c)
    (append_assoc (map f l) (replicate (n - k) (f z)) (replicate (places - n) (f z)) ∙ ap (λ (x : List B). map f l ++ x) (replicate-append-replicate (n - k) (places - n) (f z)))
  where
    map-replicate : (m : ℕ) → map f (replicate m z) ≡ replicate m (f z)
    map-replicate zero = refl
    map-replicate (suc m) = ap (λ (x : List B). f z ∷ x) (map-replicate m)

    drop-map : (m : ℕ) (l : List A) → drop m (map f l) ≡ map f (drop m l)
    drop-map zero l = refl
    drop-map (suc m) [] = refl
    drop-map (suc m) (x ∷ l) = drop-map m l

    drop-drop : (m j : ℕ) (l : List B) → drop m (drop j l) ≡ drop (j + m) l
    drop-drop m zero l = let s : 0 + m ≡ m = omega arith in rw s
    drop-drop m (suc j) [] = let s : suc j + m ≡ suc (j + m) = omega arith in rw s (nothing m)
      where
        nothing : (m : ℕ) → drop {A = B} m [] ≡ []
        nothing zero = refl
        nothing (suc m) = refl
    drop-drop m (suc j) (x ∷ l) = let s : suc j + m ≡ suc (j + m) = omega arith in rw s (drop-drop m j l)

    past : drop n t ≡ map f (drop n fs)
    past =
        let s : n ≡ length (map f l) + (n - k) = omega (arith, length-map l f) in
        let u : k + (n - k) ≡ n = omega arith in
        ap (drop n) q ∙ ap (λ (x : ℕ). drop x (map f l ++ drop k (map f fs))) s ∙ drop-append-add (map f l) (drop k (map f fs)) (n - k)
        ∙ drop-drop (n - k) k (map f fs) ∙ ap (λ (x : ℕ). drop x (map f fs)) u ∙ drop-map n fs
