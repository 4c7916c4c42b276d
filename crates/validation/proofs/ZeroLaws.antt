-- Rows of zeros, gathered by columns: `|` is zero exactly where both sides are.
use mathlib.Core.Path.{◌≡◌, refl, sym, ap, ap₂, ◌∙◌}
use mathlib.Core.Bool.{Bool, true, false, ◌&&◌, and-true, and_assoc}
use mathlib.Core.List.{List, []}
use Prim.Native.Nat.{ℕ, ◌+◌, ◌-◌, ◌≤◌, ◌<◌}
use native.Mathlib.Numerals.{add-one}
use native.Mathlib.Omega.{arith}
use lib.Bits.{bit_or, or_add_and, and_le_l, and_le_r}
use lib.Dec.{eqb}
use lib.IntN.{ℤ, pos}
use lib.ListN.{length, take, drop, get_or, length-drop, drop_of_length-le}
use lib.Seq.{drop-cons, get_or-drop, take_all}
use mir.Syntax.{w64}
use mir.Val.{SFits, of_z, to_z}
use mir.ValLaws.{to_z-of_z}
use borrow.Author.Tests.{eqb-true, eq-eqb}
use Rattle.laws.proofs.BoolLaws.{and_left, and_right, and_both, same_test}
use Rattle.seconds.proofs.SecondsLaws.{int_same, same_int_lem}
use Rattle.buffer_state.specs.WellFormed.{all_of, zero_int}
use Rattle.validation.specs.Tests.{is_zero_time, is_zero_tag}

-- ---- a column

pub or-none : (a b : ℕ) → eqb (bit_or a b) 0 ≡ (eqb a 0 && eqb b 0)
or-none a b =
    let sum = or_add_and a b in
    same_test _ _
    (λ e.
    let o : bit_or a b ≡ 0 = eqb-true (bit_or a b) 0 e in
    and_both (eq-eqb a 0 (omega (arith, sum, and_le_r a b, o))) (eq-eqb b 0 (omega (arith, sum, and_le_l a b, o))))
    (λ e.
    let x : a ≡ 0 = eqb-true a 0 (and_left (eqb a 0) (eqb b 0) e) in
    let y : b ≡ 0 = eqb-true b 0 (and_right (eqb a 0) (eqb b 0) e) in
    eq-eqb (bit_or a b) 0 (omega (arith, sum, x, y)))

-- an integer's bits
pub bits_none : (z : ℤ) → SFits w64 z → eqb (of_z w64 z) 0 ≡ zero_int z
bits_none z f =
    same_test _ _
    (λ e. let p : z ≡ pos 0 = sym (to_z-of_z w64 z f) ∙ ap (to_z w64) (eqb-true (of_z w64 z) 0 e) in rw p (int_same (pos 0)))
    (λ e. let p : z ≡ pos 0 = same_int_lem z (pos 0) e in rw p)

-- ---- a turn

swap : (a x b y : Bool) → ((a && x) && (b && y)) ≡ ((a && b) && (x && y))
swap false x b y = refl
swap true true b y = refl
swap true false true y = refl
swap true false false y = refl

all-at : {A : Type 0} (p : A → Bool) (l : List A) (i : ℕ) (z : A) → i < length l → all_of p (drop i l) ≡ (p (get_or l i z) && all_of p (drop (i + 1) l))
unfolding all_of
all-at p l i z h = rw (add-one, drop-cons l i z h)

pub all_past : {A : Type 0} (p : A → Bool) (l : List A) (i : ℕ) → length l ≤ i → all_of p (drop i l) ≡ true
unfolding all_of
all_past p l i h = rw (drop_of_length-le l {i = i} h)

-- where nothing is left
pub ended : {A : Type 0} (p : A → Bool) (l : List A) (i : ℕ) (b r : Bool) → length l ≤ i → (b && all_of p (drop i l)) ≡ r → b ≡ r
ended p l i b r h e = sym (ap (λ (x : Bool). b && x) (all_past p l i h) ∙ and-true b) ∙ e

-- the rows past the count, lent as a list of their own
module _ {A : Type 0} (l : List (List A)) (n : ℕ) where
  abbrev pub rows_past : List (List A)
  rows_past = take (length l - n) (drop n l)

  pub past-is : rows_past ≡ drop n l
  past-is = take_all (length l - n) (drop n l) (omega (arith, length-drop n l))

  pub past-width : (w : ℕ) → ((i : ℕ) → i < length l → length (get_or l i []) ≡ w) → (i : ℕ) → i < length rows_past → length (get_or rows_past i []) ≡ w
  past-width w rows i h =
      let h' : i < length (drop n l) = rw past-is at h in
      rw (past-is, get_or-drop n l i []) (rows (n + i) (omega (arith, length-drop n l)))

module _ (ts : List (List ℤ)) (i : ℕ) (h : i < length ts) (k : length (get_or ts i []) ≡ 2) (a b : ℕ) where
  pub times-turn : SFits w64 (get_or (get_or ts i []) 0 (pos 0)) → SFits w64 (get_or (get_or ts i []) 1 (pos 0))
      → ((eqb (bit_or a (of_z w64 (get_or (get_or ts i []) 0 (pos 0)))) 0 && eqb (bit_or b (of_z w64 (get_or (get_or ts i []) 1 (pos 0)))) 0) && all_of is_zero_time (drop (i + 1) ts))
      ≡ ((eqb a 0 && eqb b 0) && all_of is_zero_time (drop i ts))
  times-turn f g =
      let t = get_or ts i [] in
      let x = get_or t 0 (pos 0) in
      let y = get_or t 1 (pos 0) in
      let rest = all_of is_zero_time (drop (i + 1) ts) in
      let columns : (eqb (bit_or a (of_z w64 x)) 0 && eqb (bit_or b (of_z w64 y)) 0) ≡ ((eqb a 0 && eqb b 0) && (zero_int x && zero_int y)) =
      ap₂ (λ (p q : Bool). p && q)
      (or-none a (of_z w64 x) ∙ ap (λ (p : Bool). eqb a 0 && p) (bits_none x f))
      (or-none b (of_z w64 y) ∙ ap (λ (p : Bool). eqb b 0 && p) (bits_none y g))
      ∙ swap (eqb a 0) (zero_int x) (eqb b 0) (zero_int y) in
      ap (λ (p : Bool). p && rest) columns
      ∙ and_assoc (eqb a 0 && eqb b 0) (zero_int x && zero_int y) rest
      ∙ ap (λ (p : Bool). (eqb a 0 && eqb b 0) && p) (sym (all-at is_zero_time ts i [] h ∙ ap (λ (p : Bool). (p && (zero_int x && zero_int y)) && rest) (eq-eqb (length t) 2 k)))

module _ (gs : List (List ℕ)) (i : ℕ) (h : i < length gs) (k : length (get_or gs i []) ≡ 5) (a b c d e : ℕ) where
  pub tags-turn : ((((eqb (bit_or a (get_or (get_or gs i []) 0 0)) 0 && eqb (bit_or b (get_or (get_or gs i []) 1 0)) 0)
      && (eqb (bit_or c (get_or (get_or gs i []) 2 0)) 0 && eqb (bit_or d (get_or (get_or gs i []) 3 0)) 0))
      && eqb (bit_or e (get_or (get_or gs i []) 4 0)) 0) && all_of is_zero_tag (drop (i + 1) gs))
      ≡ ((((eqb a 0 && eqb b 0) && (eqb c 0 && eqb d 0)) && eqb e 0) && all_of is_zero_tag (drop i gs))
  tags-turn =
      let g = get_or gs i [] in
      let v = eqb (get_or g 0 0) 0 in
      let w = eqb (get_or g 1 0) 0 in
      let x = eqb (get_or g 2 0) 0 in
      let y = eqb (get_or g 3 0) 0 in
      let z = eqb (get_or g 4 0) 0 in
      let rest = all_of is_zero_tag (drop (i + 1) gs) in
      let four = (eqb a 0 && eqb b 0) && (eqb c 0 && eqb d 0) in
      let so = four && eqb e 0 in
      let now = ((v && w) && (x && y)) && z in
      let columns : (((eqb (bit_or a (get_or g 0 0)) 0 && eqb (bit_or b (get_or g 1 0)) 0) && (eqb (bit_or c (get_or g 2 0)) 0 && eqb (bit_or d (get_or g 3 0)) 0)) && eqb (bit_or e (get_or g 4 0)) 0) ≡ (so && now) =
      ap₂ (λ (p q : Bool). p && q)
      (ap₂ (λ (p q : Bool). p && q)
      (ap₂ (λ (p q : Bool). p && q) (or-none a (get_or g 0 0)) (or-none b (get_or g 1 0)) ∙ swap (eqb a 0) v (eqb b 0) w)
      (ap₂ (λ (p q : Bool). p && q) (or-none c (get_or g 2 0)) (or-none d (get_or g 3 0)) ∙ swap (eqb c 0) x (eqb d 0) y)
      ∙ swap (eqb a 0 && eqb b 0) (v && w) (eqb c 0 && eqb d 0) (x && y))
      (or-none e (get_or g 4 0))
      ∙ swap four ((v && w) && (x && y)) (eqb e 0) z in
      ap (λ (p : Bool). p && rest) columns ∙ and_assoc so now rest
      ∙ ap (λ (p : Bool). so && p) (sym (all-at is_zero_tag gs i [] h ∙ ap (λ (p : Bool). (p && now) && rest) (eq-eqb (length g) 5 k)))
