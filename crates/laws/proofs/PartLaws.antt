-- The rest of a list from a place on, lent as a list of its own: it goes back to its place.
use mathlib.Core.Path.{◌≡◌, ap, ◌∙◌}
use mathlib.Core.List.{List, [], ◌++◌, append-nil}
use Prim.Native.Nat.{ℕ, ◌-◌}
use native.Mathlib.Omega.{arith}
use borrow.Rule.Slice.PartMut.{mid_of, put_mid}
use lib.ListN.{length, take, drop, length-drop, drop_of_length-le}
use lib.Seq.{take_all}

module _ {A : Type 0} (xs : List A) (at : ℕ) where
  pub rest-lent : mid_of at (length xs - at) xs ≡ drop at xs
  rest-lent = take_all (length xs - at) (drop at xs) (omega (arith, length-drop at xs))

  pub rest-length : length (mid_of at (length xs - at) xs) ≡ length xs - at
  rest-length = ap length rest-lent ∙ length-drop at xs

  pub rest_back : (ys : List A) → put_mid at (length xs - at) xs ys ≡ take at xs ++ ys
  rest_back ys =
      let none : drop (length xs - at) (drop at xs) ≡ [] = drop_of_length-le (drop at xs) {i = length xs - at} (omega (arith, length-drop at xs)) in
      ap (λ (zs : List A). take at xs ++ (ys ++ zs)) none ∙ ap (λ (zs : List A). take at xs ++ zs) (append-nil ys)
