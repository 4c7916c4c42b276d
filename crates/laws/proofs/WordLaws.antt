-- What a call says of a signed argument: it is handed as its bits, and reads back as itself.
use mathlib.Core.Path.{◌≡◌, ap, ap₂, ◌∙◌}
use lib.IntN.{ℤ}
use mir.Syntax.{w64}
use mir.Val.{SFits, of_z, to_z}
use mir.ValLaws.{to_z-of_z}

module _ {A : Type 0} {r : A} where
  pub told : (z : ℤ) → SFits w64 z → (p : ℤ → A) → r ≡ p (to_z w64 (of_z w64 z)) → r ≡ p z
  told z f p e = e ∙ ap p (to_z-of_z w64 z f)

  pub told₂ : (y z : ℤ) → SFits w64 y → SFits w64 z → (p : ℤ → ℤ → A) → r ≡ p (to_z w64 (of_z w64 y)) (to_z w64 (of_z w64 z)) → r ≡ p y z
  told₂ y z f g p e = e ∙ ap₂ p (to_z-of_z w64 y f) (to_z-of_z w64 z g)

  pub told₃ : (x y z : ℤ) → SFits w64 x → SFits w64 y → SFits w64 z → (p : ℤ → ℤ → ℤ → A)
      → r ≡ p (to_z w64 (of_z w64 x)) (to_z w64 (of_z w64 y)) (to_z w64 (of_z w64 z)) → r ≡ p x y z
  told₃ x y z f g h p e = told z h (p x y) (told₂ x y f g (λ a b. p a b (to_z w64 (of_z w64 z))) e)
