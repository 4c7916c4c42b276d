-- A test that the code tries only where the one before it holds, or that decides alone where it fails.
use mathlib.Core.Path.{◌≡◌}
use mathlib.Core.Bool.{Bool, true, false, ◌&&◌}

pub tried : (x y r : Bool) → x ≡ true → r ≡ y → r ≡ (x && y)
tried x y r p e = rw p e

pub failed : (x y r : Bool) → x ≡ false → r ≡ false → r ≡ (x && y)
failed x y r p e = rw p e
