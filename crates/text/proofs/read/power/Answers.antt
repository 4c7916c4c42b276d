-- The table is the list of the powers, one after the other.
use Rattle.std.proofs.Common.{◌≡◌, ℕ, zero, suc, ◌+◌, ◌<◌, List, [], ◌∷◌, get_or, ap, ◌∙◌, arith}
use Rattle.std.proofs.Math.Nat.{zero-add, le_of_suc-le-suc, not-suc-le-zero}
use Rattle.std.specs.Float.Ieee.{Float, of_bits, of_int}
use Rattle.text.specs.Reading.{power_of}
use Rattle.text.proofs.read.power.Goals as goal

-- the n powers from 10 ^ k on
abbrev powers : ℕ → ℕ → List Float
powers k zero = []
powers k (suc n) = power_of k ∷ powers (suc k) n

power_at : (k n i : ℕ) (d : Float) → i < n → get_or (powers k n) i d ≡ power_of (k + i)
power_at k zero i d h = absurd (not-suc-le-zero h)
power_at k (suc n) zero d h = ap power_of (omega arith)
power_at k (suc n) (suc i) d h = power_at (suc k) n i d (le_of_suc-le-suc h) ∙ ap power_of (omega arith)

pub returns : goal.returns
unfolding of_bits power_of of_int
returns c = power_at 0 23 c.args.k _ c.requires ∙ ap power_of (zero-add c.args.k)
