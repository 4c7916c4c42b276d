-- Where no byte is the one looked for, as many stand before it as the word has.
use Rattle.std.proofs.Common.{◌≡◌, ℕ, ◌≤◌, Bool, List, length, not, ◌==◌, arith, unwrap_or}
use Rattle.std.proofs.lemmas.Grind.{common_steps}
use Rattle.std.proofs.lemmas.List.Sums.{prefix_len-le-length}
use Rattle.std.specs.List.{position, position_or_len}
use Rattle.text.proofs.read.find.Goals as goal

no_place : (p : ℕ → Bool) (w : List ℕ) → position_or_len p w ≤ length w → unwrap_or (position p w) (length w) ≡ position_or_len p w
no_place p w h = grind (arith, common_steps)

pub returns-clause-value : goal.returns-clause-value
returns-clause-value c =
    let w = c.args.w.now in
    let b = c.args.b in
    grind (arith, common_steps, no_place (λ (x : ℕ). x == b) w (prefix_len-le-length (λ (x : ℕ). not (x == b)) w))
