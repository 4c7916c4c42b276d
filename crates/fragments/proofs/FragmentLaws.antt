-- Laws of the fields of full boxes: a field that is there has its bytes, a run that was read has its columns, and each sample's lie in
-- the run. Assumes nothing.
use mathlib.Core.Path.{◌≡◌, ap₂, ◌∙◌}
use mathlib.Core.Bool.{Bool, true, false, cond}
use mathlib.Core.List.{List}
use Prim.Native.Nat.{ℕ, suc, ◌+◌, ◌*◌, ◌≤◌, ◌<◌}
use native.Mathlib.Omega.{arith}
use native.Mathlib.Nat.{suc-mul, mul-le-mul_right}
use lib.IntN.{ℤ}
use lib.Dec.{ltb, leb}
use lib.ListN.{length, drop}
use lib.Signed.{mag}
use borrow.Author.Tests.{ltb-false}
use Rattle.laws.proofs.BoolLaws.{by-test}
use Rattle.std.specs.Prelude.{Result, Ok, Err}
use Rattle.boxes.specs.Boxes.{be4, refused}
use Rattle.boxes.specs.declared.Malformed.{Malformed}
use Rattle.fragments.specs.Fields.{◌>>=◌, number_at}
use Rattle.fragments.specs.FullBoxes.{version_of, flag_in, optional, field_at}
use Rattle.fragments.specs.Runs.{columns_at, width_of, sample_from, run_by, run_of, Fitting}
use Rattle.fragments.specs.declared.Run.{Run}

pub there : (word flag n : ℕ) → flag_in word flag ≡ true → optional word flag n ≡ n
unfolding optional
there word flag n e = rw e

-- a field by what is known of its place and its flag
pub field_is : (b : List ℕ) (default : ℕ) {r at at' : ℕ} {t t' : Bool} → r ≡ field_at b at t default → at ≡ at' → t ≡ t' → r ≡ field_at b at' t' default
field_is b default e p q = e ∙ ap₂ (λ (x : ℕ) (y : Bool). field_at b x y default) p q

pub row_fits : (b : List ℕ) (r : Run) (i : ℕ) → Fitting b r → i < r.count → sample_from r i + width_of r.word ≤ length b
row_fits b r i f h =
    let w = width_of r.word in
    let e : suc i * w ≡ i * w + w = suc-mul i w in
    let m : suc i * w ≤ r.count * w = mul-le-mul_right w h in
    omega (arith, e, m, f)

-- what is an offset is small, as that is
pub small : {z x : ℤ} → z ≡ x → mag x < 4294967296 → (z ≡ x) × (mag z < 4294967296)
small e h = (e, rw e h)

-- a run that was read has room for its columns
abbrev FittingRun : List ℕ → Result Run Malformed → Type 0
FittingRun b (Err e) = Unit {0}
FittingRun b (Ok r) = Fitting b r

read_fits : (b : List ℕ) → FittingRun b (run_of b)
unfolding run_of run_by
read_fits b = head (ltb (length b) 4)
  where
    body : (word count : ℕ) → FittingRun b (run_by b word count)
    body word count =
        by-test (FittingRun b) (leb (version_of word) 1)
        (λ _. by-test (FittingRun b) (ltb (length b) (columns_at word + count * width_of word)) (λ _. tt) (λ h. ltb-false _ _ h))
        (λ _. tt)

    counted : (word : ℕ) (s : List ℕ) (t : Bool) → FittingRun b (◌>>=◌ {A = ℕ × List ℕ} (cond t refused (Ok (be4 s, drop 4 s))) (λ count. run_by b word count.0))
    counted word s true = tt
    counted word s false = body word (be4 s)

    head : (t : Bool) → FittingRun b (◌>>=◌ {A = ℕ × List ℕ} (cond t refused (Ok (be4 b, drop 4 b))) (λ word. number_at word.1 >>= λ count. run_by b word.0 count.0))
    head true = tt
    head false = counted (be4 b) (drop 4 b) (ltb (length (drop 4 b)) 4)

pub run_fits : (b : List ℕ) (r : Run) → run_of b ≡ Ok r → Fitting b r
run_fits b r e = rw e at (read_fits b)
