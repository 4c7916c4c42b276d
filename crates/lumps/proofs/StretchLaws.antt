-- A stretch of a body moves a reading at once; where nothing counts any more, no byte moves it. Assumes nothing.
use mathlib.Core.Path.{◌≡◌, refl, sym, ap, ◌∙◌}
use mathlib.Core.Bool.{Bool, true, false, cond}
use mathlib.Core.List.{List, [], ◌∷◌, ◌++◌, append_assoc, append-nil}
use Prim.Native.Nat.{ℕ, zero, suc, ◌-◌, ◌≤◌, ◌<◌}
use native.Mathlib.Omega.{arith}
use lib.ListN.{length, take, drop}
use Rattle.lumps.specs.Readings.{Doing, stuck, large, Reading, going, stepping, step, run}
use Rattle.lumps.specs.Scans.{body_of}

-- in a body with j bytes to come
abbrev pub in_body : Bool → ℕ → ℕ → List ℕ → Reading
in_body keep n j kept = record { doing = going (body_of keep) j; fragments = n; kept = kept }

-- what is kept of bytes of it
abbrev pub kept_of : Bool → List ℕ → List ℕ
kept_of keep s = cond keep s []

kept-none : (keep : Bool) (kept : List ℕ) → kept ++ kept_of keep [] ≡ kept
kept-none true kept = append-nil kept
kept-none false kept = append-nil kept

kept_more : (keep : Bool) (kept : List ℕ) (b : ℕ) (s : List ℕ) → (kept ++ kept_of keep (b ∷ [])) ++ kept_of keep s ≡ kept ++ kept_of keep (b ∷ s)
kept_more true kept b s = append_assoc kept (b ∷ []) s
kept_more false kept b s = append-nil (kept ++ [])

step-body : (keep : Bool) (n j : ℕ) (kept : List ℕ) (b : ℕ) → 0 < j → step (in_body keep n j kept) b ≡ in_body keep n (j - 1) (kept ++ kept_of keep (b ∷ []))
step-body keep n zero kept b h = absurd (omega arith)
step-body true n (suc j) kept b h = refl
step-body false n (suc j) kept b h = ap (in_body false n (suc j - 1)) (sym (append-nil kept))

pub stretch-run : (keep : Bool) (n j m : ℕ) (kept s : List ℕ) → m ≤ j → m ≤ length s
    → run (in_body keep n j kept) s ≡ run (in_body keep n (j - m) (kept ++ kept_of keep (take m s))) (drop m s)
stretch-run keep n j zero kept s h k = let e : j - 0 ≡ j = omega arith in rw (e, kept-none keep kept)
stretch-run keep n j (suc m) kept [] h k = absurd (omega arith)
stretch-run keep n j (suc m) kept (b ∷ s) h k =
    let e : j - 1 - m ≡ j - suc m = omega arith in
    ap (λ (x : Reading). run x s) (step-body keep n j kept b (omega arith))
    ∙ stretch-run keep n (j - 1) m (kept ++ kept_of keep (b ∷ [])) s (omega arith) (omega arith)
    ∙ rw (e, kept_more keep kept b (take m s))

module _ (d : Doing) (idle : (n : ℕ) (kept : List ℕ) (b : ℕ) → stepping d n kept b ≡ record { doing = d; fragments = n; kept = kept }) (n : ℕ) (kept : List ℕ) where
  idle-run : (s : List ℕ) → run (record { doing = d; fragments = n; kept = kept }) s ≡ record { doing = d; fragments = n; kept = kept }
  idle-run [] = refl
  idle-run (b ∷ s) = ap (λ (x : Reading). run x s) (idle n kept b) ∙ idle-run s

pub stuck-run : (n : ℕ) (kept s : List ℕ) → run (record { doing = stuck; fragments = n; kept = kept }) s ≡ record { doing = stuck; fragments = n; kept = kept }
stuck-run n kept s = idle-run stuck (λ _ _ _. refl) n kept s

pub large-run : (n : ℕ) (kept s : List ℕ) → run (record { doing = large; fragments = n; kept = kept }) s ≡ record { doing = large; fragments = n; kept = kept }
large-run n kept s = idle-run large (λ _ _ _. refl) n kept s
