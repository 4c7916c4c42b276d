-- Document 02, No. 7: "A saved state whose kept double converts differently now is refused 1 by every call that takes it."
-- Every call takes a state by way of `on_lent`.
use Rattle.std.specs.Prelude.{Err}
use mathlib.Core.Path.{◌≡◌, refl, ap}
use mathlib.Core.Bool.{Bool, true, false, not, ◌||◌}
use mathlib.Core.List.{List}
use Prim.Native.Nat.{ℕ}
use lib.IntN.{ℤ, pos}
use lib.Signed.{le_z}
use Rattle.laws.proofs.BoolLaws.{both_ways, split, and_left, and_right, or-none}
use Rattle.seconds.specs.Seconds.{seconds_of, same_double}
use Rattle.buffer_state.specs.declared.Head.{Head}
use Rattle.buffer_state.specs.declared.Refusal.TheVariants.{IllFormed}
use Rattle.buffer_state.specs.declared.Settings.{Settings}
use Rattle.buffer_state.specs.declared.WindowEnd.{WindowEnd}
use Rattle.buffer_state.specs.declared.WindowEnd.TheVariants.{Unbounded, At}
use Rattle.buffer_state.specs.Buffer.{Buffer}
use Rattle.buffer_state.specs.Layout.{buffer_of}
use Rattle.buffer_state.specs.Lent.{state_at, well_formed_at, on_lent}
use Rattle.buffer_state.specs.Limits.{result_time}
use Rattle.buffer_state.specs.Refusals.{CallResult}
use Rattle.buffer_state.specs.WellFormed.{converts, good_offset, good_start, good_end}
use Rattle.buffer_laws.proofs.GoodLaws.{IsGoodSettings, good-facts}
use Rattle.buffer_laws.proofs.LayoutLaws.{well_formed-good}
use Rattle.buffer_laws.proofs.LentLaws.{lent-whole, ill-formed-refused}

-- a window end that is set converts to other microseconds than are kept
abbrev end_differs : WindowEnd → ℤ → Bool
end_differs Unbounded limit = false
end_differs (At x) limit = not (converts x limit)

-- a kept double converts to other microseconds than are kept beside it; the offset's may be the quotient instead
abbrev pub converts_differently : Settings → Bool
converts_differently s =
    not (converts s.offset.seconds s.offset.micros || same_double s.offset.seconds (seconds_of s.offset.micros))
    || (not (converts s.start.seconds s.start.micros) || end_differs s.end s.limit)

end-converts : (start : ℤ) (e : WindowEnd) (limit : ℤ) → good_end start e limit ≡ true → end_differs e limit ≡ false
unfolding good_end
end-converts start Unbounded limit good = refl
end-converts start (At x) limit good = ap not (and_left (converts x limit) _ good)

all-convert : (s : Settings) → IsGoodSettings s → converts_differently s ≡ false
unfolding good_offset good_start
all-convert s good =
    or-none _ _ (ap not (and_right (result_time s.offset.micros) _ good.offset))
    (or-none _ _ (ap not (and_right (le_z (pos 0) s.start.micros) _ good.start)) (end-converts s.start.micros s.end s.limit good.end))

pub differing-refused : {A : Type 0} (call : Buffer → CallResult A) (h : Head) (ts : List (List ℤ)) (gs : List (List ℕ))
    → converts_differently h.settings ≡ true → on_lent call h ts gs ≡ Err IllFormed
differing-refused call h ts gs differs = ill-formed-refused call h ts gs (split (well_formed_at h ts gs) taken (λ ill. ill))
  where
    taken : well_formed_at h ts gs ≡ true → well_formed_at h ts gs ≡ false
    taken w =
        let b = buffer_of (state_at h ts gs) in
        both_ways differs (all-convert h.settings (good-facts b (well_formed-good (state_at h ts gs) (lent-whole h ts gs w))).settings)
