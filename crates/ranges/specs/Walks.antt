-- A walk over stretches in some order, with room for so many ranges: the order, and what the walk tells.
use Rattle.std.specs.Prelude.{◌≡◌, Bool, true, false, List, [], ◌∷◌, map, ℕ, zero, suc, ◌+◌, ◌-◌, ◌%◌, ◌≤◌, ◌<◌, ℤ, length, drop, get_or, Option, None, Some}
use Rattle.buffer_state.specs.declared.Frame.{Frame}
use Rattle.buffer_state.specs.Layout.{zero_frame}
use Rattle.buffer_state.specs.Lent.{frames_of, Lengths}
use Rattle.buffer_state.specs.Limits.{places}
use Rattle.buffer_state.specs.Ranges.{Range}
use Rattle.buffer_state.specs.Run.{count}
use Rattle.buffer_state.specs.Walked.{interval_of, taken_of}
use Rattle.buffer_state.specs.WellFormed.{all_of}
use Rattle.ranges.specs.declared.Order.{Order}
use Rattle.ranges.specs.declared.Order.TheVariants.{Stored, Keyed}
use Rattle.ranges.specs.declared.Walk.{Walk}
use Rattle.ranges.specs.Bars.{Shows, Bars}
use Rattle.ranges.specs.Sweep.{is_sound, some, key_of, swept_ranges, all_in_order, starts_rise}

-- ---- places

-- so many places from one on
unfoldable pub up_from : ℕ → ℕ → List ℕ
up_from zero first = []
up_from (suc n) first = first ∷ up_from n (suc first)

abbrev pub sound_at : List Frame → ℕ → Bool
sound_at fs place = is_sound (get_or fs place zero_frame)

abbrev pub stretch_at : List Frame → ℕ → Range
stretch_at fs place = interval_of (get_or fs place zero_frame)

-- the stretches of so many frames from a place on, as they stand, and their keys
abbrev pub standing_ranges : List Frame → ℕ → ℕ → List Range
standing_ranges fs first n = map (stretch_at fs) (up_from n first)

abbrev pub keys_of : List Frame → ℕ → ℕ → List ℕ
keys_of fs n first = map (λ place. key_of place (get_or fs place zero_frame)) (up_from n first)

-- so many sound frames stand from a place on
pub record Standing (ts : List (List ℤ)) (gs : List (List ℕ)) (first n : ℕ) : Type 0 where
  pub long : Lengths ts gs
  pub fits : first + n ≤ places
  pub each : all_of (sound_at (frames_of ts gs)) (up_from n first) ≡ true

-- ---- an order

-- the places in their order: a key names one
abbrev pub places_in : Order → List ℕ
places_in (Stored first count) = up_from count first
places_in (Keyed keys) = map (λ key. key % places) keys.now

abbrev pub count_in : Order → ℕ
count_in (Stored first count) = count
count_in (Keyed keys) = length keys.now

abbrev pub stretches_in : List Frame → Order → List Range
stretches_in fs o = map (stretch_at fs) (places_in o)

-- all its places are there
abbrev pub Named : Order → Type 0
Named (Stored first count) = first + count ≤ places
Named (Keyed keys) = Unit {0}

-- and hold sound frames
pub record Ordered (ts : List (List ℤ)) (gs : List (List ℕ)) (o : Order) : Type 0 where
  pub long : Lengths ts gs
  pub few : count_in o ≤ places
  pub named : Named o
  pub each : all_of (sound_at (frames_of ts gs)) (places_in o) ≡ true

-- the stretch at i
pub record IsNext (all : List Range) (i : ℕ) (r : Range) : Type 0 where
  pub next : drop i all ≡ r ∷ drop (i + 1) all
  pub lasting : some r ≡ true

-- ---- the walk

-- a walk that leaves early has not seen the stretches behind the last that it took
pub record IsEarly (room : ℕ) (all : List Range) (w : Walk) : Type 0 where
  pub more : room < length (swept_ranges all)
  pub some : 1 ≤ w.taken
  pub few : w.taken ≤ length all
  pub order : starts_rise (drop (w.taken - 1) all) ≡ true → all_in_order all ≡ true

-- what a walk tells of stretches in their order
pub record Told (room : ℕ) (all : List Range) (spans : List (List ℤ)) (w : Walk) : Type 0 where
  pub taken : w.taken ≡ taken_of room all
  pub shows : w.ranges ≤ room → Shows spans w.ranges (swept_ranges all) × (all_in_order all ≡ true)
  pub early : room < w.ranges → IsEarly room all w

-- and of others, nothing but that they are not in order
abbrev pub Tells : ℕ → List Range → List (List ℤ) → Option Walk → Type 0
Tells room all spans None = all_in_order all ≡ false
Tells room all spans (Some w) = Told room all spans w

-- the same stretches, and none of them starts before the range that is open when a walk comes to it
pub record Arranges (l all : List Range) : Type 0 where
  pub same : (p : Range → Bool) → count p l ≡ count p all
  pub order : all_in_order l ≡ true

-- the walk over stretches that are so arranged
pub record Walks (room : ℕ) (all : List Range) (spans : List (List ℤ)) (w : Walk) : Type 0 where
  pub along : List Range
  pub arranges : Arranges along all
  pub taken : w.taken ≡ taken_of room along
  pub bars : Bars room (swept_ranges along) spans w.ranges
