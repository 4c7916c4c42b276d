-- What the reports' inner functions are handed, what their room holds, and the lines that a report gives a lent list.
use Rattle.std.specs.Prelude.{◌≡◌, true, List, [], ◌∷◌, ℕ, ◌+◌, ◌≤◌, ◌<◌, ℤ, pos, length, take, drop, get_or}
use Rattle.buffer_state.specs.Answers.{laid_ranges, range_count, ranges_after}
use Rattle.buffer_state.specs.Refusals.{CallResult}
use Rattle.buffer_state.specs.declared.Frame.{Frame}
use Rattle.buffer_state.specs.Lent.{frames_of, Lengths}
use Rattle.buffer_state.specs.Limits.{places}
use Rattle.buffer_state.specs.Ranges.{Range, is_rising}
use Rattle.buffer_state.specs.WellFormed.{all_of, is_sorted}
use Rattle.ranges.specs.declared.Span.{Span}
use Rattle.ranges.specs.Read.{ranges_in}
use Rattle.ranges.specs.Sweep.{is_under, from_on, is_sound}

-- ---- the stored frames

-- the first n that the arrays hold
abbrev pub stored : List (List ℤ) → List (List ℕ) → ℕ → List Frame
stored ts gs n = take n (frames_of ts gs)

-- what a well-formed state says of them
pub record Stores (ts : List (List ℤ)) (gs : List (List ℕ)) (n : ℕ) : Type 0 where
  pub long : Lengths ts gs
  pub few : n ≤ places
  pub each : all_of is_sound (stored ts gs n) ≡ true
  pub order : is_sorted (stored ts gs n) ≡ true

-- frames up to a place are of lower tracks, those from there on of the track or of one above
pub record Parts (track : ℕ) (fs : List Frame) (place : ℕ) : Type 0 where
  pub below : all_of (is_under track) (take place fs) ≡ true
  pub from : all_of (from_on track) (drop place fs) ≡ true

-- ---- bars

-- a span as a range
abbrev pub range_of : Span → Range
range_of x = record { start = x.start; end = x.end }

-- a range as a row, and a row as a range
abbrev pub row_of : Range → List ℤ
row_of r = r.start ∷ r.end ∷ []

abbrev pub range_in : List ℤ → Range
range_in row = record { start = get_or row 0 (pos 0); end = get_or row 1 (pos 0) }

-- the first n rows are these ranges
pub record Shows (spans : List (List ℤ)) (n : ℕ) (rs : List Range) : Type 0 where
  pub rows : take n spans ≡ laid_ranges rs
  pub count : n ≡ length rs
  pub few : n ≤ places

-- the first n rows are these ranges; or n is more than there is room for, and so are they
pub record Bars (room : ℕ) (rs : List Range) (spans : List (List ℤ)) (n : ℕ) : Type 0 where
  pub shows : n ≤ room → Shows spans n rs
  pub over : room < n → room < length rs

-- ranges of both in rising order, and places for them all
pub record Meets (xs : List (List ℤ)) (m : ℕ) (ys : List (List ℤ)) (n : ℕ) : Type 0 where
  pub right_full : n ≤ length ys
  pub left : is_rising (ranges_in (take m xs)) ≡ true
  pub right : is_rising (ranges_in (take n ys)) ≡ true
  pub few : m + n ≤ places

-- ---- a report

-- a call's answer and its lent list are those of the definition's result
pub record Reported (r : CallResult ℕ) (after : List (List ℤ)) (result : CallResult (List Range)) (before : List (List ℤ)) : Type 0 where
  pub answer : r ≡ range_count result
  pub list : after ≡ ranges_after result before
