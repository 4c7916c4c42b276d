-- What the code knows while it walks a segment, and the samples that this stands for. Only inner functions speak of it. The segment is
-- walked twice, first to judge it and then to write the rows, so that nothing is written before every refusal is known.
use Rattle.std.specs.Prelude.{◌≡◌, Bool, true, false, cond, List, [], ◌∷◌, ◌++◌, ℕ, ◌+◌, ◌-◌, ℤ, length, ltb, leb, Option, Some, None, Result, Ok, Err}
use Rattle.boxes.specs.declared.Malformed.{Malformed}
use Rattle.media_times.specs.MediaTimes.{good_scale}
use Rattle.media_times.specs.declared.Sample.{Sample}
use Rattle.segments.specs.Listings.{Listing, malformed, listing, total}
use Rattle.segments.specs.Segments.{all_in_limits, rows_of}
use Rattle.segments.specs.declared.SegmentTrack.{SegmentTrack}
use Rattle.segments.specs.declared.Walk.{Walk}

-- what is known: whether everything was inside its limits so far, and if so, how many samples there were, up to the places lent, whether
-- there were more, and the decode time of the next one
pub record Known : Type 0 where
  pub good : Bool
  pub over : Bool
  pub count : ℕ
  pub time : ℕ

-- where something is outside its limits, nothing else is known
abbrev pub lost_walk : Known
lost_walk = record { good = false; over = false; count = 0; time = 0 }

-- what a walk knows, where there is one
abbrev pub known : Option Walk → Known
known None = lost_walk
known (Some w) = record { good = true; over = w.over; count = w.count; time = w.time }

-- after these samples, at a time, lent so many places: the count stops at the places, and then `over` says that there are more
abbrev pub least_of : ℕ → ℕ → ℕ
least_of a b = cond (leb a b) a b

unfoldable pub walk_at : ℕ → ℕ → List Sample → ℕ → Known
walk_at scale places l time =
    cond (all_in_limits scale l)
    (record { good = true; over = ltb places (length l); count = least_of (length l) places; time = time })
    lost_walk

-- n more samples, up to a time
abbrev pub moved_by : ℕ → Known → ℕ → ℕ → Known
moved_by places w n time =
    cond (leb n (places - w.count))
    (record { good = true; over = w.over; count = w.count + n; time = time })
    (record { good = true; over = true; count = places; time = time })

-- before the first sample
abbrev pub started_at : ℕ → Known
started_at scale = record { good = good_scale scale; over = false; count = 0; time = 0 }

-- at another time, where it still knows one
abbrev pub begun_at : Known → ℕ → Known
begun_at w time = cond w.good (record { good = true; over = w.over; count = w.count; time = time }) w

-- the rows of a run that are written: none while judging; else as many as there are places left
abbrev pub rows_for : Bool → ℕ → ℕ → ℕ
rows_for write count left = cond write (least_of count left) 0

-- rows written over the first places of a list, as many as it has
abbrev pub laid_rows : List (List ℤ) → List (List ℤ) → List (List ℤ)
laid_rows [] l = l
laid_rows (r ∷ rs) [] = []
laid_rows (r ∷ rs) (x ∷ l) = r ∷ laid_rows rs l

-- A walk stands at samples: it knows what follows from them, and the list, which held `before`, holds their rows where they are written.
pub record Standing (of : SegmentTrack) (write : Bool) (before : List (List ℤ)) (l : List Sample) (w : Known) (list : List (List ℤ)) : Type 0 where
  pub knows : w ≡ walk_at of.timescale (length before) l w.time
  pub judging : write ≡ false → list ≡ before
  pub writing : write ≡ true → w.good ≡ true → list ≡ laid_rows (rows_of of l) before
  pub places : length list ≡ length before

-- it stands somewhere
pub record Somewhere (of : SegmentTrack) (write : Bool) (w : Known) (list : List (List ℤ)) : Type 0 where
  pub before : List (List ℤ)
  pub samples : List Sample
  pub standing : Standing of write before samples w list

-- a time, where the walk still knows it
abbrev pub IsTimed : ℕ → Known → Type 0
IsTimed t w = w.good ≡ true → w.time ≡ t

-- Wherever the walk w stood, with the list as it was lent, q stands after more samples.
abbrev pub Onward : SegmentTrack → Bool → Known → List (List ℤ) → List Sample → Known → List (List ℤ) → Type 0
Onward of write w lent more q list = (before : List (List ℤ)) (l : List Sample) → Standing of write before l w lent → Standing of write before (l ++ more) q list

-- the samples of a listing
abbrev pub samples_in : Listing → List Sample
samples_in malformed = []
samples_in (listing l) = l

-- A walk that went on from samples l by what a listing says.
pub record Further (of : SegmentTrack) (write : Bool) (before : List (List ℤ)) (l : List Sample) (more : Listing) (w : Known) (list : List (List ℤ)) : Type 0 where
  pub listed : more ≡ listing (samples_in more)
  pub standing : Standing of write before (l ++ samples_in more) w list

-- It found that something is malformed, and has written nothing while judging; or it went on.
abbrev pub Reached : SegmentTrack → Bool → List (List ℤ) → List Sample → Listing → Result (Option Walk) Malformed → List (List ℤ) → Type 0
Reached of write before l more (Err e) list = (more ≡ malformed) × (write ≡ false → list ≡ before)
Reached of write before l more (Ok w) list = Further of write before l more (known w) list

-- the same wherever the walk stood
abbrev pub Reaches : SegmentTrack → Bool → Known → List (List ℤ) → Listing → Result (Option Walk) Malformed → List (List ℤ) → Type 0
Reaches of write w lent more r list = (before : List (List ℤ)) (l : List Sample) → Standing of write before l w lent → Reached of write before l more r list

-- the time that it then has, in a track fragment whose first run begins at t
abbrev pub TimedBy : ℕ → Listing → Result (Option Walk) Malformed → Type 0
TimedBy t more (Err e) = Unit {0}
TimedBy t more (Ok w) = IsTimed (t + total (samples_in more)) (known w)
