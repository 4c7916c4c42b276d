-- What a reader may cite of the listing of a segment. Assumes nothing.
use Rattle.std.specs.Prelude.{Ok, Err}
use mathlib.Core.Path.{◌≡◌, refl}
use mathlib.Core.Bool.{Bool, true, false, not}
use mathlib.Core.List.{List, []}
use Prim.Native.Nat.{ℕ, ◌≤◌}
use native.Mathlib.Omega.{arith}
use lib.IntN.{ℤ}
use lib.ListN.{length}
use lib.Dec.{ltb, eqb}
use borrow.Author.Tests.{ltb-false}
use Rattle.buffer_state.specs.Refusals.{CallResult, refuse_if}
use Rattle.buffer_state.specs.declared.Refusal.TheVariants as why
use Rattle.boxes.specs.Boxes.{boxes_of}
use Rattle.boxes.specs.Lone.{lone_in}
use Rattle.fragments.specs.declared.Header.{Header}
use Rattle.media_times.specs.declared.Sample.{Sample}
use Rattle.segments.specs.Listings.{Listing, malformed, listing, tfhd_kind, trun_kind, header_in, fragment_listing, segment_listing}
use Rattle.segments.specs.Segments.{all_in_limits, rows_of, listed_in, list_segment}
use Rattle.segments.specs.declared.SegmentTrack.{SegmentTrack}

-- Rows that are given are those of the segment's samples, a row each in file order, all inside the limits, and they fit the list.
pub record Given (of : SegmentTrack) (places : ℕ) (found : Listing) (rows : List (List ℤ)) : Type 0 where
  pub samples : List Sample
  pub listed : found ≡ listing samples
  pub inside : all_in_limits of.timescale samples ≡ true
  pub fit : length samples ≤ places
  pub each : rows ≡ rows_of of samples

abbrev GivenBy : SegmentTrack → ℕ → Listing → CallResult (List (List ℤ)) → Type 0
GivenBy of places found (Err w) = Unit {0}
GivenBy of places found (Ok rows) = Given of places found rows

by-listing : (of : SegmentTrack) (places : ℕ) (found : Listing) → GivenBy of places found (listed_in of places found)
by-listing of places malformed = tt
by-listing of places (listing l) = go (all_in_limits of.timescale l) (ltb places (length l)) refl refl
  where
    go : (a b : Bool) → all_in_limits of.timescale l ≡ a → ltb places (length l) ≡ b
        → GivenBy of places (listing l) (refuse_if (not a) why.FrameLimits (refuse_if b why.ShortList (Ok (rows_of of l))))
    go false b p q = tt
    go true true p q = tt
    go true false p q = record { samples = l; listed = refl; inside = p; fit = ltb-false places (length l) q; each = refl }

pub rows-given : (of : SegmentTrack) (places : ℕ) (s : List ℕ) (rows : List (List ℤ)) → list_segment of places s ≡ Ok rows → Given of places (segment_listing of s) rows
unfolding list_segment
rows-given of places s rows e = rw e at (by-listing of places (segment_listing of s))

-- 12 comes before the others: it is given exactly where the segment is malformed, whatever the timescale and the list (`gives-malformed` of
-- ListedLaws is the other way round)
pub malformed-first : (of : SegmentTrack) (places : ℕ) (s : List ℕ) → list_segment of places s ≡ Err why.Malformed → segment_listing of s ≡ malformed
unfolding list_segment
malformed-first of places s e = go (segment_listing of s) e
  where
    judged : (l : List Sample) (a b : Bool) → refuse_if (not a) why.FrameLimits (refuse_if b why.ShortList (Ok (rows_of of l))) ≡ Err why.Malformed → listing l ≡ malformed
    judged l false b e = let z : ◌≡◌ {A = ℕ} 0 1 = cc in absurd (omega arith)
    judged l true true e = let z : ◌≡◌ {A = ℕ} 0 1 = cc in absurd (omega arith)
    judged l true false e = let z : ◌≡◌ {A = ℕ} 0 1 = cc in absurd (omega arith)

    go : (found : Listing) → listed_in of places found ≡ Err why.Malformed → found ≡ malformed
    go malformed e = refl
    go (listing l) e = judged l (all_in_limits of.timescale l) (ltb places (length l)) e

-- "Other tracks' fragments are read for that header only": whatever else stands in it, it lists nothing
pub other-track : (of : SegmentTrack) (b : List ℕ) (h : Header) → header_in of.defaults (lone_in tfhd_kind trun_kind (boxes_of b)) ≡ Ok h → eqb h.id of.id ≡ false
    → fragment_listing of b ≡ listing []
unfolding fragment_listing
other-track of b h e p = rw (e, p)
