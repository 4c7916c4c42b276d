-- From a walk over a whole movie fragment to what the call gives: each refusal, and the rows. Assumes nothing.
use Rattle.std.specs.Prelude.{Option, Result, Ok, Err}
use mathlib.Core.Path.{◌≡◌, refl, sym, ap, ◌∙◌}
use mathlib.Core.Bool.{Bool, true, false}
use mathlib.Core.List.{List, [], ◌++◌}
use Prim.Native.Nat.{ℕ}
use native.Mathlib.Omega.{arith}
use lib.IntN.{ℤ}
use lib.ListN.{length, drop}
use lib.Dec.{ltb}
use borrow.Author.Tests.{ltb-false, le-leb, le-ltb}
use Rattle.laws.proofs.BoolLaws.{split}
use Rattle.std.specs.Result.{IsErr, IsErrAnd}
use Rattle.buffer_state.specs.declared.Refusal.{Refusal}
use Rattle.buffer_state.specs.declared.Refusal.TheVariants as why
use Rattle.boxes.specs.Boxes.{skipping, boxes_of}
use Rattle.boxes.specs.Lone.{lone_in}
use Rattle.boxes.specs.declared.Malformed.{Malformed}
use Rattle.media_times.specs.MediaTimes.{good_scale}
use Rattle.media_times.specs.declared.Sample.{Sample}
use Rattle.segments.specs.Listings.{moof_kind, Listing, malformed, listing, movie_listing, listing_in, segment_listing}
use Rattle.segments.specs.Segments.{all_in_limits, rows_of, listed_in, list_movie, listed_lone, list_segment}
use Rattle.segments.specs.Walks.{Known, known, started_at, walk_at, samples_in, Standing, Further, Reached}
use Rattle.segments.specs.declared.SegmentTrack.{SegmentTrack}
use Rattle.segments.specs.declared.Walk.{Walk}
use Rattle.segments.proofs.LaidLaws.{laid-all}
use Rattle.segments.proofs.SampleLaws.{none_in, rows-length}
use Rattle.segments.proofs.StandLaws.{stood, standing-count}
use Rattle.segments.proofs.WalkLaws.{walk-in, walk-out}

-- ---- the start

start_is : (scale places : ℕ) → started_at scale ≡ walk_at scale places [] 0
start_is scale places =
    split (good_scale scale)
    (λ g. let e : all_in_limits scale [] ≡ true = sym (none_in scale) ∙ g in rw (g, walk-in scale places [] 0 e, le-ltb places 0 (omega arith), le-leb 0 places (omega arith)))
    (λ g. let e : all_in_limits scale [] ≡ false = sym (none_in scale) ∙ g in rw g (sym (walk-out scale places [] 0 e)))

pub start-stands : (of : SegmentTrack) (write : Bool) (list : List (List ℤ)) → Standing of write list [] (started_at of.timescale) list
start-stands of write list = record {
  knows = start_is of.timescale (length list);
  judging = λ _. refl;
  writing = λ _ _. refl;
  places = refl;
}

-- nothing stands past the end
pub past_end : (of : SegmentTrack) (places : ℕ) → list_segment of places [] ≡ Err why.Malformed
unfolding list_segment segment_listing skipping
past_end of places = refl

-- what became of bytes that are not well-formed
pub is_refused : {A : Type 0} (r : Result A Refusal) → IsErr r → IsErrAnd r (λ w. w ≡ why.Malformed) → r ≡ Err why.Malformed
is_refused (Err w) h e = ap Err e
is_refused (Ok x) h e = absurd cc

-- ---- what the call gives

module _ (of : SegmentTrack) (b : List ℕ) (places : ℕ) where
  pub gives-malformed : movie_listing of b ≡ malformed → list_movie of places b ≡ Err why.Malformed
  unfolding list_movie
  gives-malformed e = rw e

  module _ (x : List Sample) (e : movie_listing of b ≡ listing x) where
    gives : list_movie of places b ≡ listed_in of places (listing x)
    unfolding list_movie
    gives = ap (listed_in of places) e

    pub gives-limits : all_in_limits of.timescale x ≡ false → list_movie of places b ≡ Err why.FrameLimits
    gives-limits p = gives ∙ rw p

    pub gives-short : all_in_limits of.timescale x ≡ true → ltb places (length x) ≡ true → list_movie of places b ≡ Err why.ShortList
    gives-short p q = gives ∙ rw (p, q)

    pub gives-rows : all_in_limits of.timescale x ≡ true → ltb places (length x) ≡ false → list_movie of places b ≡ Ok (rows_of of x)
    gives-rows p q = gives ∙ rw (p, q)

-- a segment gives what its one movie fragment does
pub segment-by-movie : (of : SegmentTrack) (places : ℕ) (s : List ℕ) → list_segment of places s ≡ listed_lone of places (lone_in moof_kind moof_kind (boxes_of s))
unfolding list_movie list_segment segment_listing
segment-by-movie of places s = go (lone_in moof_kind moof_kind (boxes_of s))
  where
    go : (x : Result (List ℕ) Malformed) → listed_in of places (listing_in of x) ≡ listed_lone of places x
    go (Err e) = refl
    go (Ok b) = refl

-- ---- what the walk that judges knows

module _ (of : SegmentTrack) (list : List (List ℤ)) (more : Listing) (w : Known) (h : Further of false list [] more w list) where
  abbrev x : List Sample
  x = samples_in more

  pub judged-good : w.good ≡ all_in_limits of.timescale x
  judged-good = stood of false list x w list h.standing

  pub judged-over : w.good ≡ true → w.over ≡ ltb (length list) (length x)
  judged-over g = ap (λ (v : Known). v.over) (h.standing.knows ∙ walk-in of.timescale (length list) x w.time (sym judged-good ∙ g))

  -- where there are places for all, its count is theirs
  pub judged-count : w.good ≡ true → ltb (length list) (length x) ≡ false → w.count ≡ length (rows_of of x)
  judged-count g o =
      standing-count of false list x w list h.standing g
      ∙ (rw (le-leb (length x) (length list) (ltb-false (length list) (length x) o)) (sym (rows-length of x)))

-- and what the walk that writes has written
pub written : (of : SegmentTrack) (list : List (List ℤ)) (more : Listing) (q : Result (Option Walk) Malformed) (after : List (List ℤ)) → Reached of true list [] more q after → more ≡ listing (samples_in more)
    → all_in_limits of.timescale (samples_in more) ≡ true → ltb (length list) (length (samples_in more)) ≡ false
    → after ≡ rows_of of (samples_in more) ++ drop (length (rows_of of (samples_in more))) list
written of list more (Err x) after r e p o = let c = sym r.0 ∙ e in let z : ◌≡◌ {A = ℕ} 0 1 = cc in absurd (omega arith)
written of list more (Ok v) after r e p o =
    let x = samples_in more in
    let n = rows-length of x in
    let m = ltb-false (length list) (length x) o in
    r.standing.writing refl (stood of true list x (known v) after r.standing ∙ p) ∙ laid-all (rows_of of x) list (omega (arith, n, m))
