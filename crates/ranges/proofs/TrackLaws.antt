-- From what a walk tells of stretches in their order to the ranges of a track and the count of its frames that were taken.
use Rattle.std.specs.Prelude.{Option, None, Some, IsSome}
use mathlib.Core.Path.{◌≡◌, refl, sym, ap, ◌∙◌}
use mathlib.Core.Bool.{true}
use mathlib.Core.List.{List, map}
use Prim.Native.Nat.{ℕ, ◌+◌, ◌-◌, ◌%◌, ◌≤◌, ◌<◌}
use native.Mathlib.Omega.{arith}
use lib.Dec.{leb}
use lib.IntN.{ℤ}
use lib.ListN.{length, drop, get_or}
use lib.Seq.{get_or-take}
use borrow.Author.Tests.{leb-true, leb-false}
use Rattle.laws.proofs.BoolLaws.{both_ways, split}
use Rattle.sorting.specs.Sorting.{rises, occurrences}
use Rattle.buffer_state.specs.declared.Frame.{Frame}
use Rattle.buffer_state.specs.Layout.{zero_frame}
use Rattle.buffer_state.specs.Lent.{frames_of}
use Rattle.buffer_state.specs.Limits.{places}
use Rattle.buffer_state.specs.Ranges.{Range, ranges_of}
use Rattle.buffer_state.specs.Walked.{presented, taken_of}
use denote.Bor.{Bor}
use Rattle.ranges.specs.declared.Order.TheVariants.{Stored, Keyed}
use Rattle.ranges.specs.declared.Walk.{Walk}
use Rattle.ranges.specs.Bars.{stored, Stores, Parts, Shows, Bars}
use Rattle.ranges.specs.Sweep.{is_sound, own_stretches, starts_rise}
use Rattle.ranges.specs.Walks.{sound_at, stretch_at, standing_ranges, keys_of, Standing, Ordered, Told, Tells, Arranges, Walks}
use Rattle.ranges.proofs.BarLaws.{each}
use Rattle.ranges.proofs.KeyLaws.{up-all, sorted-sound, sorted-arranges}
use Rattle.ranges.proofs.OwnLaws.{own-standing, arranged-ranges, taken-by-ranges, presented-taken}
use Rattle.ranges.proofs.StoredLaws.{stored-full, stored-length}

-- ---- the order

-- the stretches that keys name
abbrev pub keyed_ranges : List Frame → List ℕ → List Range
keyed_ranges fs l = map (stretch_at fs) (map (λ key. key % places) l)

-- frames as they stand
module _ {ts : List (List ℤ)} {gs : List (List ℕ)} {first n : ℕ} (s : Standing ts gs first n) where
  pub standing-ordered : Ordered ts gs (Stored first n)
  standing-ordered = record { long = s.long; few = omega (arith, s.fits); named = s.fits; each = s.each }

  -- and as their sorted keys name them
  module _ (l : List ℕ) (size : length l ≡ n) (rise : rises l ≡ true) (same : (k : ℕ) → occurrences k l ≡ occurrences k (keys_of (frames_of ts gs) n first)) where
    pub sorted-ordered : (keys : Bor (List ℕ)) → keys.now ≡ l → Ordered ts gs (Keyed keys)
    sorted-ordered keys e = record {
      long = s.long;
      few = omega (arith, ap length e, size, s.fits);
      named = tt;
      each = rw e (sorted-sound (frames_of ts gs) first n s.fits s.each l rise same);
    }

    pub sorted-arranged : Arranges (keyed_ranges (frames_of ts gs) l) (standing_ranges (frames_of ts gs) first n)
    sorted-arranged = sorted-arranges (frames_of ts gs) first n s.fits s.each l rise same

-- ---- the walk

module _ {room : ℕ} {l : List Range} {spans : List (List ℤ)} {w : Walk} (t : Told room l spans w) where
  -- over stretches in order
  pub told-walks : {all : List Range} → Arranges l all → Walks room all spans w
  told-walks a = record {
    along = l;
    arranges = a;
    taken = t.taken;
    bars = record { shows = λ h. (t.shows h).0; over = λ h. (t.early h).more };
  }

  -- the stretches themselves, where the walk saw all
  pub walked_all : w.ranges ≤ room → Arranges l l
  walked_all h = record { same = λ p. refl; order = (t.shows h).1 }

  -- and where it left early and the others rise
  pub walked-early : room < w.ranges → starts_rise (drop (w.taken - 1) l) ≡ true → Arranges l l
  walked-early h e = record { same = λ p. refl; order = (t.early h).order e }

-- over stretches in order there is one
pub ordered-walked : (room : ℕ) {l all : List Range} (spans : List (List ℤ)) (r : Option Walk) → Tells room l spans r → Arranges l all → IsSome r
ordered-walked room spans None t a = both_ways a.order t
ordered-walked room spans (Some w) t a = refl

-- ---- a track

module _ {ts : List (List ℤ)} {gs : List (List ℕ)} {n : ℕ} (s : Stores ts gs n) (track first count : ℕ) (to : first + count ≤ n) where
  pub track-standing : Standing ts gs first count
  track-standing = record {
    long = s.long;
    fits = omega (arith, s.few);
    each = up-all (sound_at (frames_of ts gs)) count first (λ i l k. each (frames_of ts gs) is_sound i n zero_frame (omega arith) (stored-full s) s.each);
  }

  module _ (low : Parts track (stored ts gs n) first) (high : Parts (track + 1) (stored ts gs n) (first + count)) where
    track-own : standing_ranges (frames_of ts gs) first count ≡ own_stretches track (stored ts gs n)
    track-own =
        let zero-first : first ≡ 0 + first = omega arith in
        ap (λ (m : ℕ). standing_ranges (frames_of ts gs) m count) zero-first
        ∙ own-standing (frames_of ts gs) track (stored ts gs n) 0 first count (first + count) refl at low high (omega (arith, stored-length s))
      where
        at : (j : ℕ) → j < length (stored ts gs n) → get_or (frames_of ts gs) (0 + j) zero_frame ≡ get_or (stored ts gs n) j zero_frame
        at j h =
            let e : 0 + j ≡ j = omega arith in
            ap (λ (m : ℕ). get_or (frames_of ts gs) m zero_frame) e ∙ sym (get_or-take n (frames_of ts gs) j zero_frame (omega (arith, stored-length s)))

    pub track-walked : {room : ℕ} {spans : List (List ℤ)} {w : Walk} → Walks room (standing_ranges (frames_of ts gs) first count) spans w
        → (w.taken ≡ taken_of room (presented track (stored ts gs n))) × Bars room (ranges_of track (stored ts gs n)) spans w.ranges
    track-walked {room} {spans} {w} v =
        let a : Arranges v.along (own_stretches track (stored ts gs n)) = rw track-own at v.arranges in
        let fs = stored ts gs n in (
          v.taken ∙ taken-by-ranges track fs s.each room a ∙ sym (presented-taken track fs s.each room),
          rw (arranged-ranges track fs s.each a) at v.bars,
        )

-- with a place for each frame there is no range too many
pub all_shown : {rs : List Range} {spans : List (List ℤ)} (n : ℕ) → Bars places rs spans n → length rs ≤ places → Shows spans n rs
all_shown n b few = split (leb n places) (λ e. b.shows (leb-true n places e)) (λ e. absurd (omega (arith, b.over (leb-false n places e), few)))

pub shown-bars : (room : ℕ) {rs : List Range} {spans : List (List ℤ)} {n : ℕ} → Shows spans n rs → Bars room rs spans n
shown-bars room s = record { shows = λ h. s; over = λ h. rw s.count at h }
