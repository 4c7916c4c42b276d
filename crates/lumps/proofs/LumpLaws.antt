-- From a lump that was gone through to what the call gives: each refusal, the reader, the buffer and the rows. Assumes nothing.
use Rattle.std.specs.Prelude.{Ok, Err}
use Rattle.boxes.specs.Boxes.{refused}
use mathlib.Core.Path.{◌≡◌, refl, sym, ap, ◌∙◌}
use mathlib.Core.Bool.{true, false, cond, not, ◌&&◌}
use mathlib.Core.List.{List, [], ◌∷◌, ◌++◌}
use Prim.Native.Nat.{ℕ, zero, suc, ◌-◌, ◌≤◌, ◌<◌}
use native.Mathlib.Omega.{arith}
use native.Mathlib.Decide.{dec_le}
use borrow.Author.Tests.{ltb-false, ne_eqb}
use lib.IntN.{ℤ}
use lib.ListN.{length, take, drop, length-append}
use lib.Seq.{length-take-le}
use lib.Dec.{ltb, eqb}
use Rattle.laws.proofs.BoolLaws.{by-test}
use Rattle.buffer_state.specs.Refusals.{CallResult}
use Rattle.buffer_state.specs.declared.Refusal.{Refusal}
use Rattle.buffer_state.specs.declared.Refusal.TheVariants as why
use Rattle.segments.specs.Segments.{list_movie, row_count, rows_after}
use Rattle.segments.specs.declared.SegmentTrack.{SegmentTrack}
use Rattle.lumps.specs.LumpAnswers.{whole_in}
use Rattle.lumps.specs.Lumps.{Taken, goes_on, rows_told, listing, ends, tested_result, more_result, last_result, taken_count, reader_after, buffer_after, frames_after}
use Rattle.lumps.specs.Readers.{doing_of, reading_with, reading_of, reader_of, kept_in, most_kept, good_reader}
use Rattle.lumps.specs.Readings.{most, Doing, heading, passing, keeping, stuck, large, Reading, fresh, run, framed, verdict, telling, tell, is_large}
use Rattle.lumps.specs.Scans.{Fits, part_of, kept_by, Standing, Through, Leads, Refuses}
use Rattle.lumps.specs.declared.LumpReader.{LumpReader}
use Rattle.lumps.specs.declared.Phase.{Phase}
use Rattle.lumps.specs.declared.Phase.TheVariants.{Heading, Passing, Keeping, Stuck, Large}
use Rattle.lumps.proofs.ReaderLaws.{reader-back}
use Rattle.lumps.proofs.ScanLaws.{part_length, standing-end}

-- ---- the order of the refusals

module _ (r : LumpReader) (buffer lump : List ℕ) (x : CallResult Taken) where
  pub tested-ill : good_reader r ≡ false → tested_result r buffer lump x ≡ Err why.IllFormed
  tested-ill g = rw g

  module _ (g : good_reader r ≡ true) where
    pub tested-short : ltb (length buffer) most ≡ true → tested_result r buffer lump x ≡ Err why.LentSize
    tested-short b = rw (g, b)

    module _ (b : ltb (length buffer) most ≡ false) where
      pub tested-long : ltb most (length lump) ≡ true → tested_result r buffer lump x ≡ Err why.LentSize
      tested-long l = rw (g, b, l)

      pub tested-good : ltb most (length lump) ≡ false → tested_result r buffer lump x ≡ x
      tested-good l = rw (g, b, l)

large-ends : (of : SegmentTrack) (places n : ℕ) (kept : List ℕ) (d : Doing) → is_large d ≡ true
    → ends of places (record { doing = d; fragments = n; kept = kept }) ≡ Err why.LargeFragment
large-ends of places n kept (heading l) e = let z : ◌≡◌ {A = ℕ} 0 1 = cc in absurd (omega arith)
large-ends of places n kept (passing k) e = let z : ◌≡◌ {A = ℕ} 0 1 = cc in absurd (omega arith)
large-ends of places n kept (keeping k) e = let z : ◌≡◌ {A = ℕ} 0 1 = cc in absurd (omega arith)
large-ends of places n kept stuck e = let z : ◌≡◌ {A = ℕ} 0 1 = cc in absurd (omega arith)
large-ends of places n kept large e = refl

-- What is known of a lump that the tests let through, and what both calls then give.
pub record IsPassed (r : LumpReader) (buffer lump : List ℕ) : Type 0 where
  pub good : good_reader r ≡ true
  pub enough : ltb (length buffer) most ≡ false
  pub few : ltb most (length lump) ≡ false

module _ (r : LumpReader) (buffer lump : List ℕ) (p : IsPassed r buffer lump) where
  abbrev x : Reading
  x = run (reading_of r buffer) lump

  pub more-large : is_large x.doing ≡ true → more_result r buffer lump ≡ Err why.LargeFragment
  unfolding more_result
  more-large e = tested-good r buffer lump (goes_on x) p.good p.enough p.few ∙ rw e

  pub more-taken : is_large x.doing ≡ false → more_result r buffer lump ≡ Ok (record { reading = x; rows = [] })
  unfolding more_result
  more-taken e = tested-good r buffer lump (goes_on x) p.good p.enough p.few ∙ rw e

  module _ (of : SegmentTrack) (places : ℕ) where
    pub last-given : last_result of places r buffer lump ≡ ends of places x
    unfolding last_result
    last-given = tested-good r buffer lump (ends of places x) p.good p.enough p.few

    pub last-large : is_large x.doing ≡ true → last_result of places r buffer lump ≡ Err why.LargeFragment
    last-large e = last-given ∙ large-ends of places x.fragments x.kept x.doing e

-- ---- where the lump led to

module _ (r : LumpReader) (buffer lump : List ℕ) (here : LumpReader) (from next : ℕ) (st : Standing r lump here from next) (t : Through buffer lump here next) where
  kept-length : length (take r.kept buffer) ≡ r.kept
  kept-length = length-take-le r.kept buffer (omega (arith, st.keeps, st.fits.kept, t.room))

  pub kept_by-length : length (kept_by r here from buffer lump) ≡ here.kept
  kept_by-length =
      length-append (take r.kept buffer) (part_of lump from (here.kept - r.kept))
      ∙ rw (kept-length, part_length lump from (here.kept - r.kept) st.part) (omega (arith, st.keeps))

  pub led-to : run (reading_of r buffer) lump ≡ reading_with here (kept_by r here from buffer lump)
  led-to = standing-end r lump here from next st t.whole (take r.kept buffer) kept-length

  pub led-reader : reader_of (run (reading_of r buffer) lump) ≡ here
  led-reader = ap reader_of led-to ∙ reader-back here st.fits (kept_by r here from buffer lump) kept_by-length

  pub led-buffer : kept_in (run (reading_of r buffer) lump) buffer ≡ kept_by r here from buffer lump ++ drop here.kept buffer
  led-buffer = ap (λ (x : Reading). kept_in x buffer) led-to ∙ ap (λ (n : ℕ). kept_by r here from buffer lump ++ drop n buffer) kept_by-length

-- whether it is too large does not depend on the bytes that are kept
pub led-large : (r : LumpReader) (buffer lump : List ℕ) (here : LumpReader) (from next : ℕ) → most_kept ≤ length buffer → Standing r lump here from next → next ≡ length lump
    → is_large (run (reading_of r buffer) lump).doing ≡ is_large (doing_of here.phase here)
led-large r buffer lump here from next h st e =
    ap (λ (x : Reading). is_large x.doing) (standing-end r lump here from next st e (take r.kept buffer) (length-take-le r.kept buffer (omega (arith, st.keeps, st.fits.kept, h))))

-- ---- the end

module _ (q : LumpReader) (f : Fits q) (kept : List ℕ) where
  heading-tells : telling (doing_of Heading q) q.fragments kept ≡ framed (cond (whole_in Heading q) (Ok kept) refused)
  heading-tells = go (dec_le 1 q.seen)
    where
      one : (n : ℕ) → framed (verdict n kept) ≡ framed (cond (eqb n 1) (Ok kept) refused)
      one zero = refl
      one (suc zero) = refl
      one (suc (suc n)) = let e : eqb (suc (suc n)) 1 ≡ false = ne_eqb (suc (suc n)) 1 (λ h. absurd (omega arith)) in rw e

      stray : (k : ℕ) (l : List ℕ) → (k ≡ 0 → ⊥) → 0 < length l → telling (heading (take k l)) q.fragments kept ≡ framed refused
      stray zero l a b = absurd (a refl)
      stray (suc k) [] a b = absurd (omega arith)
      stray (suc k) (x ∷ l) a b = refl

      go : Dec (1 ≤ q.seen) → telling (heading (take q.seen q.head)) q.fragments kept ≡ framed (cond (eqb q.seen 0 && eqb q.fragments 1) (Ok kept) refused)
      go (yes n) = let m : q.seen ≡ 0 → ⊥ = λ e. absurd (omega arith) in rw (ne_eqb q.seen 0 m) (stray q.seen q.head m (omega (arith, f.bytes)))
      go (no n) = let e : q.seen ≡ 0 = omega arith in rw e (one q.fragments)

  pub tells : is_large (doing_of q.phase q) ≡ false → tell (reading_with q kept) ≡ framed (cond (whole_in q.phase q) (Ok kept) refused)
  tells e = go q.phase e
    where
      go : (p : Phase) → is_large (doing_of p q) ≡ false → telling (doing_of p q) q.fragments kept ≡ framed (cond (whole_in p q) (Ok kept) refused)
      go Heading e = heading-tells
      go Passing e = refl
      go Keeping e = refl
      go Stuck e = refl
      go Large e = let z : ◌≡◌ {A = ℕ} 0 1 = cc in absurd (omega arith)

module _ (of : SegmentTrack) (places : ℕ) (r : LumpReader) (buffer lump : List ℕ) (here : LumpReader) (from next : ℕ) (st : Standing r lump here from next) (t : Through buffer lump here next) where
  abbrev ended : CallResult Taken
  ended = ends of places (run (reading_of r buffer) lump)

  told : tell (run (reading_of r buffer) lump) ≡ framed (cond (whole_in here.phase here) (Ok (kept_by r here from buffer lump)) refused)
  told = ap tell (led-to r buffer lump here from next st t) ∙ tells here st.fits (kept_by r here from buffer lump) t.small

  pub ends-broken : whole_in here.phase here ≡ false → ended ≡ Err why.Malformed
  ends-broken w = rw (told, w)

  pub ends-whole : whole_in here.phase here ≡ true → ended ≡ listing (list_movie of places (kept_by r here from buffer lump))
  ends-whole w = rw (told, w)

-- an answer and the frame list, from what the movie fragment gives
pub listed_answer : (x : CallResult (List (List ℤ))) → row_count x ≡ taken_count (listing x)
listed_answer (Err w) = refl
listed_answer (Ok rows) = refl

pub listed-frames : (x : CallResult (List (List ℤ))) (list : List (List ℤ)) → rows_after x list ≡ frames_after (listing x) list
listed-frames (Err w) list = refl
listed-frames (Ok rows) list = refl

-- where they are listed the reader is fresh after it, else as it was
pub listing-fresh : (x : CallResult (List (List ℤ))) (n : ℕ) (r : LumpReader) → Ok n ≡ taken_count (listing x) → reader_of fresh ≡ reader_after (listing x) r
listing-fresh (Err w) n r e = cc
listing-fresh (Ok rows) n r e = refl

pub listing-refused : (x : CallResult (List (List ℤ))) (w : Refusal) (r : LumpReader) → Err w ≡ taken_count (listing x) → r ≡ reader_after (listing x) r
listing-refused (Err v) w r e = refl
listing-refused (Ok rows) w r e = cc

-- a call that is told the end leaves the buffer
pub listed-buffer : (x : CallResult (List (List ℤ))) (buffer : List ℕ) → buffer_after (listing x) buffer ≡ buffer
listed-buffer (Err w) buffer = refl
listed-buffer (Ok rows) buffer = refl

module _ (of : SegmentTrack) (places : ℕ) (r : LumpReader) (buffer lump : List ℕ) where
  pub last-buffer : buffer_after (last_result of places r buffer lump) buffer ≡ buffer
  unfolding last_result
  last-buffer =
      by-test P (not (good_reader r)) (λ _. refl)
      (λ _. by-test P (ltb (length buffer) most) (λ _. refl)
      (λ _. by-test P (ltb most (length lump)) (λ _. refl) (λ _. listed-buffer (rows_told of places (tell (run (reading_of r buffer) lump))) buffer)))
    where
      P : CallResult Taken → Type 0
      P x = buffer_after x buffer ≡ buffer

-- and one after which more comes leaves the frame list
pub more-frames : (r : LumpReader) (buffer lump : List ℕ) (list : List (List ℤ)) → frames_after (more_result r buffer lump) list ≡ list
unfolding more_result
more-frames r buffer lump list =
    by-test P (not (good_reader r)) (λ _. refl)
    (λ _. by-test P (ltb (length buffer) most) (λ _. refl)
    (λ _. by-test P (ltb most (length lump)) (λ _. refl)
    (λ _. by-test P (is_large (run (reading_of r buffer) lump).doing) (λ _. refl) (λ _. refl))))
  where
    P : CallResult Taken → Type 0
    P x = frames_after x list ≡ list

-- ---- a lump that is tried, whatever buffer of that room is lent

module _ (r : LumpReader) (room : ℕ) (lump : List ℕ) where
  pub refuses-ill : good_reader r ≡ false → Refuses r room lump why.IllFormed
  unfolding more_result last_result
  refuses-ill g = record { more = λ buffer _. tested-ill r buffer lump _ g; last = λ buffer _ of places. tested-ill r buffer lump _ g }

  module _ (g : good_reader r ≡ true) where
    pub refuses-short : ltb room most ≡ true → Refuses r room lump why.LentSize
    unfolding more_result last_result
    refuses-short s = record { more = λ buffer e. tested-short r buffer lump _ g (same buffer e); last = λ buffer e of places. tested-short r buffer lump _ g (same buffer e) }
      where
        same : (buffer : List ℕ) → length buffer ≡ room → ltb (length buffer) most ≡ true
        same buffer e = ap (λ (n : ℕ). ltb n most) e ∙ s

    module _ (enough : ltb room most ≡ false) where
      same : (buffer : List ℕ) → length buffer ≡ room → ltb (length buffer) most ≡ false
      same buffer e = ap (λ (n : ℕ). ltb n most) e ∙ enough

      pub refuses-long : ltb most (length lump) ≡ true → Refuses r room lump why.LentSize
      unfolding more_result last_result
      refuses-long l = record { more = λ buffer e. tested-long r buffer lump _ g (same buffer e) l; last = λ buffer e of places. tested-long r buffer lump _ g (same buffer e) l }

      module _ (few : ltb most (length lump) ≡ false) (here : LumpReader) (from next : ℕ) (st : Standing r lump here from next) (whole : next ≡ length lump) where
        wide : (buffer : List ℕ) → length buffer ≡ room → most_kept ≤ length buffer
        wide buffer e = let h = ltb-false (length buffer) most (same buffer e) in omega arith

        passes : (buffer : List ℕ) → length buffer ≡ room → IsPassed r buffer lump
        passes buffer e = record { good = g; enough = same buffer e; few = few }

        pub refuses-large : is_large (doing_of here.phase here) ≡ true → Refuses r room lump why.LargeFragment
        refuses-large h = record {
          more = λ buffer e. more-large r buffer lump (passes buffer e) (led-large r buffer lump here from next (wide buffer e) st whole ∙ h);
          last = λ buffer e of places. last-large r buffer lump (passes buffer e) of places (led-large r buffer lump here from next (wide buffer e) st whole ∙ h);
        }

        pub leads : is_large (doing_of here.phase here) ≡ false → Leads r room lump here next
        leads h = record {
          good = g;
          enough = enough;
          few = few;
          through = λ buffer e. record { room = wide buffer e; whole = whole; small = h };
        }

-- from there to each call's result
module _ (r : LumpReader) (buffer lump : List ℕ) (here : LumpReader) (from next : ℕ) (st : Standing r lump here from next) (l : Leads r (length buffer) lump here next) where
  abbrev t : Through buffer lump here next
  t = l.through buffer refl

  lets-through : IsPassed r buffer lump
  lets-through = record { good = l.good; enough = l.enough; few = l.few }

  small : is_large (run (reading_of r buffer) lump).doing ≡ false
  small = led-large r buffer lump here from next t.room st t.whole ∙ t.small

  pub more-answer : Ok 0 ≡ taken_count (more_result r buffer lump)
  more-answer = sym (ap taken_count (more-taken r buffer lump lets-through small))

  pub more-reader : here ≡ reader_after (more_result r buffer lump) r
  more-reader = sym (led-reader r buffer lump here from next st t) ∙ sym (ap (λ (x : CallResult Taken). reader_after x r) (more-taken r buffer lump lets-through small))

  pub more-buffer : kept_by r here from buffer lump ++ drop here.kept buffer ≡ buffer_after (more_result r buffer lump) buffer
  more-buffer = sym (led-buffer r buffer lump here from next st t) ∙ sym (ap (λ (x : CallResult Taken). buffer_after x buffer) (more-taken r buffer lump lets-through small))

  pub last-is : (of : SegmentTrack) (places : ℕ) → last_result of places r buffer lump ≡ ends of places (run (reading_of r buffer) lump)
  last-is of places = last-given r buffer lump lets-through of places
