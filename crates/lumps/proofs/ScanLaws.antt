-- The turns of a scan: by a byte of a header, by a stretch of a body, where nothing counts any more, and at its end. Assumes
-- nothing.
use mathlib.Core.Path.{◌≡◌, refl, sym, ap, subst, ◌∙◌}
use mathlib.Core.Bool.{true, false, cond}
use mathlib.Core.List.{List, ◌++◌, append-nil}
use Prim.Native.Nat.{ℕ, zero, suc, ◌+◌, ◌-◌, ◌≤◌, ◌<◌}
use native.Mathlib.Omega.{arith}
use native.Mathlib.Numerals.{add-one}
use borrow.Author.Tests.{leb-true, leb-false}
use lib.Dec.{leb}
use lib.ListN.{length, get_or, take, drop, length-append, length-drop, drop_of_length-le}
use lib.Seq.{drop-cons, drop-drop, length-take-le}
use Rattle.laws.proofs.BoolLaws.{by-test}
use Rattle.lumps.specs.Readings.{Doing, heading, Reading, going, stepping, step, run}
use Rattle.lumps.specs.Readers.{doing_of, reading_with}
use Rattle.lumps.specs.Scans.{FitsIn, Fits, Shows, body_of, part_of, Standing}
use Rattle.lumps.specs.declared.LumpReader.{LumpReader}
use Rattle.lumps.specs.declared.Phase.{Phase}
use Rattle.lumps.specs.declared.Phase.TheVariants.{Heading, Passing, Keeping, Stuck, Large}
use Rattle.lumps.proofs.StretchLaws.{in_body, stretch-run, stuck-run, large-run}

-- ---- the bytes that a lump adds

pub part_length : (lump : List ℕ) (at n : ℕ) → at + n ≤ length lump → length (part_of lump at n) ≡ n
part_length lump at n h = length-take-le n (drop at lump) (rw (length-drop at lump) (omega arith))

-- as much of a body as the lump has
pub record IsStretched (left room n : ℕ) : Type 0 where
  pub of : n ≤ left
  pub within : n ≤ room
  pub all : n < left → n ≡ room
  pub some : 0 < left → 0 < room → 0 < n

pub stretched : (left room n : ℕ) → n ≡ cond (leb left room) left room → IsStretched left room n
stretched left room n e = subst (IsStretched left room) (sym e) (by-test (IsStretched left room) (leb left room)
    (λ t. let h = leb-true left room t in record { of = omega arith; within = h; all = λ k. absurd (omega arith); some = λ a _. a })
    (λ t. let h = leb-false left room t in record { of = omega arith; within = omega arith; all = λ _. refl; some = λ _ b. b }))

-- a body with bytes to come
pub going-some : (f : ℕ → Doing) (k : ℕ) → 0 < k → going f k ≡ f k
going-some f zero h = absurd (omega arith)
going-some f (suc k) h = refl

-- what fits in a phase that is known
pub FitsIn-phase : (r : LumpReader) (p : Phase) → r.phase ≡ p → Fits r → FitsIn p r
FitsIn-phase r p e f = subst (λ (x : Phase). FitsIn x r) e f.phase

-- a reading in a phase that is known
reads_in : (r : LumpReader) (p : Phase) → r.phase ≡ p → (kept : List ℕ) → reading_with r kept ≡ record { doing = doing_of p r; fragments = r.fragments; kept = kept }
reads_in r p e kept = ap (λ (x : Phase). record { doing = doing_of x r; fragments = r.fragments; kept = kept }) e

reads-passing : (r : LumpReader) → r.phase ≡ Passing → 0 < r.left → (kept : List ℕ) → reading_with r kept ≡ in_body false r.fragments r.left kept
reads-passing r e h kept = reads_in r Passing e kept ∙ rw (going-some (body_of false) r.left h)

reads-keeping : (r : LumpReader) → r.phase ≡ Keeping → 0 < r.left → (kept : List ℕ) → reading_with r kept ≡ in_body true r.fragments r.left kept
reads-keeping r e h kept = reads_in r Keeping e kept ∙ rw (going-some (body_of true) r.left h)

module _ (r : LumpReader) (lump : List ℕ) where
  module _ (here : LumpReader) (from next : ℕ) (st : Standing r lump here from next) where
    -- the bytes kept so far
    abbrev so_far : List ℕ → List ℕ
    so_far kept = kept ++ part_of lump from (here.kept - r.kept)

    so-far-length : (kept : List ℕ) → length kept ≡ r.kept → length (so_far kept) ≡ here.kept
    so-far-length kept e =
        length-append kept (part_of lump from (here.kept - r.kept))
        ∙ rw (part_length lump from (here.kept - r.kept) st.part) (omega (arith, e, st.keeps))

    -- a reader that keeps no more has the same bytes
    same-added : (q : LumpReader) → q.kept ≡ here.kept → (kept : List ℕ) → reading_with q (so_far kept) ≡ reading_with q (kept ++ part_of lump from (q.kept - r.kept))
    same-added q e kept = ap (λ (k : ℕ). reading_with q (kept ++ part_of lump from (k - r.kept))) (sym e)

    -- ---- a byte of a header

    pub standing-header : (q : LumpReader) → next < length lump → here.phase ≡ Heading
        → Shows q here.kept (λ k. stepping (heading (take here.seen here.head)) here.fragments k (get_or lump next 0))
        → (q.phase ≡ Keeping → here.kept ≡ 0)
        → Standing r lump q from (next + 1)
    standing-header q h p x first = record {
      within = omega arith;
      fits = x.fits;
      keeps = omega (arith, x.kept, st.keeps);
      part = omega (arith, x.kept, st.part);
      once = λ e _. omega (arith, x.kept, first e, st.keeps);
      left = λ kept e. st.left kept e ∙ on kept e;
    }
      where
        on : (kept : List ℕ) → length kept ≡ r.kept
            → run (reading_with here (so_far kept)) (drop next lump) ≡ run (reading_with q (kept ++ part_of lump from (q.kept - r.kept))) (drop (next + 1) lump)
        on kept e =
            let y : step (reading_with here (so_far kept)) (get_or lump next 0) ≡ reading_with q (so_far kept) =
            ap (λ (z : Reading). step z (get_or lump next 0)) (reads_in here Heading p (so_far kept)) ∙ sym (x.reads (so_far kept) (so-far-length kept e)) in
            let w : reading_with q (so_far kept) ≡ reading_with q (kept ++ part_of lump from (q.kept - r.kept)) = same-added q x.kept kept in
            rw (drop-cons lump next 0 h, add-one) (ap (λ (z : Reading). run z (drop (suc next) lump)) (y ∙ w))

    -- ---- a stretch of a body, passed over and kept

    pub standing-passed : (q : LumpReader) (n : ℕ) → next < length lump → here.phase ≡ Passing → n ≤ here.left → n ≤ length lump - next
        → Shows q here.kept (in_body false here.fragments (here.left - n)) → (q.phase ≡ Keeping → ⊥)
        → Standing r lump q from (next + n)
    standing-passed q n h p a b x never = record {
      within = omega arith;
      fits = x.fits;
      keeps = omega (arith, x.kept, st.keeps);
      part = omega (arith, x.kept, st.part);
      once = λ e _. absurd (never e);
      left = λ kept e. st.left kept e ∙ on kept e;
    }
      where
        on : (kept : List ℕ) → length kept ≡ r.kept
            → run (reading_with here (so_far kept)) (drop next lump) ≡ run (reading_with q (kept ++ part_of lump from (q.kept - r.kept))) (drop (next + n) lump)
        on kept e =
            let some = (FitsIn-phase here Passing p st.fits).1 in
            ap (λ (z : Reading). run z (drop next lump)) (reads-passing here p some (so_far kept))
            ∙ stretch-run false here.fragments here.left n (so_far kept) (drop next lump) a (rw (length-drop next lump) b)
            ∙ rw (append-nil (so_far kept), drop-drop n next lump)
            (ap (λ (z : Reading). run z (drop (next + n) lump)) (sym (x.reads (so_far kept) (so-far-length kept e)) ∙ same-added q x.kept kept))

    pub standing-kept : (q : LumpReader) (n : ℕ) → next < length lump → here.phase ≡ Keeping → n ≤ here.left → n ≤ length lump - next
        → (n < here.left → next + n ≡ length lump)
        → Shows q (here.kept + n) (in_body true here.fragments (here.left - n)) → (q.phase ≡ Keeping → 0 < here.left - n)
        → Standing r lump q next (next + n)
    standing-kept q n h p a b all x some = record {
      within = omega arith;
      fits = x.fits;
      keeps = omega (arith, x.kept, st.keeps);
      part = omega (arith, x.kept, st.once p h);
      once = λ e f. let g = all (omega (arith, some e)) in absurd (omega arith);
      left = λ kept e. st.left kept e ∙ on kept e;
    }
      where
        added : q.kept - r.kept ≡ n
        added = omega (arith, x.kept, st.once p h)

        -- nothing was added before
        first : (kept : List ℕ) → so_far kept ≡ kept
        first kept = let g : here.kept - r.kept ≡ 0 = omega (arith, st.once p h) in rw g (append-nil kept)

        on : (kept : List ℕ) → length kept ≡ r.kept
            → run (reading_with here (so_far kept)) (drop next lump) ≡ run (reading_with q (kept ++ part_of lump next (q.kept - r.kept))) (drop (next + n) lump)
        on kept e =
            let t = part_of lump next n in
            let l : length (kept ++ t) ≡ here.kept + n = length-append kept t ∙ rw (part_length lump next n (omega arith)) (omega (arith, e, st.once p h)) in
            ap (λ (z : List ℕ). run (reading_with here z) (drop next lump)) (first kept)
            ∙ ap (λ (z : Reading). run z (drop next lump)) (reads-keeping here p (FitsIn-phase here Keeping p st.fits).1 kept)
            ∙ stretch-run true here.fragments here.left n kept (drop next lump) a (rw (length-drop next lump) b)
            ∙ rw (added, drop-drop n next lump) (ap (λ (z : Reading). run z (drop (next + n) lump)) (sym (x.reads (kept ++ t) l)))

    -- ---- where nothing counts any more

    module _ (p : Phase) (e : here.phase ≡ p) (not : (p ≡ Keeping → ⊥))
        (idle : (n : ℕ) (kept t : List ℕ) → run (record { doing = doing_of p here; fragments = n; kept = kept }) t ≡ record { doing = doing_of p here; fragments = n; kept = kept }) where
      standing-idle : Standing r lump here from (length lump)
      standing-idle = record {
        within = omega arith;
        fits = st.fits;
        keeps = st.keeps;
        part = st.part;
        once = λ f _. absurd (not (sym e ∙ f));
        left = λ kept f. st.left kept f ∙ on kept (drop next lump) ∙ sym (on kept (drop (length lump) lump));
      }
        where
          on : (kept t : List ℕ) → run (reading_with here (so_far kept)) t ≡ record { doing = doing_of p here; fragments = here.fragments; kept = so_far kept }
          on kept t = ap (λ (z : Reading). run z t) (reads_in here p e (so_far kept)) ∙ idle here.fragments (so_far kept) t

    pub standing-stuck : here.phase ≡ Stuck → Standing r lump here from (length lump)
    standing-stuck e = standing-idle Stuck e (λ f. let z : ◌≡◌ {A = ℕ} 0 1 = cc in absurd (omega arith)) stuck-run

    pub standing-large : here.phase ≡ Large → Standing r lump here from (length lump)
    standing-large e = standing-idle Large e (λ f. let z : ◌≡◌ {A = ℕ} 0 1 = cc in absurd (omega arith)) large-run

    -- ---- the end

    pub standing-end : next ≡ length lump → (kept : List ℕ) → length kept ≡ r.kept → run (reading_with r kept) lump ≡ reading_with here (so_far kept)
    standing-end e kept f = st.left kept f ∙ ap (run (reading_with here (so_far kept))) (drop_of_length-le lump {i = next} (omega arith))
