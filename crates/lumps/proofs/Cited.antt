-- What a reader may cite of segments in lumps. However a segment is cut, the call that is told the end lists or refuses as No. 1 on the whole
-- (`as-whole`); until then every lump is taken, and nothing listed (`goes_on`); a movie fragment box that is too large is refused 14 exactly
-- where its size is read (`large-exactly`); every reader handed out meets the condition (`handed-good`). Assumes nothing.
use Rattle.std.specs.Prelude.{Ok, Err}
use mathlib.Core.Path.{◌≡◌, refl, sym, ap, subst, ◌∙◌}
use mathlib.Core.Bool.{Bool, true, false, not}
use mathlib.Core.List.{List, [], ◌∷◌, ◌++◌}
use Prim.Native.Nat.{ℕ, ◌+◌, ◌-◌, ◌≤◌}
use native.Mathlib.Omega.{arith}
use borrow.Author.Tests.{ltb-false, le-ltb}
use lib.ListN.{length, take, drop, length-append, length-drop, take-append-drop}
use lib.Seq.{length-take-le}
use lib.Dec.{ltb}
use Rattle.laws.proofs.BoolLaws.{by-test}
use Rattle.boxes.specs.Boxes.{boxes_of}
use Rattle.boxes.specs.Lone.{lone_in}
use Rattle.buffer_state.specs.Refusals.{CallResult, refuse_if}
use Rattle.buffer_state.specs.declared.Refusal.{Refusal}
use Rattle.buffer_state.specs.declared.Refusal.TheVariants as why
use Rattle.segments.specs.Listings.{moof_kind}
use Rattle.segments.specs.Segments.{list_segment}
use Rattle.segments.specs.declared.SegmentTrack.{SegmentTrack}
use Rattle.segments.proofs.ListedLaws.{segment-by-movie}
use Rattle.lumps.specs.Cuts.{IsBytes, Came, start, lump}
use Rattle.lumps.specs.LargeFragments.{has_large}
use Rattle.lumps.specs.Lumps.{Taken, rows_told, listing, more_result, last_result, lump_result}
use Rattle.lumps.specs.Readers.{reading_of, reader_of, kept_in, good_reader}
use Rattle.lumps.specs.Readings.{most, Doing, heading, passing, keeping, stuck, large, Reading, fresh, run, Told, too_large, framed, telling, tell, is_large}
use Rattle.lumps.specs.Scans.{Fits}
use Rattle.lumps.specs.declared.LumpReader.{LumpReader}
use Rattle.lumps.proofs.ByteLaws.{bytes-append}
use Rattle.lumps.proofs.CutLaws.{run-append}
use Rattle.lumps.proofs.WholeLaws.{unless_large, whole_told_lem}
use Rattle.lumps.proofs.FairLaws.{IsFair, fair-fresh, fair-run, fair-good, reading-back}
use Rattle.lumps.proofs.LumpLaws.{IsPassed, more-large, more-taken, last-large, last-given}
use Rattle.lumps.proofs.ReaderLaws.{good-fits, reader-back}

-- ---- what a lump that was taken says

-- the tests that it passed, and the reading after it
record IsAccepted (r : LumpReader) (buffer l : List ℕ) (t : Taken) : Type 0 where
  good : good_reader r ≡ true
  enough : ltb (length buffer) most ≡ false
  small : is_large (run (reading_of r buffer) l).doing ≡ false
  after : t ≡ record { reading = run (reading_of r buffer) l; rows = [] }

-- said of whatever a call gives
abbrev AcceptedBy : LumpReader → List ℕ → List ℕ → CallResult Taken → Type 0
AcceptedBy r buffer l (Err w) = Unit {0}
AcceptedBy r buffer l (Ok t) = IsAccepted r buffer l t

accepted-by : (r : LumpReader) (buffer l : List ℕ) → AcceptedBy r buffer l (more_result r buffer l)
unfolding more_result
accepted-by r buffer l = go (good_reader r) (ltb (length buffer) most) (ltb most (length l)) (is_large (run (reading_of r buffer) l).doing) refl refl refl
  where
    go : (g b h e : Bool) → good_reader r ≡ g → ltb (length buffer) most ≡ b → is_large (run (reading_of r buffer) l).doing ≡ e
        → AcceptedBy r buffer l (refuse_if (not g) why.IllFormed (refuse_if b why.LentSize (refuse_if h why.LentSize (refuse_if e why.LargeFragment (Ok (record { reading = run (reading_of r buffer) l; rows = [] }))))))
    go false b h e p q s = tt
    go true true h e p q s = tt
    go true false true e p q s = tt
    go true false false true p q s = tt
    go true false false false p q s = record { good = p; enough = q; small = s; after = refl }

accepted : (r : LumpReader) (buffer l : List ℕ) (t : Taken) → more_result r buffer l ≡ Ok t → IsAccepted r buffer l t
accepted r buffer l t e = subst (AcceptedBy r buffer l) e (accepted-by r buffer l)

-- ---- what came

came-bytes : (m s : List ℕ) (r : LumpReader) (buffer : List ℕ) → Came m s r buffer → IsBytes s
came-bytes m s r buffer start = tt
came-bytes m s r buffer (lump {s = s₀} {r = r₀} {buffer = buffer₀} l t c y e) = bytes-append s₀ l (came-bytes m s₀ r₀ buffer₀ c) y

-- after one more lump the reading is that of all bytes
taken-reading : (s : List ℕ) (r : LumpReader) (buffer : List ℕ) → reading_of r buffer ≡ run fresh s → (l : List ℕ) (t : Taken)
    → more_result r buffer l ≡ Ok t → t.reading ≡ run fresh (s ++ l)
taken-reading s r buffer h l t e =
    ap (λ (x : Taken). x.reading) (accepted r buffer l t e).after
    ∙ ap (λ (x : Reading). run x l) h
    ∙ sym (run-append fresh s l)

-- and so it is whatever the cuts
pub came-reading : (m s : List ℕ) (r : LumpReader) (buffer : List ℕ) → Came m s r buffer → reading_of r buffer ≡ run fresh s
came-reading m s r buffer start = refl
came-reading m s r buffer (lump {s = s₀} {r = r₀} {buffer = buffer₀} l t c y e) =
    reading-back t.reading buffer₀ ∙ taken-reading s₀ r₀ buffer₀ (came-reading m s₀ r₀ buffer₀ c) l t e

-- every reader handed out meets the condition
pub handed-good : (m s : List ℕ) (r : LumpReader) (buffer : List ℕ) → Came m s r buffer → good_reader r ≡ true
handed-good m s r buffer start = fair-good fresh fair-fresh refl
handed-good m s r buffer (lump {s = s₀} {r = r₀} {buffer = buffer₀} l t c y e) =
    let a = accepted r₀ buffer₀ l t e in
    fair-good t.reading
    (subst IsFair (sym (taken-reading s₀ r₀ buffer₀ (came-reading m s₀ r₀ buffer₀ c) l t e)) (fair-run fresh (s₀ ++ l) fair-fresh (bytes-append s₀ l (came-bytes m s₀ r₀ buffer₀ c) y)))
    (ap (λ (x : Taken). is_large x.reading.doing) a.after ∙ a.small)

came-room : (m s : List ℕ) (r : LumpReader) (buffer : List ℕ) → most ≤ length m → Came m s r buffer → most ≤ length buffer
came-room m s r buffer h start = h
came-room m s r buffer h (lump {s = s₀} {r = r₀} {buffer = buffer₀} l t c y e) =
    let k = length t.reading.kept in
    let n : length (kept_in t.reading buffer₀) ≡ k + (length buffer₀ - k) = length-append t.reading.kept (drop k buffer₀) ∙ ap (λ (i : ℕ). k + i) (length-drop k buffer₀) in
    omega (arith, n, came-room m s₀ r₀ buffer₀ h c)

-- ---- one more lump

-- whether all bytes, as far as they came, have a movie fragment box that is too large
large-told : (s : List ℕ) → is_large (run fresh s).doing ≡ has_large s
large-told s = tells (run fresh s).doing (run fresh s).fragments (run fresh s).kept ∙ ap is_too_large (whole_told_lem s) ∙ whole (has_large s)
  where
    is_too_large : Told → Bool
    is_too_large too_large = true
    is_too_large (framed x) = false

    tells : (d : Doing) (n : ℕ) (kept : List ℕ) → is_large d ≡ is_too_large (telling d n kept)
    tells (heading []) n kept = refl
    tells (heading (b ∷ l)) n kept = refl
    tells (passing k) n kept = refl
    tells (keeping k) n kept = refl
    tells stuck n kept = refl
    tells large n kept = refl

    whole : (h : Bool) → is_too_large (unless_large h (framed (lone_in moof_kind moof_kind (boxes_of s)))) ≡ h
    whole true = refl
    whole false = refl

module _ (m s : List ℕ) (r : LumpReader) (buffer : List ℕ) (c : Came m s r buffer) (room : most ≤ length m) (l : List ℕ) (few : length l ≤ most) (of : SegmentTrack) (places : ℕ) where
  here : run (reading_of r buffer) l ≡ run fresh (s ++ l)
  here = ap (λ (x : Reading). run x l) (came-reading m s r buffer c) ∙ sym (run-append fresh s l)

  size : is_large (run (reading_of r buffer) l).doing ≡ has_large (s ++ l)
  size = ap (λ (x : Reading). is_large x.doing) here ∙ large-told (s ++ l)

  passed : IsPassed r buffer l
  passed = record { good = handed-good m s r buffer c; enough = le-ltb (length buffer) most (came-room m s r buffer room c); few = le-ltb most (length l) few }

  -- "A larger movie fragment box is refused 14 as soon as its size is read": exactly in the call whose lump brings the last byte of it, whether
  -- the end is told or not
  pub large-exactly : (last : Bool) → has_large (s ++ l) ≡ true → lump_result of places last r buffer l ≡ Err why.LargeFragment
  large-exactly true h = last-large r buffer l passed of places (size ∙ h)
  large-exactly false h = more-large r buffer l passed (size ∙ h)

  -- "Until then nothing is listed": the lump is taken
  pub goes_on : has_large (s ++ l) ≡ false → more_result r buffer l ≡ Ok (record { reading = run fresh (s ++ l); rows = [] })
  goes_on h = more-taken r buffer l passed (size ∙ h) ∙ ap (λ (x : Reading). Ok (record { reading = x; rows = [] })) here

  -- "the call told that no more comes, with a last lump or none, lists or refuses as No. 1 on the whole"
  pub as-whole : has_large (s ++ l) ≡ false → last_result of places r buffer l ≡ listing (list_segment of places (s ++ l))
  as-whole h =
      last-given r buffer l passed of places
      ∙ ap (λ (x : Reading). listing (rows_told of places (tell x))) here
      ∙ ap (λ (x : Told). listing (rows_told of places x)) (whole_told_lem (s ++ l))
      ∙ ap (λ (x : Bool). listing (rows_told of places (unless_large x (framed (lone_in moof_kind moof_kind (boxes_of (s ++ l))))))) h
      ∙ ap listing (sym (segment-by-movie of places (s ++ l)))

-- ---- of any reader, buffer and lump

-- "Until then nothing is listed and only 1, 13 and 14 are given."
pub data IsEarly : Refusal → Type 0 where
  one : IsEarly why.IllFormed
  thirteen : IsEarly why.LentSize
  fourteen : IsEarly why.LargeFragment

abbrev pub IsQuiet : CallResult Taken → Type 0
IsQuiet (Err w) = IsEarly w
IsQuiet (Ok t) = t.rows ≡ []

pub until-the-end : (r : LumpReader) (buffer l : List ℕ) → IsQuiet (more_result r buffer l)
unfolding more_result
until-the-end r buffer l =
    by-test IsQuiet (not (good_reader r)) (λ _. one)
    (λ _. by-test IsQuiet (ltb (length buffer) most) (λ _. thirteen)
    (λ _. by-test IsQuiet (ltb most (length l)) (λ _. thirteen)
    (λ _. by-test IsQuiet (is_large (run (reading_of r buffer) l).doing) (λ _. fourteen) (λ _. refl))))

-- "A lump of no bytes, no end told, changes nothing."
module _ (r : LumpReader) (buffer : List ℕ) (head : length r.head ≡ 16) (t : Taken) (e : more_result r buffer [] ≡ Ok t) where
  fits : Fits r
  fits = good-fits r head (accepted r buffer [] t e).good

  kept : length (take r.kept buffer) ≡ r.kept
  kept = length-take-le r.kept buffer (omega (arith, fits.kept, ltb-false (length buffer) most (accepted r buffer [] t e).enough))

  pub nothing_read : reader_of t.reading ≡ r
  nothing_read = ap (λ (x : Taken). reader_of x.reading) (accepted r buffer [] t e).after ∙ reader-back r fits (take r.kept buffer) kept

  pub nothing-kept : kept_in t.reading buffer ≡ buffer
  nothing-kept =
      ap (λ (x : Taken). kept_in x.reading buffer) (accepted r buffer [] t e).after
      ∙ ap (λ (n : ℕ). take r.kept buffer ++ drop n buffer) kept
      ∙ take-append-drop r.kept buffer
