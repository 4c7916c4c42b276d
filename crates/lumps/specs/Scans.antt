-- What the code knows while it goes through a lump. Only inner functions speak of it. A lump is gone through once, and nothing is written: where
-- it leads to does not depend on the bytes that are kept, and those that it adds to them stand in one stretch.
use Rattle.std.specs.Prelude.{◌≡◌, Bool, true, false, List, ◌++◌, ℕ, ◌+◌, ◌-◌, ◌≤◌, ◌<◌, length, take, drop, replicate, ltb, Err}
use mathlib.Core.Sum.{⊎_set}
use denote.Struct.Props.{props}
use Rattle.boxes.specs.Boxes.{be4}
use Rattle.buffer_state.specs.declared.Refusal.{Refusal}
use Rattle.segments.specs.declared.SegmentTrack.{SegmentTrack}
use Rattle.lumps.specs.Lumps.{more_result, last_result}
use Rattle.lumps.specs.Readings.{most, Doing, keeping, passing, Reading, run, is_large}
use Rattle.lumps.specs.Readers.{doing_of, reading_with, most_kept, most_left, good_reader}
use Rattle.lumps.specs.declared.LumpReader.{LumpReader}
use Rattle.lumps.specs.declared.Phase.{Phase}
use Rattle.lumps.specs.declared.Phase.TheVariants.{Heading, Passing, Keeping, Stuck, Large}

-- the condition on readers as facts; past a movie fragment that is too large a scan may stand
abbrev pub FitsIn : Phase → LumpReader → Type 0
FitsIn Heading r = (r.seen < 16) × (r.left ≡ 0) × (8 ≤ r.seen → be4 r.head ≡ 1)
FitsIn Passing r = (r.seen ≡ 0) × (0 < r.left) × (r.left ≤ most_left)
FitsIn Keeping r = (r.seen ≡ 0) × (0 < r.left) × (r.kept + r.left ≤ most_kept) × (r.fragments ≡ 1)
FitsIn Stuck r = (r.seen ≡ 0) × (r.left ≡ 0)
FitsIn Large r = (r.seen ≡ 0) × (r.left ≡ 0)

pub record Fits (r : LumpReader) : Type 0 where
  pub phase : FitsIn r.phase r
  pub bytes : length r.head ≡ 16
  pub head : r.head ≡ take r.seen r.head ++ replicate (16 - r.seen) 0
  pub fragments : r.fragments ≤ 2
  pub kept : r.kept ≤ most_kept
  pub none : r.fragments ≡ 0 → r.kept ≡ 0

-- a reader that shows a reading, whatever the n bytes are that it keeps
pub record Shows (q : LumpReader) (n : ℕ) (x : List ℕ → Reading) : Type 0 where
  pub reads : (kept : List ℕ) → length kept ≡ n → reading_with q kept ≡ x kept
  pub fits : Fits q
  pub kept : q.kept ≡ n

-- a body that is kept or passed over
abbrev pub body_of : Bool → ℕ → Doing
body_of true = keeping
body_of false = passing

-- so many bytes of a lump, from a place on
abbrev pub part_of : List ℕ → ℕ → ℕ → List ℕ
part_of lump at n = take n (drop at lump)

-- A scan from the reader r stands: what the lump leads to is what the rest of it leads to from here, with the bytes kept before and those that
-- the lump has added.
pub record Standing (r : LumpReader) (lump : List ℕ) (here : LumpReader) (from next : ℕ) : Type 0 where
  pub within : next ≤ length lump
  pub fits : Fits here
  pub keeps : r.kept ≤ here.kept
  pub part : from + (here.kept - r.kept) ≤ length lump
  -- a body is kept in one stretch of a lump
  pub once : here.phase ≡ Keeping → next < length lump → here.kept ≡ r.kept
  pub left : (kept : List ℕ) → length kept ≡ r.kept
      → run (reading_with r kept) lump ≡ run (reading_with here (kept ++ part_of lump from (here.kept - r.kept))) (drop next lump)

-- there is one way to say so
pub FitsIn-prop : (p : Phase) (r : LumpReader) → IsProp (FitsIn p r)
FitsIn-prop Heading r = hlevel props
FitsIn-prop Passing r = hlevel props
FitsIn-prop Keeping r = hlevel props
FitsIn-prop Stuck r = hlevel props
FitsIn-prop Large r = hlevel props

pub Fits-prop : (r : LumpReader) → IsProp (Fits r)
Fits-prop r = hlevel (props, FitsIn-prop)

Reading_set : IsSet Reading
Reading_set = hlevel (props, ⊎_set)

pub Standing-prop : (r : LumpReader) (lump : List ℕ) (here : LumpReader) (from next : ℕ) → IsProp (Standing r lump here from next)
Standing-prop r lump here from next = hlevel (props, Fits-prop, Reading_set)

-- the bytes that are kept after it: those before, and those that the lump adds
abbrev pub kept_by : LumpReader → LumpReader → ℕ → List ℕ → List ℕ → List ℕ
kept_by r here from buffer lump = take r.kept buffer ++ part_of lump from (here.kept - r.kept)

-- A lump that was gone through, in a call that may take it.
pub record Through (buffer lump : List ℕ) (here : LumpReader) (next : ℕ) : Type 0 where
  pub room : most_kept ≤ length buffer
  pub whole : next ≡ length lump
  pub small : is_large (doing_of here.phase here) ≡ false

-- What is known of a lump that was tried, whatever buffer of that room is lent: that it may be taken, or why it is not.
pub record Leads (r : LumpReader) (room : ℕ) (lump : List ℕ) (here : LumpReader) (next : ℕ) : Type 0 where
  pub good : good_reader r ≡ true
  pub enough : ltb room most ≡ false
  pub few : ltb most (length lump) ≡ false
  pub through : (buffer : List ℕ) → length buffer ≡ room → Through buffer lump here next

pub record Refuses (r : LumpReader) (room : ℕ) (lump : List ℕ) (why : Refusal) : Type 0 where
  pub more : (buffer : List ℕ) → length buffer ≡ room → more_result r buffer lump ≡ Err why
  pub last : (buffer : List ℕ) → length buffer ≡ room → (of : SegmentTrack) (places : ℕ) → last_result of places r buffer lump ≡ Err why
