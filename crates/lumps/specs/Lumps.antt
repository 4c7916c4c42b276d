-- Document 02, No. 5: what a call gives that is handed a reader, the lent buffer, a lump and whether this is the end. "Order 1, 13, 14, then
-- No. 1's."
use Rattle.std.specs.Prelude.{Bool, cond, not, List, [], ◌++◌, ℕ, ℤ, length, drop, ltb, Ok, Err}
use Rattle.buffer_state.specs.Refusals.{CallResult, refuse_if}
use Rattle.buffer_state.specs.declared.Refusal.TheVariants.{IllFormed, LentSize, LargeFragment}
use Rattle.segments.specs.Segments.{listed_lone}
use Rattle.segments.specs.declared.SegmentTrack.{SegmentTrack}
use Rattle.lumps.specs.Readings.{most, Reading, fresh, run, Told, too_large, framed, tell, is_large}
use Rattle.lumps.specs.Readers.{reading_of, reader_of, kept_in, good_reader}
use Rattle.lumps.specs.declared.LumpReader.{LumpReader}

-- the reading after the call, and the rows that it lists
pub record Taken : Type 0 where
  pub reading : Reading
  pub rows : List (List ℤ)

-- the end not told: "until then nothing is listed"
abbrev pub goes_on : Reading → CallResult Taken
goes_on x = refuse_if (is_large x.doing) LargeFragment (Ok (record { reading = x; rows = [] }))

-- the end told: "lists or refuses as No. 1", by the one movie fragment; "listing leaves the reader fresh"
abbrev pub rows_told : SegmentTrack → ℕ → Told → CallResult (List (List ℤ))
rows_told of places too_large = Err LargeFragment
rows_told of places (framed x) = listed_lone of places x

abbrev pub listing : CallResult (List (List ℤ)) → CallResult Taken
listing (Err why) = Err why
listing (Ok rows) = Ok (record { reading = fresh; rows = rows })

abbrev pub ends : SegmentTrack → ℕ → Reading → CallResult Taken
ends of places x = listing (rows_told of places (tell x))

-- "A longer lump or shorter buffer is refused 13."
abbrev pub tested_result : LumpReader → List ℕ → List ℕ → CallResult Taken → CallResult Taken
tested_result r buffer lump otherwise =
    refuse_if (not (good_reader r)) IllFormed
    (refuse_if (ltb (length buffer) most) LentSize
    (refuse_if (ltb most (length lump)) LentSize otherwise))

-- a lump after which more comes, the last one, and either
unfoldable pub more_result : LumpReader → List ℕ → List ℕ → CallResult Taken
more_result r buffer lump = tested_result r buffer lump (goes_on (run (reading_of r buffer) lump))

unfoldable pub last_result : SegmentTrack → ℕ → LumpReader → List ℕ → List ℕ → CallResult Taken
last_result of places r buffer lump = tested_result r buffer lump (ends of places (run (reading_of r buffer) lump))

abbrev pub lump_result : SegmentTrack → ℕ → Bool → LumpReader → List ℕ → List ℕ → CallResult Taken
lump_result of places last r buffer lump = cond last (last_result of places r buffer lump) (more_result r buffer lump)

-- ---- the answer, and what reader, buffer and frame list hold after it: after a refusal what they held

-- how many frames are listed
abbrev pub taken_count : CallResult Taken → CallResult ℕ
taken_count (Err why) = Err why
taken_count (Ok t) = Ok (length t.rows)

abbrev pub reader_after : CallResult Taken → LumpReader → LumpReader
reader_after (Err why) r = r
reader_after (Ok t) r = reader_of t.reading

abbrev pub buffer_after : CallResult Taken → List ℕ → List ℕ
buffer_after (Err why) buffer = buffer
buffer_after (Ok t) buffer = kept_in t.reading buffer

abbrev pub frames_after : CallResult Taken → List (List ℤ) → List (List ℤ)
frames_after (Err why) list = list
frames_after (Ok t) list = t.rows ++ drop (length t.rows) list
