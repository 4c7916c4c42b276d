-- Document 02, No. 1: the track fragment header (ISO/IEC 14496-12, 8.8.7, `tfhd`), version 0. After version and flags: the track ID; then,
-- by the flags, the base data offset (1) in 8 bytes, and in 4 bytes each the sample description index (2) and the defaults of duration (8),
-- size (16) and flags (32). A default that it does not have is the call's.
use Rattle.std.specs.Prelude.{cond, List, ℕ, eqb, Result, Ok}
use Rattle.boxes.specs.Boxes.{refused}
use Rattle.boxes.specs.declared.Malformed.{Malformed}
use Rattle.fragments.specs.Fields.{◌>>=◌, number_at, optional_at, after}
use Rattle.fragments.specs.FullBoxes.{version_of, flag_in, optional}
use Rattle.fragments.specs.declared.Defaults.{Defaults}
use Rattle.fragments.specs.declared.Header.{Header}

-- a header, where its version is known and it has room for its fields
unfoldable pub header_of : Defaults → List ℕ → Result Header Malformed
header_of d b = do
  word ← number_at b
  id ← (cond (eqb (version_of word.0) 0) (number_at word.1) refused)
  base ← after (optional word.0 1 8) id.1
  index ← after (optional word.0 2 4) base
  duration ← optional_at (flag_in word.0 8) d.duration index
  size ← optional_at (flag_in word.0 16) d.size duration.1
  flags ← optional_at (flag_in word.0 32) d.flags size.1
  Ok (record { id = id.0; defaults = record { duration = duration.0; size = size.0; flags = flags.0 } })
