-- Document 02, No. 1: the decode time of a track fragment (ISO/IEC 14496-12, 8.8.12, `tfdt`): after version and flags, the time in 4 bytes
-- at version 0, and in 8 at version 1. A box that is longer is good.
use Rattle.std.specs.Prelude.{cond, List, ℕ, eqb, Result, Ok}
use Rattle.boxes.specs.Boxes.{refused}
use Rattle.boxes.specs.declared.Malformed.{Malformed}
use Rattle.fragments.specs.Fields.{◌>>=◌, number_at, large_at}
use Rattle.fragments.specs.FullBoxes.{version_of}

unfoldable pub time_of : List ℕ → Result ℕ Malformed
time_of b = do
  word ← number_at b
  time ← (cond (eqb (version_of word.0) 0) (number_at word.1) (cond (eqb (version_of word.0) 1) (large_at word.1) refused))
  Ok time.0
