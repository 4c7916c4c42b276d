-- Document 02, No. 5: the calls by which a segment comes in lumps, "from a fresh reader, each call handed the reader and buffer last given".
use Rattle.std.specs.Prelude.{◌≡◌, List, [], ◌∷◌, ◌++◌, ℕ, ◌<◌, Ok}
use Rattle.lumps.specs.Readings.{fresh}
use Rattle.lumps.specs.Readers.{reader_of, kept_in}
use Rattle.lumps.specs.Lumps.{Taken, more_result}
use Rattle.lumps.specs.declared.LumpReader.{LumpReader}

-- numbers that are bytes
abbrev pub IsBytes : List ℕ → Type 0
IsBytes [] = Unit {0}
IsBytes (b ∷ s) = (b < 256) × IsBytes s

-- These bytes have come in lumps, cut anywhere, each accepted, and left this reader and buffer. A call that was refused leaves both as they were,
-- and is no part of it.
pub data Came (buffer₀ : List ℕ) : List ℕ → LumpReader → List ℕ → Type 0 where
  start : Came buffer₀ [] (reader_of fresh) buffer₀
  lump : {s : List ℕ} {r : LumpReader} {buffer : List ℕ} (l : List ℕ) (t : Taken)
      → Came buffer₀ s r buffer → IsBytes l → more_result r buffer l ≡ Ok t
      → Came buffer₀ (s ++ l) (reader_of t.reading) (kept_in t.reading buffer)
