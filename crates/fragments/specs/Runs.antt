-- Document 02, No. 1: a track run (ISO/IEC 14496-12, 8.8.8, `trun`), version 0 or 1. After version and flags: the count of its samples; then,
-- by the flags and in 4 bytes each, the data offset (1) and the first sample's flags (4); then for each sample the columns that the flags
-- name: duration (256), size (512), flags (1,024) and composition offset (2,048), which is signed in version 1.
use Rattle.std.specs.Prelude.{cond, ◌&&◌, List, [], ◌∷◌, ℕ, zero, suc, ◌+◌, ◌*◌, ◌≤◌, ℤ, pos, ◌-ℤ◌, length, drop, ltb, leb, eqb, Result, Ok}
use Rattle.boxes.specs.Boxes.{be4, refused}
use Rattle.boxes.specs.declared.Malformed.{Malformed}
use Rattle.media_times.specs.declared.Sample.{Sample}
use Rattle.fragments.specs.Fields.{◌>>=◌, number_at}
use Rattle.fragments.specs.FullBoxes.{version_of, flag_in, optional, field_at}
use Rattle.fragments.specs.declared.Defaults.{Defaults}
use Rattle.fragments.specs.declared.Run.{Run}

-- where the first sample's flags stand, and the first sample's columns
abbrev pub first_flags_at : ℕ → ℕ
first_flags_at word = 8 + optional word 1 4

abbrev pub columns_at : ℕ → ℕ
columns_at word = first_flags_at word + optional word 4 4

-- where each column stands within a sample's, and how wide they are together
abbrev pub size_column : ℕ → ℕ
size_column word = optional word 256 4

abbrev pub flags_column : ℕ → ℕ
flags_column word = size_column word + optional word 512 4

abbrev pub offset_column : ℕ → ℕ
offset_column word = flags_column word + optional word 1024 4

abbrev pub width_of : ℕ → ℕ
width_of word = offset_column word + optional word 2048 4

-- a run of so many samples, where its version is known and it has room for its fields and columns
unfoldable pub run_by : List ℕ → ℕ → ℕ → Result Run Malformed
run_by b word count =
    cond (leb (version_of word) 1)
    (cond (ltb (length b) (columns_at word + count * width_of word)) refused (Ok (record { word = word; count = count })))
    refused

unfoldable pub run_of : List ℕ → Result Run Malformed
run_of b = do
  word ← number_at b
  count ← number_at word.1
  run_by b word.0 count.0

-- ---- its samples

-- a number of 32 bits read as signed
abbrev pub signed : ℕ → ℤ
signed n = cond (ltb n 2147483648) (pos n) (pos n -ℤ pos 4294967296)

abbrev pub offset_by : ℕ → ℕ → ℤ
offset_by word n = cond (eqb (version_of word) 0) (pos n) (signed n)

-- the place of sample i's columns
abbrev pub sample_from : Run → ℕ → ℕ
sample_from r i = columns_at r.word + i * width_of r.word

-- "First-sample flags override a sample's own."
abbrev pub flags_of : List ℕ → Run → ℕ → ℕ → ℕ
flags_of b r i own = cond (eqb i 0 && flag_in r.word 4) (be4 (drop (first_flags_at r.word) b)) own

-- sample i, counted from 0, at a decode time; what the run has no column for is the default, and no composition offset is 0
unfoldable pub sample_at : Defaults → Run → List ℕ → ℕ → ℕ → Sample
sample_at d r b i time = record {
  time = time;
  offset = offset_by r.word (field_at b (sample_from r i + offset_column r.word) (flag_in r.word 2048) 0);
  duration = field_at b (sample_from r i) (flag_in r.word 256) d.duration;
  size = field_at b (sample_from r i + size_column r.word) (flag_in r.word 512) d.size;
  flags = flags_of b r i (field_at b (sample_from r i + flags_column r.word) (flag_in r.word 1024) d.flags);
}

-- n samples from sample i on, each where the one before it ends
unfoldable pub samples_from : Defaults → Run → List ℕ → ℕ → ℕ → ℕ → List Sample
samples_from d r b i zero time = []
samples_from d r b i (suc n) time = sample_at d r b i time ∷ samples_from d r b (suc i) n (time + (sample_at d r b i time).duration)

-- a run that has room for its columns
abbrev pub Fitting : List ℕ → Run → Type 0
Fitting b r = columns_at r.word + r.count * width_of r.word ≤ length b
