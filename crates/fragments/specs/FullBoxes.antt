-- Document 02, No. 1: a full box (ISO/IEC 14496-12, 4.2) begins with its version in 1 byte and its flags in 3, and its flags say which
-- fields it has. "Too short for its fields" is judged with those that its flags name.
use Rattle.std.specs.Prelude.{Bool, cond, List, ℕ, ◌/◌, ◌%◌, drop, eqb}
use Rattle.boxes.specs.Boxes.{be4}

-- the version, where the first four bytes are one number, a word
abbrev pub version_of : ℕ → ℕ
version_of word = word / 16777216

-- whether a flag of the word is set; a flag is named by its value: 1, 2, 4, 8 and so on
abbrev pub flag_in : ℕ → ℕ → Bool
flag_in word flag = eqb (word / flag % 2) 1

-- the bytes of a field that is there where its flag is set
unfoldable pub optional : ℕ → ℕ → ℕ → ℕ
optional word flag n = cond (flag_in word flag) n 0

-- the number in a field of 4 bytes at a place, where its flag is set; else the default
abbrev pub field_at : List ℕ → ℕ → Bool → ℕ → ℕ
field_at b at there default = cond there (be4 (drop at b)) default
