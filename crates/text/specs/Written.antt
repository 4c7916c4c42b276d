-- How doubles, bytes and lists are written, as bytes.
use Rattle.std.specs.Prelude.{List, [], ◌∷◌, ℕ, ℤ, pos, ◌-◌, ◌^◌, false, ◌++◌, codes, decimal, get_or, flat_map, to_bits, Float}
use Rattle.std.specs.Float.{binary64}
use Rattle.std.specs.Fmt.{signed_decimal, radix_digits, padded_integral, format_spec}

-- a number in hexadecimal digits, filled up with zeros to a width, as `{:02x}` is to 2
abbrev pub hexadecimal : ℕ → ℕ → List ℕ
hexadecimal width n = padded_integral (format_spec 32 0 4 width (2 ^ 64 - 1)) false [] (radix_digits 16 false n)

-- a double by its 64 bits
abbrev pub double_text : Float → List ℕ
double_text x = codes "0x" ++ hexadecimal 16 (to_bits binary64 x)

-- two digits for each byte; no bytes are a dash
abbrev pub bytes_text : List ℕ → List ℕ
bytes_text [] = codes "-"
bytes_text (b ∷ bytes) = flat_map (hexadecimal 2) (b ∷ bytes)

-- a fate line: the frame's number and the cause
abbrev pub fate_text : List ℕ → List ℕ
fate_text line = codes " (" ++ decimal (get_or line 0 0) ++ codes "," ++ decimal (get_or line 1 0) ++ codes ")"

abbrev pub fates_text : List (List ℕ) → List ℕ
fates_text lines = codes "fates" ++ flat_map fate_text lines

-- a range: its first time, and the one that ends it
abbrev pub range_text : List ℤ → List ℕ
range_text range = codes " [" ++ signed_decimal (get_or range 0 (pos 0)) ++ codes "," ++ signed_decimal (get_or range 1 (pos 0)) ++ codes ")"

abbrev pub ranges_text : List (List ℤ) → List ℕ
ranges_text list = codes "ranges" ++ flat_map range_text list
