-- The machine and the condition on readers at small segments, written out byte by byte and computed by the checker. Assumes nothing.
use mathlib.Core.Path.{◌≡◌, refl}
use mathlib.Core.Bool.{true, false}
use mathlib.Core.List.{List, [], ◌∷◌, ◌++◌, map}
use Prim.Native.Nat.{ℕ}
use lib.ListN.{replicate, take}
use Rattle.std.specs.Prelude.{Ok}
use Rattle.boxes.specs.Boxes.{be4, be8, refused, skipping}
use Rattle.lumps.specs.LargeFragments.{large_past}
use Rattle.lumps.specs.Readers.{reader_of, good_reader}
use Rattle.lumps.specs.Readings.{heading, passing, keeping, stuck, large, fresh, run, Told, too_large, framed, tell}
use Rattle.lumps.specs.declared.Phase.TheVariants.{Heading, Passing, Keeping, Stuck, Large}
use Rattle.lumps.proofs.WholeLaws.{whole_told}

-- ---- boxes

-- `free` with an empty body, and with one of 3 bytes by a 64-bit size
abbrev free : List ℕ
free = 0 ∷ 0 ∷ 0 ∷ 8 ∷ 102 ∷ 114 ∷ 101 ∷ 101 ∷ []

abbrev wide : List ℕ
wide = 0 ∷ 0 ∷ 0 ∷ 1 ∷ 102 ∷ 114 ∷ 101 ∷ 101 ∷ 0 ∷ 0 ∷ 0 ∷ 0 ∷ 0 ∷ 0 ∷ 0 ∷ 19 ∷ 5 ∷ 5 ∷ 5 ∷ []

-- `moof` with the body 7, 9
abbrev moof : List ℕ
moof = 0 ∷ 0 ∷ 0 ∷ 10 ∷ 109 ∷ 111 ∷ 111 ∷ 102 ∷ 7 ∷ 9 ∷ []

-- the headers of a `moof` of 65,536 bytes, of one of 65,537, and of one of 65,537 by a 64-bit size; size 0, and 64-bit size 15
abbrev largest : List ℕ
largest = 0 ∷ 1 ∷ 0 ∷ 0 ∷ 109 ∷ 111 ∷ 111 ∷ 102 ∷ []

abbrev larger : List ℕ
larger = 0 ∷ 1 ∷ 0 ∷ 1 ∷ 109 ∷ 111 ∷ 111 ∷ 102 ∷ []

abbrev larger_wide : List ℕ
larger_wide = 0 ∷ 0 ∷ 0 ∷ 1 ∷ 109 ∷ 111 ∷ 111 ∷ 102 ∷ 0 ∷ 0 ∷ 0 ∷ 0 ∷ 0 ∷ 1 ∷ 0 ∷ 1 ∷ []

abbrev size_zero : List ℕ
size_zero = 0 ∷ 0 ∷ 0 ∷ 0 ∷ 102 ∷ 114 ∷ 101 ∷ 101 ∷ []

abbrev size_fifteen : List ℕ
size_fifteen = 0 ∷ 0 ∷ 0 ∷ 1 ∷ 102 ∷ 114 ∷ 101 ∷ 101 ∷ 0 ∷ 0 ∷ 0 ∷ 0 ∷ 0 ∷ 0 ∷ 0 ∷ 15 ∷ []

-- ---- what segments say, as a whole and byte by byte

abbrev segments : List (List ℕ)
segments =
    (free ++ (moof ++ wide))
    ∷ []
    ∷ free
    ∷ (moof ++ moof)
    ∷ (moof ++ (0 ∷ 0 ∷ 0 ∷ []))
    ∷ take 9 moof
    ∷ (moof ++ take 18 wide)
    ∷ (moof ++ take 15 wide)
    ∷ (size_zero ++ larger)
    ∷ (moof ++ (size_fifteen ++ larger))
    ∷ (moof ++ largest)
    ∷ larger
    ∷ (moof ++ larger)
    ∷ (moof ++ (moof ++ larger_wide))
    ∷ take 7 larger
    ∷ take 15 larger_wide
    ∷ []

abbrev answers : List Told
answers =
    framed (Ok (7 ∷ 9 ∷ []))
    ∷ framed refused
    ∷ framed refused
    ∷ framed refused
    ∷ framed refused
    ∷ framed refused
    ∷ framed refused
    ∷ framed refused
    ∷ framed refused
    ∷ framed refused
    ∷ framed refused
    ∷ too_large
    ∷ too_large
    ∷ too_large
    ∷ framed refused
    ∷ framed refused
    ∷ []

pub as-whole : map whole_told segments ≡ answers
unfolding be4 be8 skipping large_past
as-whole = refl

pub byte-by-byte : map (λ s. tell (run fresh s)) segments ≡ answers
unfolding be4 be8
byte-by-byte = refl

-- ---- where a reading stands

pub stands : map (λ s. (run fresh s).doing) ([] ∷ take 5 free ∷ free ∷ take 16 wide ∷ take 9 moof ∷ largest ∷ size_zero ∷ larger ∷ [])
    ≡ heading [] ∷ heading (take 5 free) ∷ heading [] ∷ passing 3 ∷ keeping 1 ∷ keeping 65528 ∷ stuck ∷ large ∷ []
unfolding be4 be8
stands = refl

-- ---- which readers are good

abbrev zeros : List ℕ
zeros = replicate 16 0

-- those that bytes lead to
pub good : map (λ s. good_reader (reader_of (run fresh s))) ([] ∷ take 5 free ∷ take 15 wide ∷ take 17 wide ∷ take 9 moof ∷ (moof ++ (moof ++ moof)) ∷ size_zero ∷ largest ∷ []) ≡ replicate 8 true
unfolding be4 be8 good_reader
good = refl

-- and one for each clause that fails it: a whole header, a header of 8 bytes without a 64-bit size, a byte past those met, bytes to come in a
-- header, none in a body, more than a size of 64 bits has, header bytes in a body, a body kept without a movie fragment, one that does not
-- fit, a third movie fragment, bytes kept without one, more than fit, stuck with bytes to come, past a movie fragment that is too large
pub ill : map good_reader
    (record { phase = Heading; head = wide; seen = 16; left = 0; fragments = 0; kept = 0 }
    ∷ record { phase = Heading; head = free ++ replicate 8 0; seen = 8; left = 0; fragments = 0; kept = 0 }
    ∷ record { phase = Heading; head = free ++ replicate 8 0; seen = 7; left = 0; fragments = 0; kept = 0 }
    ∷ record { phase = Heading; head = zeros; seen = 0; left = 1; fragments = 0; kept = 0 }
    ∷ record { phase = Passing; head = zeros; seen = 0; left = 0; fragments = 0; kept = 0 }
    ∷ record { phase = Passing; head = zeros; seen = 0; left = 18446744073709551600; fragments = 0; kept = 0 }
    ∷ record { phase = Passing; head = zeros; seen = 1; left = 1; fragments = 0; kept = 0 }
    ∷ record { phase = Keeping; head = zeros; seen = 0; left = 1; fragments = 2; kept = 0 }
    ∷ record { phase = Keeping; head = zeros; seen = 0; left = 65528; fragments = 1; kept = 1 }
    ∷ record { phase = Heading; head = zeros; seen = 0; left = 0; fragments = 3; kept = 0 }
    ∷ record { phase = Heading; head = zeros; seen = 0; left = 0; fragments = 0; kept = 1 }
    ∷ record { phase = Heading; head = zeros; seen = 0; left = 0; fragments = 1; kept = 65529 }
    ∷ record { phase = Stuck; head = zeros; seen = 0; left = 1; fragments = 0; kept = 0 }
    ∷ record { phase = Large; head = zeros; seen = 0; left = 0; fragments = 0; kept = 0 }
    ∷ [])
    ≡ replicate 14 false
unfolding be4 good_reader
ill = refl
