-- Document 02, No. 5: a reading as it goes from call to call, a lent reader and the first bytes of a lent buffer; and the condition
-- that every reader handed out meets, "1 is given exactly when a condition of yours fails".
use Rattle.std.specs.Prelude.{Bool, false, ◌&&◌, ◌||◌, List, ◌++◌, ℕ, ◌+◌, ◌-◌, length, take, drop, replicate, ltb, leb, eqb}
use Rattle.boxes.specs.Boxes.{be4}
use Rattle.std.specs.List.{list_all}
use Rattle.lumps.specs.Readings.{Doing, heading, passing, keeping, stuck, large, Reading}
use Rattle.lumps.specs.declared.LumpReader.{LumpReader}
use Rattle.lumps.specs.declared.Phase.{Phase}
use Rattle.lumps.specs.declared.Phase.TheVariants.{Heading, Passing, Keeping, Stuck, Large}

-- ---- what a reader and a buffer say

abbrev pub doing_of : Phase → LumpReader → Doing
doing_of Heading r = heading (take r.seen r.head)
doing_of Passing r = passing r.left
doing_of Keeping r = keeping r.left
doing_of Stuck r = stuck
doing_of Large r = large

-- with these bytes kept
abbrev pub reading_with : LumpReader → List ℕ → Reading
reading_with r kept = record { doing = doing_of r.phase r; fragments = r.fragments; kept = kept }

abbrev pub reading_of : LumpReader → List ℕ → Reading
reading_of r buffer = reading_with r (take r.kept buffer)

-- ---- a reading laid out

-- in a phase that has no header bytes, and in one that has these
abbrev pub bare_reader : Phase → ℕ → ℕ → ℕ → LumpReader
bare_reader phase left n kept = record { phase = phase; head = replicate 16 0; seen = 0; left = left; fragments = n; kept = kept }

abbrev pub head_reader : List ℕ → ℕ → ℕ → LumpReader
head_reader l n kept = record { phase = Heading; head = l ++ replicate (16 - length l) 0; seen = length l; left = 0; fragments = n; kept = kept }

abbrev pub laid_out : Doing → ℕ → ℕ → LumpReader
laid_out (heading l) = head_reader l
laid_out (passing k) = bare_reader Passing k
laid_out (keeping k) = bare_reader Keeping k
laid_out stuck = bare_reader Stuck 0
laid_out large = bare_reader Large 0

abbrev pub reader_of : Reading → LumpReader
reader_of x = laid_out x.doing x.fragments (length x.kept)

-- the bytes kept, over the first bytes of a buffer
abbrev pub kept_in : Reading → List ℕ → List ℕ
kept_in x buffer = x.kept ++ drop (length x.kept) buffer

-- ---- the condition
-- It is exact: a reader meets it where some bytes lead to it, and only there (`handed-good`, `good-reached`). Of the buffer it asks nothing:
-- a movie fragment may have any bytes, and a buffer that is too short is refused 13 in its place.

-- the longest body of a movie fragment box, which has a header of 8 bytes at least
abbrev pub most_kept : ℕ
most_kept = 65528

-- the longest body that a size of 64 bits announces
abbrev pub most_left : ℕ
most_left = 18446744073709551599

-- what is asked in each phase: a header is not whole, and past 8 bytes a 64-bit size is to come; a body has bytes to come, and the one that
-- is kept is the first movie fragment's and will fit; past a movie fragment that is too large no reader is handed out
abbrev pub good_in : Phase → LumpReader → Bool
good_in Heading r = ltb r.seen 16 && (eqb r.left 0 && (ltb r.seen 8 || eqb (be4 r.head) 1))
good_in Passing r = eqb r.seen 0 && (ltb 0 r.left && leb r.left most_left)
good_in Keeping r = eqb r.seen 0 && (ltb 0 r.left && (leb (r.kept + r.left) most_kept && eqb r.fragments 1))
good_in Stuck r = eqb r.seen 0 && eqb r.left 0
good_in Large r = false

-- and in all: zeros stand after the header bytes met; two stands for every number of movie fragments above one; what is kept is a movie
-- fragment's
abbrev pub good_counts : LumpReader → Bool
good_counts r = list_all (λ b. eqb b 0) (drop r.seen r.head) && (leb r.fragments 2 && (leb r.kept most_kept && (ltb 0 r.fragments || eqb r.kept 0)))

unfoldable pub good_reader : LumpReader → Bool
good_reader r = good_counts r && good_in r.phase r
