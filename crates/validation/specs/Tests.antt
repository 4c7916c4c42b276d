-- The parts of the well-formed test, as it is made.
use Rattle.std.specs.Prelude.{Bool, true, cond, Ok, Err, ◌&&◌, List, [], ◌∷◌, ℕ, zero, suc, leb, eqb, ℤ, pos, length, take, get_or}
use Rattle.buffer_state.specs.declared.Frame.{Frame}
use Rattle.buffer_state.specs.declared.Head.{Head}
use Rattle.buffer_state.specs.Layout.{is_zero_frame, is_zero_track}
use Rattle.buffer_state.specs.Lent.{frame_of, frames_of, plain_time, plain_tag}
use Rattle.buffer_state.specs.Limits.{most_tracks}
use Rattle.buffer_state.specs.declared.Refusal.TheVariants.{IllFormed}
use Rattle.buffer_state.specs.Refusals.{CallResult}
use Rattle.buffer_state.specs.Store.{is_before}
use Rattle.buffer_state.specs.WellFormed.{all_of, zero_int, good_track, good_frame, good_group, good_settings, is_sorted, distinct_numbers}

-- the answer of the test: refusal 1 where it fails
abbrev pub checked : Bool → CallResult (Unit {0})
checked whole = cond whole (Ok tt) (Err IllFormed)

-- the places of an array: those in use pass one test, those past the count another
unfoldable pub is_placed : {A : Type 0} → (A → Bool) → (A → Bool) → ℕ → List A → Bool
is_placed used past n [] = true
is_placed used past zero (x ∷ xs) = past x && is_placed used past zero xs
is_placed used past (suc n) (x ∷ xs) = used x && is_placed used past n xs

-- ---- the head and the frames

unfoldable pub head_test : Head → Bool
head_test h =
    (leb 1 h.ntracks && leb h.ntracks most_tracks)
    && (is_placed good_track is_zero_track h.ntracks h.tracks && (good_group h.group && good_settings h.settings))

unfoldable pub frames_test : ℕ → ℕ → ℕ → ℕ → List (List ℤ) → List (List ℕ) → Bool
frames_test n tracks last group ts gs =
    all_of plain_time ts
    && (all_of plain_tag gs
    && ((is_placed (good_frame tracks last group) is_zero_frame n (frames_of ts gs) && is_sorted (take n (frames_of ts gs))) && distinct_numbers (take n (frames_of ts gs))))

-- rows of zeros
abbrev pub is_zero_time : List ℤ → Bool
is_zero_time t = eqb (length t) 2 && (zero_int (get_or t 0 (pos 0)) && zero_int (get_or t 1 (pos 0)))

abbrev pub is_zero_tag : List ℕ → Bool
is_zero_tag g =
    eqb (length g) 5 && (((eqb (get_or g 0 0) 0 && eqb (get_or g 1 0) 0) && (eqb (get_or g 2 0) 0 && eqb (get_or g 3 0) 0)) && eqb (get_or g 4 0) 0)

-- a row in use
unfoldable pub good_row : ℕ → ℕ → ℕ → List ℤ → List ℕ → Bool
good_row tracks last group t g = (plain_time t && plain_tag g) && good_frame tracks last group (frame_of t g)

-- rows in use, each after the one before it, the first after p
unfoldable pub rows_from : ℕ → ℕ → ℕ → Frame → List (List ℤ) → List (List ℕ) → Bool
rows_from tracks last group p [] gs = true
rows_from tracks last group p (t ∷ ts) [] = true
rows_from tracks last group p (t ∷ ts) (g ∷ gs) = (good_row tracks last group t g && is_before p (frame_of t g)) && rows_from tracks last group (frame_of t g) ts gs
