-- The lent store: arrays that hold some frames and zeros past them, and where a frame goes among those.
use Rattle.std.specs.Prelude.{◌≡◌, List, ◌∷◌, ◌++◌, ℕ, ◌+◌, ◌-◌, ◌≤◌, ℤ, length, take, drop, replicate}
use Rattle.buffer_state.specs.declared.Frame.{Frame}
use Rattle.buffer_state.specs.Layout.{zero_frame, padded_list}
use Rattle.buffer_state.specs.Lent.{frames_of, times_of, tags_of}
use Rattle.buffer_state.specs.Limits.{places}
use Rattle.buffer_state.specs.Store.{insert_sorted}

-- the arrays hold n frames and zeros past them, and nothing besides: each flag is 0 or 1
pub record Holding (ts : List (List ℤ)) (gs : List (List ℕ)) (n : ℕ) : Type 0 where
  pub times : ts ≡ times_of (frames_of ts gs)
  pub tags : gs ≡ tags_of (frames_of ts gs)
  pub zeros : frames_of ts gs ≡ padded_list places zero_frame (take n (frames_of ts gs))

-- p is where f goes in
pub record GoesAt (f : Frame) (l : List Frame) (p : ℕ) : Type 0 where
  pub inside : p ≤ length l
  pub put : take p l ++ f ∷ drop p l ≡ insert_sorted f l

-- the first n, those from p on one place further, with room for one at p; what stands past them stays
abbrev pub opened : {A : Type 0} → ℕ → ℕ → List A → List A
opened p n l = take (p + 1) l ++ (drop p (take n l) ++ drop (n + 1) l)

-- z from place k up to n
abbrev pub cleared_places : {A : Type 0} → A → ℕ → ℕ → List A → List A
cleared_places z k n l = (take k l ++ replicate (n - k) z) ++ drop n l
