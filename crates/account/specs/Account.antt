-- The account of calls with their results. It stands apart from History.antt, which names what rattle makes for proofs: a function's clause
-- may cite this one (crate call_list).
use Rattle.std.specs.Prelude.{◌≡◌, true, cond, ◌&&◌, List, ℕ, ◌+◌, leb, length}
use Rattle.buffer_state.specs.Lent.{Lent, buffer_in}
use Rattle.buffer_state.specs.Run.{Entry, offers, found_stored, found_told, offered_on, stored_on, dropped_on, removed_on, on_offered}
use Rattle.buffer_state.specs.WellFormed.{all_of}

-- What holds of calls with their results, and of the state after them.
pub record IsAccount (es : List Entry) (t : Lent) : Type 0 where
  -- the last number given is how many frames were offered and accepted
  pub last : t.head.last ≡ length (offers es)
  -- a stored frame stands on the track that it named when it was offered under its number
  pub placed : all_of (on_offered (offers es)) (buffer_in t).frames ≡ true
  -- each number given is found exactly once, on one stored frame or on one line handed out, and no other number is found
  pub found : (k : ℕ) → found_stored k (buffer_in t) + found_told k es ≡ cond (leb 1 k && leb k (length (offers es))) 1 0
  -- on each track offered equals stored plus dropped plus removed
  pub balance : (track : ℕ) → offered_on track es ≡ stored_on track (buffer_in t) + (dropped_on track es + removed_on track es)
