-- Document 02, No. 3: how many frames the walk of a track's report takes. The report itself is that of document 01.
use Rattle.std.specs.Prelude.{not, cond, List, [], ◌∷◌, ℕ, zero, suc, eqb, ℤ, Ok}
use Rattle.std.specs.Int.Signed.{lt_z}
use Rattle.buffer_state.specs.declared.Frame.{Frame}
use Rattle.buffer_state.specs.declared.Refusal.TheVariants.{NoTrack}
use Rattle.buffer_state.specs.Buffer.{Buffer, has_track, end_of}
use Rattle.buffer_state.specs.Ranges.{Range, greater_of}
use Rattle.buffer_state.specs.Refusals.{CallResult, refuse_if}

-- ---- presentation order

-- what a frame covers
abbrev pub interval_of : Frame → Range
interval_of f = record { start = f.pts; end = end_of f }

-- one more among intervals in the order of their starts: behind those that start before it
unfoldable pub presented_with : Range → List Range → List Range
presented_with r [] = r ∷ []
presented_with r (q ∷ qs) = let later = presented_with r qs in cond (lt_z q.start r.start) (q ∷ later) (r ∷ q ∷ qs)

-- A track's frames in presentation order: of each, what it covers.
unfoldable pub presented : ℕ → List Frame → List Range
presented track [] = []
presented track (f ∷ fs) = let rest = presented track fs in cond (eqb f.track track) (presented_with (interval_of f) rest) rest

-- ---- the walk

-- Inside a range that ends at e, with room for so many ranges more: a frame that starts at or before the end extends the range, any
-- other opens one. The walk takes all frames, or those up to and with the first of the range that is one too many.
unfoldable pub taken_from : ℤ → ℕ → List Range → ℕ
taken_from e room [] = 0
taken_from e zero (q ∷ qs) = let extended = taken_from (greater_of e q.end) zero qs in cond (lt_z e q.start) 1 (suc extended)
taken_from e (suc room) (q ∷ qs) =
    let opened = taken_from q.end room qs in
    let extended = taken_from (greater_of e q.end) (suc room) qs in
    suc (cond (lt_z e q.start) opened extended)

-- from the first frame, which opens a range
unfoldable pub taken_of : ℕ → List Range → ℕ
taken_of room [] = 0
taken_of zero (q ∷ qs) = 1
taken_of (suc room) (q ∷ qs) = suc (taken_from q.end room qs)

-- ---- the call

-- How many frames the report of a track takes with so many places lent: refusals (1,) 3, as the report's. It is there also where the
-- report is refused 10.
unfoldable pub walked : ℕ → ℕ → Buffer → CallResult ℕ
walked lent track b = refuse_if (not (has_track b track)) NoTrack (Ok (taken_of lent (presented track b.frames)))
