-- The stored frames: their order, which of them a call takes out, and the fate lines that say so.
use Rattle.std.specs.Prelude.{Bool, true, false, cond, not, ◌&&◌, ◌||◌, List, [], ◌∷◌, map, ℕ, ltb, eqb}
use Rattle.std.specs.Int.Signed.{lt_z}
use Rattle.buffer_state.specs.declared.Frame.{Frame}

-- ---- store order: by track, then decode time, then number

unfoldable pub is_before : Frame → Frame → Bool
is_before a b =
    cond (eqb a.track b.track)
    (cond (lt_z a.dts b.dts) true (cond (lt_z b.dts a.dts) false (ltb a.number b.number)))
    (ltb a.track b.track)

-- f goes in front of the first frame that it comes before
unfoldable pub insert_sorted : Frame → List Frame → List Frame
insert_sorted f [] = f ∷ []
insert_sorted f (g ∷ gs) = let rest = insert_sorted f gs in cond (is_before f g) (f ∷ g ∷ gs) (g ∷ rest)

-- ---- taking frames out

-- A stored frame with the cause by which the call takes it out, 0 where it stays. Cause is document 01's term:
-- 1 to 3 drop an offered frame (before the window start, past the window end, no random access point),
-- 4 to 6 remove a stored one (overlapped, depending on a removed frame, removed by request).
pub record Marked : Type 0 where
  pub frame : Frame
  pub cause : ℕ

abbrev pub is_taken : Marked → Bool
is_taken m = not (eqb m.cause 0)

-- the frames that pass a test are taken by a cause
abbrev pub mark_where : (Frame → Bool) → ℕ → List Frame → List Marked
mark_where p c = map (λ (f : Frame). record { frame = f; cause = cond (p f) c 0 })

-- a frame of the track and of the group
abbrev pub is_of : ℕ → ℕ → Frame → Bool
is_of track group f = eqb f.track track && eqb f.group group

-- Whether a frame of the track and group is preceded by a taken frame of both with no untaken flagged frame of both between, where the
-- frames before it stand nearest first. Other tracks' and other groups' frames neither carry the walk nor stop it.
unfoldable pub follows_taken : ℕ → ℕ → List Marked → Bool
follows_taken track group [] = false
follows_taken track group (m ∷ ms) =
    let further = follows_taken track group ms in
    cond (is_of track group m.frame) (is_taken m || (not m.frame.flagged && further)) further

-- Step 8, as document 02, No. 4 mends it: walk the frames in store order. A frame not taken, not flagged, and preceded by a taken frame of
-- its own group with no untaken flagged frame of that group between is taken too, cause 5. `walked` holds the frames before it, nearest
-- first.
abbrev pub walk_one : List Marked → Marked → Marked
walk_one walked m =
    cond (not (is_taken m) && (not m.frame.flagged && follows_taken m.frame.track m.frame.group walked))
    (record { frame = m.frame; cause = 5 })
    m

unfoldable pub walk_from : List Marked → List Marked → List Marked
walk_from walked [] = []
walk_from walked (m ∷ ms) = let n = walk_one walked m in n ∷ walk_from (n ∷ walked) ms

abbrev pub walk : List Marked → List Marked
walk = walk_from []

-- ---- what is left, and what is told

unfoldable pub kept : List Marked → List Frame
kept [] = []
kept (m ∷ ms) = let rest = kept ms in cond (is_taken m) rest (m.frame ∷ rest)

-- A fate line (document 01's term): the number of a frame that is gone, and the cause.
pub record Line : Type 0 where
  pub number : ℕ
  pub cause : ℕ

-- the lines of the taken frames, by track, then store order
unfoldable pub lines_of : List Marked → List Line
lines_of [] = []
lines_of (m ∷ ms) = let rest = lines_of ms in cond (is_taken m) (record { number = m.frame.number; cause = m.cause } ∷ rest) rest
