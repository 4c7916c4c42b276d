-- A slot for each stored frame, which those of its track and group share: a walk keeps there what it knows of them.
use Rattle.std.specs.Prelude.{◌≡◌, Bool, cond, ◌&&◌, List, [], ◌∷◌, ℕ, suc, ◌+◌, ◌-◌, ◌*◌, ◌%◌, ◌≤◌, ◌<◌, ltb, eqb, get_or}
use Rattle.sorting.specs.Sorting.{most}

-- ---- a row of the tags

abbrev pub track_in : List ℕ → ℕ
track_in g = get_or g 0 0

abbrev pub group_in : List ℕ → ℕ
group_in g = get_or g 4 0

abbrev pub Alike : List ℕ → List ℕ → Type 0
Alike g h = (track_in g ≡ track_in h) × (group_in g ≡ group_in h)

-- ---- slots

-- Of the rows from the first up to n, each has a slot, and two have the same one exactly when they have the same track and group.
pub record IsSlotted (gs : List (List ℕ)) (first n : ℕ) (ss : List ℕ) : Type 0 where
  pub small : (i : ℕ) → first ≤ i → i < n → get_or ss i 0 < most
  pub apart : (i j : ℕ) → first ≤ i → i < n → first ≤ j → j < n → get_or ss i 0 ≡ get_or ss j 0 → Alike (get_or gs i []) (get_or gs j [])
  pub alike : (i j : ℕ) → first ≤ i → i < n → first ≤ j → j < n → Alike (get_or gs i []) (get_or gs j []) → get_or ss i 0 ≡ get_or ss j 0

-- ---- by a table

-- entries of the table: twice as many as there can be rows
abbrev pub entries : ℕ
entries = 2 * most

-- The entry of a track and group: the groups of four tracks that lie among 512 following numbers share none.
abbrev pub entry_of : ℕ → ℕ → ℕ
entry_of track group = (track * 512 + group) % entries

abbrev pub same_key : List ℕ → List ℕ → Bool
same_key g h = eqb (track_in g) (track_in h) && eqb (group_in g) (group_in h)

-- ---- by a sort

-- how many group numbers there are
abbrev pub group_numbers : ℕ
group_numbers = 4294967296

-- a track and group as one number
abbrev pub key_of : ℕ → ℕ → ℕ
key_of track group = track * group_numbers + group

abbrev pub key_in : List ℕ → ℕ
key_in g = key_of (track_in g) (group_in g)

-- The keys of the rows from the first up to n. That each group is one of those numbers tells two keys apart.
pub record IsKeyed (gs : List (List ℕ)) (first n : ℕ) (ks : List ℕ) : Type 0 where
  pub keys : (i : ℕ) → first ≤ i → i < n → get_or ks (i - first) 0 ≡ key_in (get_or gs i [])
  pub fits : (i : ℕ) → first ≤ i → i < n → group_in (get_or gs i []) < group_numbers

-- how many numbers at the front of a list are below x
unfoldable pub place_of : ℕ → List ℕ → ℕ
place_of x [] = 0
place_of x (y ∷ ys) = let rest = place_of x ys in cond (ltb y x) (suc rest) 0
