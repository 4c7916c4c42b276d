-- Which frames a test and step 8's walk take out: none where none passes the test; and one that passes frees its place.
use mathlib.Core.Path.{◌≡◌, refl, sym, ap, ◌∙◌}
use mathlib.Core.Bool.{Bool, true, false, cond, not, and-false}
use mathlib.Core.List.{List, [], ◌∷◌, ◌++◌, map, append-nil}
use Prim.Native.Nat.{ℕ, suc, ◌+◌, ◌≤◌, ◌<◌}
use native.Mathlib.Numerals.{add-one}
use native.Mathlib.Omega.{arith}
use lib.Dec.{eqb}
use lib.ListN.{length, take, get_or, length-map}
use lib.Seq.{take-suc, get_or-take}
use borrow.Author.Tests.{not-true, ne_eqb, ltb-true}
use Rattle.laws.proofs.BoolLaws.{split, clash}
use Rattle.buffer_state.specs.declared.Frame.{Frame}
use Rattle.buffer_state.specs.Layout.{zero_frame}
use Rattle.buffer_state.specs.Store.{Marked, is_taken, mark_where, is_of, follows_taken, walk_one, walk_from, walk, kept, lines_of}
use Rattle.buffer_state.specs.WellFormed.{all_of}
use Rattle.buffer_laws.proofs.TestLaws.{all_none, all_get_d, all_first, all_rest, all_more, all_append}
use Rattle.laws.proofs.ListLaws.{first-length}
use Rattle.taking.specs.Marks.{mark}
use Rattle.taking.specs.Taking.{on_track}
use Rattle.taking.proofs.MarkLaws.{still, kept-still, lines-still}

-- one more of the first n passes
pub all-next : {A : Type 0} (p : A → Bool) (l : List A) (n : ℕ) → n ≤ length l → (i : ℕ) (z : A) → i < n → p (get_or l i z) ≡ true
    → all_of p (take i (take n l)) ≡ true → all_of p (take (i + 1) (take n l)) ≡ true
all-next p l n k i z h e d =
    let inside : i < length (take n l) = omega (arith, first-length l n k) in
    rw (add-one i, take-suc (take n l) i z inside, get_or-take n l i z h)
    (all_append p (take i (take n l)) (get_or l i z ∷ []) d (all_more p (get_or l i z) [] e (all_none p)))

-- a frame among the first n has a place among the stretches
pub track-inside : (l : List Frame) (n i : ℕ) → i < n → all_of on_track (take n l) ≡ true → (get_or l i zero_frame).track < 5
track-inside l n i h e =
    ltb-true _ 5 (ap on_track (sym (get_or-take n l i zero_frame h)) ∙ all_get_d on_track (take n l) i zero_frame refl e)

-- two tests that say the same of these frames give the same marks
pub marks-same : (ok p q : Frame → Bool) → ((g : Frame) → ok g ≡ true → p g ≡ q g) → (cause : ℕ) (l : List Frame) → all_of ok l ≡ true
    → mark_where p cause l ≡ mark_where q cause l
marks-same ok p q e cause [] h = refl
marks-same ok p q e cause (g ∷ l) h =
    let here = e g (all_first ok g l h) in
    let rest = marks-same ok p q e cause l (all_rest ok g l h) in
    λ j. mark g (cond (here j) cause 0) ∷ rest j

-- ---- frames that stay

abbrev NoneFollows : List Marked → Type 0
NoneFollows walked = (track group : ℕ) → follows_taken track group walked ≡ false

-- the frames walked, after some that stay
unfoldable pub passed : List Marked → List Frame → List Marked
passed walked [] = walked
passed walked (f ∷ l) = passed (still f ∷ walked) l

still-none : (walked : List Marked) → NoneFollows walked → (f : Frame) → NoneFollows (still f ∷ walked)
unfolding follows_taken
still-none walked none f track group = rw (none track group, and-false (not f.flagged)) (both (is_of track group f))
  where
    both : (b : Bool) → cond b false false ≡ false
    both true = refl
    both false = refl

passed_none : (walked : List Marked) → NoneFollows walked → (l : List Frame) → NoneFollows (passed walked l)
unfolding passed
passed_none walked none [] = none
passed_none walked none (f ∷ l) = passed_none (still f ∷ walked) (still-none walked none f) l

-- after them no frame follows a taken one
pub none-follows : (l : List Frame) → NoneFollows (passed [] l)
unfolding follows_taken
none-follows l = passed_none [] (λ track group. refl) l

module _ (p : Frame → Bool) (cause : ℕ) where
  -- ---- none is marked

  stays : (walked : List Marked) → NoneFollows walked → (f : Frame) → p f ≡ false → walk_one walked (mark f (cond (p f) cause 0)) ≡ still f
  stays walked none f e = rw (e, none f.track f.group, and-false (not f.flagged))

  walk-passed : (walked : List Marked) → NoneFollows walked → (l r : List Frame) → all_of (λ (g : Frame). not (p g)) l ≡ true
      → walk_from walked (mark_where p cause (l ++ r)) ≡ map still l ++ walk_from (passed walked l) (mark_where p cause r)
  unfolding walk_from passed
  walk-passed walked none [] r e = refl
  walk-passed walked none (f ∷ l) r e =
      let out : p f ≡ false = not-true _ (all_first (λ (g : Frame). not (p g)) f l e) in
      let rest = walk-passed (still f ∷ walked) (still-none walked none f) l r (all_rest (λ (g : Frame). not (p g)) f l e) in
      rw (stays walked none f out) (ap (λ (ms : List Marked). still f ∷ ms) rest)

  -- the walk goes on from them
  pub walk_from_lem : (l r : List Frame) → all_of (λ (g : Frame). not (p g)) l ≡ true
      → walk (mark_where p cause (l ++ r)) ≡ map still l ++ walk_from (passed [] l) (mark_where p cause r)
  unfolding follows_taken
  walk_from_lem l r e = walk-passed [] (λ track group. refl) l r e

  -- all stay
  pub none-marked : (l : List Frame) → all_of (λ (g : Frame). not (p g)) l ≡ true → walk (mark_where p cause l) ≡ map still l
  unfolding walk_from
  none-marked l e = ap (λ (x : List Frame). walk (mark_where p cause x)) (sym (append-nil l)) ∙ walk_from_lem l [] e ∙ append-nil (map still l)

  -- and nothing is told
  pub none-gone : (l : List Frame) → all_of (λ (g : Frame). not (p g)) l ≡ true
      → (kept (walk (mark_where p cause l)) ≡ l) × (lines_of (walk (mark_where p cause l)) ≡ [])
  unfolding kept lines_of
  none-gone l e =
      let m = none-marked l e ∙ sym (append-nil (map still l)) in
      (ap kept m ∙ kept-still l [] ∙ append-nil l, ap lines_of m ∙ lines-still l [])

  -- ---- one is marked

  few : (walked ms : List Marked) → length (kept (walk_from walked ms)) ≤ length ms
  unfolding walk_from kept
  few walked [] = omega arith
  few walked (m ∷ ms) = go (is_taken (walk_one walked m)) (few (walk_one walked m ∷ walked) ms)
    where
      go : (t : Bool) → length (kept (walk_from (walk_one walked m ∷ walked) ms)) ≤ length ms
          → length (cond t (kept (walk_from (walk_one walked m ∷ walked) ms)) ((walk_one walked m).frame ∷ kept (walk_from (walk_one walked m ∷ walked) ms))) ≤ suc (length ms)
      go true h = omega arith
      go false h = omega arith

  module _ (some : 1 ≤ cause) where
    taken : eqb cause 0 ≡ false
    taken = ne_eqb cause 0 (λ z. absurd (omega (arith, some, z)))

    goes : (walked : List Marked) (f : Frame) → walk_one walked (mark f cause) ≡ mark f cause
    goes walked f = rw taken

    some-from : (walked : List Marked) (l : List Frame) → all_of (λ (g : Frame). not (p g)) l ≡ false
        → length (kept (walk_from walked (mark_where p cause l))) < length l
    unfolding walk_from kept all_of
    some-from walked [] e = clash e
    some-from walked (f ∷ l) e = split (p f)
        (λ t. rw (t, goes walked f, taken) next)
        (λ t. let rest : all_of (λ (g : Frame). not (p g)) l ≡ false = rw t at e in rw t (less _ (is_taken (walk_one walked (mark f 0))) _ (some-from (walk_one walked (mark f 0) ∷ walked) l rest)))
      where
        next : length (kept (walk_from (mark f cause ∷ walked) (mark_where p cause l))) < suc (length l)
        next = omega (arith, few (mark f cause ∷ walked) (mark_where p cause l), length-map l (λ (g : Frame). mark g (cond (p g) cause 0)))

        less : (r : List Frame) (t : Bool) (x : Frame) → length r < length l → length (cond t r (x ∷ r)) < suc (length l)
        less r true x h = omega arith
        less r false x h = omega arith

    -- a place is freed
    pub some-gone : (l : List Frame) → all_of (λ (g : Frame). not (p g)) l ≡ false → length (kept (walk (mark_where p cause l))) < length l
    some-gone l e = some-from [] l e
