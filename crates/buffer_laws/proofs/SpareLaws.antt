-- Step 8's walk stays inside the groups that lost a frame before it: where the frames taken first are of other groups, so are all that
-- are taken; the group's frames stay, and no line tells of one.
use mathlib.Core.Path.{◌≡◌, refl, sym, ap}
use mathlib.Core.Bool.{Bool, true, false, cond, not, ◌&&◌, ◌||◌}
use mathlib.Core.List.{List, [], ◌∷◌}
use Prim.Native.Nat.{ℕ}
use lib.Dec.{eqb}
use borrow.Author.Tests.{not-true, eqb-true, eq-eqb, ne_eqb, eqb-false}
use Rattle.laws.proofs.BoolLaws.{both_ways, split, by-test, and_right, or_cases, or_left, or_right}
use Rattle.buffer_state.specs.declared.Frame.{Frame}
use Rattle.buffer_state.specs.Groups.{is_untold}
use Rattle.buffer_state.specs.Seek.{some_of}
use Rattle.buffer_state.specs.Store.{Marked, is_taken, mark_where, is_of, follows_taken, walk_one, walk_from, walk, kept, Line, lines_of}
use Rattle.buffer_state.specs.WellFormed.{all_of, pairwise, distinct_numbers}
use Rattle.buffer_laws.proofs.StoreLaws.{frames_of, kept-some, marks-frames}
use Rattle.buffer_laws.proofs.TestLaws.{all_first, all_rest, all_more, all_none, all_weaker, all-from-both, pairs_first, pairs-rest}

-- a test that holds of the group's frames
abbrev pub of_group : ℕ → Frame → Bool → Bool
of_group group f b = not (eqb f.group group) || b

module _ (group : ℕ) where
  -- a frame of the group stays
  abbrev spared : Marked → Bool
  spared m = of_group group m.frame (not (is_taken m))

  spared-stays : (m : Marked) → m.frame.group ≡ group → spared m ≡ true → is_taken m ≡ false
  spared-stays m g e =
      or_cases (not (eqb m.frame.group group)) (not (is_taken m)) e
      (λ n. both_ways (eq-eqb m.frame.group group g) (not-true _ n)) (λ n. not-true _ n)

  -- so nothing carries the walk to another of its frames
  nothing-follows : (track : ℕ) (ms : List Marked) → all_of spared ms ≡ true → follows_taken track group ms ≡ false
  unfolding follows_taken
  nothing-follows track [] e = refl
  nothing-follows track (m ∷ ms) e =
      let rest = nothing-follows track ms (all_rest spared m ms e) in
      by-test (λ (b : Bool). b ≡ false) (is_of track group m.frame)
      (λ t.
      let own : m.frame.group ≡ group = eqb-true m.frame.group group (and_right (eqb m.frame.track track) _ t) in
      rw (spared-stays m own (all_first spared m ms e), rest) (none (not m.frame.flagged)))
      (λ _. rest)
    where
      none : (b : Bool) → (b && false) ≡ false
      none true = refl
      none false = refl

  stays-spared : (walked : List Marked) (m : Marked) → all_of spared walked ≡ true → spared m ≡ true → spared (walk_one walked m) ≡ true
  stays-spared walked m w e =
      by-test (λ (n : Marked). spared n ≡ true) (not (is_taken m) && (not m.frame.flagged && follows_taken m.frame.track m.frame.group walked))
      (λ t. or_left _ _ (other (and_right (not m.frame.flagged) _ (and_right (not (is_taken m)) _ t)))) (λ _. e)
    where
      -- a frame that the walk reaches is of another group
      other : follows_taken m.frame.track m.frame.group walked ≡ true → not (eqb m.frame.group group) ≡ true
      other f = rw (ne_eqb m.frame.group group (λ g. both_ways f (rw g (nothing-follows m.frame.track walked w))))

  walk-spares : (walked ms : List Marked) → all_of spared walked ≡ true → all_of spared ms ≡ true → all_of spared (walk_from walked ms) ≡ true
  unfolding walk_from
  walk-spares walked [] w e = e
  walk-spares walked (m ∷ ms) w e =
      let n = walk_one walked m in
      let stays = stays-spared walked m w (all_first spared m ms e) in
      all_more spared n (walk_from (n ∷ walked) ms) stays (walk-spares (n ∷ walked) ms (all_more spared n walked stays w) (all_rest spared m ms e))

  marks-spared : (p : Frame → Bool) (c : ℕ) (fs : List Frame) → all_of (λ (f : Frame). of_group group f (not (p f))) fs ≡ true → all_of spared (mark_where p c fs) ≡ true
  marks-spared p c [] e = all_none spared
  marks-spared p c (f ∷ fs) e =
      all_more spared (record { frame = f; cause = cond (p f) c 0 }) (mark_where p c fs)
      (or_cases (not (eqb f.group group)) (not (p f)) (all_first (λ (g : Frame). of_group group g (not (p g))) f fs e)
      (λ other. or_left _ _ other) (λ out. or_right (not (eqb f.group group)) _ (rw (not-true (p f) out) refl)))
      (marks-spared p c fs (all_rest (λ (g : Frame). of_group group g (not (p g))) f fs e))

  -- Where the frames that pass a test are of other groups, their taking leaves any of the group that there was.
  pub taking-leaves : (p : Frame → Bool) (c : ℕ) (fs : List Frame) → all_of (λ (f : Frame). of_group group f (not (p f))) fs ≡ true
      → (q : Frame → Bool) → ((f : Frame) → q f ≡ true → f.group ≡ group) → some_of q fs ≡ true → some_of q (kept (walk (mark_where p c fs))) ≡ true
  taking-leaves p c fs e q own h =
      let ms = walk (mark_where p c fs) in
      kept-some q ms (all_weaker spared _ stays ms (walk-spares [] (mark_where p c fs) (all_none spared) (marks-spared p c fs e))) (rw (marks-frames p c fs) h)
    where
      stays : (m : Marked) → spared m ≡ true → (not (q m.frame) || not (is_taken m)) ≡ true
      stays m s =
          split (q m.frame) (λ t. or_right (not (q m.frame)) _ (ap not (spared-stays m (own m.frame t) s))) (λ t. or_left _ _ (ap not t))

  -- ---- the lines

  -- what every frame passes by its number, every line passes
  told-numbers : (q : ℕ → Bool) (ms : List Marked) → all_of (λ (f : Frame). q f.number) (frames_of ms) ≡ true → all_of (λ (l : Line). q l.number) (lines_of ms) ≡ true
  unfolding lines_of
  told-numbers q [] e = all_none (λ (l : Line). q l.number)
  told-numbers q (m ∷ ms) e =
      let rest = told-numbers q ms (all_rest (λ (f : Frame). q f.number) m.frame (frames_of ms) e) in
      by-test (λ (ls : List Line). all_of (λ (l : Line). q l.number) ls ≡ true) (is_taken m)
      (λ _. all_more (λ (l : Line). q l.number) _ (lines_of ms) (all_first (λ (f : Frame). q f.number) m.frame (frames_of ms) e) rest)
      (λ _. rest)

  abbrev differs : Frame → Frame → Bool
  differs a b = not (eqb a.number b.number)

  turned : (a b : Frame) → differs a b ≡ true → differs b a ≡ true
  turned a b e = rw (ne_eqb b.number a.number (λ q. eqb-false a.number b.number (not-true _ e) (sym q)))

  -- no number is there twice, so a line tells of no frame that stays
  spared-untold : (ms : List Marked) → pairwise differs (frames_of ms) ≡ true → all_of spared ms ≡ true
      → all_of (λ (f : Frame). of_group group f (is_untold (lines_of ms) f)) (frames_of ms) ≡ true
  unfolding lines_of
  spared-untold [] d e = all_none (λ (f : Frame). of_group group f (is_untold [] f))
  spared-untold (m ∷ ms) d e =
      let others = pairs_first differs m.frame (frames_of ms) d in
      let rest = spared-untold ms (pairs-rest differs m.frame (frames_of ms) d) (all_rest spared m ms e) in
      by-test (λ (ls : List Line). all_of (λ (f : Frame). of_group group f (is_untold ls f)) (m.frame ∷ frames_of ms) ≡ true) (is_taken m)
      (λ t. all_more _ m.frame (frames_of ms) (or_left _ _ (gone t))
      (all-from-both (differs m.frame) (λ (f : Frame). of_group group f (is_untold (lines_of ms) f)) _ (λ f h k. further f h k) (frames_of ms) others rest))
      (λ t. all_more (λ (f : Frame). of_group group f (is_untold (lines_of ms) f)) m.frame (frames_of ms)
      (or_right (not (eqb m.frame.group group)) _ (told-numbers (λ (n : ℕ). not (eqb n m.frame.number)) ms (all_weaker (differs m.frame) _ (turned m.frame) (frames_of ms) others)))
      rest)
    where
      gone : is_taken m ≡ true → not (eqb m.frame.group group) ≡ true
      gone t = rw (ne_eqb m.frame.group group (λ g. both_ways t (spared-stays m g (all_first spared m ms e))))

      further : (f : Frame) → differs m.frame f ≡ true → of_group group f (is_untold (lines_of ms) f) ≡ true
          → of_group group f (is_untold (record { number = m.frame.number; cause = m.cause } ∷ lines_of ms) f) ≡ true
      further f h k =
          or_cases (not (eqb f.group group)) (is_untold (lines_of ms) f) k
          (λ other. or_left _ _ other) (λ un. or_right (not (eqb f.group group)) _
          (all_more (λ (l : Line). not (eqb l.number f.number)) (record { number = m.frame.number; cause = m.cause }) (lines_of ms) h un))

  -- Where the frames that pass a test are of other groups, their taking tells of no frame of the group.
  pub taking-spares : (p : Frame → Bool) (c : ℕ) (fs : List Frame) → distinct_numbers fs ≡ true → all_of (λ (f : Frame). of_group group f (not (p f))) fs ≡ true
      → all_of (λ (f : Frame). of_group group f (is_untold (lines_of (walk (mark_where p c fs))) f)) fs ≡ true
  unfolding distinct_numbers
  taking-spares p c fs d e =
      let ms = walk (mark_where p c fs) in
      rw (marks-frames p c fs) at
      (spared-untold ms (rw (marks-frames p c fs) d) (walk-spares [] (mark_where p c fs) (all_none spared) (marks-spared p c fs e)))
