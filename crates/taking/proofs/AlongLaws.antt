-- Step 8's walk with one flag is the definition's, over sorted frames that are of one group from the first that goes: what the definition
-- asks of all the frames walked is asked of the one taken last.
use mathlib.Core.Path.{◌≡◌, refl, sym, ap, subst, ◌∙◌}
use mathlib.Core.Bool.{Bool, true, false, cond, not, ◌&&◌, and-false}
use mathlib.Core.List.{List, [], ◌∷◌, ◌++◌, map}
use Prim.Native.Nat.{ℕ, zero, suc, ◌+◌, ◌≤◌, ◌<◌}
use native.Mathlib.Nat.{not-suc-le-zero}
use native.Mathlib.Omega.{arith}
use lib.Dec.{eqb}
use lib.IntN.{ℤ}
use lib.ListN.{length, take, drop, get_or, length-map, take-append-drop}
use lib.Seq.{get_or-take, take_at, drop_at}
use borrow.Author.Tests.{ltb-true, eqb-true, eqb-false, ne_eqb}
use Rattle.laws.proofs.BoolLaws.{split, and_left, and_right}
use Rattle.laws.proofs.ListLaws.{first-length, first_next, first-end}
use Rattle.buffer_state.specs.declared.Frame.{Frame}
use Rattle.buffer_state.specs.Layout.{zero_frame}
use Rattle.buffer_state.specs.Lent.{frames_of, Lengths}
use Rattle.buffer_state.specs.Limits.{places}
use Rattle.buffer_state.specs.Store.{is_before, Marked, mark_where, follows_taken, walk_from, walk}
use Rattle.buffer_state.specs.WellFormed.{all_of, is_sorted}
use Rattle.buffer_laws.proofs.RowLaws.{frames-length, frames-at}
use Rattle.buffer_laws.proofs.TestLaws.{all_first, all_rest, pairs_first, pairs-rest}
use Rattle.groups.specs.Groups.{group_in}
use Rattle.taking.specs.Marks.{mark, cause_after}
use Rattle.taking.specs.Taking.{IsOneGroup}
use Rattle.taking.proofs.WalkLaws.{walk_one_lem, follows-own, follows-other}
use Rattle.taking.proofs.MarkLaws.{still}
use Rattle.taking.proofs.TurnLaws.{next_of}
use Rattle.taking.proofs.GoneLaws.{passed, none-follows, walk_from_lem}

-- ---- tracks rise

before-track : (a b : Frame) → is_before a b ≡ true → a.track ≤ b.track
unfolding is_before
before-track a b =
    split (eqb a.track b.track)
    (λ t e. omega (arith, eqb-true a.track b.track t))
    (λ t e. omega (arith, ltb-true a.track b.track (rw t at e)))

tracks-rise : (l : List Frame) → is_sorted l ≡ true → (i j : ℕ) → i ≤ j → j < length l → (get_or l i zero_frame).track ≤ (get_or l j zero_frame).track
unfolding is_sorted
tracks-rise [] s i j h k = absurd (not-suc-le-zero k)
tracks-rise (f ∷ l) s zero zero h k = omega arith
tracks-rise (f ∷ l) s zero (suc j) h k = later l (pairs_first is_before f l s) j (omega arith)
  where
    later : (l : List Frame) → all_of (is_before f) l ≡ true → (j : ℕ) → j < length l → f.track ≤ (get_or l j zero_frame).track
    later [] e j k = absurd (not-suc-le-zero k)
    later (g ∷ l) e zero k = before-track f g (all_first (is_before f) g l e)
    later (g ∷ l) e (suc j) k = later l (all_rest (is_before f) g l e) j (omega arith)
tracks-rise (f ∷ l) s (suc i) zero h k = absurd (not-suc-le-zero h)
tracks-rise (f ∷ l) s (suc i) (suc j) h k = tracks-rise l (pairs-rest is_before f l s) i j (omega arith) (omega arith)

-- ---- the loop

module _ (ts : List (List ℤ)) (gs : List (List ℕ)) (n first : ℕ) (p : Frame → Bool) (cause : ℕ) where
  abbrev frames : List Frame
  frames = take n (frames_of ts gs)

  abbrev marks : List Marked
  marks = walk (mark_where p cause frames)

  abbrev here : ℕ → Frame
  here i = get_or (frames_of ts gs) i zero_frame

  -- the flag says of each frame to come what the frames walked say of its track and group
  pub record Along (track : ℕ) (follows : Bool) (i : ℕ) : Type 0 where
    pub begun : first ≤ i
    pub walked : List Marked
    pub left : drop i marks ≡ walk_from walked (mark_where p cause (drop i frames))
    pub later : (j : ℕ) → i ≤ j → j < n → track ≤ (here j).track
    pub tells : (j : ℕ) → i ≤ j → j < n → follows_taken (here j).track (here j).group walked ≡ (eqb (here j).track track && follows)

  module _ (few : n ≤ places) (lengths : Lengths ts gs) where
    full : n ≤ length (frames_of ts gs)
    full = omega (arith, frames-length ts gs (lengths.0 ∙ sym lengths.1), lengths.0)

    module _ (h : first ≤ n) (out : all_of (λ (g : Frame). not (p g)) (take first frames) ≡ true) where
      abbrev early : List Frame
      early = take first frames

      abbrev late : List Marked
      late = walk_from (passed [] early) (mark_where p cause (drop first frames))

      parts : marks ≡ map still early ++ late
      parts = ap (λ (l : List Frame). walk (mark_where p cause l)) (sym (take-append-drop first frames)) ∙ walk_from_lem p cause early (drop first frames) out

      count : length (map still early) ≡ first
      count = length-map early still ∙ first-length frames first (omega (arith, first-length (frames_of ts gs) n full))

      -- the frames before the first stay
      pub along-front : take first marks ≡ map still early
      along-front = ap (take first) parts ∙ take_at (map still early) late first count

      pub along-none : Along 0 false first
      along-none = record {
        begun = omega arith;
        walked = passed [] early;
        left = ap (drop first) parts ∙ drop_at (map still early) late first count;
        later = λ j a b. omega arith;
        tells = λ j a b. none-follows early (here j).track (here j).group ∙ sym (and-false (eqb (here j).track 0));
      }

    module _ (track : ℕ) (follows : Bool) (i : ℕ) (w : Along track follows i) where
      module _ (h : i < n) (order : is_sorted frames ≡ true) (one : IsOneGroup gs first n) where
        abbrev reached : ℕ
        reached = cause_after (eqb (here i).track track && follows) (here i) (cond (p (here i)) cause 0)

        abbrev after : List Marked
        after = mark (here i) reached ∷ w.walked

        stepped : drop i marks ≡ mark (here i) reached ∷ walk_from after (mark_where p cause (drop (i + 1) frames))
        unfolding walk_from
        stepped =
            w.left
            ∙ ap (λ (l : List Frame). walk_from w.walked (mark_where p cause l)) (first_next (frames_of ts gs) n full i zero_frame h)
            ∙ ap (λ (m : Marked). m ∷ walk_from (m ∷ w.walked) (mark_where p cause (drop (i + 1) frames)))
            (walk_one_lem w.walked (here i) (cond (p (here i)) cause 0)
            ∙ ap (λ (b : Bool). mark (here i) (cause_after b (here i) (cond (p (here i)) cause 0))) (w.tells i (omega arith) h))

        group_at : (j : ℕ) → j < n → (here j).group ≡ group_in (get_or gs j [])
        group_at j b = ap (λ (f : Frame). f.group) (frames-at ts gs j [] [] (omega (arith, lengths.0)) (omega (arith, lengths.1)))

        rises : (j : ℕ) → i + 1 ≤ j → j < n → (here i).track ≤ (here j).track
        rises j a b =
            rw (← get_or-take n (frames_of ts gs) i zero_frame h, ← get_or-take n (frames_of ts gs) j zero_frame b)
            (tracks-rise frames order i j (omega arith) (omega (arith, first-length (frames_of ts gs) n full)))

        tells-after : (j : ℕ) → i + 1 ≤ j → j < n → follows_taken (here j).track (here j).group after ≡ (eqb (here j).track (here i).track && not (eqb reached 0))
        tells-after j a b =
            split (eqb (here j).track (here i).track)
            (λ e.
            let t : (here j).track ≡ (here i).track = eqb-true (here j).track (here i).track e in
            let g : (here j).group ≡ (here i).group = group_at j b ∙ one j (omega (arith, w.begun)) b ∙ sym (one i w.begun h) ∙ sym (group_at i h) in
            rw (e, t, g) own)
            (λ e.
            let q : (here j).track ≡ (here i).track → ⊥ = eqb-false (here j).track (here i).track e in
            let past : eqb (here j).track track ≡ false = ne_eqb (here j).track track (λ z. q (omega (arith, w.later i (omega arith) h, rises j a b, z))) in
            follows-other w.walked (here i) reached (here j).track (here j).group (λ t g. q (sym t))
            ∙ w.tells j (omega arith) b ∙ rw (e, past))
          where
            own : follows_taken (here i).track (here i).group after ≡ not (eqb reached 0)
            own =
                let c : ℕ = cond (p (here i)) cause 0 in
                subst (λ (t : Bool). follows_taken (here i).track (here i).group (mark (here i) (cause_after t (here i) c) ∷ w.walked) ≡ not (eqb (cause_after t (here i) c) 0))
                (w.tells i (omega arith) h) (follows-own w.walked (here i) c)

        -- the frame's mark, and what the walk carries on
        abbrev Turned : ℕ → ℕ → Bool → Type 0
        Turned d along on = (drop i marks ≡ mark (here i) d ∷ drop (i + 1) marks) × Along along on (i + 1)

        turned : Turned reached (here i).track (not (eqb reached 0))
        turned =
            let rest = (next_of marks i (mark (here i) reached) (walk_from after (mark_where p cause (drop (i + 1) frames))) stepped).2 in (
              stepped ∙ ap (λ (ms : List Marked). mark (here i) reached ∷ ms) (sym rest),
              record { begun = omega (arith, w.begun); walked = after; left = rest; later = rises; tells = tells-after },
            )

        by-cause : (d : ℕ) (on : Bool) → reached ≡ d → not (eqb d 0) ≡ on → Turned d (here i).track on
        by-cause d on e f = subst (λ (t : Bool). Turned d (here i).track t) f (subst (λ (x : ℕ). Turned x (here i).track (not (eqb x 0))) e turned)

        -- ---- the arms

        pub along-taken : 1 ≤ cause → p (here i) ≡ true → Turned cause (here i).track true
        along-taken some e =
            let c : eqb cause 0 ≡ false = ne_eqb cause 0 (λ z. absurd (omega (arith, some, z))) in
            by-cause cause true (rw (e, c)) (rw c)

        module _ (e : p (here i) ≡ false) where
          pub along-follows : (follows && (not (here i).flagged && eqb (here i).track track)) ≡ true → Turned 5 track true
          along-follows r =
              let f : follows ≡ true = and_left follows _ r in
              let u : not (here i).flagged ≡ true = and_left (not (here i).flagged) _ (and_right follows _ r) in
              let t : eqb (here i).track track ≡ true = and_right (not (here i).flagged) _ (and_right follows _ r) in
              subst (λ (x : ℕ). Turned 5 x true) (eqb-true (here i).track track t) (by-cause 5 true (rw (e, t, f, u)) refl)

          -- with no frame to follow, any track up to the next will do
          pub along-kept : (follows && (not (here i).flagged && eqb (here i).track track)) ≡ false → Turned 0 track false
          along-kept r =
              let o = by-cause 0 false (rw (e, swap follows (not (here i).flagged) (eqb (here i).track track) r)) refl in (
                o.0,
                record {
                  begun = o.1.begun;
                  walked = o.1.walked;
                  left = o.1.left;
                  later = λ j a b. w.later j (omega arith) b;
                  tells = λ j a b. o.1.tells j a b ∙ and-false (eqb (here j).track (here i).track) ∙ sym (and-false (eqb (here j).track track));
                },
              )
            where
              swap : (a b c : Bool) → (a && (b && c)) ≡ false → (b && (c && a)) ≡ false
              swap true true true e = e
              swap true true false e = refl
              swap true false c e = refl
              swap false true true e = refl
              swap false true false e = refl
              swap false false c e = refl

      pub along-end : n ≤ i → drop i marks ≡ []
      unfolding walk_from
      along-end h = w.left ∙ ap (λ (l : List Frame). walk_from w.walked (mark_where p cause l)) (first-end (frames_of ts gs) n full i h)
