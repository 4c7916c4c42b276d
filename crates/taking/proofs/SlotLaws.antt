-- Step 8's walk by one bit for each slot is the definition's: what the loop keeps, and a turn of it.
use mathlib.Core.Path.{◌≡◌, refl, sym, ap, ◌∙◌}
use mathlib.Core.Bool.{Bool, true, false, cond, not}
use mathlib.Core.List.{List, [], ◌∷◌, ◌++◌, append-nil}
use Prim.Native.Nat.{ℕ, ◌+◌, ◌≤◌, ◌<◌}
use native.Mathlib.Omega.{arith}
use lib.Dec.{eqb}
use lib.IntN.{ℤ}
use lib.ListN.{length, take, drop, get_or, set, replicate, length-set, get_or-replicate, take-append-drop}
use lib.Seq.{append_snoc, get_or-set_same, get_or-set_other, take_all}
use borrow.Author.Tests.{eqb-true, eqb-false}
use Rattle.laws.proofs.BoolLaws.{split}
use Rattle.laws.proofs.ListLaws.{first-length, first_next, first-end}
use Rattle.buffer_state.specs.declared.Frame.{Frame}
use Rattle.buffer_state.specs.Layout.{zero_frame}
use Rattle.buffer_state.specs.Lent.{frames_of, Lengths}
use Rattle.buffer_state.specs.Limits.{places}
use Rattle.buffer_state.specs.Store.{Marked, mark_where, follows_taken, walk_from, walk}
use Rattle.buffer_state.specs.WellFormed.{all_of}
use Rattle.buffer_laws.proofs.RowLaws.{frames-length, frames-at}
use Rattle.groups.specs.Groups.{track_in, group_in, IsSlotted}
use Rattle.taking.specs.Marks.{mark, cause_after, marked_by, NoneBefore}
use Rattle.taking.proofs.WalkLaws.{walk_one_lem, follows-own, follows-other}
use Rattle.taking.proofs.MarkLaws.{marks-length, marks-more, front-still}
use Rattle.taking.proofs.GoneLaws.{passed, none-follows, walk_from_lem}

module _ (ts : List (List ℤ)) (gs : List (List ℕ)) (n first : ℕ) (p : Frame → Bool) (cause : ℕ) (ss : List ℕ) where
  abbrev frames : List Frame
  frames = take n (frames_of ts gs)

  abbrev pub here : ℕ → Frame
  here i = get_or (frames_of ts gs) i zero_frame

  abbrev follows : ℕ → List Marked → Bool
  follows i = follows_taken (here i).track (here i).group

  -- the bit in a frame's slot says what the frames walked say of its track and group
  pub record Marking (on : List Bool) (cs : List ℕ) (i : ℕ) : Type 0 where
    pub begun : first ≤ i
    pub inside : i ≤ n
    pub walked : List Marked
    pub bits : (j : ℕ) → i ≤ j → j < n → get_or on (get_or ss j 0) false ≡ follows j walked
    pub done : take i (marked_by frames cs) ++ walk_from walked (mark_where p cause (drop i frames)) ≡ walk (mark_where p cause frames)
    pub before : NoneBefore first cs
    pub on_long : length on ≡ places
    pub long : length cs ≡ places

  module _ (few : n ≤ places) (lengths : Lengths ts gs) (slotted : IsSlotted gs first n ss) where
    full : n ≤ length (frames_of ts gs)
    full = omega (arith, frames-length ts gs (lengths.0 ∙ sym lengths.1), lengths.0)

    pub marking-none : first ≤ n → all_of (λ (g : Frame). not (p g)) (take first frames) ≡ true → Marking (replicate places false) (replicate places 0) first
    marking-none h out = record {
      begun = omega arith;
      inside = h;
      walked = passed [] (take first frames);
      bits = λ j a b. get_or-replicate places (get_or ss j 0) false false (slotted.small j a b) ∙ sym (none-follows (take first frames) (here j).track (here j).group);
      done = ap (λ (ms : List Marked). ms ++ walk_from (passed [] (take first frames)) (mark_where p cause (drop first frames)))
          (front-still first frames (replicate places 0) (omega (arith, first-length (frames_of ts gs) n full)) none)
          ∙ sym (walk_from_lem p cause (take first frames) (drop first frames) out)
          ∙ ap (λ (l : List Frame). walk (mark_where p cause l)) (take-append-drop first frames);
      before = none;
      on_long = refl;
      long = refl;
    }
      where
        none : NoneBefore first (replicate places 0)
        none i b = get_or-replicate places i 0 0 (omega arith)

    -- the rows have the frames' tracks and groups
    track-at : (j : ℕ) → j < n → (here j).track ≡ track_in (get_or gs j [])
    track-at j h = ap (λ (f : Frame). f.track) (frames-at ts gs j [] [] (omega (arith, lengths.0)) (omega (arith, lengths.1)))

    group_at : (j : ℕ) → j < n → (here j).group ≡ group_in (get_or gs j [])
    group_at j h = ap (λ (f : Frame). f.group) (frames-at ts gs j [] [] (omega (arith, lengths.0)) (omega (arith, lengths.1)))

    module _ (on : List Bool) (cs : List ℕ) (i : ℕ) (w : Marking on cs i) where
      module _ (h : i < n) where
        abbrev slot : ℕ
        slot = get_or ss i 0

        abbrev reached : ℕ
        reached = cause_after (follows i w.walked) (here i) (cond (p (here i)) cause 0)

        abbrev after : List Marked
        after = mark (here i) reached ∷ w.walked

        stepped : walk_from w.walked (mark_where p cause (drop i frames)) ≡ mark (here i) reached ∷ walk_from after (mark_where p cause (drop (i + 1) frames))
        unfolding walk_from
        stepped =
            ap (λ (l : List Frame). walk_from w.walked (mark_where p cause l)) (first_next (frames_of ts gs) n full i zero_frame h)
            ∙ ap (λ (m : Marked). m ∷ walk_from (m ∷ w.walked) (mark_where p cause (drop (i + 1) frames))) (walk_one_lem w.walked (here i) (cond (p (here i)) cause 0))

        bits-after : (j : ℕ) → i + 1 ≤ j → j < n → get_or (set on slot (not (eqb reached 0))) (get_or ss j 0) false ≡ follows j after
        bits-after j a b =
            let c : first ≤ j = omega (arith, w.begun) in
            split (eqb (get_or ss j 0) slot)
            (λ e.
            let q : get_or ss j 0 ≡ slot = eqb-true (get_or ss j 0) slot e in
            let like = slotted.apart j i c b w.begun h q in
            let t : (here j).track ≡ (here i).track = track-at j b ∙ like.0 ∙ sym (track-at i h) in
            let g : (here j).group ≡ (here i).group = group_at j b ∙ like.1 ∙ sym (group_at i h) in
            rw (q, t, g, get_or-set_same on slot (not (eqb reached 0)) false (omega (arith, slotted.small i w.begun h, w.on_long)))
            (sym (follows-own w.walked (here i) (cond (p (here i)) cause 0))))
            (λ e.
            let q : get_or ss j 0 ≡ slot → ⊥ = eqb-false (get_or ss j 0) slot e in
            get_or-set_other on slot (get_or ss j 0) (not (eqb reached 0)) false q
            ∙ w.bits j (omega arith) b
            ∙ sym (follows-other w.walked (here i) reached (here j).track (here j).group (λ t g.
            q (slotted.alike j i c b w.begun h (sym (track-at j b) ∙ sym t ∙ track-at i h, sym (group_at j b) ∙ sym g ∙ group_at i h)))))

        pub marking-more : (d : ℕ) → d ≡ cause_after (get_or on slot false) (here i) (cond (p (here i)) cause 0) → Marking (set on slot (not (eqb d 0))) (set cs i d) (i + 1)
        marking-more d e =
            let q : d ≡ reached = e ∙ ap (λ (b : Bool). cause_after b (here i) (cond (p (here i)) cause 0)) (w.bits i (omega arith) h) in
            rw q (record {
              begun = omega (arith, w.begun);
              inside = omega arith;
              walked = after;
              bits = bits-after;
              done = rw (marks-more (frames_of ts gs) cs n full (omega (arith, w.long)) i h reached, append_snoc)
                  (ap (λ (ms : List Marked). take i (marked_by frames cs) ++ ms) (sym stepped) ∙ w.done);
              before = λ j b. get_or-set_other cs i j reached 0 (λ x. omega (arith, w.begun)) ∙ w.before j b;
              on_long = length-set on slot _ ∙ w.on_long;
              long = length-set cs i reached ∙ w.long;
            })

      pub marking-all : n ≤ i → marked_by frames cs ≡ walk (mark_where p cause frames)
      unfolding walk_from
      marking-all h =
          sym (take_all i (marked_by frames cs) (omega (arith, marks-length (frames_of ts gs) cs n full (omega (arith, w.long)))))
          ∙ sym (append-nil (take i (marked_by frames cs)))
          ∙ ap (λ (l : List Frame). take i (marked_by frames cs) ++ walk_from w.walked (mark_where p cause l)) (sym (first-end (frames_of ts gs) n full i h))
          ∙ w.done
