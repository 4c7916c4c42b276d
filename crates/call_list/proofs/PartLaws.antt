-- A call that is lent a part of a longer list: the part goes back into its place.
use mathlib.Core.Path.{◌≡◌, refl, sym, ap, subst, ◌∙◌}
use mathlib.Core.Bool.{false}
use mathlib.Core.List.{List, [], ◌++◌, append_assoc}
use Prim.Native.Nat.{ℕ, ◌+◌, ◌≤◌}
use native.Mathlib.Omega.{arith}
use borrow.Author.Tests.{le-ltb, ltb-false, eqb-false, ne_eqb}
use borrow.Rule.Slice.PartMut.{mid_of, put_mid}
use lib.Dec.{ltb, eqb}
use lib.IntN.{ℤ}
use lib.Ieee.{Float}
use lib.ListN.{length, take, drop, get_or, length-append, length-drop, length-map, take-append-drop}
use lib.Seq.{length-take-le, drop-append-le, drop-drop}
use Rattle.laws.proofs.BoolLaws.{split}
use Rattle.buffer_state.specs.Lent.{Lent}
use Rattle.buffer_state.specs.Answers.{written, laid_ranges}
use Rattle.buffer_state.specs.Run.{Call, walked_call, lines_in}
use Rattle.call_rows.specs.declared.Step.{Step}
use Rattle.call_rows.specs.Encoded.{call_of, of_lines, of_ranges, row_call}
use Rattle.call_list.specs.Listed.{first_frame, frame_count, frames_of_row}
use Rattle.call_rows.specs.Replies.{Replied, reply_on, ranges_in, Stepped, IsQuiet, written_at, CalledAt}
use Rattle.call_rows.proofs.ReplyLaws.{walk_call}

-- a row's call is lent as many places as its kind makes of what the row asks for; all but a walk, which is lent none
call-lent : (row : List ℕ) (stamps : List ℤ) (seconds : List Float) (frames : List (List ℤ)) → (get_or row 0 0 ≡ 11 → ⊥)
    → call_of row stamps seconds frames (of_lines (get_or row 0 0) (get_or row 4 0)) (of_ranges (get_or row 0 0) (get_or row 4 0)) ≡ row_call row stamps seconds frames
call-lent row stamps seconds frames other =
    split (ltb (get_or row 0 0) 2) (λ a. rw a)
    (λ a. split (ltb (get_or row 0 0) 7) (λ b. rw (a, b))
    (λ b. split (eqb (get_or row 0 0) 7) (λ c. rw (a, b, c))
    (λ c.
    let h : 7 ≤ get_or row 0 0 = ltb-false (get_or row 0 0) 7 b in
    let g : get_or row 0 0 ≡ 7 → ⊥ = eqb-false (get_or row 0 0) 7 c in
    let k : ltb (get_or row 0 0) 8 ≡ false = le-ltb (get_or row 0 0) 8 (omega (arith, g)) in
    split (ltb (get_or row 0 0) 10) (λ d. rw (a, b, c, d, k))
    (λ d. split (eqb (get_or row 0 0) 10) (λ e. rw (a, b, c, d, e)) (λ e. rw (a, b, c, d, e, ne_eqb (get_or row 0 0) 11 other))))))

part_length : {A : Type 0} (xs : List A) (at k : ℕ) → at + k ≤ length xs → length (mid_of at k xs) ≡ k
part_length xs at k inside = length-take-le k (drop at xs) (omega (arith, length-drop at xs))

-- new elements in the part are new elements in the list
module _ {A : Type 0} (xs : List A) (at k : ℕ) (new part : List A) where
  part-back : part ≡ new ++ drop (length new) (mid_of at k xs) → length part ≡ length (mid_of at k xs) → put_mid at k xs part ≡ written_at xs at new
  part-back e l =
      let few : length new ≤ length (mid_of at k xs) = omega (arith, ap length e, length-append new (drop (length new) (mid_of at k xs)), length-drop (length new) (mid_of at k xs)) in
      let rest : drop (length new) (mid_of at k xs) ++ drop k (drop at xs) ≡ drop (at + length new) xs =
      sym (drop-append-le (length new) (mid_of at k xs) (drop k (drop at xs)) few)
      ∙ ap (drop (length new)) (take-append-drop k (drop at xs)) ∙ drop-drop (length new) at xs in
      ap (λ (p : List A). take at xs ++ (p ++ drop k (drop at xs))) e
      ∙ ap (λ (p : List A). take at xs ++ p) (append_assoc new (drop (length new) (mid_of at k xs)) (drop k (drop at xs)) ∙ ap (λ (p : List A). new ++ p) rest)

-- what a call that is lent two parts comes to
put_back : (r : Replied) (t : Step) (ts : List (List ℤ)) (gs lines₀ : List (List ℕ)) (at n : ℕ) (spans₀ : List (List ℤ)) (placed m : ℕ) (p : List (List ℕ)) (q : List (List ℤ))
    → Stepped r t ts gs (mid_of at n lines₀) p (mid_of placed m spans₀) q
    → length p ≡ length (mid_of at n lines₀) → length q ≡ length (mid_of placed m spans₀)
    → CalledAt r t ts gs lines₀ at (put_mid at n lines₀ p) spans₀ placed (put_mid placed m spans₀ q)
put_back r t ts gs lines₀ at n spans₀ placed m p q h l k =
    let ls = lines_in r.result in
    let rs = ranges_in r.result in
    record {
      step = h.step;
      times = h.times;
      tags = h.tags;
      fates = part-back lines₀ at n (written ls) p (h.fates ∙ ap (λ (j : ℕ). written ls ++ drop j (mid_of at n lines₀)) (sym (length-map ls _))) l;
      ranges = part-back spans₀ placed m (laid_ranges rs) q (h.ranges ∙ ap (λ (j : ℕ). laid_ranges rs ++ drop j (mid_of placed m spans₀)) (sym (length-map rs _))) k;
    }

module _ (row : List ℕ) (stamps : List ℤ) (seconds : List Float) (frames : List (List ℤ)) (first count : ℕ) (s : Lent) (t : Step) (ts : List (List ℤ)) (gs : List (List ℕ)) (lines₀ : List (List ℕ)) (at n : ℕ) (spans₀ : List (List ℤ)) (placed m : ℕ)
    (other : get_or row 0 0 ≡ 11 → ⊥) (ef : first ≡ first_frame row) (ec : count ≡ frame_count row) (en : n ≡ of_lines (get_or row 0 0) (get_or row 4 0)) (em : m ≡ of_ranges (get_or row 0 0) (get_or row 4 0))
    (hn : at + n ≤ length lines₀) (hm : placed + m ≤ length spans₀) where
  abbrev made : Call
  made = call_of row stamps seconds (take count (drop first frames)) (length (mid_of at n lines₀)) (length (mid_of placed m spans₀))

  abbrev meant : Call
  meant = row_call row stamps seconds (frames_of_row row frames)

  same-call : made ≡ meant
  same-call = rw (part_length lines₀ at n hn, part_length spans₀ placed m hm, ef, ec, en, em) (call-lent row stamps seconds (frames_of_row row frames) other)

  pub called_at : (p : List (List ℕ)) (q : List (List ℤ))
      → Stepped (reply_on made s) t ts gs (mid_of at n lines₀) p (mid_of placed m spans₀) q
      → length p ≡ length (mid_of at n lines₀) → length q ≡ length (mid_of placed m spans₀)
      → CalledAt (reply_on meant s) t ts gs lines₀ at (put_mid at n lines₀ p) spans₀ placed (put_mid placed m spans₀ q)
  called_at p q h l k =
      put_back (reply_on meant s) t ts gs lines₀ at n spans₀ placed m p q
      (subst (λ (c : Call). Stepped (reply_on c s) t ts gs (mid_of at n lines₀) p (mid_of placed m spans₀) q) same-call h) l k

-- a walk is told how many places its row names, and leaves the lists: no part of either is lent
module _ (row : List ℕ) (stamps : List ℤ) (seconds : List Float) (frames : List (List ℤ)) (s : Lent) (t : Step) (lines₀ : List (List ℕ)) (at : ℕ) (spans₀ : List (List ℤ)) (placed room : ℕ)
    (walk : get_or row 0 0 ≡ 11) (er : room ≡ get_or row 4 0) where
  abbrev meant_walk : Call
  meant_walk = row_call row stamps seconds (frames_of_row row frames)

  same-walk : walked_call room (get_or row 1 0) ≡ meant_walk
  same-walk =
      ap (λ (n : ℕ). walked_call n (get_or row 1 0)) er
      ∙ sym (walk_call row stamps seconds (frames_of_row row frames) (get_or row 4 0) (get_or row 4 0) walk)

  pub walked_at : IsQuiet (reply_on (walked_call room (get_or row 1 0)) s) t s.times s.tags
      → CalledAt (reply_on meant_walk s) t s.times s.tags lines₀ at lines₀ spans₀ placed spans₀
  walked_at h =
      let g : Stepped (reply_on meant_walk s) t s.times s.tags [] [] [] [] =
      subst (λ (c : Call). Stepped (reply_on c s) t s.times s.tags [] [] [] []) same-walk (h [] []) in
      let p = put_back (reply_on meant_walk s) t s.times s.tags lines₀ at 0 spans₀ placed 0 [] [] g refl refl in
      record {
        step = p.step;
        times = p.times;
        tags = p.tags;
        fates = sym (take-append-drop at lines₀) ∙ p.fates;
        ranges = sym (take-append-drop placed spans₀) ∙ p.ranges;
      }
