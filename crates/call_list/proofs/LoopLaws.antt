-- The loop over a list of calls: what holds after the first i of them, and one turn.
use mathlib.Core.Path.{◌≡◌, refl, sym, ap, subst, ◌∙◌}
use mathlib.Core.Bool.{true}
use mathlib.Core.List.{List, [], ◌∷◌, ◌++◌, map}
use Prim.Native.Nat.{ℕ, zero, suc, ◌+◌, ◌-◌, ◌≤◌, ◌<◌}
use native.Mathlib.Omega.{arith}
use borrow.Author.Tests.{leb-true}
use lib.Dec.{leb, eqb}
use lib.IntN.{ℤ}
use lib.Ieee.{Float}
use lib.ListN.{length, take, get_or, set, length-append, length-map, length-set}
use Rattle.laws.proofs.BoolLaws.{and_left, and_right, by-test}
use Rattle.buffer_state.specs.declared.Head.{Head}
use Rattle.buffer_state.specs.Answers.{written, laid_ranges}
use Rattle.buffer_state.specs.Buffer.{Buffer}
use Rattle.buffer_state.specs.Lent.{Lent, lent_of}
use Rattle.buffer_state.specs.Ranges.{Range}
use Rattle.buffer_state.specs.Refusals.{CallResult}
use Rattle.buffer_state.specs.Run.{Call, Answer, Entry, reply_to, run, last_of, lines_in, total}
use Rattle.buffer_state.specs.Store.{Line}
use Rattle.buffer_state.specs.WellFormed.{good_buffer}
use Rattle.buffer_laws.proofs.GoodLaws.{good-facts, facts-good}
use Rattle.buffer_laws.proofs.LentLaws.{laid-well_formed, held_back}
use Rattle.buffer_laws.proofs.CallLaws.{total-append}
use Rattle.buffer_laws.proofs.RunLaws.{run-lawful}
use Rattle.call_rows.specs.declared.Step.{Step}
use Rattle.call_rows.specs.Encoded.{of_lines, of_ranges, row_call}
use Rattle.call_rows.specs.Replies.{lent, Replied, laid_reply, reply_on, step_of, size_of, ranges_in, written_at, CalledAt}
use Rattle.call_list.specs.Listed.{first_frame, frame_count, frames_of_row, first_calls, encoded_calls, answer_of, readings_in, all_out, noted, Filled, Lists, row_fits, offers_of_row, rows_fit, ranges_of_row, long_enough, fits, fits_in, Replayed}
use Rattle.call_list.proofs.ListedLaws.{entry_of, last_more, run_more, out-more, lines-out, map-append, filled_none, filled-inside, filled_more, refilled, set-written, frames_in, lines-few}
use Rattle.call_list.proofs.ShapeLaws.{Shape, row-shape, row-offers}

-- ---- an element of a list, by its place

module _ {A : Type 0} (f : A → ℕ) where
  pub total-next : (l : List A) (i : ℕ) (z : A) → i < length l → total f (take (suc i) l) ≡ total f (take i l) + f (get_or l i z)
  unfolding total
  total-next [] i z h = absurd (omega arith)
  total-next (x ∷ l) zero z h = omega arith
  total-next (x ∷ l) (suc i) z h = omega (arith, total-next l i z (omega arith))

  pub total-front : (l : List A) (i : ℕ) → total f (take i l) ≤ total f l
  unfolding total
  total-front [] zero = omega arith
  total-front [] (suc i) = omega arith
  total-front (x ∷ l) zero = omega arith
  total-front (x ∷ l) (suc i) = omega (arith, total-front l i)

-- ---- a list that fits

pub record Room (rows : List (List ℕ)) (ts : List (List ℤ)) (xs : List (List Float)) (frames : List (List ℤ)) (l : Lists) : Type 0 where
  pub stamps : length rows ≤ length ts
  pub seconds : length rows ≤ length xs
  pub answers : length rows ≤ length l.answers
  pub readings : length rows ≤ length l.readings
  pub each : rows_fit (length frames) (length l.lines) rows ≡ true
  pub ranges : total ranges_of_row rows ≤ length l.ranges

pub room : (rows : List (List ℕ)) (ts : List (List ℤ)) (xs : List (List Float)) (frames : List (List ℤ)) (l : Lists) → fits_in rows ts xs frames l ≡ true
    → Room rows ts xs frames l
unfolding fits
room rows ts xs frames l e =
    let n = length rows in
    let long = and_left (long_enough n (length ts) (length xs) (length l.answers) (length l.readings)) _ e in
    let rest = and_right (long_enough n (length ts) (length xs) (length l.answers) (length l.readings)) _ e in
    let l₁ = and_right (leb n (length ts)) _ long in
    let l₂ = and_right (leb n (length xs)) _ l₁ in
    record {
      stamps = leb-true n (length ts) (and_left (leb n (length ts)) _ long);
      seconds = leb-true n (length xs) (and_left (leb n (length xs)) _ l₁);
      answers = leb-true n (length l.answers) (and_left (leb n (length l.answers)) _ l₂);
      readings = leb-true n (length l.readings) (and_right (leb n (length l.answers)) _ l₂);
      each = and_left (rows_fit (length frames) (length l.lines) rows) _ rest;
      ranges = leb-true (total ranges_of_row rows) (length l.ranges) (and_right (rows_fit (length frames) (length l.lines) rows) _ rest);
    }

-- a row has the room that the rows before it leave
row_at : (frames lines : ℕ) (rows : List (List ℕ)) (i : ℕ) → i < length rows → rows_fit frames lines rows ≡ true
    → row_fits frames (lines - total offers_of_row (take i rows)) (get_or rows i []) ≡ true
unfolding rows_fit total
row_at frames lines [] i h e = absurd (omega arith)
row_at frames lines (row ∷ rows) zero h e =
    let all : lines - 0 ≡ lines = omega arith in
    rw all (and_left (row_fits frames lines row) _ e)
row_at frames lines (row ∷ rows) (suc i) h e =
    let less : lines - offers_of_row row - total offers_of_row (take i rows) ≡ lines - (offers_of_row row + total offers_of_row (take i rows)) = omega arith in
    rw (← less) (row_at frames (lines - offers_of_row row) rows i (omega arith) (and_right (row_fits frames lines row) _ e))

-- ---- a call on the state that holds a good buffer

reply_on_lem : (c : Call) (b : Buffer) → good_buffer b ≡ true → reply_on c (lent_of b) ≡ laid_reply (reply_to c b)
unfolding reply_on
reply_on_lem c b good = rw (laid-well_formed b good, held_back b)

-- an answer's row, from the call's step
abbrev pub numbers_of : Step → List ℕ
numbers_of t = t.refusal ∷ t.count ∷ t.accepted ∷ t.stop ∷ t.target ∷ t.flagged ∷ []

noted-few : (kind : ℕ) (doubles : List Float) → length (noted kind doubles) ≤ 1
noted-few kind doubles = by-test (λ (l : List (List Float)). length l ≤ 1) (eqb kind 7) (λ _. omega arith) (λ _. omega arith)

-- ---- after the first i calls

module _ (rows : List (List ℕ)) (stamps : List (List ℤ)) (seconds : List (List Float)) (frames : List (List ℤ)) (b₀ : Buffer) (before : Lists) where
  pub calls-length : (i : ℕ) → length (first_calls rows stamps seconds frames i) ≡ i
  unfolding first_calls
  calls-length zero = refl
  calls-length (suc i) = omega (arith, length-append (first_calls rows stamps seconds frames i) (row_call (get_or rows i []) (get_or stamps i []) (get_or seconds i []) (frames_of_row (get_or rows i []) frames) ∷ []), calls-length i)

  calls-offer : (i : ℕ) → i ≤ length rows → total frames_in (first_calls rows stamps seconds frames i) ≤ total offers_of_row (take i rows)
  unfolding first_calls total
  calls-offer zero h = omega arith
  calls-offer (suc i) h =
      let row = get_or rows i [] in
      let c = row_call row (get_or stamps i []) (get_or seconds i []) (frames_of_row row frames) in
      omega (
        arith,
        total-append frames_in (first_calls rows stamps seconds frames i) (c ∷ []),
        calls-offer i (omega arith),
        row-offers row (get_or stamps i []) (get_or seconds i []) frames,
        total-next offers_of_row rows i [] h,
      )

  -- the head and the arrays hold what the calls so far lead to
  pub record Sofar (after : Lists) (h : Head) (at placed read i : ℕ) : Type 0 where
    pub inside : i ≤ length rows
    pub state : lent h after.times after.tags ≡ lent_of (last_of b₀ (first_calls rows stamps seconds frames i))
    pub answers : Filled (map answer_of (run b₀ (first_calls rows stamps seconds frames i))) before.answers after.answers i
    pub lines : Filled (written (all_out lines_in (run b₀ (first_calls rows stamps seconds frames i)))) before.lines after.lines at
    pub ranges : Filled (laid_ranges (all_out ranges_in (run b₀ (first_calls rows stamps seconds frames i)))) before.ranges after.ranges placed
    pub readings : Filled (all_out readings_in (run b₀ (first_calls rows stamps seconds frames i))) before.readings after.readings read
    pub placed_few : placed ≤ total ranges_of_row (take i rows)
    pub read_few : read ≤ i

  pub sofar-none : (h : Head) → lent h before.times before.tags ≡ lent_of b₀ → Sofar before h 0 0 0 0
  unfolding first_calls run last_of all_out total
  sofar-none h e = record {
    inside = omega arith;
    state = e;
    answers = filled_none before.answers;
    lines = filled_none before.lines;
    ranges = filled_none before.ranges;
    readings = filled_none before.readings;
    placed_few = omega arith;
    read_few = omega arith;
  }

  module _ (good : good_buffer b₀ ≡ true) (empty : b₀.frames ≡ []) (fit : Room rows stamps seconds frames before)
      (after : Lists) (k : Head) (at placed read i : ℕ) (S : Sofar after k at placed read i) (h : i < length rows) where
    abbrev s : Lent
    s = lent k after.times after.tags

    abbrev cs : List Call
    cs = first_calls rows stamps seconds frames i

    abbrev b : Buffer
    b = last_of b₀ cs

    b-good : good_buffer b ≡ true
    b-good = facts-good b ((run-lawful b₀ cs).good (good-facts b₀ good))

    at-few : at ≤ total offers_of_row (take i rows)
    at-few =
        omega (
          arith,
          S.lines.count,
          length-map (all_out lines_in (run b₀ cs)) (λ (l : Line). l.number ∷ l.cause ∷ []),
          ap length (lines-out (run b₀ cs)),
          lines-few b₀ cs empty,
          calls-offer i S.inside,
        )

    module _ (row : List ℕ) (er : row ≡ get_or rows i []) where
      row_fits_lem : row_fits (length frames) (length before.lines - total offers_of_row (take i rows)) row ≡ true
      row_fits_lem = rw er (row_at (length frames) (length before.lines) rows i h fit.each)

      -- where the frames offered so far are more than the lines, nothing is asked for
      pub lines-room : at + of_lines (get_or row 0 0) (get_or row 4 0) ≤ length after.lines
      lines-room =
          let k : of_lines (get_or row 0 0) (get_or row 4 0) ≤ length before.lines - total offers_of_row (take i rows) =
          leb-true _ _ (and_left _ _ (and_right (leb (get_or row 0 0) 12) _ row_fits_lem)) in
          omega (arith, at-few, filled-inside S.lines, S.lines.same)

      pub frames-room : first_frame row + frame_count row ≤ length frames
      frames-room = leb-true _ _ (and_right (leb (of_lines (get_or row 0 0) (get_or row 4 0)) _) _ (and_right (leb (get_or row 0 0) 12) _ row_fits_lem))

      row-total : total ranges_of_row (take (suc i) rows) ≡ total ranges_of_row (take i rows) + ranges_of_row row
      row-total = rw er (total-next ranges_of_row rows i [] h)

      pub ranges-room : placed + of_ranges (get_or row 0 0) (get_or row 4 0) ≤ length after.ranges
      ranges-room = omega (arith, S.placed_few, row-total, total-front ranges_of_row rows (suc i), fit.ranges, S.ranges.same)

      module _ (stamp : List ℤ) (second : List Float) (et : stamp ≡ get_or stamps i []) (ex : second ≡ get_or seconds i []) where
        abbrev c : Call
        c = row_call row stamp second (frames_of_row row frames)

        abbrev e : Entry
        e = entry_of c b

        abbrev next : List Call
        next = first_calls rows stamps seconds frames (suc i)

        next-calls : next ≡ cs ++ (c ∷ [])
        unfolding first_calls
        next-calls = rw (er, et, ex)

        next-run : run b₀ next ≡ run b₀ cs ++ (e ∷ [])
        next-run = ap (run b₀) next-calls ∙ run_more b₀ cs c

        next_last : last_of b₀ next ≡ (reply_to c b).after
        next_last = ap (last_of b₀) next-calls ∙ last_more b₀ cs c

        next-out : {A : Type 0} (of : CallResult Answer → List A) → all_out of (run b₀ next) ≡ all_out of (run b₀ cs) ++ of e.result
        next-out of = ap (all_out of) next-run ∙ out-more of (run b₀ cs) e

        shape : Shape (get_or row 0 0) (get_or row 4 0) e.result
        shape = row-shape row stamp second (frames_of_row row frames) b

        pub turn : (t : Step) (answers lines : List (List ℕ)) (spans : List (List ℤ)) (readings : List (List Float)) (ts : List (List ℤ)) (gs : List (List ℕ)) (at' placed' read' : ℕ)
            → CalledAt (reply_on c s) t ts gs after.lines at lines after.ranges placed spans → length lines ≡ length after.lines → length spans ≡ length after.ranges
            → answers ≡ set after.answers i (numbers_of t)
            → readings ≡ written_at after.readings read (noted (get_or row 0 0) t.doubles) → length readings ≡ length after.readings
            → at' ≡ at + of_lines (get_or row 0 0) t.count → placed' ≡ placed + of_ranges (get_or row 0 0) t.count → read' ≡ read + length (noted (get_or row 0 0) t.doubles)
            → Sofar (record { answers = answers; lines = lines; ranges = spans; readings = readings; times = ts; tags = gs }) t.head at' placed' read' (suc i)
        turn t answers lines spans readings ts gs at' placed' read' call ll ls ea er₂ lr eat epl erd =
            let replied : reply_on c s ≡ laid_reply (reply_to c b) = ap (reply_on c) S.state ∙ reply_on_lem c b b-good in
            let told : t ≡ step_of (laid_reply (reply_to c b)) = call.step ∙ ap step_of replied in
            let result : (reply_on c s).result ≡ e.result = ap (λ (r : Replied). r.result) replied in
            let count : t.count ≡ size_of e.result = ap (λ (x : Step). x.count) told in
            let doubles : noted (get_or row 0 0) t.doubles ≡ readings_in e.result = ap (λ (x : Step). noted (get_or row 0 0) x.doubles) told ∙ shape.readings in
            let nlines : of_lines (get_or row 0 0) t.count ≡ length (lines_in e.result) = ap (of_lines (get_or row 0 0)) count ∙ shape.lines in
            let nranges : of_ranges (get_or row 0 0) t.count ≡ length (ranges_in e.result) = ap (of_ranges (get_or row 0 0)) count ∙ shape.ranges in
            let wrote : answers ≡ written_at after.answers i (answer_of e ∷ []) =
            ea ∙ set-written after.answers i _ (omega (arith, S.answers.same, fit.answers)) ∙ ap (λ (x : Step). written_at after.answers i (numbers_of x ∷ [])) told in
            record {
              inside = omega arith;
              state =
                  let head = ap (λ (x : Step). x.head) told in
                  let first = call.times ∙ ap (λ (r : Replied). r.after.times) replied in
                  let second = call.tags ∙ ap (λ (r : Replied). r.after.tags) replied in
                  (λ j. lent (head j) (first j) (second j)) ∙ ap lent_of (sym next_last);
              answers =
                  refilled (sym (ap (map answer_of) next-run ∙ map-append answer_of (run b₀ cs) (e ∷ []))) (omega arith)
                  (filled_more S.answers (answer_of e ∷ []) wrote (ap length ea ∙ length-set after.answers i _));
              lines =
                  refilled (sym (ap written (next-out lines_in) ∙ map-append _ (all_out lines_in (run b₀ cs)) (lines_in e.result)))
                  (omega (arith, eat, nlines, length-map (lines_in e.result) (λ (l : Line). l.number ∷ l.cause ∷ [])))
                  (filled_more S.lines (written (lines_in e.result)) (call.fates ∙ ap (λ (r : CallResult Answer). written_at after.lines at (written (lines_in r))) result) ll);
              ranges =
                  refilled (sym (ap laid_ranges (next-out ranges_in) ∙ map-append _ (all_out ranges_in (run b₀ cs)) (ranges_in e.result)))
                  (omega (arith, epl, nranges, length-map (ranges_in e.result) (λ (r : Range). r.start ∷ r.end ∷ [])))
                  (filled_more S.ranges (laid_ranges (ranges_in e.result)) (call.ranges ∙ ap (λ (r : CallResult Answer). written_at after.ranges placed (laid_ranges (ranges_in r))) result) ls);
              readings =
                  refilled (sym (next-out readings_in)) (omega (arith, erd, ap length doubles))
                  (filled_more S.readings (readings_in e.result) (er₂ ∙ ap (written_at after.readings read) doubles) lr);
              placed_few = omega (arith, epl, nranges, S.placed_few, shape.few, row-total);
              read_few = omega (arith, erd, S.read_few, noted-few (get_or row 0 0) t.doubles);
            }

  pub ended : (after : Lists) (k : Head) (at placed read i : ℕ) → Sofar after k at placed read i → length rows ≤ i
      → Replayed b₀ (encoded_calls rows stamps seconds frames) (record { lines = at; ranges = placed; readings = read; head = k }) before after
  ended after k at placed read i S h =
      let n : i ≡ length rows = omega (arith, S.inside) in
      let all : Sofar after k at placed read (length rows) = subst (Sofar after k at placed read) n S in
      record {
        state = all.state;
        answers = refilled refl (sym (calls-length (length rows))) all.answers;
        lines = refilled (ap written (lines-out (run b₀ (encoded_calls rows stamps seconds frames)))) refl all.lines;
        ranges = all.ranges;
        readings = all.readings;
      }
