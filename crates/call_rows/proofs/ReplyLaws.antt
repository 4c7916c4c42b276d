-- What the contracts of the calls say of any head and arrays, in the run's words and as numbers.
use Rattle.std.specs.Prelude.{Ok, Err, MatchResult, IsOkAnd}
use mathlib.Core.Path.{◌≡◌, refl, sym, ap, ◌∙◌}
use mathlib.Core.Bool.{Bool, true, false}
use mathlib.Core.List.{List, [], ◌∷◌, map}
use Prim.Native.Nat.{ℕ, ◌≤◌, ◌<◌}
use native.Mathlib.Omega.{arith}
use lib.IntN.{ℤ, pos}
use lib.Ieee.{Float, nan}
use lib.ListN.{length, get_or}
use borrow.Author.Tests.{lt-ltb, le-ltb, eq-eqb, ne_eqb}
use Rattle.laws.proofs.BoolLaws.{by-test}
use Rattle.buffer_state.specs.declared.Accepted.{Accepted}
use Rattle.buffer_state.specs.declared.Head.{Head}
use Rattle.buffer_state.specs.declared.Mode.{Mode}
use Rattle.buffer_state.specs.declared.Offered.{Offered}
use Rattle.buffer_state.specs.declared.Refusal.TheVariants.{IllFormed}
use Rattle.buffer_state.specs.Answers.{set_answer, head_set, abort_result, mode_result, offset_result, window_start_result, window_end_result, settings_result, line_count, head_after, times_after, tags_after, list_after, append_result, remove_result, batch_answer, outcome_of, batch_result, range_count, ranges_after, track_ranges_result, common_ranges_result, walked_result, seek_result}
use Rattle.buffer_state.specs.Append.{Outcome, append}
use Rattle.buffer_state.specs.Batch.{offered_in, Batch, batch}
use Rattle.buffer_state.specs.Buffer.{Buffer, with_frames}
use Rattle.buffer_state.specs.Lent.{Lent, times_in, tags_in, lent_of, buffer_in, well_formed_at, on_lent}
use Rattle.buffer_state.specs.Ranges.{Range, track_ranges, common_ranges}
use Rattle.buffer_state.specs.Refusals.{CallResult, refusal_number}
use Rattle.buffer_state.specs.Remove.{remove}
use Rattle.buffer_state.specs.Run.{Call, append_call, remove_call, abort_call, mode_call, offset_call, window_start_call, window_end_call, read_call, ranges_call, common_call, batch_call, walked_call, seek_call, settings, by_outcome, by_setting, by_ranges, by_batch, by_walked, by_seek, reply_to}
use Rattle.buffer_state.specs.declared.Start.{Start}
use Rattle.buffer_state.specs.Seek.{seek}
use Rattle.buffer_state.specs.declared.Reading.{Reading}
use Rattle.buffer_state.specs.Settings.{abort, mode_set, offset_set, window_start_set, window_end_set, reading}
use Rattle.buffer_state.specs.Walked.{walked}
use Rattle.buffer_laws.proofs.AnswerLaws.{Leaves, LeavesBatch}
use Rattle.buffer_laws.proofs.LentLaws.{lent_same, ill-formed-refused, on-well_formed}
use Rattle.buffer_laws.proofs.SettingLaws.{IfDone, Set, abort-set, mode-good, mode-untouched, offset_set_lem, window_start_set_lem, window_end_set_lem}
use Rattle.call_rows.specs.declared.Step.{Step}
use Rattle.call_rows.specs.Encoded.{mode_of, offered_of, lines_call, setting_call, ranges_call_of, call_of}
use Rattle.call_rows.specs.declared.Given.{Given}
use Rattle.call_rows.specs.Replies.{Replied, laid_reply, reply_on, Stepped, Lined, Spanned, IsQuiet, given, counted, done, plain_step, step_in}

-- the test, and a call, on a state between calls
abbrev formed : Lent → Bool
formed s = well_formed_at s.head s.times s.tags

abbrev on : {A : Type 0} → (Buffer → CallResult A) → Lent → CallResult A
on call s = on_lent call s.head s.times s.tags

-- by cases of whether the state is well-formed
on-reply : (P : Replied → Type 0) (c : Call) (s : Lent)
    → (formed s ≡ true → P (laid_reply (reply_to c (buffer_in s)))) → (formed s ≡ false → P (record { result = Err IllFormed; after = s }))
    → P (reply_on c s)
unfolding reply_on
on-reply P c s = by-test P (formed s)

-- a reply that leaves the buffer, laid out, leaves the state
module _ (s : Lent) (w : formed s ≡ true) where
  left-head : s.head ≡ (lent_of (buffer_in s)).head
  left-head = ap (λ (t : Lent). t.head) (sym (lent_same s w))

  left-times : s.times ≡ times_in (buffer_in s)
  left-times = ap (λ (t : Lent). t.times) (sym (lent_same s w))

  left-tags : s.tags ≡ tags_in (buffer_in s)
  left-tags = ap (λ (t : Lent). t.tags) (sym (lent_same s w))

-- ---- append and remove

module _ (s : Lent) (lent : List (List ℕ)) where
  abbrev LinedBy : CallResult Outcome → Replied → Type 0
  LinedBy x r = Lined r (step_in (counted (line_count x)) (head_after x s.head)) (times_after x s.times) (tags_after x s.tags) lent (list_after x lent)

  lined-of : formed s ≡ true → (x : CallResult Outcome) → LinedBy x (laid_reply (by_outcome (buffer_in s) x))
  lined-of w (Err why) rs = record { step = ap (plain_step (refusal_number why) 0) (left-head s w); times = left-times s w; tags = left-tags s w; fates = refl; ranges = refl }
  lined-of w (Ok o) rs = record { step = refl; times = refl; tags = refl; fates = refl; ranges = refl }

  lined-reply : (c : Call) (call : Buffer → CallResult Outcome) → ((b : Buffer) → reply_to c b ≡ by_outcome b (call b)) → LinedBy (on call s) (reply_on c s)
  lined-reply c call e =
      on-reply (LinedBy (on call s)) c s
      (λ w. rw (on-well_formed call s.head s.times s.tags w, e (buffer_in s)) (lined-of w (call (buffer_in s))))
      (λ w. rw (ill-formed-refused call s.head s.times s.tags w) (λ rs. record { step = refl; times = refl; tags = refl; fates = refl; ranges = refl }))

  pub append-reply : (n : ℕ) (f : Offered) → LinedBy (append_result n f s.head s.times s.tags) (reply_on (append_call n f) s)
  unfolding append_result reply_to
  append-reply n f = lined-reply (append_call n f) (append n f) (λ b. refl)

  pub remove-reply : (n : ℕ) (start end : Float) → LinedBy (remove_result n start end s.head s.times s.tags) (reply_on (remove_call n start end) s)
  unfolding remove_result reply_to
  remove-reply n start end = lined-reply (remove_call n start end) (remove n start end) (λ b. refl)

-- ---- a batch

module _ (s : Lent) (lent : List (List ℕ)) where
  abbrev JoinedBy : CallResult Batch → Replied → Type 0
  JoinedBy x r =
      Lined r (step_in (given Given.Batch (batch_answer x)) (head_after (outcome_of x) s.head)) (times_after (outcome_of x) s.times) (tags_after (outcome_of x) s.tags)
      lent (list_after (outcome_of x) lent)

  joined_of : formed s ≡ true → (x : CallResult Batch) → JoinedBy x (laid_reply (by_batch (buffer_in s) x))
  joined_of w (Err why) rs = record { step = ap (plain_step (refusal_number why) 0) (left-head s w); times = left-times s w; tags = left-tags s w; fates = refl; ranges = refl }
  joined_of w (Ok r) rs = record { step = refl; times = refl; tags = refl; fates = refl; ranges = refl }

  pub batch-reply : (n : ℕ) (fs : List Offered) → JoinedBy (batch_result n fs s.head s.times s.tags) (reply_on (batch_call n fs) s)
  unfolding batch_result reply_to
  batch-reply n fs =
      on-reply (JoinedBy (on (batch n fs) s)) (batch_call n fs) s
      (λ w. rw (on-well_formed (batch n fs) s.head s.times s.tags w) (joined_of w (batch n fs (buffer_in s))))
      (λ w. rw (ill-formed-refused (batch n fs) s.head s.times s.tags w) (λ rs. record { step = refl; times = refl; tags = refl; fates = refl; ranges = refl }))

-- ---- the reports

module _ (s : Lent) (lent : List (List ℤ)) where
  abbrev SpannedBy : CallResult (List Range) → Replied → Type 0
  SpannedBy x r = Spanned r (step_in (counted (range_count x)) s.head) s.times s.tags lent (ranges_after x lent)

  spanned-of : formed s ≡ true → (x : CallResult (List Range)) → SpannedBy x (laid_reply (by_ranges (buffer_in s) x))
  spanned-of w (Err why) ls = record { step = ap (plain_step (refusal_number why) 0) (left-head s w); times = left-times s w; tags = left-tags s w; fates = refl; ranges = refl }
  spanned-of w (Ok spans) ls = record { step = ap (plain_step 0 (length spans)) (left-head s w); times = left-times s w; tags = left-tags s w; fates = refl; ranges = refl }

  spanned-reply : (c : Call) (call : Buffer → CallResult (List Range)) → ((b : Buffer) → reply_to c b ≡ by_ranges b (call b)) → SpannedBy (on call s) (reply_on c s)
  spanned-reply c call e =
      on-reply (SpannedBy (on call s)) c s
      (λ w. rw (on-well_formed call s.head s.times s.tags w, e (buffer_in s)) (spanned-of w (call (buffer_in s))))
      (λ w. rw (ill-formed-refused call s.head s.times s.tags w) (λ ls. record { step = refl; times = refl; tags = refl; fates = refl; ranges = refl }))

  pub ranges-reply : (n track : ℕ) → SpannedBy (track_ranges_result n track s.head s.times s.tags) (reply_on (ranges_call n track) s)
  unfolding track_ranges_result reply_to
  ranges-reply n track = spanned-reply (ranges_call n track) (track_ranges n track) (λ b. refl)

  pub common-reply : (n : ℕ) → SpannedBy (common_ranges_result n s.head s.times s.tags) (reply_on (common_call n) s)
  unfolding common_ranges_result reply_to
  common-reply n = spanned-reply (common_call n) (common_ranges n) (λ b. refl)

-- ---- a call that is lent no list

-- from what it comes to on the buffer that the state holds, and what it tells after refusal 1
module _ (s : Lent) {A : Type 0} (told : CallResult A → Head → Step) where
  abbrev QuietBy : CallResult A → Replied → Type 0
  QuietBy x r = IsQuiet r (told x s.head) s.times s.tags

  quiet-reply : (c : Call) (call : Buffer → CallResult A) → (formed s ≡ true → QuietBy (call (buffer_in s)) (laid_reply (reply_to c (buffer_in s))))
      → told (Err IllFormed) s.head ≡ plain_step (refusal_number IllFormed) 0 s.head → QuietBy (on call s) (reply_on c s)
  quiet-reply c call held ill =
      on-reply (QuietBy (on call s)) c s
      (λ w. rw (on-well_formed call s.head s.times s.tags w) (held w))
      (λ w. rw (ill-formed-refused call s.head s.times s.tags w) (λ ls rs. record { step = ill; times = refl; tags = refl; fates = refl; ranges = refl }))

module _ (s : Lent) where
  -- ---- one that leaves the head: a walk, a seek, a reading

  abbrev tell : {A : Type 0} → (A → Given) → CallResult A → Head → Step
  tell case x h = step_in (given case x) h

  module _ (w : formed s ≡ true) where
    walked-of : (x : CallResult ℕ) → QuietBy s (tell Given.Count) x (laid_reply (by_walked (buffer_in s) x))
    walked-of (Err why) ls rs = record { step = ap (plain_step (refusal_number why) 0) (left-head s w); times = left-times s w; tags = left-tags s w; fates = refl; ranges = refl }
    walked-of (Ok n) ls rs = record { step = ap (plain_step 0 n) (left-head s w); times = left-times s w; tags = left-tags s w; fates = refl; ranges = refl }

    sought-of : (x : CallResult Start) → QuietBy s (tell Given.Decoding) x (laid_reply (by_seek (buffer_in s) x))
    sought-of (Err why) ls rs = record { step = ap (plain_step (refusal_number why) 0) (left-head s w); times = left-times s w; tags = left-tags s w; fates = refl; ranges = refl }
    sought-of (Ok x) ls rs = record { step = ap (tell Given.Decoding (Ok x)) (left-head s w); times = left-times s w; tags = left-tags s w; fates = refl; ranges = refl }

    read-of : (r : Reading) → QuietBy s (tell Given.Settings) (Ok r) (laid_reply (record { result = Ok (settings r); after = buffer_in s }))
    read-of r ls rs = record { step = ap (tell Given.Settings (Ok r)) (left-head s w); times = left-times s w; tags = left-tags s w; fates = refl; ranges = refl }

  pub walk-reply : (room track : ℕ) → QuietBy s (tell Given.Count) (walked_result room track s.head s.times s.tags) (reply_on (walked_call room track) s)
  unfolding walked_result reply_to
  walk-reply room track = quiet-reply s (tell Given.Count) (walked_call room track) (walked room track) (λ w. walked-of w (walked room track (buffer_in s))) refl

  pub seek-reply : (track : ℕ) (t : ℤ) → QuietBy s (tell Given.Decoding) (seek_result track t s.head s.times s.tags) (reply_on (seek_call track t) s)
  unfolding seek_result reply_to
  seek-reply track t = quiet-reply s (tell Given.Decoding) (seek_call track t) (seek track t) (λ w. sought-of w (seek track t (buffer_in s))) refl

  pub read-reply : QuietBy s (tell Given.Settings) (settings_result s.head s.times s.tags) (reply_on read_call s)
  unfolding settings_result reply_to
  read-reply = quiet-reply s (tell Given.Settings) read_call (λ b. Ok (reading b)) (λ w. read-of w (reading (buffer_in s))) refl

  -- ---- abort and the setters

  abbrev settle : CallResult Buffer → Head → Step
  settle x h = step_in (done (set_answer x)) (head_set x h)

  -- they touch no frame
  settled-of : formed s ≡ true → (x : CallResult Buffer) → IfDone (Set (buffer_in s)) x → QuietBy s settle x (laid_reply (by_setting (buffer_in s) x))
  settled-of w (Err why) k ls rs = record { step = ap (plain_step (refusal_number why) 0) (left-head s w); times = left-times s w; tags = left-tags s w; fates = refl; ranges = refl }
  settled-of w (Ok b) k ls rs =
      let e = sym k.untouched.frames in
      record {
        step = refl;
        times = left-times s w ∙ (λ i. times_in (with_frames b (e i)));
        tags = left-tags s w ∙ (λ i. tags_in (with_frames b (e i)));
        fates = refl;
        ranges = refl;
      }

  settled-reply : (c : Call) (call : Buffer → CallResult Buffer) → ((b : Buffer) → reply_to c b ≡ by_setting b (call b)) → ((b : Buffer) → IfDone (Set b) (call b))
      → QuietBy s settle (on call s) (reply_on c s)
  settled-reply c call e k = quiet-reply s settle c call (λ w. rw (e (buffer_in s)) (settled-of w (call (buffer_in s)) (k (buffer_in s)))) refl

-- ---- by the kind of call

-- a call that is lent a fate list, from what its function answered and left
module _ (s : Lent) (row : List ℕ) (stamps : List ℤ) (seconds : List Float) (lent : List (List ℕ)) (r : CallResult ℕ) (h : Head) (ts : List (List ℤ)) (gs after : List (List ℕ)) where
  pub append-lined : (f : Offered) → get_or row 0 0 ≡ 0 → f ≡ offered_of row stamps
      → Leaves s.head s.times s.tags lent (append_result (length lent) f s.head s.times s.tags) r h ts gs after
      → Lined (reply_on (lines_call row stamps seconds (length lent)) s) (step_in (counted r) h) ts gs lent after
  append-lined f kind e l =
      let c : lines_call row stamps seconds (length lent) ≡ append_call (length lent) f = rw (eq-eqb _ 0 kind, e) in
      rw (c, l.0, l.1.0, l.1.1.0, l.1.1.1.0, l.1.1.1.1) (append-reply s lent (length lent) f)

  pub remove-lined : (get_or row 0 0 ≡ 0 → ⊥)
      → Leaves s.head s.times s.tags lent (remove_result (length lent) (get_or seconds 0 nan) (get_or seconds 1 nan) s.head s.times s.tags) r h ts gs after
      → Lined (reply_on (lines_call row stamps seconds (length lent)) s) (step_in (counted r) h) ts gs lent after
  remove-lined kind l = rw (ne_eqb (get_or row 0 0) 0 kind, l.0, l.1.0, l.1.1.0, l.1.1.1.0, l.1.1.1.1) (remove-reply s lent (length lent) _ _)

-- one that is lent a range list
module _ (s : Lent) (row : List ℕ) (lent after : List (List ℤ)) (r : CallResult ℕ) where
  pub track-spanned : get_or row 0 0 ≡ 8
      → r ≡ range_count (track_ranges_result (length lent) (get_or row 1 0) s.head s.times s.tags)
      → after ≡ ranges_after (track_ranges_result (length lent) (get_or row 1 0) s.head s.times s.tags) lent
      → Spanned (reply_on (ranges_call_of row (length lent)) s) (step_in (counted r) s.head) s.times s.tags lent after
  track-spanned kind a b =
      let c : ranges_call_of row (length lent) ≡ ranges_call (length lent) (get_or row 1 0) = rw (eq-eqb _ 8 kind) in
      rw (c, a, b) (ranges-reply s lent (length lent) (get_or row 1 0))

  pub common-spanned : (get_or row 0 0 ≡ 8 → ⊥) → r ≡ range_count (common_ranges_result (length lent) s.head s.times s.tags)
      → after ≡ ranges_after (common_ranges_result (length lent) s.head s.times s.tags) lent
      → Spanned (reply_on (ranges_call_of row (length lent)) s) (step_in (counted r) s.head) s.times s.tags lent after
  common-spanned kind a b = rw (ne_eqb (get_or row 0 0) 8 kind, a, b) (common-reply s lent (length lent))

-- abort and the setters
module _ (s : Lent) (flag : ℕ) (x : Float) (r : CallResult (Unit {0})) (h : Head) where
  abbrev Settles : ℕ → Type 0
  Settles kind = IsQuiet (reply_on (setting_call kind flag x) s) (step_in (done r) h) s.times s.tags

  abbrev Sets : CallResult Buffer → Type 0
  Sets y = (r ≡ set_answer y) × (h ≡ head_set y s.head)

  pub abort-quiet : (kind : ℕ) → kind ≡ 2 → Sets (abort_result s.head s.times s.tags) → Settles kind
  unfolding abort_result reply_to
  abort-quiet kind k l = rw (k, l.0, l.1) (settled-reply s abort_call abort (λ b. refl) abort-set)

  pub mode-quiet : (kind : ℕ) (m : Mode) → kind ≡ 3 → m ≡ mode_of flag → Sets (mode_result m s.head s.times s.tags) → Settles kind
  unfolding mode_result reply_to
  mode-quiet kind m k e l =
      rw (k, l.0, l.1, e)
      (settled-reply s (mode_call (mode_of flag)) (λ b. Ok (mode_set (mode_of flag) b)) (λ b. refl)
      (λ b. record { good = mode-good (mode_of flag) b; untouched = mode-untouched (mode_of flag) b }))

  pub offset-quiet : (kind : ℕ) → kind ≡ 4 → Sets (offset_result x s.head s.times s.tags) → Settles kind
  unfolding offset_result reply_to
  offset-quiet kind k l = rw (k, l.0, l.1) (settled-reply s (offset_call x) (offset_set x) (λ b. refl) (offset_set_lem x))

  pub window-start-quiet : (kind : ℕ) → kind ≡ 5 → Sets (window_start_result x s.head s.times s.tags) → Settles kind
  unfolding window_start_result reply_to
  window-start-quiet kind k l = rw (k, l.0, l.1) (settled-reply s (window_start_call x) (window_start_set x) (λ b. refl) (window_start_set_lem x))

  pub window_end-quiet : (kind : ℕ) → (kind ≡ 2 → ⊥) → (kind ≡ 3 → ⊥) → (kind ≡ 4 → ⊥) → (kind ≡ 5 → ⊥) → Sets (window_end_result x s.head s.times s.tags) → Settles kind
  unfolding window_end_result reply_to
  window_end-quiet kind a b c d l =
      rw (ne_eqb kind 2 a, ne_eqb kind 3 b, ne_eqb kind 4 c, ne_eqb kind 5 d, l.0, l.1) (settled-reply s (window_end_call x) (window_end_set x) (λ e. refl) (window_end_set_lem x))

-- ---- any call

module _ (row : List ℕ) (stamps : List ℤ) (seconds : List Float) (frames : List (List ℤ)) (lines places : ℕ) where
  pub walk_call : get_or row 0 0 ≡ 11 → call_of row stamps seconds frames lines places ≡ walked_call places (get_or row 1 0)
  walk_call k = rw k

  -- a kind above that of a walk is a seek
  pub seek_call_lem : 11 < get_or row 0 0 → call_of row stamps seconds frames lines places ≡ seek_call (get_or row 1 0) (get_or stamps 0 (pos 0))
  seek_call_lem k =
      let kind = get_or row 0 0 in
      rw (
        le-ltb kind 2 (omega arith),
        le-ltb kind 7 (omega arith),
        ne_eqb kind 7 (λ e. omega arith),
        le-ltb kind 10 (omega arith),
        ne_eqb kind 10 (λ e. omega arith),
        ne_eqb kind 11 (λ e. omega arith),
      )

-- what `map` gives of a result
pub mapped : {A : Type 0} (case : A → Given) (r : CallResult A) (q : CallResult Given)
    → MatchResult r (λ x. IsOkAnd q (λ y. y ≡ case x)) (λ why. q ≡ Err why) → q ≡ given case r
mapped case (Err why) q e = e
mapped case (Ok x) (Ok y) e = ap Ok e
mapped case (Ok x) (Err why) e = absurd e

module _ (s : Lent) (row : List ℕ) (stamps : List ℤ) (seconds : List Float) (frames : List (List ℤ)) (lines₀ lines : List (List ℕ)) (spans₀ spans : List (List ℤ)) where
  abbrev kind : ℕ
  kind = get_or row 0 0

  abbrev Makes : Step → List (List ℤ) → List (List ℕ) → List (List ℕ) → List (List ℤ) → Type 0
  Makes t ts gs ls rs = Stepped (reply_on (call_of row stamps seconds frames (length lines₀) (length spans₀)) s) t ts gs lines₀ ls spans₀ rs

  pub made-lines : (t : Step) (ts : List (List ℤ)) (gs : List (List ℕ)) → kind < 2
      → Lined (reply_on (lines_call row stamps seconds (length lines₀)) s) t ts gs lines₀ lines → Makes t ts gs lines spans₀
  made-lines t ts gs k h = rw (lt-ltb kind 2 k) (h spans₀)

  pub made-setting : (t : Step) → 2 ≤ kind → kind < 7
      → IsQuiet (reply_on (setting_call kind (get_or row 2 0) (get_or seconds 0 nan)) s) t s.times s.tags → Makes t s.times s.tags lines₀ spans₀
  made-setting t k l h = rw (le-ltb kind 2 k, lt-ltb kind 7 l) (h lines₀ spans₀)

  pub made-reading : (q : CallResult Given) → kind ≡ 7 → q ≡ given Given.Settings (settings_result s.head s.times s.tags)
      → Makes (step_in q s.head) s.times s.tags lines₀ spans₀
  made-reading q k e = rw (k, e) (read-reply s lines₀ spans₀)

  pub made-ranges : (t : Step) → 7 < kind → kind < 10
      → Spanned (reply_on (ranges_call_of row (length spans₀)) s) t s.times s.tags spans₀ spans → Makes t s.times s.tags lines₀ spans
  made-ranges t k m h = rw (le-ltb kind 2 (omega arith), le-ltb kind 7 (omega arith), ne_eqb kind 7 (λ e. omega arith), lt-ltb kind 10 m) (h lines₀)

  pub made-batch : (r : CallResult Accepted) (q : CallResult Given) (h : Head) (ts : List (List ℤ)) (gs : List (List ℕ)) → kind ≡ 10 → q ≡ given Given.Batch r
      → LeavesBatch s.head s.times s.tags lines₀ (batch_result (length lines₀) (map offered_in frames) s.head s.times s.tags) r h ts gs lines
      → Makes (step_in q h) ts gs lines spans₀
  made-batch r q h ts gs k e l =
      rw (k, e, l.0, l.1.0, l.1.1.0, l.1.1.1.0, l.1.1.1.1) (batch-reply s lines₀ (length lines₀) (map offered_in frames) spans₀)

  pub made-walk : (q : CallResult Given) → kind ≡ 11 → q ≡ counted (walked_result (length spans₀) (get_or row 1 0) s.head s.times s.tags)
      → Makes (step_in q s.head) s.times s.tags lines₀ spans₀
  made-walk q k e = rw (walk_call row stamps seconds frames (length lines₀) (length spans₀) k, e) (walk-reply s (length spans₀) (get_or row 1 0) lines₀ spans₀)

  pub made-seek : (q : CallResult Given) → 11 < kind → q ≡ given Given.Decoding (seek_result (get_or row 1 0) (get_or stamps 0 (pos 0)) s.head s.times s.tags)
      → Makes (step_in q s.head) s.times s.tags lines₀ spans₀
  made-seek q k e =
      rw (seek_call_lem row stamps seconds frames (length lines₀) (length spans₀) k, e) (seek-reply s (get_or row 1 0) (get_or stamps 0 (pos 0)) lines₀ spans₀)
