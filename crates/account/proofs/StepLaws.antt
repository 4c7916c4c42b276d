-- What a call's contract says on the state that holds a good buffer, in the run's words: the run's reply on that buffer.
use Rattle.std.specs.Prelude.{Ok, Err}
use mathlib.Core.Path.{◌≡◌, refl, sym, ap, ◌∙◌}
use mathlib.Core.Bool.{true}
use mathlib.Core.List.{List, [], ◌∷◌, ◌++◌, map}
use Prim.Native.Nat.{ℕ}
use lib.IntN.{ℤ}
use lib.Ieee.{Float}
use lib.ListN.{length, take, drop, length-map}
use lib.Seq.{take_at}
use Rattle.buffer_state.specs.declared.Accepted.{Accepted}
use Rattle.buffer_state.specs.declared.Head.{Head}
use Rattle.buffer_state.specs.declared.Mode.{Mode}
use Rattle.buffer_state.specs.declared.Offered.{Offered}
use Rattle.buffer_state.specs.declared.Reading.{Reading}
use Rattle.buffer_state.specs.declared.Start.{Start}
use Rattle.buffer_state.specs.Answers.{set_answer, head_set, abort_result, mode_result, offset_result, window_start_result, window_end_result, settings_result, line_count, head_after, times_after, tags_after, list_after, append_result, remove_result, batch_answer, outcome_of, batch_result, range_count, ranges_after, track_ranges_result, common_ranges_result, walked_result, seek_result}
use Rattle.buffer_state.specs.Append as Append
use Rattle.buffer_state.specs.Append.{Outcome}
use Rattle.buffer_state.specs.Batch as Batch
use Rattle.buffer_state.specs.Batch.{offered_in}
use Rattle.buffer_state.specs.Buffer.{Buffer, with_frames}
use Rattle.buffer_state.specs.Lent.{Lent, head_of, times_in, tags_in, lent_of, on_lent}
use Rattle.buffer_state.specs.Ranges as Ranges
use Rattle.buffer_state.specs.Ranges.{Range}
use Rattle.buffer_state.specs.Refusals.{CallResult}
use Rattle.buffer_state.specs.Remove as Remove
use Rattle.buffer_state.specs.Run.{Answer, fates, settings, ranges, accepted, taken, decoding, Reply, by_outcome, by_setting, by_ranges, by_batch, by_walked, by_seek, reply_to}
use Rattle.buffer_state.specs.Seek as Seek
use Rattle.buffer_state.specs.Settings as Settings
use Rattle.buffer_state.specs.Settings.{mode_set, offset_set, window_start_set, window_end_set, reading}
use Rattle.buffer_state.specs.Store.{Line}
use Rattle.buffer_state.specs.Walked as Walked
use Rattle.buffer_state.specs.WellFormed.{good_buffer}
use Rattle.buffer_laws.proofs.AnswerLaws.{Leaves, LeavesBatch}
use Rattle.buffer_laws.proofs.LentLaws.{on-laid-out}
use Rattle.buffer_laws.proofs.SettingLaws as Setting
use Rattle.buffer_laws.proofs.SettingLaws.{IfDone, abort-set, mode-good, mode-untouched, offset_set_lem, window_start_set_lem, window_end_set_lem}
use Rattle.ranges.specs.Bars.{Reported}
use Rattle.account.specs.Made.{Given, append, remove, abort, set_mode, set_offset, set_window_start, set_window_end, read_settings, track_ranges, common_ranges, batch, walked, seek, asked_call, Back, line_of, range_of, told, lines_of, joined_of, ranges_of, done_of, result_of, written_lines, KeptPast, Kept, KeptBy}

-- a call made on a state agrees with the run's reply: its result, the state that it leaves, what stays of a lent list
pub record Agrees (b : Buffer) (g : Given) (back : Back g) (s : Lent) : Type 0 where
  pub result : result_of g back ≡ (reply_to (asked_call g) b).result
  pub state : s ≡ lent_of (reply_to (asked_call g) b).after
  pub kept : KeptBy g back

-- ---- a list that was written: read back, and what stays

map_back : {A B : Type 0} (f : A → B) (g : B → A) → ((x : A) → g (f x) ≡ x) → (l : List A) → map g (map f l) ≡ l
map_back f g e [] = refl
map_back f g e (x ∷ l) = λ i. e x i ∷ map_back f g e l i

module _ {A B : Type 0} (f : A → B) (g : B → A) (e : (x : A) → g (f x) ≡ x) (l : List A) (rest : List B) where
  first : take (length l) (map f l ++ rest) ≡ map f l
  first = take_at (map f l) rest (length l) (length-map l f)

  read_back : map g (take (length l) (map f l ++ rest)) ≡ l
  read_back = ap (map g) first ∙ map_back f g e l

  stays : map f l ++ rest ≡ take (length l) (map f l ++ rest) ++ rest
  stays = ap (λ (xs : List B). xs ++ rest) (sym first)

-- ---- what the answers of one kind say, for any result

-- a line as it is written
abbrev line : Line → List ℕ
line l = l.number ∷ l.cause ∷ []

-- append and remove
record Lined (b : Buffer) (x : CallResult Outcome) (lent : List (List ℕ)) (r : CallResult ℕ) (h : Head) (ts : List (List ℤ)) (gs after : List (List ℕ)) : Type 0 where
  pub result : lines_of (record { answer = r; after = after }) ≡ (by_outcome b x).result
  pub state : ◌≡◌ {A = Lent} (record { head = h; times = ts; tags = gs }) (lent_of (by_outcome b x).after)
  pub kept : Kept lent (record { answer = r; after = after })

lined : (b : Buffer) (x : CallResult Outcome) (lent : List (List ℕ))
    → Lined b x lent (line_count x) (head_after x (head_of b)) (times_after x (times_in b)) (tags_after x (tags_in b)) (list_after x lent)
lined b (Err why) lent = record { result = refl; state = refl; kept = refl }
lined b (Ok o) lent =
    let ls = o.lines in
    let rest = drop (length ls) lent in
    record {
      result = ap (λ (l : List Line). Ok (fates l)) (read_back line line_of (λ x. refl) ls rest);
      state = refl;
      kept = stays line line_of (λ x. refl) ls rest;
    }

-- a batch
record Joint (b : Buffer) (x : CallResult Batch.Batch) (lent : List (List ℕ)) (r : CallResult Accepted) (h : Head) (ts : List (List ℤ)) (gs after : List (List ℕ)) : Type 0 where
  pub result : joined_of (record { answer = r; after = after }) ≡ (by_batch b x).result
  pub state : ◌≡◌ {A = Lent} (record { head = h; times = ts; tags = gs }) (lent_of (by_batch b x).after)
  pub kept : KeptPast (written_lines r) lent after

joint : (b : Buffer) (x : CallResult Batch.Batch) (lent : List (List ℕ))
    → Joint b x lent (batch_answer x) (head_after (outcome_of x) (head_of b)) (times_after (outcome_of x) (times_in b)) (tags_after (outcome_of x) (tags_in b)) (list_after (outcome_of x) lent)
joint b (Err why) lent = record { result = refl; state = refl; kept = refl }
joint b (Ok r) lent =
    let rest = drop (length r.outcome.lines) lent in
    record {
      result = ap (λ (l : List Line). Ok (accepted r.accepted r.stop l)) (read_back line line_of (λ x. refl) r.outcome.lines rest);
      state = refl;
      kept = stays line line_of (λ x. refl) r.outcome.lines rest;
    }

-- the reports
record Spanned (b : Buffer) (x : CallResult (List Range)) (lent : List (List ℤ)) (r : CallResult ℕ) (after : List (List ℤ)) : Type 0 where
  pub result : ranges_of (record { answer = r; after = after }) ≡ (by_ranges b x).result
  pub state : lent_of b ≡ lent_of (by_ranges b x).after
  pub kept : Kept lent (record { answer = r; after = after })

spanned : (b : Buffer) (x : CallResult (List Range)) (lent : List (List ℤ)) → Spanned b x lent (range_count x) (ranges_after x lent)
spanned b (Err why) lent = record { result = refl; state = refl; kept = refl }
spanned b (Ok rs) lent =
    let place : Range → List ℤ = λ r. r.start ∷ r.end ∷ [] in
    let rest = drop (length rs) lent in
    record {
      result = ap (λ (l : List Range). Ok (ranges l)) (read_back place range_of (λ x. refl) rs rest);
      state = refl;
      kept = stays place range_of (λ x. refl) rs rest;
    }

-- a walk and a seek, which leave the buffer
record Told (b : Buffer) (r : CallResult Answer) (x : Reply) : Type 0 where
  pub result : r ≡ x.result
  pub state : lent_of b ≡ lent_of x.after

walk : (b : Buffer) (x : CallResult ℕ) → Told b (told taken x) (by_walked b x)
walk b (Err why) = record { result = refl; state = refl }
walk b (Ok n) = record { result = refl; state = refl }

seeks : (b : Buffer) (x : CallResult Start) → Told b (told decoding x) (by_seek b x)
seeks b (Err why) = record { result = refl; state = refl }
seeks b (Ok s) = record { result = refl; state = refl }

-- abort and the setters, which touch no frame
record Set (b : Buffer) (x : CallResult Buffer) (r : CallResult (Unit {0})) (h : Head) : Type 0 where
  pub result : done_of r ≡ (by_setting b x).result
  pub state : ◌≡◌ {A = Lent} (record { head = h; times = times_in b; tags = tags_in b }) (lent_of (by_setting b x).after)

set : (b : Buffer) (x : CallResult Buffer) → IfDone (Setting.Set b) x → Set b x (set_answer x) (head_set x (head_of b))
set b (Err why) k = record { result = refl; state = refl }
set b (Ok c) k =
    let e = sym k.untouched.frames in
    record {
      result = refl;
      state = λ i. record { head = head_of c; times = times_in (with_frames b (e i)); tags = tags_in (with_frames b (e i)) };
    }

-- ---- each call, on the state that holds a good buffer

module _ (b : Buffer) (good : good_buffer b ≡ true) (s : Lent) (here : s ≡ lent_of b) where
  on-buffer : {A : Type 0} (call : Buffer → CallResult A) → on_lent call s.head s.times s.tags ≡ call b
  on-buffer call = ap (λ (t : Lent). on_lent call t.head t.times t.tags) here ∙ on-laid-out call b good

  outcome : (call : Buffer → CallResult Outcome) (lent : List (List ℕ)) (r : CallResult ℕ) (h : Head) (ts : List (List ℤ)) (gs after : List (List ℕ))
      → Leaves s.head s.times s.tags lent (on_lent call s.head s.times s.tags) r h ts gs after → Lined b (call b) lent r h ts gs after
  outcome call lent r h ts gs after l =
      let x = on-buffer call in
      let a : r ≡ line_count (call b) = l.0 ∙ ap line_count x in
      let d : h ≡ head_after (call b) (head_of b) = l.1.0 ∙ (λ i. head_after (x i) (here i).head) in
      let f : ts ≡ times_after (call b) (times_in b) = l.1.1.0 ∙ (λ i. times_after (x i) (here i).times) in
      let g : gs ≡ tags_after (call b) (tags_in b) = l.1.1.1.0 ∙ (λ i. tags_after (x i) (here i).tags) in
      let k : after ≡ list_after (call b) lent = l.1.1.1.1 ∙ ap (λ (y : CallResult Outcome). list_after y lent) x in
      rw (a, d, f, g, k) (lined b (call b) lent)

  joint-outcome : (call : Buffer → CallResult Batch.Batch) (lent : List (List ℕ)) (r : CallResult Accepted) (h : Head) (ts : List (List ℤ)) (gs after : List (List ℕ))
      → LeavesBatch s.head s.times s.tags lent (on_lent call s.head s.times s.tags) r h ts gs after → Joint b (call b) lent r h ts gs after
  joint-outcome call lent r h ts gs after l =
      let x = on-buffer call in
      let a : r ≡ batch_answer (call b) = l.0 ∙ ap batch_answer x in
      let d : h ≡ head_after (outcome_of (call b)) (head_of b) = l.1.0 ∙ (λ i. head_after (outcome_of (x i)) (here i).head) in
      let f : ts ≡ times_after (outcome_of (call b)) (times_in b) = l.1.1.0 ∙ (λ i. times_after (outcome_of (x i)) (here i).times) in
      let g : gs ≡ tags_after (outcome_of (call b)) (tags_in b) = l.1.1.1.0 ∙ (λ i. tags_after (outcome_of (x i)) (here i).tags) in
      let k : after ≡ list_after (outcome_of (call b)) lent = l.1.1.1.1 ∙ ap (λ (y : CallResult Batch.Batch). list_after (outcome_of y) lent) x in
      rw (a, d, f, g, k) (joint b (call b) lent)

  report : (call : Buffer → CallResult (List Range)) (lent after : List (List ℤ)) (r : CallResult ℕ)
      → Reported r after (on_lent call s.head s.times s.tags) lent → Spanned b (call b) lent r after
  report call lent after r l =
      let e : r ≡ range_count (call b) = l.answer ∙ ap range_count (on-buffer call) in
      let f : after ≡ ranges_after (call b) lent = l.list ∙ ap (λ (x : CallResult (List Range)). ranges_after x lent) (on-buffer call) in
      rw (e, f) (spanned b (call b) lent)

  -- the state after a call that changes the head alone
  abbrev under : Head → Lent
  under h = record { head = h; times = s.times; tags = s.tags }

  -- what a setter answers, and the head after it
  abbrev Sets : CallResult Buffer → CallResult (Unit {0}) → Head → Type 0
  Sets x r h = (r ≡ set_answer x) × (h ≡ head_set x s.head)

  module _ (call : Buffer → CallResult Buffer) (untouched : IfDone (Setting.Set b) (call b)) (r : CallResult (Unit {0})) (h : Head)
      (l : Sets (on_lent call s.head s.times s.tags) r h) where
    set_to : Set b (call b) r h
    set_to =
        let x = on-buffer call in
        let e : r ≡ set_answer (call b) = l.0 ∙ ap set_answer x in
        let f : h ≡ head_set (call b) (head_of b) = l.1 ∙ (λ i. head_set (x i) (here i).head) in
        rw (e, f) (set b (call b) untouched)

    -- the arrays stay as they are
    set-state : under h ≡ lent_of (by_setting b (call b)).after
    set-state = (λ i. record { head = h; times = (here i).times; tags = (here i).tags }) ∙ set_to.state

  module _ (lent : List (List ℕ)) (h : Head) (ts : List (List ℤ)) (gs after : List (List ℕ)) where
    -- the state after a call that writes lines
    abbrev state : Lent
    state = record { head = h; times = ts; tags = gs }

    pub append-agrees : (f : Offered) (r : CallResult ℕ) → Leaves s.head s.times s.tags lent (append_result (length lent) f s.head s.times s.tags) r h ts gs after
        → Agrees b (append f lent) (record { answer = r; after = after }) state
    unfolding append_result reply_to
    append-agrees f r l =
        let o = outcome (Append.append (length lent) f) lent r h ts gs after l in
        record { result = o.result; state = o.state; kept = o.kept }

    pub remove-agrees : (start end : Float) (r : CallResult ℕ) → Leaves s.head s.times s.tags lent (remove_result (length lent) start end s.head s.times s.tags) r h ts gs after
        → Agrees b (remove start end lent) (record { answer = r; after = after }) state
    unfolding remove_result reply_to
    remove-agrees start end r l =
        let o = outcome (Remove.remove (length lent) start end) lent r h ts gs after l in
        record { result = o.result; state = o.state; kept = o.kept }

    pub batch-agrees : (rows : List (List ℤ)) (r : CallResult Accepted)
        → LeavesBatch s.head s.times s.tags lent (batch_result (length lent) (map offered_in rows) s.head s.times s.tags) r h ts gs after
        → Agrees b (batch rows lent) (record { answer = r; after = after }) state
    unfolding batch_result reply_to
    batch-agrees rows r l =
        let o = joint-outcome (Batch.batch (length lent) (map offered_in rows)) lent r h ts gs after l in
        record { result = o.result; state = o.state; kept = o.kept }

  module _ (r : CallResult (Unit {0})) (h : Head) where
    pub abort-agrees : Sets (abort_result s.head s.times s.tags) r h → Agrees b abort r (under h)
    unfolding abort_result reply_to
    abort-agrees l =
        record { result = (set_to Settings.abort (abort-set b) r h l).result; state = set-state Settings.abort (abort-set b) r h l; kept = tt }

    pub mode-agrees : (m : Mode) → Sets (mode_result m s.head s.times s.tags) r h → Agrees b (set_mode m) r (under h)
    unfolding mode_result reply_to
    mode-agrees m l =
        let call : Buffer → CallResult Buffer = λ c. Ok (mode_set m c) in
        let k : IfDone (Setting.Set b) (call b) = record { good = mode-good m b; untouched = mode-untouched m b } in
        record { result = (set_to call k r h l).result; state = set-state call k r h l; kept = tt }

    pub offset-agrees : (x : Float) → Sets (offset_result x s.head s.times s.tags) r h → Agrees b (set_offset x) r (under h)
    unfolding offset_result reply_to
    offset-agrees x l =
        let k = offset_set_lem x b in
        record { result = (set_to (offset_set x) k r h l).result; state = set-state (offset_set x) k r h l; kept = tt }

    pub window-start-agrees : (x : Float) → Sets (window_start_result x s.head s.times s.tags) r h → Agrees b (set_window_start x) r (under h)
    unfolding window_start_result reply_to
    window-start-agrees x l =
        let k = window_start_set_lem x b in
        record { result = (set_to (window_start_set x) k r h l).result; state = set-state (window_start_set x) k r h l; kept = tt }

    pub window_end-agrees : (x : Float) → Sets (window_end_result x s.head s.times s.tags) r h → Agrees b (set_window_end x) r (under h)
    unfolding window_end_result reply_to
    window_end-agrees x l =
        let k = window_end_set_lem x b in
        record { result = (set_to (window_end_set x) k r h l).result; state = set-state (window_end_set x) k r h l; kept = tt }

  pub reading-agrees : (r : CallResult Reading) → r ≡ settings_result s.head s.times s.tags → Agrees b read_settings r s
  unfolding settings_result reply_to
  reading-agrees r l =
      record { result = ap (told settings) (l ∙ on-buffer (λ (c : Buffer). Ok (reading c))); state = here; kept = tt }

  pub track_ranges-agrees : (track : ℕ) (lent after : List (List ℤ)) (r : CallResult ℕ) → Reported r after (track_ranges_result (length lent) track s.head s.times s.tags) lent
      → Agrees b (track_ranges track lent) (record { answer = r; after = after }) s
  unfolding track_ranges_result reply_to
  track_ranges-agrees track lent after r l =
      let o = report (Ranges.track_ranges (length lent) track) lent after r l in
      record { result = o.result; state = here ∙ o.state; kept = o.kept }

  pub common_ranges-agrees : (lent after : List (List ℤ)) (r : CallResult ℕ) → Reported r after (common_ranges_result (length lent) s.head s.times s.tags) lent
      → Agrees b (common_ranges lent) (record { answer = r; after = after }) s
  unfolding common_ranges_result reply_to
  common_ranges-agrees lent after r l =
      let o = report (Ranges.common_ranges (length lent)) lent after r l in
      record { result = o.result; state = here ∙ o.state; kept = o.kept }

  pub walked-agrees : (track room : ℕ) (r : CallResult ℕ) → r ≡ walked_result room track s.head s.times s.tags → Agrees b (walked track room) r s
  unfolding walked_result reply_to
  walked-agrees track room r l =
      let call = Walked.walked room track in
      let o = walk b (call b) in
      record { result = ap (told taken) (l ∙ on-buffer call) ∙ o.result; state = here ∙ o.state; kept = tt }

  pub seek-agrees : (track : ℕ) (t : ℤ) (r : CallResult Start) → r ≡ seek_result track t s.head s.times s.tags → Agrees b (seek track t) r s
  unfolding seek_result reply_to
  seek-agrees track t r l =
      let call = Seek.seek track t in
      let o = seeks b (call b) in
      record { result = ap (told decoding) (l ∙ on-buffer call) ∙ o.result; state = here ∙ o.state; kept = tt }
