-- From frame to frame of a batch: the state that an accepted frame leaves, the lines joined, and what a batch that ends here comes to.
use Rattle.std.specs.Prelude.{Option, None, Some, Result, Ok, Err}
use mathlib.Core.Path.{◌≡◌, refl, sym, ap, subst, ◌∙◌}
use mathlib.Core.Bool.{Bool, true, false}
use mathlib.Core.List.{List, [], ◌∷◌, ◌++◌, append-nil, append_assoc, map, map-append}
use Prim.Native.Nat.{ℕ, suc, ◌+◌, ◌≤◌, ◌<◌}
use native.Mathlib.Nat.{add-zero}
use native.Mathlib.Numerals.{add-one}
use native.Mathlib.Omega.{arith}
use lib.IntN.{ℤ}
use lib.ListN.{length, take, drop, get_or, length-append, length-map, length-drop, take-append-drop, get_or-map}
use lib.Seq.{drop-cons, take_at, drop_at, drop-drop}
use lib.Signed.{le_z}
use Rattle.laws.proofs.BoolLaws.{clash}
use Rattle.buffer_state.specs.declared.Accepted.{Accepted}
use Rattle.buffer_state.specs.declared.Head.{Head}
use Rattle.buffer_state.specs.declared.Offered.{Offered}
use Rattle.buffer_state.specs.declared.Refusal.{Refusal}
use Rattle.buffer_state.specs.Answers.{line_count, head_after, times_after, tags_after, written, list_after, append_result, batch_answer}
use Rattle.buffer_state.specs.Append.{Outcome, append}
use Rattle.buffer_state.specs.Batch.{Batch, offered_in, ended, onward, following_batch, append_each, most_frames, batch_lines}
use Rattle.buffer_state.specs.Buffer.{Buffer, track_of}
use Rattle.buffer_state.specs.Layout.{buffer_of}
use Rattle.buffer_state.specs.Lent.{state_at, head_of, times_in, tags_in, well_formed_at}
use Rattle.buffer_state.specs.Limits.{places}
use Rattle.buffer_state.specs.Refusals.{CallResult}
use Rattle.buffer_state.specs.Run.{append_call, by_outcome, reply_to}
use Rattle.buffer_state.specs.Store.{Line}
use Rattle.buffer_laws.proofs.AnswerLaws.{LeavesBatch}
use Rattle.buffer_laws.proofs.BatchLaws.{append-good, append-count}
use Rattle.buffer_laws.proofs.KindLaws.{kinds_of, reply-kinds}
use Rattle.buffer_laws.proofs.LayoutLaws.{few-tracks}
use Rattle.buffer_laws.proofs.LentLaws.{lent-good, lent_back, held_back, laid-well_formed, on-well_formed}
use Rattle.heads.specs.Heads.{HasTrack}
use Rattle.append.proofs.StoredLaws.{held-count}
use Rattle.batch.specs.Bounds.{bound_at, IsBounded, Raised}
use Rattle.batch.specs.Each.{onwards, Going}
use Rattle.batch.proofs.BoundLaws.{accepted-from, accepted-to, after-bounded}

-- ---- the rows

pub rows_next : (rows : List (List ℤ)) (i : ℕ) → i < length rows → drop i (map offered_in rows) ≡ offered_in (get_or rows i []) ∷ drop (i + 1) (map offered_in rows)
rows_next rows i h =
    let inside : i < length (map offered_in rows) = rw length-map h in
    let first = get_or-map offered_in rows i [] in
    rw (add-one) (drop-cons (map offered_in rows) i (offered_in []) inside ∙ ap (λ (f : Offered). f ∷ drop (suc i) (map offered_in rows)) first)

-- ---- the lines

-- written after those told before
module _ (told more : List Line) (before : List (List ℕ)) (at : ℕ) (count : at ≡ length told) where
  told-length : length (written told) ≡ at
  told-length = length-map told _ ∙ sym count

  lines-joined : let list = written told ++ drop at before in take at list ++ (written more ++ drop (length more) (drop at list))
      ≡ written (told ++ more) ++ drop (at + length more) before
  lines-joined =
      let front = take_at (written told) (drop at before) at told-length in
      let rest = ap (drop (length more)) (drop_at (written told) (drop at before) at told-length) ∙ drop-drop (length more) at before in
      (λ j. front j ++ (written more ++ rest j)) ∙ sym (append_assoc (written told) (written more) (drop (at + length more) before))
      ∙ ap (λ (l : List (List ℕ)). l ++ drop (at + length more) before) (sym (map-append _ told more))

-- ---- a batch with one frame more accepted

onwards-more : (i : ℕ) (told : List Line) (o : Outcome) (r : Batch) → onwards i told (onward o r) ≡ onwards (i + 1) (told ++ o.lines) r
onwards-more i told o r =
    let count : i + suc r.accepted ≡ i + 1 + r.accepted = omega arith in
    let lines = sym (append_assoc told o.lines r.outcome.lines) in
    λ j. record { outcome = record { after = r.outcome.after; lines = lines j }; accepted = count j; stop = r.stop }

-- ---- what an answer says

abbrev is_done : Result ℕ Refusal → Bool
is_done (Ok n) = true
is_done (Err why) = false

abbrev count_in : Result ℕ Refusal → ℕ
count_in (Ok n) = n
count_in (Err why) = 0

abbrev why_in : Result ℕ Refusal → Refusal → Refusal
why_in (Ok n) other = other
why_in (Err why) other = why

-- ---- before the first frame

module _ (h : Head) (ts : List (List ℤ)) (gs : List (List ℕ)) (w : well_formed_at h ts gs ≡ true) where
  pub going-first : (fs : List Offered) (lines₀ : List (List ℕ)) (bounds : List ℤ) → IsBounded bounds (buffer_of (state_at h ts gs)).frames
      → Going (buffer_of (state_at h ts gs)) fs lines₀ 0 h ts gs bounds 0 lines₀
  going-first fs lines₀ bounds bounded =
      let r = append_each fs (buffer_of (state_at h ts gs)) in
      let count : r.accepted ≡ 0 + r.accepted = omega arith in
      record {
        whole = w;
        told = [];
        rest = λ j. record { outcome = r.outcome; accepted = count j; stop = r.stop };
        count = refl;
        list = refl;
        room = omega (arith, held-count h ts gs w);
        bounded = bounded;
      }

-- ---- after i frames

module _ (b : Buffer) (fs : List Offered) (lines₀ : List (List ℕ)) (i : ℕ) (h : Head) (ts : List (List ℤ)) (gs : List (List ℕ)) (bounds : List ℤ) (at : ℕ) (lines : List (List ℕ)) (g : Going b fs lines₀ i h ts gs bounds at lines) where
  abbrev held : Buffer
  held = buffer_of (state_at h ts gs)

  same_lines : at ≤ length lines₀ → length lines ≡ length lines₀
  same_lines few =
      omega (arith, g.count, ap length g.list, length-append (written g.told) (drop at lines₀), length-map g.told (λ (l : Line). l.number ∷ l.cause ∷ []), length-drop at lines₀)

  -- there is a line for each stored frame, and one more
  pub room-left : length fs ≤ most_frames → batch_lines ≤ length lines₀ → length b.frames ≤ places → i < length fs → at + h.nframes < length lines
  room-left few long stored inside =
      omega (arith, g.room, same_lines (omega (arith, g.room)))

  -- the result on the head and the arrays is that on the buffer
  pub result-held : (f : Offered) → append places f held ≡ append_result places f h ts gs
  unfolding append_result
  result-held f = sym (on-well_formed (append places f) h ts gs g.whole)

  -- ---- no frame more

  -- what a batch of these frames leaves: the answer, the head, both arrays, the fate list
  abbrev pub IsFinished : Head → Accepted → Head → List (List ℤ) → List (List ℕ) → List (List ℕ) → Type 0
  IsFinished start r head ts' gs' lines' = LeavesBatch start ts gs lines₀ (Ok (append_each fs b)) (Ok r) head ts' gs' lines'

  finishes : (stop : Option Refusal) → append_each fs b ≡ onwards i g.told (ended held stop) → (start : Head) → IsFinished start (record { frames = i; lines = at; stop = stop }) h ts gs lines
  finishes stop e start =
      let told : g.told ++ [] ≡ g.told = append-nil g.told in
      let accepted : i + 0 ≡ i = add-zero i in
      let all : append_each fs b ≡ record { outcome = record { after = held; lines = g.told }; accepted = i; stop = stop } =
      e ∙ (λ j. record { outcome = record { after = held; lines = told j }; accepted = accepted j; stop = stop }) in
      let laid = lent_back h ts gs g.whole in
      let count = g.count in (
        (λ j. Ok (record { frames = i; lines = count j; stop = stop })) ∙ ap (λ (r : Batch). batch_answer (Ok r)) (sym all),
        (
          laid.head ∙ ap (λ (r : Batch). head_of r.outcome.after) (sym all),
          (
            laid.times ∙ ap (λ (r : Batch). times_in r.outcome.after) (sym all),
            (
              laid.tags ∙ ap (λ (r : Batch). tags_in r.outcome.after) (sym all),
              g.list ∙ ap (λ (k : ℕ). written g.told ++ drop k lines₀) count
                  ∙ ap (λ (r : Batch). written r.outcome.lines ++ drop (length r.outcome.lines) lines₀) (sym all),
            ),
          ),
        ),
      )

  -- every frame is accepted
  pub ends : drop i fs ≡ [] → (start : Head) → IsFinished start (record { frames = i; lines = at; stop = None }) h ts gs lines
  unfolding append_each
  ends none start = finishes None (g.rest ∙ ap (λ (l : List Offered). onwards i g.told (append_each l held)) none) start

  -- ---- the next frame

  module _ (f : Offered) (next : drop i fs ≡ f ∷ drop (i + 1) fs) where
    step : (x : CallResult Outcome) → append places f held ≡ x → append_each fs b ≡ onwards i g.told (following_batch (append_each (drop (i + 1) fs)) held x)
    unfolding append_each
    step x e =
        g.rest ∙ ap (λ (l : List Offered). onwards i g.told (append_each l held)) next
        ∙ ap (λ (y : CallResult Outcome). onwards i g.told (following_batch (append_each (drop (i + 1) fs)) held y)) e

    -- a frame that is refused changes nothing, and the batch ends
    pub stops : (x : CallResult Outcome) → append places f held ≡ x → (why : Refusal) → Err why ≡ line_count x → (start : Head)
        → {h' : Head} {ts' : List (List ℤ)} {gs' lines' : List (List ℕ)}
        → h' ≡ head_after x h → ts' ≡ times_after x ts → gs' ≡ tags_after x gs → lines' ≡ take at lines ++ list_after x (drop at lines)
        → IsFinished start (record { frames = i; lines = at; stop = Some why }) h' ts' gs' lines'
    stops (Err w) e why d start o p q t =
        let same : why ≡ w = ap (λ (r : Result ℕ Refusal). why_in r why) d in
        let l = finishes (Some w) (step (Err w) e) start in
        ((λ j. Ok (record { frames = i; lines = at; stop = Some (same j) })) ∙ l.0, (o ∙ l.1.0, (p ∙ l.1.1.0, (q ∙ l.1.1.1.0, t ∙ take-append-drop at lines ∙ l.1.1.1.1))))
    stops (Ok o) e why d start p q r t = clash (sym (ap is_done d))

    -- the lines of one that is accepted, and its track
    pub lines-few : (x : CallResult Outcome) → append places f held ≡ x → (n : ℕ) → Ok n ≡ line_count x → n ≤ h.nframes + 1
    lines-few (Err why) e n d = clash (ap is_done d)
    lines-few (Ok o) e n d =
        let told : n ≡ length o.lines = ap count_in d in
        omega (arith, told, append-count held f places o e, held-count h ts gs g.whole)

    pub track-kept : (x : CallResult Outcome) → append places f held ≡ x → (n : ℕ) → Ok n ≡ line_count x → {k : Head} → k ≡ head_after x h → HasTrack k f.track
    unfolding reply_to
    track-kept (Err why) e n d p = clash (ap is_done d)
    track-kept (Ok o) e n d {k} p =
        let kinds : kinds_of o.after ≡ kinds_of held = ap (λ (x : CallResult Outcome). kinds_of (by_outcome held x).after) (sym e) ∙ reply-kinds (append_call places f) held in
        let width : length o.after.tracks ≡ length held.tracks = sym (length-map o.after.tracks _) ∙ ap length kinds ∙ length-map held.tracks _ in
        let count : k.ntracks ≡ length o.after.tracks = ap (λ (x : Head). x.ntracks) p in
        let few = few-tracks held (lent-good h ts gs g.whole) in
        (accepted-from places f held o e, omega (arith, accepted-to places f held o e, width, count), omega (arith, width, count, few))

    -- one that is accepted
    pub goes : (x : CallResult Outcome) → append places f held ≡ x → (n : ℕ) → Ok n ≡ line_count x
        → {h' : Head} {ts' : List (List ℤ)} {gs' : List (List ℕ)} {bounds' : List ℤ} {lines' : List (List ℕ)}
        → h' ≡ head_after x h → ts' ≡ times_after x ts → gs' ≡ tags_after x gs → lines' ≡ take at lines ++ list_after x (drop at lines)
        → Raised bounds bounds' → ((c : Buffer) → h' ≡ head_of c → le_z (track_of c f.track).end (bound_at bounds' f.track) ≡ true)
        → Going b fs lines₀ (i + 1) h' ts' gs' bounds' (at + n) lines'
    goes (Err why) e n d p q r t up high = clash (ap is_done d)
    goes (Ok o) e n d {h'} {ts'} {gs'} {bounds'} {lines'} p q r t up high =
        let good = append-good held f places o e (lent-good h ts gs g.whole) in
        let back : buffer_of (state_at h' ts' gs') ≡ o.after = (λ j. buffer_of (state_at (p j) (q j) (r j))) ∙ held_back o.after in
        let told : length o.lines ≡ n = sym (ap count_in d) in
        let stored : h'.nframes ≡ length o.after.frames = ap (λ (k : Head). k.nframes) p in
        record {
          whole = (λ j. well_formed_at (p j) (q j) (r j)) ∙ laid-well_formed o.after good;
          told = g.told ++ o.lines;
          rest =
              step (Ok o) e ∙ onwards-more i g.told o (append_each (drop (i + 1) fs) o.after)
              ∙ ap (λ (c : Buffer). onwards (i + 1) (g.told ++ o.lines) (append_each (drop (i + 1) fs) c)) (sym back);
          count = omega (arith, g.count, told, length-append g.told o.lines);
          list =
              t ∙ ap (λ (l : List (List ℕ)). take at l ++ (written o.lines ++ drop (length o.lines) (drop at l))) g.list
              ∙ lines-joined g.told o.lines lines₀ at g.count
              ∙ ap (λ (k : ℕ). written (g.told ++ o.lines) ++ drop (at + k) lines₀) told;
          room = omega (arith, g.room, told, stored, append-count held f places o e, held-count h ts gs g.whole);
          bounded =
              subst (λ (c : Buffer). IsBounded bounds' c.frames) (sym back)
              (after-bounded places f held o e bounds bounds' g.bounded up (high o.after p));
        }
