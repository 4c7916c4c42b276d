-- Document 02, No. 2, on the calls themselves: from one state, a batch and single appends of the frames that it accepted, each by its own
-- contract, come to the same; and the append of the next frame is refused as the batch says.
use Rattle.std.specs.Prelude.{Option, None, Some, Ok, Err}
use mathlib.Core.Path.{◌≡◌, refl, sym, ap, ◌∙◌}
use mathlib.Core.Bool.{Bool, true}
use mathlib.Core.List.{List, [], ◌∷◌, map}
use Prim.Native.Nat.{ℕ, ◌<◌}
use native.Mathlib.Omega.{arith}
use lib.Dec.{ltb}
use lib.IntN.{ℤ}
use lib.ListN.{length, take, get_or, length-map}
use Rattle.laws.proofs.BoolLaws.{clash, by-test}
use Rattle.buffer_state.specs.declared.Accepted.{Accepted}
use Rattle.buffer_state.specs.declared.Offered.{Offered}
use Rattle.buffer_state.specs.declared.Refusal.{Refusal}
use Rattle.buffer_state.specs.Append.{append}
use Rattle.buffer_state.specs.Batch.{offered_in, Batch, append_each, most_frames, batch_lines, batch}
use Rattle.buffer_state.specs.Buffer.{Buffer}
use Rattle.buffer_state.specs.Lent.{Lent, lent_of, buffer_in, well_formed_at}
use Rattle.buffer_state.specs.Limits.{places}
use Rattle.buffer_state.specs.Refusals.{CallResult}
use Rattle.buffer_state.specs.Run.{Call, batch_call, Answer, ok, fates, settings, ranges, accepted, taken, decoding, Reply, by_outcome, by_batch, reply_to, Entry, run, last_of, lines_in, handed_out, accepted_in}
use Rattle.buffer_state.specs.Store.{Line}
use Rattle.buffer_state.specs.WellFormed.{all_of}
use Rattle.buffer_laws.proofs.BatchLaws.{each-good, not_refused, StoppedBy, singly, batch-is-appends, AreAppends, append-alike, appends-alike}
use Rattle.buffer_laws.proofs.LentLaws.{lent_same, lent-good}
use Rattle.account.specs.Made as Made
use Rattle.account.specs.Made.{Made, Listed, calls, entries, line_of}
use Rattle.account.specs.History.{From}
use Rattle.account.proofs.Claim.{IsPlain, plain}

-- the call of a batch, as it is made and with what it handed back
abbrev pub batch_made : List (List ℤ) → List (List ℕ) → Listed Accepted (List ℕ) → Made
batch_made rows lent back = record { given = Made.batch rows lent; back = back }

-- What single appends come to, beside a batch that ended in t: the same state; none of them is refused; their lines, joined, are those
-- of the batch.
pub record SameAs (t : Lent) (ls : List Line) (u : Lent) (ms : List Made) : Type 0 where
  pub state : u ≡ t
  pub done : all_of not_refused (entries ms) ≡ true
  pub lines : handed_out (entries ms) ≡ ls

-- ---- on the buffer that the state holds

-- a batch that is not refused is the appends of its frames
came-to : (lent : ℕ) (fs : List Offered) (b : Buffer) {a : Answer} → (reply_to (batch_call lent fs) b).result ≡ Ok a
    → reply_to (batch_call lent fs) b ≡ by_batch b (Ok (append_each fs b))
unfolding reply_to batch
came-to lent fs b e =
    let Comes : CallResult Batch → Type 0 = λ x. is_done (by_batch b x).result ≡ true → by_batch b x ≡ by_batch b (Ok (append_each fs b)) in
    by-test Comes (ltb most_frames (length fs)) (λ _ h. clash (sym h))
    (λ _. by-test Comes (ltb lent batch_lines) (λ _ h. clash (sym h)) (λ _ h. refl)) (ap is_done e)
  where
    is_done : CallResult Answer → Bool
    is_done r = not_refused (record { call = batch_call lent fs; result = r })

-- one append that is refused
one-refused : (f : Offered) (c : Buffer) (why : Refusal) → append places f c ≡ Err why → (cs : List Call) → AreAppends (f ∷ []) cs
    → (map (λ (x : Entry). x.result) (run c cs) ≡ Err why ∷ []) × (last_of c cs ≡ c)
unfolding reply_to run last_of
one-refused f c why e [] h = absurd h
one-refused f c why e (x ∷ []) h =
    let reply : reply_to x c ≡ by_outcome c (Err why) = append-alike f x h.0 c ∙ ap (by_outcome c) e in
    (ap (λ (r : Reply). r.result ∷ []) reply, ap (λ (r : Reply). r.after) reply)
one-refused f c why e (x ∷ y ∷ cs) h = absurd h.1

abbrev stop_of : CallResult Answer → Option Refusal
stop_of (Err why) = None
stop_of (Ok ok) = None
stop_of (Ok (fates ls)) = None
stop_of (Ok (settings r)) = None
stop_of (Ok (ranges rs)) = None
stop_of (Ok (accepted n stop ls)) = stop
stop_of (Ok (taken n)) = None
stop_of (Ok (decoding s)) = None

abbrev pub results : List Made → List (CallResult Answer)
results ms = map (λ (x : Entry). x.result) (entries ms)

-- ---- a batch on a well-formed state that was not refused, from its answer and what it left

module _ {s t : Lent} (formed : well_formed_at s.head s.times s.tags ≡ true) {rows : List (List ℤ)} {lent : List (List ℕ)} {back : Listed Accepted (List ℕ)}
    (h : From s (batch_made rows lent back ∷ []) t) (n lines : ℕ) (stop : Option Refusal) (told : back.answer ≡ Ok (record { frames = n; lines = lines; stop = stop })) where
  abbrev b : Buffer
  b = buffer_in s

  abbrev fs : List Offered
  fs = map offered_in rows

  abbrev r : Batch
  r = append_each fs b

  abbrev said : List Line
  said = map line_of (take lines back.after)

  -- any calls from this state are the run's
  plainly : {ms : List Made} {u : Lent} → From s ms u → IsPlain b ms u
  plainly k = plain k b (lent-good s.head s.times s.tags formed) (sym (lent_same s formed))

  first : List Entry → CallResult Answer
  first [] = Ok (accepted 0 None [])
  first (e ∷ es) = e.result

  result : Ok (accepted n stop said) ≡ (reply_to (batch_call (length lent) fs) b).result
  unfolding run first
  result = ap (λ (a : CallResult Accepted). Made.joined_of (record { answer = a; after = back.after })) (sym told) ∙ ap first (plainly h).results

  reply : reply_to (batch_call (length lent) fs) b ≡ by_batch b (Ok r)
  reply = came-to (length lent) fs b (sym result)

  same : ◌≡◌ {A = CallResult Answer} (Ok (accepted n stop said)) (Ok (accepted r.accepted r.stop r.outcome.lines))
  same = result ∙ ap (λ (x : Reply). x.result) reply

  last : t ≡ lent_of r.outcome.after
  unfolding last_of
  last = (plainly h).state ∙ ap (λ (x : Reply). lent_of x.after) reply

  -- THE LAW: a batch that accepted n frames, and every n appends of those frames, each lent 1,024 lines or more of its own
  pub batch-as-appends : {ms : List Made} {u : Lent} → From s ms u → AreAppends (take n fs) (calls ms) → SameAs t said u ms
  batch-as-appends {ms} {u} k appends =
      let p = plainly k in
      let law = batch-is-appends fs b in
      let alike = appends-alike (take n fs) (calls ms) appends b in
      let count : n ≡ r.accepted = ap accepted_in same in
      record {
        state = p.state ∙ ap lent_of (alike.after ∙ ap (λ (k : ℕ). last_of b (singly (take k fs))) count ∙ law.after) ∙ sym last;
        done = ap (all_of not_refused) p.results ∙ alike.done ∙ ap (λ (k : ℕ). all_of not_refused (run b (singly (take k fs)))) count ∙ law.done;
        lines = ap handed_out p.results ∙ alike.lines ∙ ap (λ (k : ℕ). handed_out (run b (singly (take k fs)))) count ∙ law.lines ∙ sym (ap lines_in same);
      }

  -- what stopped it: nothing, where no frame was left; else the refusal of every append of the next frame to the state that it left, which
  -- changes nothing
  abbrev pub IsEnded : Option Refusal → Type 0
  IsEnded None = n ≡ length rows
  IsEnded (Some why) =
      (n < length rows)
      × ((z : Offered) (ms : List Made) (u : Lent) → From t ms u → AreAppends (get_or fs n z ∷ []) (calls ms) → (results ms ≡ Err why ∷ []) × (u ≡ t))

  ended_by : (w : Option Refusal) → StoppedBy fs n r.outcome.after w → IsEnded w
  ended_by None e = e ∙ length-map rows offered_in
  ended_by (Some why) e = (
    omega (arith, e.0, length-map rows offered_in),
    λ z ms u k appends.
        let c = r.outcome.after in
        let p = plain k c (each-good fs b (lent-good s.head s.times s.tags formed)) last in
        let one = one-refused (get_or fs n z) c why (e.1 z) (calls ms) appends in
        (ap (map (λ (x : Entry). x.result)) p.results ∙ one.0, p.state ∙ ap lent_of one.1 ∙ sym last),
  )

  pub batch-ended : IsEnded stop
  batch-ended =
      let law = (batch-is-appends fs b).stop in
      let count : n ≡ r.accepted = ap accepted_in same in
      let stopped : stop ≡ r.stop = ap stop_of same in
      ended_by stop (rw (count, stopped) law)
