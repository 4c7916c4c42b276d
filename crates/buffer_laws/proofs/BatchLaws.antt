-- A batch is its appends up to the stop: what each append that is not refused does, a batch does, by one induction over its frames.
use Rattle.std.specs.Prelude.{Option, None, Some, Ok, Err}
use mathlib.Core.Path.{◌≡◌, refl, ap, ◌∙◌}
use mathlib.Core.Bool.{Bool, true, false, ◌&&◌}
use mathlib.Core.List.{List, [], ◌∷◌, ◌++◌, map}
use Prim.Native.Nat.{ℕ, suc, ◌+◌, ◌≤◌, ◌<◌}
use native.Mathlib.Omega.{arith}
use lib.ListN.{length, take, get_or, length-append}
use borrow.Author.Tests.{le-ltb}
use Rattle.buffer_state.specs.declared.Offered.{Offered}
use Rattle.buffer_state.specs.declared.Refusal.{Refusal}
use Rattle.buffer_state.specs.Append.{Outcome, append}
use Rattle.buffer_state.specs.Batch.{Batch, ended, onward, following_batch, append_each}
use Rattle.buffer_state.specs.Buffer.{Buffer}
use Rattle.buffer_state.specs.Limits.{places}
use Rattle.buffer_state.specs.Refusals.{CallResult}
use Rattle.buffer_state.specs.Run.{Call, append_call, Answer, Reply, by_outcome, reply_to, Entry, run, last_of, lines_in, handed_out, total}
use Rattle.buffer_state.specs.Store.{Line}
use Rattle.buffer_state.specs.WellFormed.{all_of, good_buffer}
use Rattle.buffer_laws.proofs.TestLaws.{all_none, all_more}
use Rattle.buffer_laws.proofs.GoodLaws.{good-facts, facts-good}
use Rattle.buffer_laws.proofs.SettingLaws.{if-done}
use Rattle.buffer_laws.proofs.CallLaws.{numbers_after, total-ones, IsLawful, same, both-lawful, OneLawful, append-lawful}

-- ---- one append that is not refused

module _ (b : Buffer) (f : Offered) (lent : ℕ) (o : Outcome) (e : append lent f b ≡ Ok o) where
  one-lawful : OneLawful b f o
  one-lawful = if-done (OneLawful b f) (append lent f b) (append-lawful lent f b) e

  pub append-good : good_buffer b ≡ true → good_buffer o.after ≡ true
  append-good good = facts-good o.after (one-lawful.good (good-facts b good))

  -- each frame that was stored, and the one offered, is stored or told
  pub append-count : length o.lines + length o.after.frames ≡ length b.frames + 1
  unfolding numbers_after total
  append-count = omega (arith, one-lawful.weight (λ (n : ℕ). 1), total-ones o.lines, total-ones o.after.frames, total-ones b.frames)

-- ---- the induction

module _ (P : List Offered → Buffer → Batch → Type 0)
    (none : (b : Buffer) → P [] b (ended b None))
    (stop : (f : Offered) (fs : List Offered) (b : Buffer) (why : Refusal) → append places f b ≡ Err why → P (f ∷ fs) b (ended b (Some why)))
    (more : (f : Offered) (fs : List Offered) (b : Buffer) (o : Outcome) → append places f b ≡ Ok o
    → P fs o.after (append_each fs o.after) → P (f ∷ fs) b (onward o (append_each fs o.after))) where
  pub by-appends : (fs : List Offered) (b : Buffer) → P fs b (append_each fs b)
  unfolding append_each
  by-appends [] b = none b
  by-appends (f ∷ fs) b = next (append places f b) refl (λ c. by-appends fs c)
    where
      next : (x : CallResult Outcome) → append places f b ≡ x → ((c : Buffer) → P fs c (append_each fs c)) → P (f ∷ fs) b (following_batch (append_each fs) b x)
      next (Err why) e rest = stop f fs b why e
      next (Ok o) e rest = more f fs b o e (rest o.after)

-- ---- what it keeps

-- a batch accounts for its accepted frames as their appends do
pub each-lawful : (fs : List Offered) (b : Buffer)
    → let r = append_each fs b in IsLawful b (map (λ (f : Offered). f.track) (take r.accepted fs)) r.outcome.lines r.outcome.after
each-lawful =
    by-appends (λ (fs : List Offered) (b : Buffer) (r : Batch). IsLawful b (map (λ (f : Offered). f.track) (take r.accepted fs)) r.outcome.lines r.outcome.after)
    (λ b. same b) (λ f fs b why e. same b) (λ f fs b o e rest. both-lawful (one-lawful b f places o e) rest)

-- what every append that is not refused keeps of a buffer, a batch keeps
pub each_keeps : (P : Buffer → Type 0) → ((f : Offered) (b : Buffer) (o : Outcome) → append places f b ≡ Ok o → P b → P o.after)
    → (fs : List Offered) (b : Buffer) → P b → P (append_each fs b).outcome.after
each_keeps P one =
    by-appends (λ (fs : List Offered) (b : Buffer) (r : Batch). P b → P r.outcome.after)
    (λ b p. p) (λ f fs b why e p. p) (λ f fs b o e rest p. rest (one f b o e p))

pub each-good : (fs : List Offered) (b : Buffer) → good_buffer b ≡ true → good_buffer (append_each fs b).outcome.after ≡ true
each-good = each_keeps (λ (b : Buffer). good_buffer b ≡ true) (λ f b o e good. append-good b f places o e good)

-- Why 1,088 lines are enough: of the frames that were stored, at most 1,024, and of those accepted, at most 64, each is stored or told.
pub batch-count : (fs : List Offered) (b : Buffer)
    → let r = append_each fs b in length r.outcome.lines + length r.outcome.after.frames ≡ length b.frames + r.accepted
batch-count =
    by-appends (λ (fs : List Offered) (b : Buffer) (r : Batch). length r.outcome.lines + length r.outcome.after.frames ≡ length b.frames + r.accepted)
    (λ b. omega arith) (λ f fs b why e. omega arith)
    (λ f fs b o e rest. omega (arith, append-count b f places o e, rest, length-append o.lines (append_each fs o.after).outcome.lines))

-- ---- the batch beside the single appends

-- the appends of frames, each lent 1,024 lines of its own
abbrev pub singly : List Offered → List Call
singly = map (append_call places)

abbrev pub not_refused : Entry → Bool
not_refused e = is_done e.result
  where
    is_done : CallResult Answer → Bool
    is_done (Err why) = false
    is_done (Ok a) = true

-- What stops a batch after n frames of fs, on buffer c: nothing, as there is no more; or why the next frame is refused there.
abbrev pub StoppedBy : List Offered → ℕ → Buffer → Option Refusal → Type 0
StoppedBy fs n c None = n ≡ length fs
StoppedBy fs n c (Some why) = (n < length fs) × ((z : Offered) → append places (get_or fs n z) c ≡ Err why)

-- a batch of fs on b that came to r, beside single appends of the frames that it accepted
pub record AsAppends (fs : List Offered) (b : Buffer) (r : Batch) : Type 0 where
  pub after : last_of b (singly (take r.accepted fs)) ≡ r.outcome.after
  pub lines : handed_out (run b (singly (take r.accepted fs))) ≡ r.outcome.lines
  pub done : all_of not_refused (run b (singly (take r.accepted fs))) ≡ true
  pub stop : StoppedBy fs r.accepted r.outcome.after r.stop

stop-later : (f : Offered) (fs : List Offered) (n : ℕ) (c : Buffer) (s : Option Refusal) → StoppedBy fs n c s → StoppedBy (f ∷ fs) (suc n) c s
stop-later f fs n c None e = ap suc e
stop-later f fs n c (Some why) e = (omega (arith, e.0), e.1)

-- Document 02, No. 2: the outcome of a batch, its lines included, is that of appending its frames one by one up to the stop.
pub batch-is-appends : (fs : List Offered) (b : Buffer) → AsAppends fs b (append_each fs b)
unfolding run last_of handed_out reply_to
batch-is-appends =
    by-appends AsAppends
    (λ b. record { after = refl; lines = refl; done = all_none not_refused; stop = refl })
    (λ f fs b why e. record { after = refl; lines = refl; done = all_none not_refused; stop = (omega arith, λ z. e) })
    (λ f fs b o e rest.
    let c = append_call places f in
    let others = append_each fs o.after in
    let cs = singly (take others.accepted fs) in
    let reply : reply_to c b ≡ by_outcome b (Ok o) = ap (by_outcome b) e in
    record {
      after = ap (λ (r : Reply). last_of r.after cs) reply ∙ rest.after;
      lines = ap (λ (r : Reply). lines_in r.result ++ handed_out (run r.after cs)) reply ∙ ap (λ (ls : List Line). o.lines ++ ls) rest.lines;
      done = ap (λ (r : Reply). all_of not_refused (record { call = c; result = r.result } ∷ run r.after cs)) reply ∙ all_more not_refused _ _ refl rest.done;
      stop = stop-later f fs others.accepted others.outcome.after others.stop rest.stop;
    })

-- ---- appends that are lent longer lists

pub record IsAppend (f : Offered) (c : Call) : Type 0 where
  pub lent : ℕ
  pub enough : places ≤ lent
  pub call : c ≡ append_call lent f

-- these calls are appends of these frames, in their order, each lent 1,024 lines or more
abbrev pub AreAppends : List Offered → List Call → Type 0
AreAppends [] [] = Unit {0}
AreAppends [] (c ∷ cs) = ⊥
AreAppends (f ∷ fs) [] = ⊥
AreAppends (f ∷ fs) (c ∷ cs) = IsAppend f c × AreAppends fs cs

-- the same but for the lengths of the lists lent
pub record Alike (b : Buffer) (cs ds : List Call) : Type 0 where
  pub after : last_of b cs ≡ last_of b ds
  pub lines : handed_out (run b cs) ≡ handed_out (run b ds)
  pub done : all_of not_refused (run b cs) ≡ all_of not_refused (run b ds)

longer : (lent : ℕ) (f : Offered) (b : Buffer) → places ≤ lent → append lent f b ≡ append places f b
unfolding append
longer lent f b h = rw (le-ltb lent places h)

pub append-alike : (f : Offered) (c : Call) → IsAppend f c → (b : Buffer) → reply_to c b ≡ reply_to (append_call places f) b
unfolding reply_to
append-alike f c a b = ap (λ (d : Call). reply_to d b) a.call ∙ ap (by_outcome b) (longer a.lent f b a.enough)

pub appends-alike : (fs : List Offered) (cs : List Call) → AreAppends fs cs → (b : Buffer) → Alike b cs (singly fs)
unfolding run last_of handed_out all_of
appends-alike [] [] h b = record { after = refl; lines = refl; done = refl }
appends-alike [] (c ∷ cs) h b = absurd h
appends-alike (f ∷ fs) [] h b = absurd h
appends-alike (f ∷ fs) (c ∷ cs) h b =
    let first = append-alike f c h.0 b in
    let rest = appends-alike fs cs h.1 (reply_to (append_call places f) b).after in
    let d = append_call places f in
    record {
      after = ap (λ (r : Reply). last_of r.after cs) first ∙ rest.after;
      lines = ap (λ (r : Reply). lines_in r.result ++ handed_out (run r.after cs)) first ∙ ap (λ (ls : List Line). lines_in (reply_to d b).result ++ ls) rest.lines;
      done = ap (λ (r : Reply). all_of not_refused (record { call = c; result = r.result } ∷ run r.after cs)) first ∙ ap (λ (x : Bool). not_refused (record { call = d; result = (reply_to d b).result }) && x) rest.done;
    }
