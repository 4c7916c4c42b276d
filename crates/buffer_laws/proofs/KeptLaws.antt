-- The doubles that the settings keep: each is plus zero, one that was given to a setter, or a quotient of step 1. So a property of plus
-- zero, of every quotient and of the doubles given is a property of every double kept, whatever the calls.
use mathlib.Core.Path.{◌≡◌}
use mathlib.Core.Bool.{true, false, not, ◌&&◌, ◌||◌}
use mathlib.Core.List.{List, [], ◌∷◌}
use Prim.Native.Nat.{ℕ}
use lib.Dec.{ltb, eqb}
use lib.IntN.{ℤ, pos}
use lib.Ieee.{Float}
use lib.ListN.{length}
use lib.Signed.{lt_z}
use borrow.Author.Tests.{not-false}
use Rattle.laws.proofs.BoolLaws.{by-test}
use Rattle.seconds.specs.Seconds.{Bound, unbounded, at, is_convertible, is_convertible_end, micros_of, bound_of, seconds_of, zero_seconds}
use Rattle.buffer_state.specs.declared.Mode.{Mode}
use Rattle.buffer_state.specs.declared.Mode.TheVariants.{Segments, Sequence}
use Rattle.buffer_state.specs.declared.Offered.{Offered}
use Rattle.buffer_state.specs.declared.Settings.{Settings}
use Rattle.buffer_state.specs.declared.WindowEnd.{WindowEnd}
use Rattle.buffer_state.specs.declared.WindowEnd.TheVariants.{Unbounded, At}
use Rattle.buffer_state.specs.Answers.{outcome_of}
use Rattle.buffer_state.specs.Append.{Pass, Outcome, step_one, moved, regrouped_buffer, breaks, pass_of, second_pass, last_pass, leaves_limits, lacks_group, before_window, past_window, lacks_random_access, step_nine, stored, settled, appended_outcome, is_offerable, append}
use Rattle.buffer_state.specs.Batch.{Batch, most_frames, batch_lines, batch}
use Rattle.buffer_state.specs.Buffer.{Buffer, has_track, is_sequence, in_last_group}
use Rattle.buffer_state.specs.Limits.{places, last_number}
use Rattle.buffer_state.specs.Refusals.{CallResult}
use Rattle.buffer_state.specs.Remove.{before_bound, removal_marks, ends_track, after_loss, removal_lacks_group, removed_outcome, remove}
use Rattle.buffer_state.specs.Settings.{aborted_buffer, abort, mode_set, offset_set, window_end, window_start_set, window_end_set, end_at}
use Rattle.buffer_state.specs.Store.{Marked}
use Rattle.buffer_laws.proofs.SettingLaws.{IfDone, if-done}
use Rattle.buffer_laws.proofs.BatchLaws.{each_keeps}

-- ---- a property of each double kept

abbrev pub EndHas : (Float → Type 0) → WindowEnd → Type 0
EndHas P Unbounded = Unit {0}
EndHas P (At x) = P x

pub record Keeps (P : Float → Type 0) (s : Settings) : Type 0 where
  pub offset : P s.offset.seconds
  pub start : P s.start.seconds
  pub end : EndHas P s.end

-- the doubles that the steps make themselves have it
pub record Made (P : Float → Type 0) : Type 0 where
  pub zero : P zero_seconds
  pub quotient : (z : ℤ) → P (seconds_of z)

-- of a call that may be refused
abbrev pub OutcomeKeeps : (Float → Type 0) → CallResult Outcome → Type 0
OutcomeKeeps P = IfDone (λ (o : Outcome). Keeps P o.after.settings)

abbrev pub SettingKeeps : (Float → Type 0) → CallResult Buffer → Type 0
SettingKeeps P = IfDone (λ (b : Buffer). Keeps P b.settings)

module _ (P : Float → Type 0) (made : Made P) where
  -- ---- steps 1 to 9

  step_one-keeps : (b : Buffer) (f : Offered) → Keeps P b.settings → Keeps P (step_one b f).settings
  unfolding step_one
  step_one-keeps b f k =
      by-test (λ (c : Buffer). Keeps P c.settings) (is_sequence b.mode && b.group.begun)
      (λ _. record { offset = made.quotient _; start = k.start; end = k.end })
      (λ _. k)

  pass-keeps : (b : Buffer) (f : Offered) → Keeps P b.settings → Keeps P (pass_of b f).buffer.settings
  unfolding pass_of
  pass-keeps b f k = step_one-keeps b f k

  last_pass-keeps : (b : Buffer) (f : Offered) → Keeps P b.settings → Keeps P (last_pass b f).buffer.settings
  unfolding last_pass second_pass regrouped_buffer moved
  last_pass-keeps b f k =
      let p = pass_of b f in
      by-test (λ (q : Pass). Keeps P q.buffer.settings) (breaks p)
      (λ _. pass-keeps (regrouped_buffer p.buffer p.frame.pts) f (pass-keeps b f k))
      (λ _. pass-keeps b f k)

  settled-keeps : (p : Pass) → Keeps P p.buffer.settings → Keeps P (settled p).after.settings
  unfolding settled stored step_nine
  settled-keeps p k =
      let Here : Outcome → Type 0 = λ o. Keeps P o.after.settings in
      by-test Here (before_window p) (λ _. k)
      (λ _. by-test Here (past_window p) (λ _. k)
      (λ _. by-test Here (lacks_random_access p) (λ _. k) (λ _. k)))

  pub append-keeps : (lent : ℕ) (f : Offered) (b : Buffer) → Keeps P b.settings → OutcomeKeeps P (append lent f b)
  unfolding append appended_outcome
  append-keeps lent f b k =
      by-test (OutcomeKeeps P) (ltb lent places) (λ _. tt)
      (λ _. by-test (OutcomeKeeps P) (not (has_track b f.track)) (λ _. tt)
      (λ _. by-test (OutcomeKeeps P) (not (is_offerable f)) (λ _. tt)
      (λ _. by-test (OutcomeKeeps P) (eqb b.last last_number) (λ _. tt)
      (λ _. by-test (OutcomeKeeps P) (leaves_limits b f) (λ _. tt)
      (λ _. by-test (OutcomeKeeps P) (lacks_group b f) (λ _. tt)
      (λ _. by-test (OutcomeKeeps P) (ltb places (length (appended_outcome b f).after.frames)) (λ _. tt)
      (λ _. settled-keeps (last_pass b f) (last_pass-keeps b f k))))))))

  pub batch-keeps : (lent : ℕ) (fs : List Offered) (b : Buffer) → Keeps P b.settings → OutcomeKeeps P (outcome_of (batch lent fs b))
  unfolding batch
  batch-keeps lent fs b k =
      let Kept : CallResult Batch → Type 0 = λ r. OutcomeKeeps P (outcome_of r) in
      by-test Kept (ltb most_frames (length fs)) (λ _. tt)
      (λ _. by-test Kept (ltb lent batch_lines) (λ _. tt)
      (λ _. each_keeps (λ (c : Buffer). Keeps P c.settings) (λ f c o e kept. if-done _ (append places f c) (append-keeps places f c kept) e) fs b k))

  -- ---- removal, which keeps them all

  loss-keeps : (ms : List Marked) (b : Buffer) → Keeps P b.settings → Keeps P (after_loss ms b).settings
  unfolding after_loss regrouped_buffer moved
  loss-keeps [] b k = k
  loss-keeps (m ∷ ms) b k = by-test (λ (c : Buffer). Keeps P c.settings) (ends_track b m) (λ _. k) (λ _. loss-keeps ms b k)

  pub remove-keeps : (lent : ℕ) (start end : Float) (b : Buffer) → Keeps P b.settings → OutcomeKeeps P (remove lent start end b)
  unfolding remove removed_outcome
  remove-keeps lent start end b k =
      by-test (OutcomeKeeps P) (ltb lent places) (λ _. tt)
      (λ _. by-test (OutcomeKeeps P) (not (is_convertible start) || not (is_convertible_end end)) (λ _. tt)
      (λ _. by-test (OutcomeKeeps P) (lt_z (micros_of start) (pos 0) || not (before_bound (micros_of start) (bound_of end))) (λ _. tt)
      (λ _. by-test (OutcomeKeeps P) (removal_lacks_group (micros_of start) (bound_of end) b) (λ _. tt)
      (λ _. loss-keeps (removal_marks (micros_of start) (bound_of end) b.frames) b k))))

  -- ---- abort and the setters

  pub abort-keeps : (b : Buffer) → Keeps P b.settings → SettingKeeps P (abort b)
  unfolding abort aborted_buffer
  abort-keeps b k = by-test (SettingKeeps P) (in_last_group b) (λ _. tt) (λ _. record { offset = k.offset; start = made.zero; end = tt })

  pub mode-keeps : (m : Mode) (b : Buffer) → Keeps P b.settings → Keeps P (mode_set m b).settings
  unfolding mode_set
  mode-keeps Segments b k = k
  mode-keeps Sequence b k = k

  -- a double given is one that converts, or else the setter is refused
  pub offset-keeps : (x : Float) → (is_convertible x ≡ true → P x) → (b : Buffer) → Keeps P b.settings → SettingKeeps P (offset_set x b)
  unfolding offset_set
  offset-keeps x given b k =
      by-test (SettingKeeps P) (not (is_convertible x)) (λ _. tt)
      (λ h. by-test (λ (c : Buffer). Keeps P c.settings) (is_sequence b.mode) (λ _. set h) (λ _. set h))
    where
      set : not (is_convertible x) ≡ false → Keeps P (record { offset = record { seconds = x; micros = micros_of x }; start = b.settings.start; end = b.settings.end; limit = b.settings.limit })
      set h = record { offset = given (not-false _ h); start = k.start; end = k.end }

  pub window-start-keeps : (x : Float) → (is_convertible x ≡ true → P x) → (b : Buffer) → Keeps P b.settings → SettingKeeps P (window_start_set x b)
  unfolding window_start_set
  window-start-keeps x given b k =
      by-test (SettingKeeps P) (not (is_convertible x)) (λ _. tt)
      (λ h. by-test (SettingKeeps P) (lt_z (micros_of x) (pos 0) || not (before_bound (micros_of x) (window_end b.settings))) (λ _. tt)
      (λ _. record { offset = k.offset; start = given (not-false _ h); end = k.end }))

  end-has : (x : Float) → P x → (e : Bound) → EndHas P (end_at x e)
  end-has x given unbounded = tt
  end-has x given (at z) = given

  pub window_end-keeps : (x : Float) → (is_convertible_end x ≡ true → P x) → (b : Buffer) → Keeps P b.settings → SettingKeeps P (window_end_set x b)
  unfolding window_end_set
  window_end-keeps x given b k =
      by-test (SettingKeeps P) (not (is_convertible_end x)) (λ _. tt)
      (λ h. by-test (SettingKeeps P) (not (before_bound b.settings.start.micros (bound_of x))) (λ _. tt)
      (λ _. record { offset = k.offset; start = k.start; end = end-has x (given (not-false _ h)) (bound_of x) }))
