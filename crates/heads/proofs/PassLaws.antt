-- Both passes: what they decide, and that each is good where it is not refused.
use Rattle.std.specs.Prelude.{Option, None, Some, Result, Ok, Err}
use mathlib.Core.Path.{◌≡◌, refl, sym, ap, ◌∙◌}
use mathlib.Core.Bool.{Bool, true, false, not, ◌&&◌, and_assoc}
use lib.IntN.{ℤ}
use lib.ListN.{length}
use Rattle.laws.proofs.BoolLaws.{clash, split}
use Rattle.buffer_state.specs.declared.Offered.{Offered}
use Rattle.buffer_state.specs.declared.Refusal.{Refusal}
use Rattle.buffer_state.specs.declared.Refusal.TheVariants.{ResultLimits, LastNumber}
use Rattle.buffer_state.specs.Append.{Pass, step_one, step_two, pass_of, end_offered, fits, breaks, moved, regrouped_buffer, second_pass, last_pass, leaves_limits, lacks_group}
use Rattle.buffer_state.specs.Buffer.{Buffer, is_sequence, in_next_group, in_last_group}
use Rattle.buffer_state.specs.Limits.{result_time}
use Rattle.buffer_state.specs.Refusals.{CallResult, refuse_if}
use Rattle.buffer_laws.proofs.AppendLaws.{fits-facts, pass-good, pass-number, moved-number, moved-good, first-from}
use Rattle.buffer_laws.proofs.GoodLaws.{IsGood}
use Rattle.buffer_state.specs.declared.Head.{Head}
use Rattle.buffer_state.specs.Lent.{head_of}
use Rattle.heads.specs.declared.Passed.{Passed}
use Rattle.heads.specs.Heads.{IsGoodHead, HasTrack, IsCalm, passed_as, decided, first_decision, decision, second_decision}
use Rattle.heads.proofs.HeadLaws.{good-head, head-good}

-- ---- refusal 7, in the order in which the code asks

late : (a b c : Bool) → b ≡ false → false ≡ (a && (b && c))
late true b c e = rw e
late false b c e = refl

module _ (p : Pass) where
  pub fits_not : result_time p.frame.pts ≡ false → false ≡ fits p
  unfolding fits
  fits_not e = late (result_time p.buffer.settings.offset.micros) _ (result_time p.frame.dts && result_time (end_offered p.frame)) e

  pub fits_all : result_time p.frame.pts ≡ true
      → ((result_time p.buffer.settings.offset.micros && result_time p.frame.dts) && result_time (end_offered p.frame)) ≡ fits p
  unfolding fits
  fits_all e = rw e (and_assoc (result_time p.buffer.settings.offset.micros) _ _)

-- ---- what is decided

module _ (b : Buffer) (f : Offered) where
  pub first-out : fits (pass_of b f) ≡ false → first_decision b f ≡ Err ResultLimits
  unfolding first_decision
  first-out e = rw e

  pub first-in : fits (pass_of b f) ≡ true → first_decision b f ≡ Ok (pass_of b f)
  unfolding first_decision
  first-in e = rw e

  pub decides-out : fits (pass_of b f) ≡ false → decision b f ≡ Err ResultLimits
  unfolding decision leaves_limits
  decides-out e = rw e

  pub decides-first : fits (pass_of b f) ≡ true → breaks (pass_of b f) ≡ false → decision b f ≡ Ok (pass_of b f)
  unfolding decision leaves_limits lacks_group last_pass
  decides-first e d = rw (e, d)

  pub decides-second : fits (pass_of b f) ≡ true → breaks (pass_of b f) ≡ true
      → decision b f ≡ second_decision (pass_of b f).buffer f (pass_of b f).frame.pts
  unfolding decision second_decision leaves_limits lacks_group last_pass second_pass
  decides-second e d = rw (e, d, pass-number b f)

-- ---- what the code holds of it

frame_in : Option Offered → Offered → Offered
frame_in None other = other
frame_in (Some f) other = f

pub some-same : {f g : Offered} → Some f ≡ Some g → f ≡ g
unfolding frame_in
some-same {f = f} e = ap (λ (x : Option Offered). frame_in x f) e

refusal_in : {A : Type 0} → Result A Refusal → Refusal → Refusal
refusal_in (Ok x) other = other
refusal_in (Err why) other = why

pass_in : Result Passed Refusal → Passed → Passed
pass_in (Ok p) other = p
pass_in (Err why) other = other

is_passed : {A : Type 0} → Result A Refusal → Bool
is_passed (Ok x) = true
is_passed (Err why) = false

pub told-refused : (r : CallResult Pass) (why : Refusal) → Err why ≡ decided r → r ≡ Err why
unfolding refusal_in is_passed
told-refused (Err w) why e = ap (λ (x : Result Passed Refusal). Err (refusal_in x w)) (sym e)
told-refused (Ok p) why e = clash (sym (ap is_passed e))

-- one pass is not refused
pub record IsFirst (b : Buffer) (f : Offered) (d : Passed) : Type 0 where
  pub inside : fits (pass_of b f) ≡ true
  pub told : d ≡ passed_as (pass_of b f)

pub told-first : (b : Buffer) (f : Offered) (d : Passed) → Ok d ≡ decided (first_decision b f) → IsFirst b f d
unfolding first_decision is_passed pass_in
told-first b f d h = go (fits (pass_of b f)) refl h
  where
    go : (x : Bool) → fits (pass_of b f) ≡ x → Ok d ≡ decided (refuse_if (not x) ResultLimits (Ok (pass_of b f))) → IsFirst b f d
    go true y s = record { inside = y; told = ap (λ (x : Result Passed Refusal). pass_in x d) s }
    go false y s = clash (ap is_passed s)

pub told-out : (b : Buffer) (f : Offered) (why : Refusal) → Err why ≡ decided (first_decision b f) → (fits (pass_of b f) ≡ false) × (why ≡ ResultLimits)
unfolding first_decision is_passed refusal_in
told-out b f why h = go (fits (pass_of b f)) refl h
  where
    go : (x : Bool) → fits (pass_of b f) ≡ x → Err why ≡ decided (refuse_if (not x) ResultLimits (Ok (pass_of b f))) → (fits (pass_of b f) ≡ false) × (why ≡ ResultLimits)
    go true y s = clash (sym (ap is_passed s))
    go false y s = (y, ap (λ (x : Result Passed Refusal). refusal_in x why) s)

-- neither refusal 7 nor 9 stops the frame: it is the last pass's
pub record IsLast (b : Buffer) (f : Offered) (d : Passed) : Type 0 where
  pub inside : leaves_limits b f ≡ false
  pub group : lacks_group b f ≡ false
  pub told : d ≡ passed_as (last_pass b f)

pub told-last : (b : Buffer) (f : Offered) (d : Passed) → Ok d ≡ decided (decision b f) → IsLast b f d
unfolding decision is_passed pass_in
told-last b f d h = go (leaves_limits b f) (lacks_group b f) refl refl h
  where
    go : (x y : Bool) → leaves_limits b f ≡ x → lacks_group b f ≡ y
        → Ok d ≡ decided (refuse_if x ResultLimits (refuse_if y LastNumber (Ok (last_pass b f)))) → IsLast b f d
    go true y l g s = clash (ap is_passed s)
    go false true l g s = clash (ap is_passed s)
    go false false l g s = record { inside = l; group = g; told = ap (λ (x : Result Passed Refusal). pass_in x d) s }

-- ---- the second pass, before its group number is given

-- a pass carries the group number, and does not read it
next-pass : (c : Buffer) (f : Offered) → pass_of (in_next_group c) f ≡ record { buffer = in_next_group (pass_of c f).buffer; frame = (pass_of c f).frame }
unfolding pass_of step_one step_two
next-pass c f = split (is_sequence c.mode && c.group.begun) (λ e. rw e) (λ e. rw e)

module _ (c : Buffer) (f : Offered) (p : ℤ) where
  abbrev unnumbered : Pass
  unnumbered = pass_of (moved c p) f

  second_pass_lem : pass_of (regrouped_buffer c p) f ≡ record { buffer = in_next_group unnumbered.buffer; frame = unnumbered.frame }
  unfolding regrouped_buffer
  second_pass_lem = next-pass (moved c p) f

  second_fits : fits (pass_of (regrouped_buffer c p) f) ≡ fits unnumbered
  unfolding fits
  second_fits = ap fits second_pass_lem

  pub second-number : unnumbered.buffer.group.number ≡ c.group.number
  second-number = pass-number (moved c p) f ∙ moved-number c p

  pub second-out : fits unnumbered ≡ false → second_decision c f p ≡ Err ResultLimits
  unfolding second_decision
  second-out e = rw (second_fits, e)

  module _ (e : fits unnumbered ≡ true) where
    pub second-last : in_last_group c ≡ true → second_decision c f p ≡ Err LastNumber
    unfolding second_decision
    second-last l = rw (second_fits, e, l)

    pub second-done : in_last_group c ≡ false → second_decision c f p ≡ Ok (record { buffer = in_next_group unnumbered.buffer; frame = unnumbered.frame })
    unfolding second_decision
    second-done l = rw (second_fits, e, l) (ap Ok second_pass_lem)

-- ---- a pass that leaves the buffer as it is

pub still : (b : Buffer) (f : Offered) → (is_sequence b.mode && b.group.begun) ≡ false → step_one b f ≡ b
unfolding step_one
still b f e = rw e

pub calm : (b : Buffer) (f : Offered) → let p : Pass = record { buffer = b; frame = step_two b f } in
    (is_sequence b.mode && b.group.begun) ≡ false → fits p ≡ true → breaks p ≡ false → IsCalm b f (step_two b f)
unfolding pass_of last_pass leaves_limits lacks_group
calm b f begun fit unbroken =
    let first : pass_of b f ≡ record { buffer = b; frame = step_two b f } = ap (λ (c : Buffer). record { buffer = c; frame = step_two c f }) (still b f begun) in
    record { last = rw (first, unbroken); inside = rw (first, fit, unbroken); group = rw (first, unbroken) }

-- ---- a first pass that is not refused, from a good head

module _ (h : Head) (f : Offered) (g : IsGoodHead h) where
  -- the frame's track is still one of the head's
  pub first-track : HasTrack h f.track → HasTrack (head_of (pass_of g.held f).buffer) (pass_of g.held f).frame.track
  first-track t =
      let from = first-from g.held f in
      let track : (pass_of g.held f).frame.track ≡ f.track = from.frame.track in
      let width : length (pass_of g.held f).buffer.tracks ≡ h.ntracks = from.buffer.width ∙ ap (λ (k : Head). k.ntracks) (sym g.laid) in
      rw (track, width) t

  module _ (e : fits (pass_of g.held f) ≡ true) where
    first_good : IsGood (pass_of g.held f).buffer
    first_good = pass-good g.held f (head-good h g) e

    pub first_head : IsGoodHead (head_of (pass_of g.held f).buffer)
    first_head = good-head _ first_good

    -- where it was shown is inside the limits
    pub first-shown : result_time (pass_of g.held f).frame.pts ≡ true
    first-shown = (fits-facts (pass_of g.held f) e).pts

-- ---- a second pass, from a good head

pub moved-head : (h : Head) (g : IsGoodHead h) (p : ℤ) → result_time p ≡ true → IsGoodHead (head_of (moved g.held p))
moved-head h g p e = good-head _ (moved-good g.held p (head-good h g) e)
