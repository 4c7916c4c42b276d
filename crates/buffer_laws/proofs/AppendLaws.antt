-- An append that is not refused keeps a good buffer good, and every number that it finds stored, and the next, it leaves stored or
-- tells on one line: step by step, part by part.
use mathlib.Core.Path.{◌≡◌, refl, ap, ap₂, ◌∙◌}
use mathlib.Core.Bool.{Bool, true, false, cond, not, ◌&&◌}
use mathlib.Core.List.{List, [], ◌∷◌}
use Prim.Native.Nat.{ℕ, ◌+◌, ◌-◌, ◌≤◌, ◌<◌}
use native.Mathlib.Omega.{arith}
use lib.Dec.{leb, eqb}
use lib.IntN.{ℤ, pos}
use lib.ListN.{length, set, length-map, length-set}
use lib.Seq.{get_or-set_same}
use lib.Signed.{lt_z, le_z, ◌≤ℤ◌}
use borrow.Author.Tests.{eqb-false, not-true, not-false}
use Rattle.laws.proofs.BoolLaws.{by-test, and_left, and_right, and_both, or_right, or-none-left, or-none-right}
use Rattle.laws.proofs.IntLaws.{test-le, le_test, test-ge, le-le, le_refl}
use Rattle.seconds.specs.Seconds.{seconds_of, same_int}
use Rattle.seconds.proofs.SecondsLaws.{double-same}
use Rattle.buffer_state.specs.declared.Frame.{Frame}
use Rattle.buffer_state.specs.declared.Offered.{Offered}
use Rattle.buffer_state.specs.declared.Track.{Track}
use Rattle.buffer_state.specs.declared.Group.{Group}
use Rattle.buffer_state.specs.Buffer.{Buffer, zero_track, track_of, with_need, restarted_track, is_sequence, in_last_group}
use Rattle.buffer_state.specs.Limits.{result_time, good_duration, offered_time, places, last_number, known_kind}
use Rattle.buffer_state.specs.Store.{kept, Line}
use Rattle.buffer_state.specs.Run.{total}
use Rattle.buffer_state.specs.Append.{Outcome, step_one, step_two, Pass, pass_of, end_offered, fits, moved, regrouped_buffer, breaks, second_pass, last_pass, leaves_limits, lacks_group, needing_buffer, before_window, past_window, lacks_random_access, dropped_outcome, overlap_marks, is_overlapped, followed, stored_as, next_number, raised, step_nine, stored, settled, appended_outcome, is_offerable}
use Rattle.buffer_state.specs.WellFormed.{all_of, good_track, good_offset, converts, good_start, good_group}
use Rattle.buffer_laws.proofs.TestLaws.{all_get_d, all_map, map-all}
use Rattle.buffer_laws.proofs.OrderLaws.{insert_all, insert-total}
use Rattle.buffer_laws.proofs.StoreLaws.{frame_weight, line_weight, left-all, left-and-told, told-cause}
use Rattle.buffer_laws.proofs.GoodLaws.{same_number, need-good, restarted-good, track-good, tracks-map, tracks-set, facts-frame, frames-later, frames-left, frames-more, group-end, group-start, group-number, starting-good, ended-good, IsGood, next-good}

-- ---- steps 1 and 2

-- what refusal 7 asks of a pass, part by part
pub record Fits (p : Pass) : Type 0 where
  pub offset : result_time p.buffer.settings.offset.micros ≡ true
  pub pts : result_time p.frame.pts ≡ true
  pub dts : result_time p.frame.dts ≡ true
  pub end : result_time (end_offered p.frame) ≡ true

pub fits-facts : (p : Pass) → fits p ≡ true → Fits p
unfolding fits
fits-facts p e =
    let e₁ = and_right (result_time p.buffer.settings.offset.micros) _ e in
    let e₂ = and_right (result_time p.frame.pts) _ e₁ in
    record {
      offset = and_left _ _ e;
      pts = and_left _ _ e₁;
      dts = and_left _ _ e₂;
      end = and_right (result_time p.frame.dts) _ e₂;
    }

-- the offset that step 1 keeps is the quotient
quotient-good : (z : ℤ) → result_time z ≡ true → good_offset (record { seconds = seconds_of z; micros = z }) ≡ true
unfolding good_offset
quotient-good z h = and_both h (or_right (converts (seconds_of z) z) _ (double-same (seconds_of z)))

step_one-good : (b : Buffer) (f : Offered) → IsGood b → result_time (step_one b f).settings.offset.micros ≡ true → IsGood (step_one b f)
unfolding step_one good_group same_int
step_one-good b f g =
    by-test (λ (c : Buffer). result_time c.settings.offset.micros ≡ true → IsGood c) (is_sequence b.mode && b.group.begun)
    (λ t h. record {
      tracks = tracks-map b.tracks g.tracks (with_need true) (need-good true);
      frames = rw (length-map b.tracks (with_need true)) g.frames;
      last = g.last;
      group = and_both (group-start b.group g.group (and_right (is_sequence b.mode) _ t)) (group-number b.group g.group);
      settings = record { offset = quotient-good _ h; start = g.settings.start; end = g.settings.end };
    })
    (λ _ _. g)

pub pass-good : (b : Buffer) (f : Offered) → IsGood b → fits (pass_of b f) ≡ true → IsGood (pass_of b f).buffer
unfolding pass_of
pass-good b f g h = step_one-good b f g (fits-facts (pass_of b f) h).offset

-- ---- step 3

module _ (b : Buffer) (z : ℤ) where
  pub moved-number : (moved b z).group.number ≡ b.group.number
  unfolding moved
  moved-number = same_number b.mode b.group z

  pub regrouped-number : (regrouped_buffer b z).group.number ≡ b.group.number + 1
  unfolding regrouped_buffer
  regrouped-number = ap (λ (n : ℕ). n + 1) moved-number

  module _ (g : IsGood b) (h : result_time z ≡ true) where
    pub moved-good : IsGood (moved b z)
    unfolding moved
    moved-good = record {
      tracks = tracks-map b.tracks g.tracks restarted_track restarted-good;
      frames = rw (length-map b.tracks restarted_track, moved-number) g.frames;
      last = g.last;
      group =
          by-test (λ (x : Group). good_group x ≡ true) (is_sequence b.mode) (λ _. starting-good b.group g.group)
          (λ _. ended-good b.group g.group z h);
      settings = g.settings;
    }

    pub regrouped-good : in_last_group b ≡ false → IsGood (regrouped_buffer b z)
    unfolding regrouped_buffer
    regrouped-good more = next-good (moved b z) moved-good (rw moved-number more)

-- ---- both passes

-- steps 1 to 3 touch no frame, give no number and leave the number of tracks
pub record IsUntouched (b c : Buffer) : Type 0 where
  pub frames : c.frames ≡ b.frames
  pub last : c.last ≡ b.last
  pub width : length c.tracks ≡ length b.tracks

step_one-untouched : (b : Buffer) (f : Offered) → IsUntouched b (step_one b f)
unfolding step_one
step_one-untouched b f =
    by-test (IsUntouched b) (is_sequence b.mode && b.group.begun)
    (λ _. record { frames = refl; last = refl; width = length-map b.tracks (with_need true) })
    (λ _. record { frames = refl; last = refl; width = refl })

step_one-number : (b : Buffer) (f : Offered) → (step_one b f).group.number ≡ b.group.number
unfolding step_one
step_one-number b f = by-test (λ (c : Buffer). c.group.number ≡ b.group.number) (is_sequence b.mode && b.group.begun) (λ _. refl) (λ _. refl)

-- a pass begins no group
pub pass-number : (b : Buffer) (f : Offered) → (pass_of b f).buffer.group.number ≡ b.group.number
unfolding pass_of
pass-number b f = step_one-number b f

-- the frame that steps 4 to 9 see is the one offered, but for its two times
pub record Moved (f g : Offered) : Type 0 where
  pub track : g.track ≡ f.track
  pub flagged : g.flagged ≡ f.flagged
  pub duration : g.duration ≡ f.duration

pub record FromPass (b : Buffer) (f : Offered) (p : Pass) : Type 0 where
  pub buffer : IsUntouched b p.buffer
  pub frame : Moved f p.frame

pub first-from : (b : Buffer) (f : Offered) → FromPass b f (pass_of b f)
unfolding pass_of step_two
first-from b f = record { buffer = step_one-untouched b f; frame = record { track = refl; flagged = refl; duration = refl } }

second_from : (b : Buffer) (f : Offered) → FromPass b f (second_pass b f)
unfolding second_pass regrouped_buffer moved
second_from b f =
    let p = pass_of b f in
    let one = (first-from b f).buffer in
    let two = first-from (regrouped_buffer p.buffer p.frame.pts) f in
    record {
      buffer = record {
        frames = two.buffer.frames ∙ one.frames;
        last = two.buffer.last ∙ one.last;
        width = two.buffer.width ∙ length-map p.buffer.tracks restarted_track ∙ one.width;
      };
      frame = two.frame;
    }

pub last-from : (b : Buffer) (f : Offered) → FromPass b f (last_pass b f)
unfolding last_pass
last-from b f = by-test (FromPass b f) (breaks (pass_of b f)) (λ _. second_from b f) (λ _. first-from b f)

-- the three are unset on every track
abbrev IsUnset : Buffer → Type 0
IsUnset b = all_of (λ (t : Track). not t.known) b.tracks ≡ true

regrouped-unset : (b : Buffer) (z : ℤ) → IsUnset (regrouped_buffer b z)
unfolding regrouped_buffer moved
regrouped-unset b z = map-all (λ (t : Track). not t.known) restarted_track (λ t. refl) b.tracks

step_one-unset : (b : Buffer) (f : Offered) → IsUnset b → IsUnset (step_one b f)
unfolding step_one
step_one-unset b f h =
    by-test IsUnset (is_sequence b.mode && b.group.begun)
    (λ _. all_map (λ (t : Track). not t.known) (λ (t : Track). not t.known) (with_need true) (λ t k. k) b.tracks h)
    (λ _. h)

-- Step 3 begins again at most once: the second pass finds last decode time unset.
pub no-third-pass : (b : Buffer) (f : Offered) → breaks (second_pass b f) ≡ false
unfolding breaks second_pass pass_of step_two
no-third-pass b f =
    let p = pass_of b f in
    let c = regrouped_buffer p.buffer p.frame.pts in
    let unset = step_one-unset c f (regrouped-unset p.buffer p.frame.pts) in
    let none : (track_of (step_one c f) f.track).known ≡ false =
    not-true _ (all_get_d (λ (t : Track). not t.known) (step_one c f).tracks (f.track - 1) zero_track refl unset) in
    rw none

pub record IsGoodPass (p : Pass) : Type 0 where
  pub buffer : IsGood p.buffer
  pub fit : Fits p

-- A frame that is not refused by 7 or 9 leaves both passes with a good buffer and times inside the limits.
pub last_pass-good : (b : Buffer) (f : Offered) → IsGood b → leaves_limits b f ≡ false → lacks_group b f ≡ false → IsGoodPass (last_pass b f)
unfolding last_pass leaves_limits lacks_group second_pass
last_pass-good b f g e l =
    let p = pass_of b f in
    let fit : fits p ≡ true = not-false (fits p) (or-none-left (not (fits p)) _ e) in
    let first : IsGood p.buffer = pass-good b f g fit in
    let restart : Buffer = regrouped_buffer p.buffer p.frame.pts in
    by-test IsGoodPass (breaks p)
    (λ t.
    let fit₂ : fits (pass_of restart f) ≡ true = not-false _ (rw t at (or-none-right (not (fits p)) _ e)) in
    let more : in_last_group p.buffer ≡ false = rw (pass-number b f) (rw t at l) in
    record {
      buffer = pass-good restart f (regrouped-good p.buffer p.frame.pts first (fits-facts p fit).pts more) fit₂;
      fit = fits-facts (pass_of restart f) fit₂;
    })
    (λ _. record { buffer = first; fit = fits-facts p fit })

-- ---- steps 4 to 6

pub needing-good : (on : Bool) (p : Pass) → IsGood p.buffer → IsGood (needing_buffer on p)
needing-good on p g =
    let ts = p.buffer.tracks in
    let i = p.frame.track - 1 in
    record {
      tracks = tracks-set ts g.tracks i (with_need on (track_of p.buffer p.frame.track)) (need-good on _ (track-good ts g.tracks i));
      frames = rw (length-set ts i (with_need on (track_of p.buffer p.frame.track))) g.frames;
      last = g.last;
      group = g.group;
      settings = g.settings;
    }

dropped-good : (b : Buffer) (cause : ℕ) → IsGood b → b.last < last_number → IsGood (dropped_outcome b cause).after
dropped-good b cause g h = record {
  tracks = g.tracks;
  frames = frames-later (length b.tracks) b.last b.group.number b.frames g.frames (b.last + 1) b.group.number (omega arith) (omega arith);
  last = omega arith;
  group = g.group;
  settings = g.settings;
}

-- ---- steps 7 to 9

raised-time : (a b : ℤ) → result_time a ≡ true → result_time b ≡ true → result_time (raised a b) ≡ true
raised-time a b h k = by-test (λ (z : ℤ). result_time z ≡ true) (lt_z a b) (λ _. k) (λ _. h)

-- what is asked of a frame that is stored
record IsStorable (p : Pass) : Type 0 where
  buffer : IsGood p.buffer
  fit : Fits p
  duration : good_duration p.frame.duration ≡ true
  track_from : 1 ≤ p.frame.track
  track_to : p.frame.track ≤ length p.buffer.tracks
  not_early : le_z (pos 0) p.frame.pts ≡ true
  number : p.buffer.last < last_number

highest-end : (t : Track) → good_track t ≡ true → (e : ℤ) → result_time e ≡ true → result_time (cond t.known (raised t.end e) e) ≡ true
unfolding good_track
highest-end t g e h =
    by-test (λ (z : ℤ). result_time z ≡ true) t.known
    (λ k. raised-time t.end e (and_right (good_duration t.duration) _ (and_right (result_time t.dts) _ (rw k at (and_right (known_kind t.kind) _ g)))) h)
    (λ _. h)

followed-good : (t : Track) (f : Offered) → good_track t ≡ true → result_time f.dts ≡ true → good_duration f.duration ≡ true
    → result_time (end_offered f) ≡ true → good_track (followed t f) ≡ true
unfolding good_track
followed-good t f g d n e = and_both (and_left (known_kind t.kind) _ g) (and_both d (and_both n (highest-end t g (end_offered f) e)))

stored-good : (p : Pass) → IsStorable p → length (stored p).after.frames ≤ places → IsGood (stored p).after
unfolding stored step_nine overlap_marks
stored-good p s few =
    let b = p.buffer in
    let f = p.frame in
    let g = s.buffer in
    let i = f.track - 1 in
    let width : length (set b.tracks i (followed (track_of b f.track) f)) ≡ length b.tracks = length-set b.tracks i (followed (track_of b f.track) f) in
    record {
      tracks =
          tracks-set b.tracks g.tracks i (followed (track_of b f.track) f)
          (followed-good _ f (track-good b.tracks g.tracks i) s.fit.dts s.duration s.fit.end);
      frames =
          rw width
          (frames-more (length b.tracks) b.last b.group.number (stored_as (next_number b) b.group.number f) (kept (overlap_marks p))
          (frames-left (length b.tracks) b.last b.group.number b.frames g.frames (is_overlapped (track_of b f.track) f) 4)
          (facts-frame (length b.tracks) (b.last + 1) b.group.number (stored_as (next_number b) b.group.number f) (record {
            track_from = s.track_from;
            track_to = s.track_to;
            number_from = omega arith;
            number_to = omega arith;
            group_to = omega arith;
            not_early = s.not_early;
            pts = s.fit.pts;
            dts = s.fit.dts;
            end = s.fit.end;
            duration = s.duration;
          }))
          refl few);
      last = omega (arith, s.number);
      group = ended-good b.group g.group _ (raised-time b.group.end (end_offered f) (group-end b.group g.group) s.fit.end);
      settings = g.settings;
    }

-- the window starts at 0 or later
in_window : (p : Pass) → IsGood p.buffer → before_window p ≡ false → le_z (pos 0) p.frame.pts ≡ true
unfolding good_start
in_window p g late =
    let start = p.buffer.settings.start.micros in
    let from : pos 0 ≤ℤ start = test-le (and_left (le_z (pos 0) start) _ g.settings.start) in
    let to : start ≤ℤ p.frame.pts = test-ge late in
    le_test (le-le from to)

settled-good : (p : Pass) → IsGood p.buffer → Fits p → good_duration p.frame.duration ≡ true → 1 ≤ p.frame.track
    → p.frame.track ≤ length p.buffer.tracks → p.buffer.last < last_number
    → length (settled p).after.frames ≤ places → IsGood (settled p).after
unfolding settled
settled-good p g fit duration from to number =
    let Keeps : Outcome → Type 0 = λ (o : Outcome). length o.after.frames ≤ places → IsGood o.after in
    by-test Keeps (before_window p) (λ _ _. dropped-good (needing_buffer true p) 1 (needing-good true p g) number)
    (λ late. by-test Keeps (past_window p) (λ _ _. dropped-good (needing_buffer true p) 2 (needing-good true p g) number)
    (λ _. by-test Keeps (lacks_random_access p) (λ _ _. dropped-good p.buffer 3 g number)
    (λ _. stored-good (record { buffer = needing_buffer false p; frame = p.frame }) (record {
      buffer = needing-good false p g;
      fit = record { offset = fit.offset; pts = fit.pts; dts = fit.dts; end = fit.end };
      duration = duration;
      track_from = from;
      track_to = omega (arith, length-set p.buffer.tracks (p.frame.track - 1) (with_need false (track_of p.buffer p.frame.track)));
      not_early = in_window p g late;
      number = number;
    }))))

offered-duration : (f : Offered) → is_offerable f ≡ true → good_duration f.duration ≡ true
unfolding is_offerable
offered-duration f e = and_right (offered_time f.dts) _ (and_right (offered_time f.pts) _ e)

-- what the refusals of an append leave: each test, failed
pub record IsAccepted (b : Buffer) (f : Offered) : Type 0 where
  pub track_from : 1 ≤ f.track
  pub track_to : f.track ≤ length b.tracks
  pub offerable : is_offerable f ≡ true
  pub number : eqb b.last last_number ≡ false
  pub inside : leaves_limits b f ≡ false
  pub group : lacks_group b f ≡ false
  pub room : length (appended_outcome b f).after.frames ≤ places

-- Preservation: a good buffer stays good.
pub appended-good : (b : Buffer) (f : Offered) → IsGood b → IsAccepted b f → IsGood (appended_outcome b f).after
unfolding appended_outcome
appended-good b f g a =
    let p = last_pass b f in
    let from = last-from b f in
    let good = last_pass-good b f g a.inside a.group in
    settled-good p good.buffer good.fit (rw from.frame.duration (offered-duration f a.offerable))
    (rw from.frame.track a.track_from) (rw (from.frame.track, from.buffer.width) a.track_to)
    (rw from.buffer.last (omega (arith, eqb-false b.last last_number a.number))) a.room

-- ---- conservation

-- a cause of the table
abbrev pub known_cause : Line → Bool
known_cause l = leb 1 l.cause && leb l.cause 6

-- What an outcome accounts for, the numbers given by its call among it: for any weight of a number, the totals of what is stored
-- and of what is told are the total of what was stored and of the numbers given.
pub record Accounts (b : Buffer) (given : List ℕ) (o : Outcome) : Type 0 where
  pub weight : (w : ℕ → ℕ) → frame_weight w o.after.frames + line_weight w o.lines ≡ frame_weight w b.frames + total w given
  pub last : o.after.last ≡ b.last + length given
  pub causes : all_of known_cause o.lines ≡ true

dropped-accounts : (b : Buffer) (cause : ℕ) → known_cause (record { number = next_number b; cause = cause }) ≡ true
    → Accounts b (next_number b ∷ []) (dropped_outcome b cause)
unfolding total all_of
dropped-accounts b cause known = record { weight = λ w. refl; last = refl; causes = and_both known refl }

stored-accounts : (p : Pass) → Accounts p.buffer (next_number p.buffer ∷ []) (stored p)
unfolding stored step_nine overlap_marks total
stored-accounts p =
    let test = is_overlapped (track_of p.buffer p.frame.track) p.frame in
    let fs = p.buffer.frames in
    record {
      weight = λ w. omega (arith, insert-total (stored_as (next_number p.buffer) p.buffer.group.number p.frame) (λ (f : Frame). w f.number) (kept (overlap_marks p)), left-and-told test 4 fs w);
      last = refl;
      causes = told-cause test 4 fs (λ (c : ℕ). leb 1 c && leb c 6) refl refl;
    }

settled-accounts : (p : Pass) → Accounts p.buffer (next_number p.buffer ∷ []) (settled p)
unfolding settled
settled-accounts p =
    let Holds : Outcome → Type 0 = Accounts p.buffer (next_number p.buffer ∷ []) in
    by-test Holds (before_window p) (λ _. of-track true (dropped-accounts (needing_buffer true p) 1 refl))
    (λ _. by-test Holds (past_window p) (λ _. of-track true (dropped-accounts (needing_buffer true p) 2 refl))
    (λ _. by-test Holds (lacks_random_access p) (λ _. dropped-accounts p.buffer 3 refl)
    (λ _. of-track false (stored-accounts (record { buffer = needing_buffer false p; frame = p.frame })))))
  where
    -- to turn need-random-access on or off touches no frame
    of-track : (on : Bool) {o : Outcome} → Accounts (needing_buffer on p) (next_number p.buffer ∷ []) o → Accounts p.buffer (next_number p.buffer ∷ []) o
    of-track on a = record { weight = a.weight; last = a.last; causes = a.causes }

-- Conservation: what was stored and the next number are stored or told.
pub appended-accounts : (b : Buffer) (f : Offered) → Accounts b (next_number b ∷ []) (appended_outcome b f)
unfolding appended_outcome
appended-accounts b f =
    let u = (last-from b f).buffer in
    let a = settled-accounts (last_pass b f) in
    record {
      weight = λ w. a.weight w ∙ ap₂ (λ (fs : List Frame) (n : ℕ). frame_weight w fs + total w ((n + 1) ∷ [])) u.frames u.last;
      last = a.last ∙ ap (λ (n : ℕ). n + 1) u.last;
      causes = a.causes;
    }

-- ---- what is stored after an append: what was stored, or the frame offered under the next number, which ends by its track's highest end

-- a frame ends by the highest end of its track
abbrev pub Ends : Buffer → Offered → Type 0
Ends b g = le_z (end_offered g) (track_of b g.track).end ≡ true

highest-reached : (t : Track) (e : ℤ) → le_z e (cond t.known (raised t.end e) e) ≡ true
highest-reached t e =
    let Reached : ℤ → Type 0 = λ z. le_z e z ≡ true in
    by-test Reached t.known
    (λ _. by-test Reached (lt_z t.end e) (λ _. le_test (le_refl e)) (λ h. le_test (test-ge {a = t.end} {b = e} h)))
    (λ _. le_test (le_refl e))

stored-ends : (p : Pass) → 1 ≤ p.frame.track → p.frame.track ≤ length p.buffer.tracks → Ends (stored p).after p.frame
unfolding stored step_nine
stored-ends p from to =
    let t = followed (track_of p.buffer p.frame.track) p.frame in
    let same = get_or-set_same p.buffer.tracks (p.frame.track - 1) t zero_track (omega arith) in
    ap (λ (x : Track). le_z (end_offered p.frame) x.end) same ∙ highest-reached (track_of p.buffer p.frame.track) (end_offered p.frame)

module _ (q : Frame → Bool) where
  stored-all : (p : Pass) → all_of q p.buffer.frames ≡ true → q (stored_as (next_number p.buffer) p.buffer.group.number p.frame) ≡ true
      → all_of q (stored p).after.frames ≡ true
  unfolding stored step_nine overlap_marks
  stored-all p e h =
      insert_all (stored_as (next_number p.buffer) p.buffer.group.number p.frame) q (kept (overlap_marks p)) h
      (left-all (is_overlapped (track_of p.buffer p.frame.track) p.frame) 4 p.buffer.frames q e)

  settled-all : (p : Pass) → 1 ≤ p.frame.track → p.frame.track ≤ length p.buffer.tracks → all_of q p.buffer.frames ≡ true
      → (Ends (settled p).after p.frame → q (stored_as (next_number p.buffer) p.buffer.group.number p.frame) ≡ true) → all_of q (settled p).after.frames ≡ true
  unfolding settled
  settled-all p from to e =
      let Holds : Outcome → Type 0 = λ (o : Outcome). (Ends o.after p.frame → q (stored_as (next_number p.buffer) p.buffer.group.number p.frame) ≡ true) → all_of q o.after.frames ≡ true in
      let ready : Pass = record { buffer = needing_buffer false p; frame = p.frame } in
      let width : length ready.buffer.tracks ≡ length p.buffer.tracks = length-set p.buffer.tracks (p.frame.track - 1) _ in
      by-test Holds (before_window p) (λ _ _. e)
      (λ _. by-test Holds (past_window p) (λ _ _. e)
      (λ _. by-test Holds (lacks_random_access p) (λ _ _. e)
      (λ _ h. stored-all ready e (h (stored-ends ready from (omega (arith, width)))))))

  pub appended-all : (b : Buffer) (f : Offered) → IsAccepted b f → all_of q b.frames ≡ true
      → ((g : Offered) (group : ℕ) → Moved f g → Ends (appended_outcome b f).after g → q (stored_as (next_number b) group g) ≡ true)
      → all_of q (appended_outcome b f).after.frames ≡ true
  unfolding appended_outcome
  appended-all b f a e h =
      let from = last-from b f in
      let p = last_pass b f in
      settled-all p (rw from.frame.track a.track_from) (rw (from.frame.track, from.buffer.width) a.track_to) (rw from.buffer.frames e)
      (λ ends. rw from.buffer.last (h p.frame p.buffer.group.number from.frame ends))
