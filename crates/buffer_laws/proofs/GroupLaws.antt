-- Document 02, No. 4: the mend of step 8 works. Over every list of calls from a fresh buffer a track's frames of the current group end at or
-- before its highest end; so an append takes out no frame of the group in which its own is stored.
use Rattle.std.specs.Prelude.{Ok}
use mathlib.Core.Path.{◌≡◌, refl, sym, ap, ◌∙◌}
use mathlib.Core.Bool.{Bool, true, false, cond, not, ◌&&◌}
use mathlib.Core.List.{List, [], ◌∷◌, map}
use Prim.Native.Nat.{ℕ, zero, suc, ◌-◌, ◌≤◌, ◌<◌}
use native.Mathlib.Omega.{arith}
use lib.Dec.{eqb}
use lib.IntN.{ℤ}
use lib.ListN.{length, get_or, set, length-set}
use lib.Seq.{get_or-set_same}
use lib.Signed.{lt_z, le_z, ◌≤ℤ◌, ◌<ℤ◌}
use borrow.Author.Tests.{leb-true, eqb-true, ne_eqb, not-false}
use Rattle.laws.proofs.BoolLaws.{split, by-test, and_left, and_right, and_both, or_cases, or_left, or_right, or-none-left}
use Rattle.laws.proofs.IntLaws.{test-le, test-lt, le_test, test-ge, gt-test, lt-le, le-le, le_refl, lt-add, weaken}
use Rattle.seconds.specs.Seconds.{Bound}
use Rattle.buffer_state.specs.declared.Frame.{Frame}
use Rattle.buffer_state.specs.declared.Offered.{Offered}
use Rattle.buffer_state.specs.declared.Track.{Track}
use Rattle.buffer_state.specs.Append.{Outcome, Pass, step_one, pass_of, end_offered, fits, moved, regrouped_buffer, breaks, second_pass, last_pass, leaves_limits, needing_buffer, before_window, past_window, lacks_random_access, is_overlapped, overlap_marks, raised, stored_as, next_number, followed, step_nine, stored, settled, appended_outcome, append}
use Rattle.buffer_state.specs.Batch.{append_each}
use Rattle.buffer_state.specs.Buffer.{Buffer, fresh, zero_track, track_of, end_of, with_need, is_sequence}
use Rattle.buffer_state.specs.Groups.{ended_by, ended_on, current_ended, is_untold, spares_group, SparesGroup}
use Rattle.buffer_state.specs.Limits.{good_duration}
use Rattle.buffer_state.specs.Remove.{removal_marks, ends_track, after_loss, removed_outcome}
use Rattle.buffer_state.specs.Run.{Call, last_of}
use Rattle.buffer_state.specs.Settings.{create, aborted_buffer}
use Rattle.buffer_state.specs.Store.{Marked, kept, Line}
use Rattle.buffer_state.specs.WellFormed.{all_of, good_frame}
use Rattle.buffer_laws.proofs.AppendLaws.{pass-good, regrouped-number, last-from, last_pass-good, needing-good, IsAccepted}
use Rattle.buffer_laws.proofs.CallLaws.{append-done}
use Rattle.buffer_laws.proofs.GoodLaws.{frame-facts, IsGood}
use Rattle.buffer_laws.proofs.OrderLaws.{insert_all}
use Rattle.buffer_laws.proofs.RemoveLaws.{lost-untouched, removed-all}
use Rattle.buffer_laws.proofs.ReplyLaws.{Alike, IsPreserved, IsGoodWith, batch-kept, run-kept}
use Rattle.buffer_laws.proofs.SettingLaws.{if-done, created-good, aborted-number}
use Rattle.buffer_laws.proofs.SpareLaws.{of_group, taking-spares}
use Rattle.buffer_laws.proofs.StoreLaws.{left-all}
use Rattle.buffer_laws.proofs.TestLaws.{all_none, all_weaker, all-from-both, all_more}

-- ---- tracks whose highest ends stay or rise

record IsLater (t u : Track) : Type 0 where
  known : t.known ≡ true → u.known ≡ true
  end : t.known ≡ true → le_z t.end u.end ≡ true

later_same : (t u : Track) → t.known ≡ u.known → t.end ≡ u.end → IsLater t u
later_same t u k e = record { known = λ h. sym k ∙ h; end = λ _. rw e (le_test (le_refl u.end)) }

later-ended : (t u : Track) → IsLater t u → (f : Frame) → ended_by t f ≡ true → ended_by u f ≡ true
later-ended t u l f e =
    let known = and_left t.known _ e in
    let ended : end_of f ≤ℤ t.end = test-le (and_right t.known _ e) in
    let rises : t.end ≤ℤ u.end = test-le (l.end known) in
    and_both (l.known known) (le_test (le-le ended rises))

-- every track by its number
abbrev AllLater : List Track → List Track → Type 0
AllLater ts us = (i : ℕ) → IsLater (get_or ts i zero_track) (get_or us i zero_track)

needs-later : (on : Bool) (ts : List Track) → AllLater ts (map (with_need on) ts)
needs-later on [] i = later_same zero_track zero_track refl refl
needs-later on (t ∷ ts) zero = later_same t (with_need on t) refl refl
needs-later on (t ∷ ts) (suc i) = needs-later on ts i

set-later : (ts : List Track) (i : ℕ) (u : Track) → IsLater (get_or ts i zero_track) u → AllLater ts (set ts i u)
set-later [] i u l j = later_same zero_track zero_track refl refl
set-later (t ∷ ts) zero u l zero = l
set-later (t ∷ ts) zero u l (suc j) = later_same (get_or ts j zero_track) (get_or ts j zero_track) refl refl
set-later (t ∷ ts) (suc i) u l zero = later_same t t refl refl
set-later (t ∷ ts) (suc i) u l (suc j) = set-later ts i u l j

module _ (group : ℕ) where
  on-later : (ts us : List Track) → AllLater ts us → (f : Frame) → ended_on ts group f ≡ true → ended_on us group f ≡ true
  on-later ts us l f e =
      or_cases (not (eqb f.group group)) (ended_by (get_or ts (f.track - 1) zero_track) f) e
      (λ other. or_left _ _ other)
      (λ ended. or_right (not (eqb f.group group)) _ (later-ended _ _ (l (f.track - 1)) f ended))

  all-later : (ts us : List Track) → AllLater ts us → (fs : List Frame) → all_of (ended_on ts group) fs ≡ true → all_of (ended_on us group) fs ≡ true
  all-later ts us l = all_weaker (ended_on ts group) (ended_on us group) (on-later ts us l)

-- a group that has just begun has no frame
none_yet : (b : Buffer) → IsGood b → (ts : List Track) (group : ℕ) → b.group.number < group → all_of (ended_on ts group) b.frames ≡ true
none_yet b g ts group h =
    all_weaker (good_frame (length b.tracks) b.last b.group.number) (ended_on ts group)
    (λ f e. or_left (not (eqb f.group group)) _ (rw (ne_eqb f.group group (λ q. omega (arith, (frame-facts (length b.tracks) b.last b.group.number f e).group_to, q))) refl))
    b.frames g.frames.each

-- ---- steps 1 to 3

abbrev pub IsEnded : Buffer → Type 0
IsEnded b = current_ended b ≡ true

step_one-ended : (b : Buffer) (f : Offered) → IsEnded b → IsEnded (step_one b f)
unfolding step_one current_ended
step_one-ended b f e =
    by-test (λ (c : Buffer). all_of (ended_on c.tracks c.group.number) c.frames ≡ true) (is_sequence b.mode && b.group.begun)
    (λ _. all-later b.group.number b.tracks (map (with_need true) b.tracks) (needs-later true b.tracks) b.frames e)
    (λ _. e)

pass-ended : (b : Buffer) (f : Offered) → IsEnded b → IsEnded (pass_of b f).buffer
unfolding pass_of
pass-ended b f e = step_one-ended b f e

regrouped-ended : (b : Buffer) (z : ℤ) → IsGood b → IsEnded (regrouped_buffer b z)
unfolding regrouped_buffer moved current_ended
regrouped-ended b z g = none_yet b g (regrouped_buffer b z).tracks (regrouped_buffer b z).group.number (omega (arith, regrouped-number b z))

pub last_pass-ended : (b : Buffer) (f : Offered) → IsGood b → leaves_limits b f ≡ false → IsEnded b → IsEnded (last_pass b f).buffer
unfolding last_pass second_pass leaves_limits
last_pass-ended b f g l e =
    let p = pass_of b f in
    let fit : fits p ≡ true = not-false (fits p) (or-none-left (not (fits p)) _ l) in
    by-test (λ (q : Pass). IsEnded q.buffer) (breaks p)
    (λ _. pass-ended (regrouped_buffer p.buffer p.frame.pts) f (regrouped-ended p.buffer p.frame.pts (pass-good b f g fit)))
    (λ _. pass-ended b f e)

-- ---- steps 4 to 9

pub needing-ended : (on : Bool) (p : Pass) → IsEnded p.buffer → IsEnded (needing_buffer on p)
unfolding current_ended
needing-ended on p e =
    let b = p.buffer in
    let i = p.frame.track - 1 in
    all-later b.group.number b.tracks (set b.tracks i (with_need on (get_or b.tracks i zero_track)))
    (set-later b.tracks i (with_need on (get_or b.tracks i zero_track)) (later_same (get_or b.tracks i zero_track) _ refl refl)) b.frames e

followed-later : (t : Track) (f : Offered) → IsLater t (followed t f)
followed-later t f = record { known = λ _. refl; end = λ k. rw k (raises t.end (end_offered f)) }
  where
    raises : (a b : ℤ) → le_z a (raised a b) ≡ true
    raises a b = by-test (λ (z : ℤ). le_z a z ≡ true) (lt_z a b) (λ h. le_test (weaken (test-lt {a = a} {b = b} h))) (λ _. le_test (le_refl a))

followed-ends : (t : Track) (f : Offered) (n group : ℕ) → ended_by (followed t f) (stored_as n group f) ≡ true
followed-ends t f n group = reached t.known
  where
    reached : (k : Bool) → le_z (end_offered f) (cond k (raised t.end (end_offered f)) (end_offered f)) ≡ true
    reached true =
        by-test (λ (z : ℤ). le_z (end_offered f) z ≡ true) (lt_z t.end (end_offered f)) (λ _. le_test (le_refl (end_offered f)))
        (λ h. le_test (test-ge {a = t.end} {b = end_offered f} h))
    reached false = le_test (le_refl (end_offered f))

module _ (p : Pass) (from : 1 ≤ p.frame.track) (to : p.frame.track ≤ length p.buffer.tracks) (e : IsEnded p.buffer) where
  stored-ended : IsEnded (stored p).after
  unfolding stored step_nine overlap_marks current_ended
  stored-ended =
      let b = p.buffer in
      let f = p.frame in
      let i = f.track - 1 in
      let t = followed (track_of b f.track) f in
      let group = b.group.number in
      let new = stored_as (next_number b) group f in
      let place : get_or (set b.tracks i t) i zero_track ≡ t = get_or-set_same b.tracks i t zero_track (omega arith) in
      insert_all new (ended_on (set b.tracks i t) group) (kept (overlap_marks p))
      (or_right (not (eqb group group)) _ (ap (λ (x : Track). ended_by x new) place ∙ followed-ends (track_of b f.track) f (next_number b) group))
      (left-all (is_overlapped (track_of b f.track) f) 4 b.frames (ended_on (set b.tracks i t) group)
      (all-later group b.tracks (set b.tracks i t) (set-later b.tracks i t (followed-later (track_of b f.track) f)) b.frames e))

settled-ended : (p : Pass) → 1 ≤ p.frame.track → p.frame.track ≤ length p.buffer.tracks → IsEnded p.buffer → IsEnded (settled p).after
unfolding settled current_ended
settled-ended p from to e =
    let Keeps : Outcome → Type 0 = λ (o : Outcome). all_of (ended_on o.after.tracks o.after.group.number) o.after.frames ≡ true in
    let ready : Pass = record { buffer = needing_buffer false p; frame = p.frame } in
    let width : length ready.buffer.tracks ≡ length p.buffer.tracks = length-set p.buffer.tracks (p.frame.track - 1) _ in
    by-test Keeps (before_window p) (λ _. needing-ended true p e)
    (λ _. by-test Keeps (past_window p) (λ _. needing-ended true p e)
    (λ _. by-test Keeps (lacks_random_access p) (λ _. e)
    (λ _. stored-ended ready from (omega (arith, width)) (needing-ended false p e))))

module _ (b : Buffer) (f : Offered) (a : IsAccepted b f) where
  pub track_from : 1 ≤ (last_pass b f).frame.track
  track_from = rw (last-from b f).frame.track a.track_from

  pub track_to : (last_pass b f).frame.track ≤ length (last_pass b f).buffer.tracks
  track_to = rw ((last-from b f).frame.track, (last-from b f).buffer.width) a.track_to

  appended-ended : IsGood b → IsEnded b → IsEnded (appended_outcome b f).after
  unfolding appended_outcome
  appended-ended g e = settled-ended (last_pass b f) track_from track_to (last_pass-ended b f g a.inside e)

-- ---- what an append spares

none : (b : Bool) → not (b && false) ≡ true
none true = refl
none false = refl

-- a frame of the current group is presented before its track's highest end, so no frame that is stored overlaps it
kept-apart : (b : Buffer) (f : Offered) (g : Frame) → good_duration g.duration ≡ true → ended_on b.tracks b.group.number g ≡ true
    → of_group b.group.number g (not (is_overlapped (track_of b f.track) f g)) ≡ true
unfolding good_duration is_overlapped
kept-apart b f g d e =
    or_cases (not (eqb g.group b.group.number)) (ended_by (track_of b g.track) g) e
    (λ other. or_left _ _ other)
    (λ ended. or_right (not (eqb g.group b.group.number)) _
    (split (eqb g.track f.track)
    (λ same.
    let t = track_of b f.track in
    let own : ended_by t g ≡ true = ap (λ (n : ℕ). ended_by (track_of b n) g) (sym (eqb-true g.track f.track same)) ∙ ended in
    let shown : g.pts <ℤ end_of g = lt-add g.pts g.duration (leb-true 1 g.duration (and_left _ _ d)) in
    let end : end_of g ≤ℤ t.end = test-le (and_right t.known _ own) in
    let before : le_z t.end g.pts ≡ false = gt-test (lt-le shown end) in
    rw (same, and_left t.known _ own, before) (none (le_z t.end f.pts)))
    (λ other. rw other refl)))

-- so it is for each stored frame
pub current-apart : (b : Buffer) (f : Offered) → IsGood b → IsEnded b
    → all_of (λ (g : Frame). of_group b.group.number g (not (is_overlapped (track_of b f.track) f g))) b.frames ≡ true
unfolding current_ended
current-apart b f g e =
    all-from-both (good_frame (length b.tracks) b.last b.group.number) (ended_on b.tracks b.group.number) _
    (λ x h k. kept-apart b f x (frame-facts (length b.tracks) b.last b.group.number x h).duration k) b.frames g.frames.each e

stored-spares : (p : Pass) → IsGood p.buffer → IsEnded p.buffer → spares_group p.buffer (stored p) ≡ true
unfolding stored step_nine overlap_marks spares_group
stored-spares p g e =
    let b = p.buffer in
    let f = p.frame in
    taking-spares b.group.number (is_overlapped (track_of b f.track) f) 4 b.frames g.frames.distinct (current-apart b f g e)

-- a dropped frame's number is no stored frame's
dropped-spares : (b : Buffer) → IsGood b → (cause group : ℕ)
    → all_of (λ (f : Frame). of_group group f (is_untold (record { number = next_number b; cause = cause } ∷ []) f)) b.frames ≡ true
dropped-spares b g cause group =
    all_weaker (good_frame (length b.tracks) b.last b.group.number) _ (λ f e. or_right (not (eqb f.group group)) _ (new f e)) b.frames g.frames.each
  where
    new : (f : Frame) → good_frame (length b.tracks) b.last b.group.number f ≡ true → is_untold (record { number = next_number b; cause = cause } ∷ []) f ≡ true
    new f e =
        all_more (λ (l : Line). not (eqb l.number f.number)) (record { number = next_number b; cause = cause }) []
        (rw (ne_eqb (next_number b) f.number (λ q. omega (arith, (frame-facts (length b.tracks) b.last b.group.number f e).number_to, q))) refl) (all_none _)

settled-spares : (p : Pass) → IsGood p.buffer → IsEnded p.buffer → spares_group p.buffer (settled p) ≡ true
unfolding settled spares_group
settled-spares p g e =
    let b = p.buffer in
    let Spares : Outcome → Type 0 = λ o. all_of (λ (f : Frame). of_group o.after.group.number f (is_untold o.lines f)) b.frames ≡ true in
    by-test Spares (before_window p) (λ _. dropped-spares b g 1 b.group.number)
    (λ _. by-test Spares (past_window p) (λ _. dropped-spares b g 2 b.group.number)
    (λ _. by-test Spares (lacks_random_access p) (λ _. dropped-spares b g 3 b.group.number)
    (λ _. stored-spares (record { buffer = needing_buffer false p; frame = p.frame }) (needing-good false p g) (needing-ended false p e))))

appended-spares : (b : Buffer) (f : Offered) → IsGood b → IsAccepted b f → IsEnded b → spares_group b (appended_outcome b f) ≡ true
unfolding appended_outcome spares_group
appended-spares b f g a e =
    let p = last_pass b f in
    let o = settled p in
    let test : Frame → Bool = λ x. of_group o.after.group.number x (is_untold o.lines x) in
    ap (all_of test) (sym (last-from b f).buffer.frames)
    ∙ settled-spares p (last_pass-good b f g a.inside a.group).buffer (last_pass-ended b f g a.inside e)

pub spares : (b : Buffer) → IsGood b → IsEnded b → SparesGroup b
spares b g e lent f o d =
    let h = if-done (λ (o : Outcome). IsAccepted b f × (appended_outcome b f ≡ o)) (append lent f b) (append-done lent f b) d in
    rw h.1 at (appended-spares b f g h.0 e)

-- ---- every call keeps it

loss-ended : (ms : List Marked) (b : Buffer) → IsGood b → IsEnded b → IsEnded (after_loss ms b)
unfolding after_loss
loss-ended [] b g e = e
loss-ended (m ∷ ms) b g e = by-test IsEnded (ends_track b m) (λ _. regrouped-ended b m.frame.pts g) (λ _. loss-ended ms b g e)

removed-ended : (s : ℤ) (e : Bound) (b : Buffer) → IsGood b → IsEnded b → IsEnded (removed_outcome s e b).after
unfolding removed_outcome current_ended
removed-ended s e b g h =
    let marks = removal_marks s e b.frames in
    let c = after_loss marks b in
    removed-all s e b (ended_on c.tracks c.group.number) (rw (lost-untouched marks b).frames at (loss-ended marks b g h))

aborted-ended : (b : Buffer) → IsGood b → IsEnded (aborted_buffer b)
unfolding aborted_buffer current_ended
aborted-ended b g = none_yet b g (aborted_buffer b).tracks (aborted_buffer b).group.number (omega (arith, aborted-number b))

alike-ended : (b c : Buffer) → Alike b c → IsEnded b → IsEnded c
unfolding current_ended
alike-ended b c a e = rw (a.tracks, a.frames, a.number) e

pub ended-preserved : IsPreserved IsEnded
ended-preserved = record {
  by_append = appended-ended;
  by_removal = removed-ended;
  by_abort = λ b g _. aborted-ended b g;
  by_set_call = alike-ended;
}

-- ---- from a fresh buffer

module _ (kinds : List ℕ) (made : create kinds ≡ Ok (fresh kinds)) (cs : List Call) where
  started : IsGoodWith IsEnded (fresh kinds)
  unfolding current_ended
  started = record { good = rw made at (created-good kinds); has = all_none (ended_on (fresh kinds).tracks 0) }

  -- After every list of calls a track's frames of the current group end at or before its highest end, and there are none where it is unset.
  pub run-ended : current_ended (last_of (fresh kinds) cs) ≡ true
  run-ended = (run-kept IsEnded ended-preserved (fresh kinds) cs started).has

  -- After every list of calls, and any frames of a batch after them: whatever frame is appended next, no frame of the group in which it is
  -- stored is told of.
  pub own-group-spared : (fs : List Offered) → SparesGroup (append_each fs (last_of (fresh kinds) cs)).outcome.after
  own-group-spared fs =
      let g = batch-kept IsEnded ended-preserved fs (last_of (fresh kinds) cs) (run-kept IsEnded ended-preserved (fresh kinds) cs started) in
      spares _ g.good g.has
