-- What a call accounts for: a good buffer stays good, and every number is stored or told. So do two calls, one after the other, if each
-- does; and so does an append that is not refused.
use Rattle.std.specs.Prelude.{Ok, Err}
use mathlib.Core.Path.{◌≡◌, refl, sym, ap, ◌∙◌}
use mathlib.Core.Bool.{true, not}
use mathlib.Core.List.{List, [], ◌∷◌, ◌++◌, append-nil, append_assoc}
use Prim.Native.Nat.{ℕ, zero, suc, ◌+◌, ◌-◌}
use native.Mathlib.Nat.{add-zero, zero-add}
use native.Mathlib.Omega.{arith}
use lib.Dec.{leb, ltb, eqb}
use lib.ListN.{length, length-append, get_or-append}
use lib.Seq.{get_or_at}
use borrow.Author.Tests.{leb-true, ltb-false, eq-eqb, not-false}
use Rattle.laws.proofs.BoolLaws.{by-test, and_left, and_right}
use Rattle.buffer_state.specs.declared.Frame.{Frame}
use Rattle.buffer_state.specs.declared.Offered.{Offered}
use Rattle.buffer_state.specs.Buffer.{Buffer, has_track}
use Rattle.buffer_state.specs.Limits.{places, last_number}
use Rattle.buffer_state.specs.Refusals.{CallResult}
use Rattle.buffer_state.specs.Store.{Line}
use Rattle.buffer_state.specs.Append.{Outcome, next_number, stored_as, is_offerable, leaves_limits, lacks_group, appended_outcome, append}
use Rattle.buffer_state.specs.Run.{track_offered, on_offered, total}
use Rattle.buffer_state.specs.WellFormed.{all_of, good_frame}
use Rattle.buffer_laws.proofs.TestLaws.{all_none, all-from-both, all_append}
use Rattle.buffer_laws.proofs.StoreLaws.{frame_weight, line_weight}
use Rattle.buffer_laws.proofs.GoodLaws.{frame-facts, IsGood}
use Rattle.buffer_laws.proofs.AppendLaws.{IsUntouched, Moved, IsAccepted, known_cause, appended-good, appended-accounts, appended-all}
use Rattle.buffer_laws.proofs.SettingLaws.{IfDone}

-- the numbers that follow n, so many of them
unfoldable pub numbers_after : ℕ → ℕ → List ℕ
numbers_after n zero = []
numbers_after n (suc k) = (n + 1) ∷ numbers_after (n + 1) k

-- What a call accounts for. `given` are the tracks of the frames that it was offered and took: none, one, or those of a batch.
pub record IsLawful (b : Buffer) (given : List ℕ) (lines : List Line) (c : Buffer) : Type 0 where
  pub good : IsGood b → IsGood c
  pub weight : (w : ℕ → ℕ) → frame_weight w c.frames + line_weight w lines ≡ frame_weight w b.frames + total w (numbers_after b.last (length given))
  pub last : c.last ≡ b.last + length given
  pub causes : all_of known_cause lines ≡ true
  pub placed : IsGood b → (tracks : List ℕ) → length tracks ≡ b.last → all_of (on_offered tracks) b.frames ≡ true
      → all_of (on_offered (tracks ++ given)) c.frames ≡ true

-- nothing stored, given or told is changed
pub still : (b c : Buffer) → (IsGood b → IsGood c) → IsUntouched b c → IsLawful b [] [] c
unfolding numbers_after total
still b c good u = record {
  good = good;
  weight = λ w. ap (λ (fs : List Frame). frame_weight w fs + 0) u.frames;
  last = omega (arith, u.last);
  causes = all_none known_cause;
  placed = λ g tracks n e. rw (append-nil tracks, u.frames) e;
}

pub same : (b : Buffer) → IsLawful b [] [] b
same b = still b b (λ g. g) (record { frames = refl; last = refl; width = refl })

pub total-ones : {A : Type 0} (l : List A) → total (λ (x : A). 1) l ≡ length l
unfolding total
total-ones [] = refl
total-ones (x ∷ l) = omega (arith, total-ones l)

-- ---- one after the other

pub total-append : {A : Type 0} (w : A → ℕ) (xs ys : List A) → total w (xs ++ ys) ≡ total w xs + total w ys
unfolding total
total-append w [] ys = omega arith
total-append w (x ∷ xs) ys = omega (arith, total-append w xs ys)

numbers_more : (w : ℕ → ℕ) (n j k : ℕ) → total w (numbers_after n (j + k)) ≡ total w (numbers_after n j) + total w (numbers_after (n + j) k)
unfolding numbers_after total
numbers_more w n zero k = rw (zero-add k, add-zero n) (omega arith)
numbers_more w n (suc j) k =
    let e : suc j + k ≡ suc (j + k) = omega arith in
    let d : n + 1 + j ≡ n + suc j = omega arith in
    rw e (omega (arith, numbers_more w (n + 1) j k, ap (λ (a : ℕ). total w (numbers_after a k)) d))

pub both-lawful : {b c d : Buffer} {given later : List ℕ} {lines more : List Line}
    → IsLawful b given lines c → IsLawful c later more d → IsLawful b (given ++ later) (lines ++ more) d
both-lawful {b} {c} {d} {given} {later} {lines} {more} one rest = record {
  good = λ g. rest.good (one.good g);
  weight = λ w.
      let n = b.last in
      let j = length given in
      let k = length later in
      let count : length (given ++ later) ≡ j + k = length-append given later in
      rw count
      (omega (
        arith,
        one.weight w,
        rest.weight w,
        total-append (λ (l : Line). w l.number) lines more,
        numbers_more w n j k,
        ap (λ (m : ℕ). total w (numbers_after m k)) one.last,
      ));
  last = omega (arith, one.last, rest.last, length-append given later);
  causes = all_append known_cause lines more one.causes rest.causes;
  placed = λ g tracks n e.
      rw (← append_assoc tracks given later)
      (rest.placed (one.good g) (tracks ++ given) (omega (arith, length-append tracks given, one.last)) (one.placed g tracks n e));
}

-- ---- an append: frames offered later change no frame's track

module _ (b : Buffer) (g : IsGood b) (tracks more : List ℕ) (n : length tracks ≡ b.last) where
  older : (f : Frame) → good_frame (length b.tracks) b.last b.group.number f ≡ true → track_offered (tracks ++ more) f.number ≡ track_offered tracks f.number
  older f e =
      let h = frame-facts (length b.tracks) b.last b.group.number f e in
      get_or-append tracks more 0 (f.number - 1) (omega (arith, h.number_from, h.number_to))

  older-placed : all_of (on_offered tracks) b.frames ≡ true → all_of (on_offered (tracks ++ more)) b.frames ≡ true
  older-placed =
      all-from-both (good_frame (length b.tracks) b.last b.group.number) (on_offered tracks) (on_offered (tracks ++ more))
      (λ f e h. rw (older f e) h) b.frames g.frames.each

-- the law of an append's outcome
abbrev pub OneLawful : Buffer → Offered → Outcome → Type 0
OneLawful b f o = IsLawful b (f.track ∷ []) o.lines o.after

appended-lawful : (b : Buffer) (f : Offered) → IsAccepted b f → OneLawful b f (appended_outcome b f)
unfolding numbers_after
appended-lawful b f a =
    let law = appended-accounts b f in
    record {
      good = λ g. appended-good b f g a;
      weight = law.weight;
      last = law.last;
      causes = law.causes;
      placed = λ g tracks n e.
          appended-all (on_offered (tracks ++ (f.track ∷ []))) b f a (older-placed b g tracks (f.track ∷ []) n e)
          (λ h group m _. new tracks n h group m);
    }
  where
    new : (tracks : List ℕ) → length tracks ≡ b.last → (h : Offered) (group : ℕ) → Moved f h
        → on_offered (tracks ++ (f.track ∷ [])) (stored_as (next_number b) group h) ≡ true
    new tracks n h group m =
        eq-eqb h.track _
        (m.track ∙ sym (get_or_at tracks f.track [] 0 (next_number b - 1) (omega (arith, n))))

-- an append that is not refused: every test failed, and the outcome is that of the steps
pub append-done : (lent : ℕ) (f : Offered) (b : Buffer) → IfDone (λ (o : Outcome). IsAccepted b f × (appended_outcome b f ≡ o)) (append lent f b)
unfolding append
append-done lent f b =
    let Holds : CallResult Outcome → Type 0 = IfDone (λ (o : Outcome). IsAccepted b f × (appended_outcome b f ≡ o)) in
    by-test Holds (ltb lent places) (λ _. tt)
    (λ _. by-test Holds (not (has_track b f.track)) (λ _. tt)
    (λ track. by-test Holds (not (is_offerable f)) (λ _. tt)
    (λ limits. by-test Holds (eqb b.last last_number) (λ _. tt)
    (λ number. by-test Holds (leaves_limits b f) (λ _. tt)
    (λ inside. by-test Holds (lacks_group b f) (λ _. tt)
    (λ group. by-test Holds (ltb places (length (appended_outcome b f).after.frames)) (λ _. tt)
    (λ room.
    let has = not-false (has_track b f.track) track in (
      record {
        track_from = leb-true 1 f.track (and_left _ _ has);
        track_to = leb-true f.track (length b.tracks) (and_right (leb 1 f.track) _ has);
        offerable = not-false (is_offerable f) limits;
        number = number;
        inside = inside;
        group = group;
        room = ltb-false places (length (appended_outcome b f).after.frames) room;
      },
      refl,
    ))))))))

pub append-lawful : (lent : ℕ) (f : Offered) (b : Buffer) → IfDone (OneLawful b f) (append lent f b)
append-lawful lent f b = go (append lent f b) (append-done lent f b)
  where
    go : (r : CallResult Outcome) → IfDone (λ (o : Outcome). IsAccepted b f × (appended_outcome b f ≡ o)) r → IfDone (OneLawful b f) r
    go (Err why) h = tt
    go (Ok o) h = rw h.1 at (appended-lawful b f h.0)
