-- Creation gives a good buffer; abort and the setters keep one good, and touch no frame and no number.
use Rattle.std.specs.Prelude.{Ok, Err}
use mathlib.Core.Path.{◌≡◌, refl}
use mathlib.Core.Bool.{Bool, true, false, cond, not, ◌||◌}
use mathlib.Core.List.{List, [], map}
use Prim.Native.Nat.{ℕ, ◌+◌, ◌≤◌}
use native.Mathlib.Omega.{arith}
use lib.Dec.{ltb, eqb}
use lib.IntN.{ℤ, pos, neg_ℤ}
use lib.Ieee.{Float}
use lib.ListN.{length, length-map}
use lib.Signed.{lt_z, le_z, ◌≤ℤ◌}
use borrow.Author.Tests.{le-leb, ltb-false, eqb-false, not-false}
use Rattle.laws.proofs.BoolLaws.{by-test, and_left, and_right, and_both, or_left, or-none-left, or-none-right}
use Rattle.laws.proofs.IntLaws.{test-le, le_test, test-ge, le-le}
use Rattle.seconds.specs.Seconds.{unbounded, at, is_convertible, is_convertible_end, is_plus_infinity, micros_of, bound_of, same_int, zero_seconds}
use Rattle.seconds.proofs.SecondsLaws.{int_same, micros-limit, zero-converts}
use Rattle.buffer_state.specs.declared.Group.{Group}
use Rattle.buffer_state.specs.declared.Mode.{Mode}
use Rattle.buffer_state.specs.declared.Mode.TheVariants.{Segments, Sequence}
use Rattle.buffer_state.specs.declared.Settings.{Settings}
use Rattle.buffer_state.specs.declared.WindowEnd.{WindowEnd}
use Rattle.buffer_state.specs.declared.WindowEnd.TheVariants.{Unbounded, At}
use Rattle.buffer_state.specs.Buffer.{Buffer, with_mode, with_settings, restarted_track, fresh_track, fresh, is_sequence, start_at_end, in_last_group}
use Rattle.buffer_state.specs.Limits.{result_time, most_tracks, known_kind}
use Rattle.buffer_state.specs.Refusals.{CallResult}
use Rattle.buffer_state.specs.Remove.{before_bound}
use Rattle.buffer_state.specs.Settings.{create, aborted_buffer, abort, mode_set, given, offset_set, bound_at, window_end, window_start_set, end_at, limit_at, window_end_set}
use Rattle.buffer_state.specs.WellFormed.{all_of, converts, good_track, good_tracks, good_count, is_sorted, distinct_numbers, good_group, good_offset, good_start, good_end}
use Rattle.buffer_laws.proofs.TestLaws.{all_map, all_none, pairs-none}
use Rattle.buffer_laws.proofs.GoodLaws.{restarted-good, tracks-map, group-end, group-number, starting-good, IsGoodSettings, IsGood, group-changed, next-good, settings-changed, mode-changed}
use Rattle.buffer_laws.proofs.AppendLaws.{IsUntouched}

-- ---- kept doubles

-- a double that may be converted, kept beside its microseconds
given-converts : (x : Float) → is_convertible x ≡ true → converts x (micros_of x) ≡ true
given-converts x h = and_both h (int_same (micros_of x))

-- a convertible double's microseconds are inside the result limits
micros-inside : (x : Float) → is_convertible x ≡ true → result_time (micros_of x) ≡ true
unfolding result_time
micros-inside x h =
    let z = micros_of x in
    let low : neg_ℤ (pos 1000000000000) ≤ℤ z = test-le (and_left _ _ (micros-limit x h)) in
    let high : z ≤ℤ pos 1000000000000 = test-le (and_right (le_z (neg_ℤ (pos 1000000000000)) z) _ (micros-limit x h)) in
    let lower : neg_ℤ (pos 4000000000000) ≤ℤ neg_ℤ (pos 1000000000000) = test-le refl in
    let higher : pos 1000000000000 ≤ℤ pos 4000000000000 = test-le refl in
    and_both (le_test (le-le lower low)) (le_test (le-le high higher))

zero-start : good_start (record { seconds = zero_seconds; micros = pos 0 }) ≡ true
unfolding good_start same_int
zero-start = and_both refl (and_both zero-converts.0 (rw zero-converts.1))

-- ---- creation

zero-settings : IsGoodSettings (fresh []).settings
unfolding good_offset good_end same_int result_time
zero-settings = record { offset = and_both refl (or_left _ _ (and_both zero-converts.0 (rw zero-converts.1))); start = zero-start; end = refl }

fresh-tracks : (kinds : List ℕ) → 1 ≤ length kinds → length kinds ≤ most_tracks → all_of known_kind kinds ≡ true → good_tracks (map fresh_track kinds) ≡ true
unfolding good_tracks good_track same_int
fresh-tracks kinds some few known =
    let count : good_count (length (map fresh_track kinds)) ≡ true = rw (length-map kinds fresh_track) (and_both (le-leb 1 (length kinds) some) (le-leb (length kinds) most_tracks few)) in
    and_both count (all_map known_kind good_track fresh_track (λ k h. and_both h refl) kinds known)

-- what holds of a buffer that creation gives
abbrev pub IfDone : {A : Type 0} → (A → Type 0) → CallResult A → Type 0
IfDone P (Err why) = Unit {0}
IfDone P (Ok x) = P x

pub if-done : {A : Type 0} (P : A → Type 0) (r : CallResult A) → IfDone P r → {x : A} → r ≡ Ok x → P x
if-done P r h e = rw e at h

pub created-good : (kinds : List ℕ) → IfDone IsGood (create kinds)
unfolding create good_group same_int result_time is_sorted distinct_numbers
created-good kinds =
    by-test (IfDone IsGood) (eqb (length kinds) 0 || (ltb most_tracks (length kinds) || not (all_of known_kind kinds))) (λ _. tt)
    (λ e.
    let e₁ = or-none-right (eqb (length kinds) 0) _ e in
    record {
      tracks =
          fresh-tracks kinds (omega (arith, eqb-false (length kinds) 0 (or-none-left _ _ e))) (ltb-false most_tracks (length kinds) (or-none-left _ _ e₁))
          (not-false _ (or-none-right (ltb most_tracks (length kinds)) _ e₁));
      frames = record { few = omega arith; each = all_none _; order = pairs-none _; distinct = pairs-none _ };
      last = omega arith;
      group = refl;
      settings = zero-settings;
    })

-- ---- mode

pub mode-good : (m : Mode) (b : Buffer) → IsGood b → IsGood (mode_set m b)
unfolding mode_set
mode-good Segments b g = mode-changed b g Segments
mode-good Sequence b g = group-changed (with_mode b Sequence) (mode-changed b g Sequence) (start_at_end b.group) (starting-good b.group g.group) refl

pub mode-untouched : (m : Mode) (b : Buffer) → IsUntouched b (mode_set m b)
unfolding mode_set
mode-untouched Segments b = record { frames = refl; last = refl; width = refl }
mode-untouched Sequence b = record { frames = refl; last = refl; width = refl }

-- ---- the setters: a good buffer, and no frame or number touched

pub record Set (b c : Buffer) : Type 0 where
  pub good : IsGood b → IsGood c
  pub untouched : IsUntouched b c

-- an abort begins the next group
pub aborted-number : (b : Buffer) → (aborted_buffer b).group.number ≡ b.group.number + 1
unfolding aborted_buffer
aborted-number b = by-test (λ (g : Group). g.number + 1 ≡ b.group.number + 1) (is_sequence b.mode) (λ _. refl) (λ _. refl)

aborted-good : (b : Buffer) → IsGood b → in_last_group b ≡ false → IsGood (aborted_buffer b)
unfolding aborted_buffer good_end same_int
aborted-good b g more =
    let group : Group = cond (is_sequence b.mode) (start_at_end b.group) b.group in
    let same : group.number ≡ b.group.number =
    by-test (λ (x : Group). x.number ≡ b.group.number) (is_sequence b.mode) (λ _. refl) (λ _. refl) in
    next-good _ (record {
      tracks = tracks-map b.tracks g.tracks restarted_track restarted-good;
      frames = rw (length-map b.tracks restarted_track, same) g.frames;
      last = g.last;
      group = by-test (λ (x : Group). good_group x ≡ true) (is_sequence b.mode) (λ _. starting-good b.group g.group) (λ _. g.group);
      settings = record { offset = g.settings.offset; start = zero-start; end = refl };
    }) (rw same more)

pub abort-set : (b : Buffer) → IfDone (Set b) (abort b)
unfolding abort aborted_buffer
abort-set b =
    by-test (IfDone (Set b)) (in_last_group b) (λ _. tt)
    (λ more. record {
      good = λ g. aborted-good b g more;
      untouched = record { frames = refl; last = refl; width = length-map b.tracks restarted_track };
    })

pub offset_set_lem : (x : Float) (b : Buffer) → IfDone (Set b) (offset_set x b)
unfolding offset_set good_offset good_group
offset_set_lem x b =
    by-test (IfDone (Set b)) (not (is_convertible x)) (λ _. tt)
    (λ h.
    let ok = not-false (is_convertible x) h in
    let z = micros-inside x ok in
    let new : Settings = record { offset = given x; start = b.settings.start; end = b.settings.end; limit = b.settings.limit } in
    let good : IsGood b → IsGood (with_settings b new) = λ g. settings-changed b g new (record {
      offset = and_both z (or_left _ _ (given-converts x ok));
      start = g.settings.start;
      end = g.settings.end;
    }) in
    by-test (Set b) (is_sequence b.mode)
    (λ _. record {
      good = λ g.
          group-changed (with_settings b new) (good g) _ (and_both (group-end b.group g.group) (and_both z (group-number b.group g.group))) refl;
      untouched = record { frames = refl; last = refl; width = refl };
    })
    (λ _. record { good = good; untouched = record { frames = refl; last = refl; width = refl } }))

-- a start that comes before the window's end leaves the end good
end-good : (z : ℤ) (e : WindowEnd) (limit old : ℤ) → good_end old e limit ≡ true → before_bound z (bound_at e limit) ≡ true → good_end z e limit ≡ true
unfolding good_end
end-good z Unbounded limit old g h = g
end-good z (At x) limit old g h = and_both (and_left (converts x limit) _ g) h

pub window_start_set_lem : (x : Float) (b : Buffer) → IfDone (Set b) (window_start_set x b)
unfolding window_start_set good_start
window_start_set_lem x b =
    by-test (IfDone (Set b)) (not (is_convertible x)) (λ _. tt)
    (λ h. by-test (IfDone (Set b)) (lt_z (micros_of x) (pos 0) || not (before_bound (micros_of x) (window_end b.settings))) (λ _. tt)
    (λ k.
    let ok = not-false (is_convertible x) h in
    let positive : pos 0 ≤ℤ micros_of x = test-ge (or-none-left _ _ k) in
    let below = not-false (before_bound (micros_of x) (window_end b.settings)) (or-none-right (lt_z (micros_of x) (pos 0)) _ k) in
    record {
      good = λ g. settings-changed b g _ (record {
        offset = g.settings.offset;
        start = and_both (le_test positive) (given-converts x ok);
        end = end-good (micros_of x) b.settings.end b.settings.limit b.settings.start.micros g.settings.end below;
      });
      untouched = record { frames = refl; last = refl; width = refl };
    }))

-- an end that comes after the window's start
given-end-good : (start : ℤ) (x : Float) → is_convertible_end x ≡ true → before_bound start (bound_of x) ≡ true → good_end start (end_at x (bound_of x)) (limit_at (bound_of x)) ≡ true
unfolding good_end bound_of is_convertible_end same_int
given-end-good start x h k = go (is_plus_infinity x) h k
  where
    go : (t : Bool) → (t || is_convertible x) ≡ true → before_bound start (cond t unbounded (at (micros_of x))) ≡ true
        → good_end start (end_at x (cond t unbounded (at (micros_of x)))) (limit_at (cond t unbounded (at (micros_of x)))) ≡ true
    go true h k = refl
    go false h k = and_both (given-converts x h) k

pub window_end_set_lem : (x : Float) (b : Buffer) → IfDone (Set b) (window_end_set x b)
unfolding window_end_set
window_end_set_lem x b =
    by-test (IfDone (Set b)) (not (is_convertible_end x)) (λ _. tt)
    (λ h. by-test (IfDone (Set b)) (not (before_bound b.settings.start.micros (bound_of x))) (λ _. tt)
    (λ k. record {
      good = λ g. settings-changed b g _ (record {
        offset = g.settings.offset;
        start = g.settings.start;
        end = given-end-good b.settings.start.micros x (not-false _ h) (not-false _ k);
      });
      untouched = record { frames = refl; last = refl; width = refl };
    }))
