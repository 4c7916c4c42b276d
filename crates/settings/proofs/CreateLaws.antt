-- Creation: the tracks of the kinds, one at a time, what the tests of the kinds lead to, and the arrays cleared.
use Rattle.std.specs.Prelude.{Result, Ok, Err}
use Rattle.std.specs.List.{list_all}
use mathlib.Core.Path.{◌≡◌, refl, sym, ap, ◌∙◌}
use mathlib.Core.Bool.{Bool, true, false, not, ◌&&◌, ◌||◌}
use mathlib.Core.List.{List, [], ◌∷◌, ◌++◌, map, map-append, append_assoc}
use Prim.Native.Nat.{ℕ, zero, suc, ◌+◌, ◌-◌, ◌≤◌, ◌<◌}
use native.Mathlib.Numerals.{add-one}
use native.Mathlib.Omega.{arith}
use lib.Dec.{ltb, eqb}
use lib.IntN.{ℤ}
use lib.ListN.{length, take, get_or, set, replicate, length-append, length-map, length-take}
use lib.Seq.{set_at, take-suc}
use borrow.Author.Tests.{eq-eqb, ne_eqb, lt-ltb, le-ltb}
use Rattle.buffer_state.specs.declared.Head.{Head}
use Rattle.buffer_state.specs.declared.Refusal.{Refusal}
use Rattle.buffer_state.specs.declared.Refusal.TheVariants.{Kinds}
use Rattle.buffer_state.specs.declared.Track.{Track}
use Rattle.buffer_state.specs.Answers.{created, times_created, tags_created}
use Rattle.buffer_state.specs.Buffer.{Buffer, zero_track, fresh_track, fresh}
use Rattle.buffer_state.specs.Layout.{zero_frame, padded_list}
use Rattle.buffer_state.specs.Lent.{time_of, tag_of, times_of, tags_of, head_of, times_in, tags_in}
use Rattle.buffer_state.specs.Limits.{places, known_kind}
use Rattle.buffer_state.specs.Refusals.{CallResult}
use Rattle.buffer_state.specs.Settings.{create}
use Rattle.buffer_state.specs.WellFormed.{all_of}
use Rattle.settings.specs.Windows.{fresh_head}

padded-more : {A : Type 0} (n : ℕ) (z : A) (l : List A) (x : A) → length l < n → set (padded_list n z l) (length l) x ≡ padded_list n z (l ++ (x ∷ []))
padded-more n z l x h =
    let e : n - length l ≡ suc (n - (length l + 1)) = omega arith in
    rw (e, length-append l (x ∷ []), append_assoc) (set_at l z _ x _ refl)

-- one more kind, one more track
pub track-more : (kinds : List ℕ) (out : List Track) (i : ℕ) (t : Track) → i < length kinds → length kinds ≤ 4
    → out ≡ padded_list 4 zero_track (map fresh_track (take i kinds)) → t ≡ fresh_track (get_or kinds i 0)
    → set out i t ≡ padded_list 4 zero_track (map fresh_track (take (i + 1) kinds))
track-more kinds out i t h few e d =
    let l : List Track = map fresh_track (take i kinds) in
    let n : length l ≡ i = length-map (take i kinds) fresh_track ∙ rw length-take (omega arith) in
    rw (e, d, add-one, take-suc kinds i 0 h, map-append fresh_track (take i kinds) (get_or kinds i 0 ∷ []))
    (ap (λ (k : ℕ). set (padded_list 4 zero_track l) k (fresh_track (get_or kinds i 0))) (sym n) ∙ padded-more 4 zero_track l (fresh_track (get_or kinds i 0)) (omega arith))

-- ---- the result

pub all-listed : {A : Type 0} (p : A → Bool) (l : List A) → list_all p l ≡ all_of p l
unfolding all_of
all-listed p [] = refl
all-listed p (x ∷ l) = ap (λ (t : Bool). p x && t) (all-listed p l)

module _ (kinds : List ℕ) where
  refusing : (a b c : Bool) → eqb (length kinds) 0 ≡ a → ltb 4 (length kinds) ≡ b → all_of known_kind kinds ≡ c → (a || (b || not c)) ≡ true
      → create kinds ≡ Err Kinds
  unfolding create
  refusing a b c p q r h = rw (p, q, r, h)

  pub no-kinds : length kinds ≡ 0 → create kinds ≡ Err Kinds
  no-kinds h = refusing true _ _ (eq-eqb _ _ h) refl refl refl

  pub many-kinds : 4 < length kinds → create kinds ≡ Err Kinds
  many-kinds h = refusing false true _ (ne_eqb (length kinds) 0 (λ e. omega arith)) (lt-ltb _ _ h) refl refl

  pub unknown-kind : (length kinds ≡ 0 → ⊥) → length kinds ≤ 4 → all_of known_kind kinds ≡ false → create kinds ≡ Err Kinds
  unknown-kind n h k = refusing false false false (ne_eqb _ _ n) (le-ltb _ _ h) k refl

  pub taken : (length kinds ≡ 0 → ⊥) → length kinds ≤ 4 → all_of known_kind kinds ≡ true → create kinds ≡ Ok (fresh kinds)
  unfolding create
  taken n h k = rw (ne_eqb _ _ n, le-ltb 4 (length kinds) h, k)

  pub fresh-laid : (ts : List Track) (n : ℕ) → ts ≡ padded_list 4 zero_track (map fresh_track kinds) → n ≡ length kinds → fresh_head ts n ≡ head_of (fresh kinds)
  fresh-laid ts n e d = rw (e, d, length-map kinds fresh_track)

-- ---- a result known: the answer, and what the arrays hold after it

module _ (kinds : List ℕ) (ts : List (List ℤ)) (gs : List (List ℕ)) (x : CallResult Buffer) (d : create kinds ≡ x) where
  pub creation : {r : Result Head Refusal} {times : List (List ℤ)} {tags : List (List ℕ)} → r ≡ created x → times ≡ times_created x ts → tags ≡ tags_created x gs
      → (r ≡ created (create kinds)) × ((times ≡ times_created (create kinds) ts) × (tags ≡ tags_created (create kinds) gs))
  creation a b c = (
    a ∙ ap created (sym d),
    (b ∙ ap (λ (y : CallResult Buffer). times_created y ts) (sym d), c ∙ ap (λ (y : CallResult Buffer). tags_created y gs) (sym d)),
  )

-- ---- arrays cleared

map-replicate : {A B : Type 0} (f : A → B) (z : A) (n : ℕ) → map f (replicate n z) ≡ replicate n (f z)
map-replicate f z zero = refl
map-replicate {B = B} f z (suc n) = ap (λ (l : List B). f z ∷ l) (map-replicate f z n)

module _ (kinds : List ℕ) where
  pub blank-times : (n : ℕ) → n ≡ places → replicate n (time_of zero_frame) ≡ times_in (fresh kinds)
  unfolding times_of
  blank-times n e = ap (λ (m : ℕ). replicate m (time_of zero_frame)) e ∙ sym (map-replicate time_of zero_frame places)

  pub blank-tags : (n : ℕ) → n ≡ places → replicate n (tag_of zero_frame) ≡ tags_in (fresh kinds)
  unfolding tags_of
  blank-tags n e = ap (λ (m : ℕ). replicate m (tag_of zero_frame)) e ∙ sym (map-replicate tag_of zero_frame places)
