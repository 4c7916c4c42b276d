-- The loop's way of finding the one box is the definition's; and what that says of a type that must not stand after itself. Assumes nothing.
use mathlib.Core.Path.{◌≡◌, refl, sym, ◌∙◌, ap}
use mathlib.Core.Bool.{Bool, true, false, cond, ◌||◌, ◌&&◌}
use mathlib.Core.List.{List, [], ◌∷◌}
use Prim.Native.Nat.{ℕ, zero, suc, ◌+◌, ◌-◌, ◌≤◌}
use native.Mathlib.Omega.{arith}
use lib.ListN.{length, drop}
use lib.Seq.{drop-drop}
use lib.Dec.{eqb}
use Rattle.std.proofs.Common.{eq-eqb, ne_eqb, true≢false}
use Rattle.std.specs.Prelude.{◌≢◌, Option, Some, None, is_some, option_map, Result, Ok, Err}
use Rattle.boxes.specs.declared.Header.{Header}
use Rattle.boxes.specs.declared.Malformed.{Malformed}
use Rattle.boxes.specs.Boxes.{Mp4Box, refused, front_of, box_of, onto, boxes_of, split_front, step_of, size_by, past_front, body_start}
use Rattle.boxes.specs.Items.{items_of, collected}
use Rattle.boxes.specs.Lone.{has, lone_of, lone_in, lone_among, place_from, place_past, place_of}
use Rattle.boxes.proofs.BoxLaws.{found_inside, items_are, after_step, items_of_step}

module _ (k r : ℕ) where
  -- where a body was met, that there is no further box of its type
  abbrev lone_after : List ℕ → Result (List Mp4Box) Malformed → Result (List ℕ) Malformed
  lone_after b (Err e) = Err e
  lone_after b (Ok l) = cond (has k l) refused (Ok b)

  after-met : (b : List ℕ) (items : List (Result Mp4Box Malformed)) → lone_among k r (Some b) items ≡ lone_after b (collected items)
  unfolding lone_among
  after-met b [] = refl
  after-met b (Err e ∷ items) = refl
  after-met b (Ok x ∷ items) = on (collected items) (after-met b items)
    where
      wrong : (t u : Bool) (m : Result (List ℕ) Malformed) (e : Malformed) → m ≡ Err e → cond t refused (cond (u && false) refused m) ≡ Err e
      wrong true u m e h = refl
      wrong false true m e h = h
      wrong false false m e h = h

      more : (t u : Bool) (m : Result (List ℕ) Malformed) (l : List Mp4Box) → m ≡ cond (has k l) refused (Ok b)
          → cond t refused (cond (u && false) refused m) ≡ cond (t || has k l) refused (Ok b)
      more true u m l h = refl
      more false true m l h = h
      more false false m l h = h

      on : (y : Result (List Mp4Box) Malformed) → lone_among k r (Some b) items ≡ lone_after b y → lone_among k r (Some b) (Ok x ∷ items) ≡ lone_after b (onto x y)
      on (Err e) h = wrong (eqb x.kind k) (eqb x.kind r) (lone_among k r (Some b) items) e h
      on (Ok l) h = more (eqb x.kind k) (eqb x.kind r) (lone_among k r (Some b) items) l h

  none-met : (items : List (Result Mp4Box Malformed)) → lone_among k r None items ≡ lone_in k r (collected items)
  unfolding lone_among
  none-met [] = refl
  none-met (Err e ∷ items) = refl
  none-met (Ok x ∷ items) = on (collected items) (after-met x.body items) (none-met items)
    where
      wrong : (t u : Bool) (m n : Result (List ℕ) Malformed) (e : Malformed) → m ≡ Err e → n ≡ Err e → cond t m (cond (u && true) refused n) ≡ Err e
      wrong true u m n e g h = g
      wrong false true m n e g h = refl
      wrong false false m n e g h = h

      more : (t u : Bool) (m n : Result (List ℕ) Malformed) (l : List Mp4Box) → m ≡ cond (has k l) refused (Ok x.body) → n ≡ lone_of k r l
          → cond t m (cond (u && true) refused n) ≡ cond t (cond (has k l) refused (Ok x.body)) (cond u refused (lone_of k r l))
      more true u m n l g h = g
      more false true m n l g h = refl
      more false false m n l g h = h

      on : (y : Result (List Mp4Box) Malformed) → lone_among k r (Some x.body) items ≡ lone_after x.body y → lone_among k r None items ≡ lone_in k r y
          → lone_among k r None (Ok x ∷ items) ≡ lone_in k r (onto x y)
      on (Err e) g h = wrong (eqb x.kind k) (eqb x.kind r) (lone_among k r (Some x.body) items) (lone_among k r None items) e g h
      on (Ok l) g h = more (eqb x.kind k) (eqb x.kind r) (lone_among k r (Some x.body) items) (lone_among k r None items) l g h

-- so the loop's answer from the start is the definition's
pub among_all : (k r : ℕ) (s : List ℕ) → lone_among k r None (items_of s) ≡ lone_in k r (boxes_of s)
among_all k r s = none-met k r (items_of s) ∙ ap (lone_in k r) (items_are s)

-- ---- one more box, by whether a body was met before: f is what the loop keeps of a body, as the body's bytes

module _ {A : Type 0} (k r : ℕ) (f : A → List ℕ) (s : List ℕ) (x : Mp4Box) (rest : List ℕ) (step : step_of s ≡ Ok (Some (x, rest))) where
  among-next : (found : Option (List ℕ)) → lone_among k r found (items_of s) ≡ lone_among k r found (Ok x ∷ items_of rest)
  among-next found = ap (lone_among k r found) (items_of_step s ∙ ap after_step step)

  -- of the type, the second one
  pub met_again : (found : Option A) → is_some found ≡ true → x.kind ≡ k → lone_among k r (option_map f found) (items_of s) ≡ refused
  unfolding lone_among
  met_again (Some y) h e = among-next (Some (f y)) ∙ rw (eq-eqb _ _ e) refl
  met_again None h e = absurd (true≢false (sym h))

  -- of the type, the first one
  pub met_first : (found : Option A) → is_some found ≡ false → x.kind ≡ k → lone_among k r (option_map f found) (items_of s) ≡ lone_among k r (Some x.body) (items_of rest)
  unfolding lone_among
  met_first (Some y) h e = absurd (true≢false h)
  met_first None h e = among-next None ∙ rw (eq-eqb _ _ e) refl

  -- of the second type, too early
  pub met_early : (found : Option A) → is_some found ≡ false → x.kind ≢ k → x.kind ≡ r → lone_among k r (option_map f found) (items_of s) ≡ refused
  unfolding lone_among
  met_early (Some y) h d e = absurd (true≢false h)
  met_early None h d e = among-next None ∙ rw (ne_eqb _ _ d, eq-eqb _ _ e) refl

  -- of another type, after the first one
  pub met_after : (found : Option A) → is_some found ≡ true → x.kind ≢ k → lone_among k r (option_map f found) (items_of s) ≡ lone_among k r (option_map f found) (items_of rest)
  unfolding lone_among
  met_after (Some y) h d = among-next (Some (f y)) ∙ rw (ne_eqb _ _ d) (over (eqb x.kind r))
    where
      over : (t : Bool) → cond (t && false) refused (lone_among k r (Some (f y)) (items_of rest)) ≡ lone_among k r (Some (f y)) (items_of rest)
      over true = refl
      over false = refl
  met_after None h d = absurd (true≢false (sym h))

  -- of neither type
  pub met_other : (found : Option A) → x.kind ≢ k → x.kind ≢ r → lone_among k r (option_map f found) (items_of s) ≡ lone_among k r (option_map f found) (items_of rest)
  unfolding lone_among
  met_other found d e = among-next (option_map f found) ∙ rw (ne_eqb _ _ d, ne_eqb _ _ e) refl

-- ---- where the first box of a type begins

-- past bytes, it is found in the rest
place-past-drop : (k : ℕ) (s : List ℕ) (n : ℕ) → n ≤ length s → place_past k s n ≡ n + place_of k (drop n s)
unfolding place_past
place-past-drop k [] zero h = refl
place-past-drop k [] (suc n) h = absurd (omega arith)
place-past-drop k (b ∷ s) zero h = omega arith
place-past-drop k (b ∷ s) (suc n) h = omega (arith, place-past-drop k s n (omega arith))

-- at the front, or past the box there
place-front : (k : ℕ) (s : List ℕ) (x : Mp4Box) (rest : List ℕ) → step_of s ≡ Ok (Some (x, rest))
    → place_of k s ≡ cond (eqb x.kind k) 0 (past_front s + place_of k (drop (past_front s) s))
unfolding place_past
place-front k [] x rest e = let z : ◌≡◌ {A = ℕ} 0 1 = cc in absurd (omega arith)
place-front k (b ∷ s) x rest e = go (front_of (b ∷ s)) refl e
  where
    go : (f : Result (Option Header) Malformed) → front_of (b ∷ s) ≡ f → split_front (b ∷ s) f ≡ Ok (Some (x, rest))
        → place_from k f (λ n. place_past k s n) ≡ cond (eqb x.kind k) 0 (size_by f + place_of k (drop (size_by f) (b ∷ s)))
    go (Ok None) i j = let z : ◌≡◌ {A = ℕ} 0 1 = cc in absurd (omega arith)
    go (Err y) i j = let z : ◌≡◌ {A = ℕ} 0 1 = cc in absurd (omega arith)
    go (Ok (Some h)) i j =
        let p : ◌≡◌ {A = Mp4Box × List ℕ} (box_of (b ∷ s) h, drop h.size (b ∷ s)) (x, rest) = cc in
        let q = found_inside (b ∷ s) h i in
        let l : h.size ≡ suc (h.size - 1) = omega arith in
        let m : suc (place_past k s (h.size - 1)) ≡ h.size + place_of k (drop h.size (b ∷ s)) = sym (ap (place_past k (b ∷ s)) l) ∙ place-past-drop k (b ∷ s) h.size q.size in
        ap (λ y. cond (eqb y.0.kind k) 0 (suc (place_past k s (h.size - 1)))) p ∙ ap (cond (eqb x.kind k) 0) m

-- past the box at a place, if that is of another type
place-later : (k : ℕ) (s : List ℕ) (at next : ℕ) (x : Mp4Box) (rest : List ℕ) → step_of (drop at s) ≡ Ok (Some (x, rest)) → x.kind ≢ k → next ≡ at + past_front (drop at s)
    → place_of k s ≡ at + place_of k (drop at s) → place_of k s ≡ next + place_of k (drop next s)
place-later k s at next x rest e d n h =
    let p : place_of k (drop at s) ≡ past_front (drop at s) + place_of k (drop (past_front (drop at s)) (drop at s)) = place-front k (drop at s) x rest e ∙ rw (ne_eqb _ _ d) refl in
    let q : drop (past_front (drop at s)) (drop at s) ≡ drop next s = drop-drop (past_front (drop at s)) at s ∙ ap (λ m. drop m s) (sym n) in
    let r : place_of k (drop (past_front (drop at s)) (drop at s)) ≡ place_of k (drop next s) = ap (place_of k) q in
    omega arith

-- where the loop stands: before the first box of the type, or past it, with the place of its body
abbrev pub Placed : {A : Type 0} → Option A → (A → ℕ) → ℕ → List ℕ → ℕ → Type 0
Placed None start k s at = place_of k s ≡ at + place_of k (drop at s)
Placed (Some a) start k s at = start a ≡ body_start s (place_of k s)

-- so a first box of the type stands at the place
pub placed_first : {A : Type 0} (found : Option A) (start : A → ℕ) (k : ℕ) (s : List ℕ) (at : ℕ) (x : Mp4Box) (rest : List ℕ) → Placed found start k s at → is_some found ≡ false
    → step_of (drop at s) ≡ Ok (Some (x, rest)) → x.kind ≡ k → place_of k s ≡ at
placed_first None start k s at x rest h n e d = let p : place_of k (drop at s) ≡ 0 = place-front k (drop at s) x rest e ∙ rw (eq-eqb _ _ d) refl in omega arith
placed_first (Some a) start k s at x rest h n e d = absurd (true≢false n)

-- and past one of another type nothing else changes
pub placed_later : {A : Type 0} (found : Option A) (start : A → ℕ) (k : ℕ) (s : List ℕ) (at next : ℕ) (x : Mp4Box) (rest : List ℕ) → Placed found start k s at
    → step_of (drop at s) ≡ Ok (Some (x, rest)) → x.kind ≢ k → next ≡ at + past_front (drop at s) → Placed found start k s next
placed_later None start k s at next x rest h e d n = place-later k s at next x rest e d n h
placed_later (Some a) start k s at next x rest h e d n = h

-- ---- a type that must not stand after itself: there is exactly one box of it

abbrev pub bodies_of : ℕ → List Mp4Box → List (List ℕ)
bodies_of k [] = []
bodies_of k (x ∷ l) = cond (eqb x.kind k) (x.body ∷ bodies_of k l) (bodies_of k l)

abbrev pub the_only : List (List ℕ) → Result (List ℕ) Malformed
the_only [] = refused
the_only (b ∷ []) = Ok b
the_only (b ∷ (b' ∷ l)) = refused

any-more : (k : ℕ) (b : List ℕ) (l : List Mp4Box) → cond (has k l) refused (Ok b) ≡ the_only (b ∷ bodies_of k l)
any-more k b [] = refl
any-more k b (x ∷ l) = go (eqb x.kind k) (any-more k b l)
  where
    go : (t : Bool) → cond (has k l) refused (Ok b) ≡ the_only (b ∷ bodies_of k l)
        → cond (t || has k l) refused (Ok b) ≡ the_only (b ∷ cond t (x.body ∷ bodies_of k l) (bodies_of k l))
    go true h = refl
    go false h = h

pub lone-by-itself : (k : ℕ) (l : List Mp4Box) → lone_of k k l ≡ the_only (bodies_of k l)
lone-by-itself k [] = refl
lone-by-itself k (x ∷ l) = go (eqb x.kind k) (lone-by-itself k l)
  where
    go : (t : Bool) → lone_of k k l ≡ the_only (bodies_of k l)
        → cond t (cond (has k l) refused (Ok x.body)) (cond t refused (lone_of k k l)) ≡ the_only (cond t (x.body ∷ bodies_of k l) (bodies_of k l))
    go true h = any-more k x.body l
    go false h = h
