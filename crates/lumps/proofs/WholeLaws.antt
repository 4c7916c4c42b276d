-- After all bytes, the reading tells what the whole segment says. The idea: at every place, what the bytes that are left say from the reading
-- there (`rest_of`) is what the whole says; a byte moves the place and not the answer. Assumes nothing.
use mathlib.Core.Path.{◌≡◌, refl, sym, ap, ◌∙◌}
use mathlib.Core.Bool.{Bool, true, false, cond}
use mathlib.Core.List.{List, [], ◌∷◌, ◌++◌, append_assoc, append-nil}
use Prim.Native.Nat.{ℕ, zero, suc, ◌+◌, ◌-◌, ◌≤◌, ◌<◌}
use native.Mathlib.Omega.{arith}
use native.Mathlib.Decide.{dec_le}
use borrow.Author.Tests.{ltb-true, ltb-false, eqb-true, eqb-false, le-leb, lt-leb, le-ltb, lt-ltb, eq-eqb, ne_eqb}
use lib.ListN.{length, take, drop, length-append, length-drop, get_or-append}
use lib.Seq.{drop_at, drop-append-add, drop-append-le}
use lib.Dec.{ltb, eqb}
use Rattle.laws.proofs.BoolLaws.{by-test}
use Rattle.std.specs.Prelude.{Some, Result, Ok, Err}
use Rattle.boxes.specs.Boxes.{be4, be8, sized_of, front_of, Mp4Box, refused, onto, skipping, boxes_of}
use Rattle.boxes.specs.Lone.{lone_in}
use Rattle.boxes.specs.declared.Header.{Header}
use Rattle.boxes.specs.declared.Malformed.{Malformed}
use Rattle.boxes.proofs.BoxLaws.{skipping-drop, boxes-found, boxes-bad}
use Rattle.boxes.proofs.LoneLaws.{bodies_of, the_only, lone-by-itself}
use Rattle.segments.specs.Listings.{moof_kind}
use Rattle.lumps.specs.LargeFragments.{large_sized, large_front, large_past, has_large}
use Rattle.lumps.specs.Readings.{most, Doing, heading, passing, keeping, stuck, large, Reading, fresh, opens_of, begun_of, going, fragment_opens, begins, stepping, run, Told, too_large, framed, telling, tell}
use Rattle.lumps.specs.declared.Begun.{Begun}

abbrev broken : Told
broken = framed refused

-- WHAT THE BYTES THAT ARE LEFT SAY

-- where n movie fragments were met, with the first one's body kept, and these bodies come after
abbrev judged : ℕ → List ℕ → List (List ℕ) → Told
judged zero kept l = framed (the_only l)
judged (suc zero) kept [] = framed (Ok kept)
judged (suc zero) kept (b ∷ l) = broken
judged (suc (suc n)) kept l = broken

abbrev judged_in : ℕ → List ℕ → Result (List Mp4Box) Malformed → Told
judged_in n kept (Err m) = broken
judged_in n kept (Ok l) = judged n kept (bodies_of moof_kind l)

-- the same in a body that is kept, with k bytes of it still to come
keep_on : ℕ → List ℕ → List ℕ → ℕ → Told
keep_on n kept [] zero = judged_in n kept (boxes_of [])
keep_on n kept [] (suc k) = broken
keep_on n kept (b ∷ s) zero = judged_in n kept (boxes_of (b ∷ s))
keep_on n kept (b ∷ s) (suc k) = keep_on n (kept ++ (b ∷ [])) s k

abbrev rest : Doing → ℕ → List ℕ → List ℕ → Told
rest (heading l) n kept s = judged_in n kept (boxes_of (l ++ s))
rest (passing k) n kept s = judged_in n kept (skipping s k)
rest (keeping k) n kept s = keep_on n kept s k
rest stuck n kept s = broken
rest large n kept s = too_large

-- that a movie fragment too large is among them
abbrev large_rest : Doing → List ℕ → Bool
large_rest (heading l) s = large_past (l ++ s) 0
large_rest (passing k) s = large_past s k
large_rest (keeping k) s = large_past s k
large_rest stuck s = false
large_rest large s = true

abbrev pub unless_large : Bool → Told → Told
unless_large h x = cond h too_large x

abbrev rest_of : Reading → List ℕ → Told
rest_of r s = unless_large (large_rest r.doing s) (rest r.doing r.fragments r.kept s)

both : (h h' : Bool) (x x' : Told) → h ≡ h' → x ≡ x' → unless_large h x ≡ unless_large h' x'
both h h' x x' e f = ap (λ (t : Bool). unless_large t x) e ∙ ap (unless_large h') f

-- LAWS OF BOXES FOR A HEADER AND WHAT FOLLOWS IT

-- fewer bytes than are to be skipped
skipping-short : (s : List ℕ) (k : ℕ) → length s < k → skipping s k ≡ refused
unfolding skipping
skipping-short [] zero h = absurd (omega arith)
skipping-short [] (suc k) h = refl
skipping-short (b ∷ s) zero h = absurd (omega arith)
skipping-short (b ∷ s) (suc k) h = skipping-short s k (omega arith)

-- the numbers in a header do not see what follows it
pub be4-append : (l s : List ℕ) → 4 ≤ length l → be4 (l ++ s) ≡ be4 l
unfolding be4
be4-append l s h =
    let e₀ = get_or-append l s 0 0 (omega arith) in
    let e₁ = get_or-append l s 0 1 (omega arith) in
    let e₂ = get_or-append l s 0 2 (omega arith) in
    let e₃ = get_or-append l s 0 3 (omega arith) in
    simp (e₀, e₁, e₂, e₃)

be8-append : (l s : List ℕ) → 8 ≤ length l → be8 (l ++ s) ≡ be8 l
unfolding be8
be8-append l s h =
    let w : 4 ≤ length (drop 4 l) = rw length-drop (omega arith) in
    let d : drop 4 (l ++ s) ≡ drop 4 l ++ s = drop-append-le 4 l s (omega arith) in
    let e₁ : be4 (l ++ s) ≡ be4 l = be4-append l s (omega arith) in
    let e₂ : be4 (drop 4 (l ++ s)) ≡ be4 (drop 4 l) = rw d (be4-append (drop 4 l) s w) in
    rw (e₁, e₂)

module _ (l : List ℕ) (long : 8 ≤ length l) (s : List ℕ) where
  kind-append : be4 (drop 4 (l ++ s)) ≡ be4 (drop 4 l)
  kind-append =
      let w : 4 ≤ length (drop 4 l) = rw length-drop (omega arith) in
      let d : drop 4 (l ++ s) ≡ drop 4 l ++ s = drop-append-le 4 l s (omega arith) in
      rw d (be4-append (drop 4 l) s w)

-- how the search for a movie fragment too large goes on
large_front_lem : (s : List ℕ) → 0 < length s → large_past s 0 ≡ large_front s (λ k. large_past (drop 1 s) k)
unfolding large_past
large_front_lem [] h = absurd (omega arith)
large_front_lem (b ∷ s) h = refl

large-less : (s : List ℕ) (k : ℕ) → 0 < k → large_past (drop 1 s) (k - 1) ≡ large_past s k
unfolding large_past
large-less [] k h = refl
large-less (b ∷ s) zero h = absurd (omega arith)
large-less (b ∷ s) (suc k) h = let e : suc k - 1 ≡ k = omega arith in ap (large_past s) e

large_past_lem : (l s : List ℕ) (k : ℕ) → large_past (l ++ s) (length l + k) ≡ large_past s k
unfolding large_past
large_past_lem [] s k = let e : 0 + k ≡ k = omega arith in ap (large_past s) e
large_past_lem (b ∷ l) s k = let e : suc (length l) + k ≡ suc (length l + k) = omega arith in rw e (large_past_lem l s k)

-- a whole header of h bytes that says this size
record IsHeaded (l : List ℕ) (h size : ℕ) : Type 0 where
  least : 8 ≤ h
  bytes : length l ≡ h
  front : (s : List ℕ) → front_of (l ++ s) ≡ sized_of (l ++ s) h size
  larges : (s : List ℕ) → large_past (l ++ s) 0 ≡ large_sized (l ++ s) h size (λ k. large_past (drop 1 (l ++ s)) k)

header8 : (l : List ℕ) → length l ≡ 8 → (be4 l ≡ 1 → ⊥) → IsHeaded l 8 (be4 l)
header8 l e n = record { least = omega arith; bytes = e; front = λ s. at s; larges = λ s. by s }
  where
    at : (s : List ℕ) → front_of (l ++ s) ≡ sized_of (l ++ s) 8 (be4 l)
    at s =
        let w : length (l ++ s) ≡ 8 + length s = rw (length-append, e) in
        let q : be4 (l ++ s) ≡ be4 l = be4-append l s (omega arith) in
        let t₀ : eqb (length (l ++ s)) 0 ≡ false = ne_eqb (length (l ++ s)) 0 (λ z. omega arith) in
        let t₁ : ltb (length (l ++ s)) 8 ≡ false = le-ltb (length (l ++ s)) 8 (omega arith) in
        let t₂ : eqb (be4 l) 1 ≡ false = ne_eqb (be4 l) 1 n in
        simp (t₀, t₁, q, t₂)

    by : (s : List ℕ) → large_past (l ++ s) 0 ≡ large_sized (l ++ s) 8 (be4 l) (λ k. large_past (drop 1 (l ++ s)) k)
    by s =
        let w : length (l ++ s) ≡ 8 + length s = rw (length-append, e) in
        let q : be4 (l ++ s) ≡ be4 l = be4-append l s (omega arith) in
        let t₁ : ltb (length (l ++ s)) 8 ≡ false = le-ltb (length (l ++ s)) 8 (omega arith) in
        let t₂ : eqb (be4 l) 1 ≡ false = ne_eqb (be4 l) 1 n in
        large_front_lem (l ++ s) (omega arith) ∙ simp (t₁, q, t₂)

header16 : (l : List ℕ) → length l ≡ 16 → be4 l ≡ 1 → IsHeaded l 16 (be8 (drop 8 l))
header16 l e o = record { least = omega arith; bytes = e; front = λ s. at s; larges = λ s. by s }
  where
    at : (s : List ℕ) → front_of (l ++ s) ≡ sized_of (l ++ s) 16 (be8 (drop 8 l))
    at s =
        let w : length (l ++ s) ≡ 16 + length s = rw (length-append, e) in
        let q : be4 (l ++ s) ≡ 1 = be4-append l s (omega arith) ∙ o in
        let v : 8 ≤ length (drop 8 l) = rw length-drop (omega arith) in
        let d : drop 8 (l ++ s) ≡ drop 8 l ++ s = drop-append-le 8 l s (omega arith) in
        let p : be8 (drop 8 (l ++ s)) ≡ be8 (drop 8 l) = rw d (be8-append (drop 8 l) s v) in
        let t₀ : eqb (length (l ++ s)) 0 ≡ false = ne_eqb (length (l ++ s)) 0 (λ z. omega arith) in
        let t₁ : ltb (length (l ++ s)) 8 ≡ false = le-ltb (length (l ++ s)) 8 (omega arith) in
        let t₂ : eqb (be4 (l ++ s)) 1 ≡ true = eq-eqb _ _ q in
        let t₃ : ltb (length (l ++ s)) 16 ≡ false = le-ltb (length (l ++ s)) 16 (omega arith) in
        simp (t₀, t₁, t₂, t₃, p)

    by : (s : List ℕ) → large_past (l ++ s) 0 ≡ large_sized (l ++ s) 16 (be8 (drop 8 l)) (λ k. large_past (drop 1 (l ++ s)) k)
    by s =
        let w : length (l ++ s) ≡ 16 + length s = rw (length-append, e) in
        let q : be4 (l ++ s) ≡ 1 = be4-append l s (omega arith) ∙ o in
        let v : 8 ≤ length (drop 8 l) = rw length-drop (omega arith) in
        let d : drop 8 (l ++ s) ≡ drop 8 l ++ s = drop-append-le 8 l s (omega arith) in
        let p : be8 (drop 8 (l ++ s)) ≡ be8 (drop 8 l) = rw d (be8-append (drop 8 l) s v) in
        let t₁ : ltb (length (l ++ s)) 8 ≡ false = le-ltb (length (l ++ s)) 8 (omega arith) in
        let t₂ : eqb (be4 (l ++ s)) 1 ≡ true = eq-eqb _ _ q in
        let t₃ : ltb (length (l ++ s)) 16 ≡ false = le-ltb (length (l ++ s)) 16 (omega arith) in
        large_front_lem (l ++ s) (omega arith) ∙ simp (t₁, t₂, t₃, p)

-- the box of a header l whose body is the next k bytes
abbrev box_at : List ℕ → ℕ → List ℕ → Mp4Box
box_at l k s = record { kind = be4 (drop 4 l); body = take k s }

module _ (l : List ℕ) (h size : ℕ) (x : IsHeaded l h size) (s : List ℕ) where
  -- a size under the header
  header-under : size < h → boxes_of (l ++ s) ≡ refused
  header-under u = boxes-bad (l ++ s) (x.front s ∙ simp (lt-leb h size u))

  under_none : size < h → large_past (l ++ s) 0 ≡ false
  under_none u = x.larges s ∙ simp (lt-ltb size h u)

  long : 8 ≤ length l
  long = omega (arith, x.bytes, x.least)

  -- a movie fragment too large
  over-large : h ≤ size → be4 (drop 4 l) ≡ moof_kind → most < size → large_past (l ++ s) 0 ≡ true
  over-large u m o =
      let k = eq-eqb (be4 (drop 4 l)) moof_kind m in
      x.larges s ∙ simp (le-ltb size h u, kind-append l long s, k, lt-ltb most size o)

  -- any other box: the search goes on past its body
  past-box : h ≤ size → large_past (drop 1 (l ++ s)) (size - 1) ≡ large_past s (size - h)
  past-box u =
      let z : size ≡ length l + (size - h) = omega (arith, x.bytes) in
      large-less (l ++ s) size (omega (arith, x.least)) ∙ ap (large_past (l ++ s)) z ∙ large_past_lem l s (size - h)

  small-onward : h ≤ size → be4 (drop 4 l) ≡ moof_kind → size ≤ most → large_past (l ++ s) 0 ≡ large_past s (size - h)
  small-onward u m o =
      let k = eq-eqb (be4 (drop 4 l)) moof_kind m in
      x.larges s ∙ simp (le-ltb size h u, kind-append l long s, k, le-ltb most size o) (past-box u)

  other-onward : h ≤ size → (be4 (drop 4 l) ≡ moof_kind → ⊥) → large_past (l ++ s) 0 ≡ large_past s (size - h)
  other-onward u m =
      let k = ne_eqb (be4 (drop 4 l)) moof_kind m in
      x.larges s ∙ simp (le-ltb size h u, kind-append l long s, k) (past-box u)

  -- a body that overruns
  header-over : h ≤ size → length s < size - h → boxes_of (l ++ s) ≡ refused
  header-over u o =
      let w : length (l ++ s) ≡ h + length s = rw (length-append, x.bytes) in
      boxes-bad (l ++ s) (x.front s ∙ simp (le-leb h size u, lt-leb size (length (l ++ s)) (omega arith)))

  -- a box, and what follows it
  header-opens : h ≤ size → size - h ≤ length s
      → boxes_of (l ++ s) ≡ onto (box_at l (size - h) s) (boxes_of (drop (size - h) s))
  header-opens u o =
      let w : length (l ++ s) ≡ h + length s = rw (length-append, x.bytes) in
      let a : 8 ≤ length l = omega (arith, x.bytes, x.least) in
      let g : Header = record { kind = be4 (drop 4 (l ++ s)); length = h; size = size } in
      let f : front_of (l ++ s) ≡ Ok (Some g) = x.front s ∙ simp (le-leb h size u, le-leb size (length (l ++ s)) (omega arith)) in
      let d₁ : drop h (l ++ s) ≡ s = drop_at l s h x.bytes in
      let z : size ≡ length l + (size - h) = omega (arith, x.bytes) in
      let d₂ : drop size (l ++ s) ≡ drop (size - h) s = ap (λ (n : ℕ). drop n (l ++ s)) z ∙ drop-append-add l s (size - h) in
      boxes-found (l ++ s) g f ∙ simp (d₁, d₂, kind-append l a s)

-- ONE BYTE MOVES THE PLACE AND NOT THE ANSWER

-- one more box
module _ (kept : List ℕ) (x : Mp4Box) where
  judged-other : (n : ℕ) (y : Result (List Mp4Box) Malformed) → (x.kind ≡ moof_kind → ⊥) → judged_in n kept (onto x y) ≡ judged_in n kept y
  judged-other n (Err m) e = refl
  judged-other n (Ok l) e = rw (ne_eqb x.kind moof_kind e)

  judged-first : (y : Result (List Mp4Box) Malformed) → x.kind ≡ moof_kind → judged_in 0 kept (onto x y) ≡ judged_in 1 x.body y
  judged-first (Err m) e = refl
  judged-first (Ok l) e = rw (eq-eqb x.kind moof_kind e) (first (bodies_of moof_kind l))
    where
      first : (bs : List (List ℕ)) → framed (the_only (x.body ∷ bs)) ≡ judged 1 x.body bs
      first [] = refl
      first (b ∷ bs) = refl

  judged-later : (n : ℕ) (y : Result (List Mp4Box) Malformed) → x.kind ≡ moof_kind → judged_in (suc n) kept (onto x y) ≡ judged_in 2 kept y
  judged-later n (Err m) e = refl
  judged-later n (Ok l) e = rw (eq-eqb x.kind moof_kind e) (later n)
    where
      later : (m : ℕ) → judged (suc m) kept (x.body ∷ bodies_of moof_kind l) ≡ broken
      later zero = refl
      later (suc m) = refl

-- a body that is kept, to its end and where it overruns
keep-enough : (n : ℕ) (kept s : List ℕ) (k : ℕ) → k ≤ length s → keep_on n kept s k ≡ judged_in n (kept ++ take k s) (boxes_of (drop k s))
unfolding keep_on
keep-enough n kept [] zero h = simp append-nil
keep-enough n kept [] (suc k) h = absurd (omega arith)
keep-enough n kept (b ∷ s) zero h = simp append-nil
keep-enough n kept (b ∷ s) (suc k) h = keep-enough n (kept ++ (b ∷ [])) s k (omega arith) ∙ simp append_assoc

keep-short : (n : ℕ) (kept s : List ℕ) (k : ℕ) → length s < k → keep_on n kept s k ≡ broken
unfolding keep_on
keep-short n kept [] zero h = absurd (omega arith)
keep-short n kept [] (suc k) h = refl
keep-short n kept (b ∷ s) zero h = absurd (omega arith)
keep-short n kept (b ∷ s) (suc k) h = keep-short n (kept ++ (b ∷ [])) s k (omega arith)

-- a body that begins, with none to come too
going-passing : (n : ℕ) (kept s : List ℕ) (k : ℕ) → rest (going passing k) n kept s ≡ judged_in n kept (skipping s k)
going-passing n kept s zero = refl
going-passing n kept s (suc k) = refl

going-keeping : (n : ℕ) (kept s : List ℕ) (k : ℕ) → rest (going keeping k) n kept s ≡ keep_on n kept s k
unfolding keep_on
going-keeping n kept [] zero = refl
going-keeping n kept (b ∷ s) zero = refl
going-keeping n kept s (suc k) = refl

-- what a reading that was reached meets: no whole header is waiting, and no body with nothing to come
abbrev IsPartial : Doing → Type 0
IsPartial (heading l) = (length l < 16) × (8 ≤ length l → be4 l ≡ 1)
IsPartial (passing k) = 0 < k
IsPartial (keeping k) = 0 < k
IsPartial stuck = Unit {0}
IsPartial large = Unit {0}

none-waiting : IsPartial (heading [])
none-waiting = (omega arith, λ h. absurd (omega arith))

going-partial : (f : ℕ → Doing) → ((k : ℕ) → 0 < k → IsPartial (f k)) → (k : ℕ) → IsPartial (going f k)
going-partial f p zero = none-waiting
going-partial f p (suc k) = p (suc k) (omega arith)

-- what is shown of the reading r after a byte, where the whole says x: nothing waits, and what is left says x too
abbrev Goes : Told → List ℕ → Reading → Type 0
Goes x s r = IsPartial r.doing × (x ≡ rest_of r s)

going-larges : (f : ℕ → Doing) → ((k : ℕ) (s : List ℕ) → large_rest (f k) s ≡ large_past s k) → (k : ℕ) (s : List ℕ) → large_rest (going f k) s ≡ large_past s k
going-larges f p zero s = refl
going-larges f p (suc k) s = p (suc k) s

passing-larges : (k : ℕ) (s : List ℕ) → large_past s k ≡ large_rest (going passing k) s
passing-larges k s = sym (going-larges passing (λ i t. refl) k s)

keeping-larges : (k : ℕ) (s : List ℕ) → large_past s k ≡ large_rest (going keeping k) s
keeping-larges k s = sym (going-larges keeping (λ i t. refl) k s)

module _ (l : List ℕ) (h size : ℕ) (x : IsHeaded l h size) (s : List ℕ) (n : ℕ) (kept : List ℕ) where
  -- the box is opened: passed over or kept
  opens-other : h ≤ size → (be4 (drop 4 l) ≡ moof_kind → ⊥) → judged_in n kept (boxes_of (l ++ s)) ≡ rest (going passing (size - h)) n kept s
  opens-other u e = go (dec_le (size - h) (length s))
    where
      go : Dec (size - h ≤ length s) → judged_in n kept (boxes_of (l ++ s)) ≡ rest (going passing (size - h)) n kept s
      go (yes o) =
          ap (judged_in n kept) (header-opens l h size x s u o) ∙ judged-other kept (box_at l (size - h) s) n (boxes_of (drop (size - h) s)) e
          ∙ ap (judged_in n kept) (sym (skipping-drop s (size - h) o)) ∙ sym (going-passing n kept s (size - h))
      go (no o) =
          let w : length s < size - h = omega arith in
          ap (judged_in n kept) (header-over l h size x s u w ∙ sym (skipping-short s (size - h) w)) ∙ sym (going-passing n kept s (size - h))

module _ (l : List ℕ) (h size : ℕ) (x : IsHeaded l h size) (s : List ℕ) (kept : List ℕ) where
  opens-first : h ≤ size → be4 (drop 4 l) ≡ moof_kind → judged_in 0 kept (boxes_of (l ++ s)) ≡ rest (going keeping (size - h)) 1 [] s
  opens-first u e = go (dec_le (size - h) (length s))
    where
      go : Dec (size - h ≤ length s) → judged_in 0 kept (boxes_of (l ++ s)) ≡ rest (going keeping (size - h)) 1 [] s
      go (yes o) =
          ap (judged_in 0 kept) (header-opens l h size x s u o) ∙ judged-first kept (box_at l (size - h) s) (boxes_of (drop (size - h) s)) e
          ∙ sym (keep-enough 1 [] s (size - h) o) ∙ sym (going-keeping 1 [] s (size - h))
      go (no o) =
          let w : length s < size - h = omega arith in
          ap (judged_in 0 kept) (header-over l h size x s u w) ∙ sym (keep-short 1 [] s (size - h) w) ∙ sym (going-keeping 1 [] s (size - h))

  opens-later : (n : ℕ) → h ≤ size → be4 (drop 4 l) ≡ moof_kind → judged_in (suc n) kept (boxes_of (l ++ s)) ≡ rest (going passing (size - h)) 2 kept s
  opens-later n u e = go (dec_le (size - h) (length s))
    where
      go : Dec (size - h ≤ length s) → judged_in (suc n) kept (boxes_of (l ++ s)) ≡ rest (going passing (size - h)) 2 kept s
      go (yes o) =
          ap (judged_in (suc n) kept) (header-opens l h size x s u o) ∙ judged-later kept (box_at l (size - h) s) n (boxes_of (drop (size - h) s)) e
          ∙ ap (judged_in 2 kept) (sym (skipping-drop s (size - h) o)) ∙ sym (going-passing 2 kept s (size - h))
      go (no o) =
          let w : length s < size - h = omega arith in
          ap (judged_in (suc n) kept) (header-over l h size x s u w)
          ∙ sym (ap (judged_in 2 kept) (skipping-short s (size - h) w)) ∙ sym (going-passing 2 kept s (size - h))

-- a whole header: the tests of `opens_of`, one after the other
module _ (l : List ℕ) (h size : ℕ) (x : IsHeaded l h size) (s : List ℕ) (n : ℕ) (kept : List ℕ) where
  abbrev whole : ℕ → Told
  whole i = unless_large (large_past (l ++ s) 0) (judged_in i kept (boxes_of (l ++ s)))

  abbrev G : Begun → Type 0
  G g = Goes (whole n) s (begins g l n kept)

  header-goes : G (opens_of l h size)
  header-goes =
      by-test G (ltb size h)
      (λ t. let u = ltb-true size h t in (tt, both (large_past (l ++ s) 0) false (judged_in n kept (boxes_of (l ++ s))) broken (under_none l h size x s u) (ap (judged_in n kept) (header-under l h size x s u))))
      (λ t. by-test G (eqb (be4 (drop 4 l)) moof_kind)
      (λ m. by-test G (ltb most size)
      (λ o. (tt, ap (λ (w : Bool). unless_large w (judged_in n kept (boxes_of (l ++ s)))) (over-large l h size x s (ltb-false size h t) (eqb-true (be4 (drop 4 l)) moof_kind m) (ltb-true most size o))))
      (λ o. rw m (movie n (ltb-false size h t) (eqb-true (be4 (drop 4 l)) moof_kind m) (ltb-false most size o))))
      (λ m. rw m (other (ltb-false size h t) (eqb-false (be4 (drop 4 l)) moof_kind m))))
    where
      other : h ≤ size → (be4 (drop 4 l) ≡ moof_kind → ⊥) → Goes (whole n) s (record { doing = going passing (size - h); fragments = n; kept = kept })
      other u m = (
        going-partial passing (λ k p. p) (size - h),
        both _ _ _ _ (other-onward l h size x s u m ∙ passing-larges (size - h) s) (opens-other l h size x s n kept u m),
      )

      movie : (i : ℕ) → h ≤ size → be4 (drop 4 l) ≡ moof_kind → size ≤ most → Goes (whole i) s (fragment_opens i kept (size - h))
      movie zero u m o = (
        going-partial keeping (λ k p. p) (size - h),
        both _ _ _ _ (small-onward l h size x s u m o ∙ keeping-larges (size - h) s) (opens-first l h size x s kept u m),
      )
      movie (suc i) u m o = (
        going-partial passing (λ k p. p) (size - h),
        both _ _ _ _ (small-onward l h size x s u m o ∙ passing-larges (size - h) s) (opens-later l h size x s kept i u m),
      )

-- a byte of a header
module _ (l : List ℕ) (b : ℕ) (s : List ℕ) (n : ℕ) (kept : List ℕ) (w : IsPartial (heading l)) where
  abbrev l' : List ℕ
  l' = l ++ (b ∷ [])

  one-longer : length l' ≡ length l + 1
  one-longer = rw length-append (omega arith)

  abbrev P : Begun → Type 0
  P g = Goes (unless_large (large_past (l' ++ s) 0) (judged_in n kept (boxes_of (l' ++ s)))) s (begins g l' n kept)

  heading-goes : P (begun_of l')
  heading-goes =
      by-test P (eqb (length l') 8)
      (λ e. by-test P (eqb (be4 l') 1)
      (λ o. ((omega (arith, eqb-true (length l') 8 e), λ _. eqb-true (be4 l') 1 o), refl))
      (λ o. header-goes l' 8 (be4 l') (header8 l' (eqb-true (length l') 8 e) (eqb-false (be4 l') 1 o)) s n kept))
      (λ e. by-test P (eqb (length l') 16)
      (λ f. header-goes l' 16 (be8 (drop 8 l')) (header16 l' (eqb-true (length l') 16 f) (one (omega (arith, eqb-true (length l') 16 f)))) s n kept)
      (λ f. ((omega (arith, one-longer, w.0, eqb-false (length l') 16 f), λ g. one (omega (arith, eqb-false (length l') 8 e, g))), refl)))
    where
      -- past 8 bytes, the first 4 are the number 1, and stay so
      one : 9 ≤ length l' → be4 l' ≡ 1
      one g = let k : 8 ≤ length l = omega (arith, one-longer) in be4-append l (b ∷ []) (omega arith) ∙ w.1 k

-- any byte
goes : (d : Doing) (n : ℕ) (kept : List ℕ) (b : ℕ) (s : List ℕ) → IsPartial d → Goes (unless_large (large_rest d (b ∷ s)) (rest d n kept (b ∷ s))) s (stepping d n kept b)
unfolding keep_on skipping large_past
goes (heading l) n kept b s w =
    let e : (l ++ (b ∷ [])) ++ s ≡ l ++ (b ∷ s) = append_assoc l (b ∷ []) s in
    rw e at (heading-goes l b s n kept w)
goes (passing zero) n kept b s w = absurd (omega arith)
goes (passing (suc k)) n kept b s w =
    let e : suc k - 1 ≡ k = omega arith in
    rw e (going-partial passing (λ i p. p) k, both _ _ _ _ (passing-larges k s) (sym (going-passing n kept s k)))
goes (keeping zero) n kept b s w = absurd (omega arith)
goes (keeping (suc k)) n kept b s w =
    let e : suc k - 1 ≡ k = omega arith in
    rw e (going-partial keeping (λ i p. p) k, both _ _ _ _ (keeping-larges k s) (sym (going-keeping n (kept ++ (b ∷ [])) s k)))
goes stuck n kept b s w = (tt, refl)
goes large n kept b s w = (tt, refl)

-- at the end: a header that waits is stray bytes
stray : (l : List ℕ) → IsPartial (heading l) → 0 < length l → boxes_of l ≡ refused
stray l w h = boxes-bad l (go (dec_le 8 (length l)))
  where
    go : Dec (8 ≤ length l) → front_of l ≡ refused
    go (yes k) =
        let t₀ : eqb (length l) 0 ≡ false = ne_eqb (length l) 0 (λ z. omega arith) in
        let t₁ : ltb (length l) 8 ≡ false = le-ltb (length l) 8 k in
        let t₂ : eqb (be4 l) 1 ≡ true = eq-eqb (be4 l) 1 (w.1 k) in
        let t₃ : ltb (length l) 16 ≡ true = lt-ltb (length l) 16 w.0 in
        simp (t₀, t₁, t₂, t₃)
    go (no k) =
        let t₀ : eqb (length l) 0 ≡ false = ne_eqb (length l) 0 (λ z. omega arith) in
        let t₁ : ltb (length l) 8 ≡ true = lt-ltb (length l) 8 (omega arith) in
        simp (t₀, t₁)

stray-none : (l : List ℕ) → IsPartial (heading l) → 0 < length l → large_past l 0 ≡ false
stray-none l w h = large_front_lem l h ∙ go (dec_le 8 (length l))
  where
    go : Dec (8 ≤ length l) → large_front l (λ k. large_past (drop 1 l) k) ≡ false
    go (yes k) =
        let t₁ : ltb (length l) 8 ≡ false = le-ltb (length l) 8 k in
        let t₂ : eqb (be4 l) 1 ≡ true = eq-eqb (be4 l) 1 (w.1 k) in
        let t₃ : ltb (length l) 16 ≡ true = lt-ltb (length l) 16 w.0 in
        simp (t₁, t₂, t₃)
    go (no k) = let t₁ : ltb (length l) 8 ≡ true = lt-ltb (length l) 8 (omega arith) in simp t₁

stray-told : (l : List ℕ) (n : ℕ) (kept : List ℕ) → IsPartial (heading l) → 0 < length l → broken ≡ unless_large (large_past (l ++ []) 0) (judged_in n kept (boxes_of (l ++ [])))
stray-told l n kept w h = sym (ap (λ (x : List ℕ). unless_large (large_past x 0) (judged_in n kept (boxes_of x))) (append-nil l) ∙ both _ false _ broken (stray-none l w h) (ap (judged_in n kept) (stray l w h)))

ends : (d : Doing) (n : ℕ) (kept : List ℕ) → IsPartial d → telling d n kept ≡ unless_large (large_rest d []) (rest d n kept [])
unfolding keep_on skipping large_past
ends (heading []) zero kept w = refl
ends (heading []) (suc zero) kept w = refl
ends (heading []) (suc (suc n)) kept w = refl
ends (heading (b ∷ l)) n kept w = stray-told (b ∷ l) n kept w (omega arith)
ends (passing zero) n kept w = absurd (omega arith)
ends (passing (suc k)) n kept w = refl
ends (keeping zero) n kept w = absurd (omega arith)
ends (keeping (suc k)) n kept w = refl
ends stuck n kept w = refl
ends large n kept w = refl

-- THE THEOREM, from any reading that was reached
told-from : (s : List ℕ) (d : Doing) (n : ℕ) (kept : List ℕ) → IsPartial d
    → tell (run (record { doing = d; fragments = n; kept = kept }) s) ≡ unless_large (large_rest d s) (rest d n kept s)
told-from [] d n kept w = ends d n kept w
told-from (b ∷ s) d n kept w =
    let g = goes d n kept b s w in
    let r = stepping d n kept b in
    told-from s r.doing r.fragments r.kept g.0 ∙ sym g.1

-- what a segment says, from its boxes: refused where a movie fragment box is too large; else by the one movie fragment
abbrev pub whole_told : List ℕ → Told
whole_told s = unless_large (has_large s) (framed (lone_in moof_kind moof_kind (boxes_of s)))

-- and from a fresh reading: what it tells after all bytes is what the whole segment says
pub whole_told_lem : (s : List ℕ) → tell (run fresh s) ≡ whole_told s
whole_told_lem s = told-from s (heading []) 0 [] none-waiting ∙ ap (unless_large (has_large s)) (sym (start (boxes_of s)))
  where
    start : (x : Result (List Mp4Box) Malformed) → framed (lone_in moof_kind moof_kind x) ≡ judged_in 0 [] x
    start (Err m) = refl
    start (Ok l) = ap framed (lone-by-itself moof_kind l)
