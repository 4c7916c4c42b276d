-- The condition on readers is exact: to a reader that meets it some bytes lead from a fresh one, whatever it keeps (`good-reached`). They are
-- the headers and the body that say so, written out. Assumes nothing.
use mathlib.Core.Path.{◌≡◌, refl, sym, ap, subst, ◌∙◌}
use mathlib.Core.Bool.{true, false}
use mathlib.Core.List.{List, [], ◌∷◌, ◌++◌, append_assoc, append-nil}
use Prim.Native.Nat.{ℕ, zero, suc, ◌+◌, ◌-◌, ◌/◌, ◌%◌, ◌≤◌, ◌<◌}
use native.Mathlib.Omega.{arith}
use borrow.Author.Tests.{eqb-true, eqb-false, ne_eqb, le-ltb}
use lib.ListN.{length, take, drop, length-append, take-append-drop}
use lib.Seq.{take-length, length-take-le, drop-length}
use lib.Dec.{eqb}
use Rattle.laws.proofs.BoolLaws.{by-test}
use Rattle.boxes.specs.Boxes.{be4, be8}
use Rattle.segments.specs.Listings.{moof_kind}
use Rattle.lumps.specs.Cuts.{IsBytes}
use Rattle.lumps.specs.Readers.{doing_of, reading_of, most_kept, good_reader}
use Rattle.lumps.specs.Readings.{most, heading, passing, keeping, stuck, Reading, fresh, begun_of, begins, run}
use Rattle.lumps.specs.Scans.{FitsIn, Fits}
use Rattle.lumps.specs.declared.Begun.{Begun}
use Rattle.lumps.specs.declared.Begun.TheVariants as begun
use Rattle.lumps.specs.declared.LumpReader.{LumpReader}
use Rattle.lumps.specs.declared.Phase.{Phase}
use Rattle.lumps.specs.declared.Phase.TheVariants.{Heading, Passing, Keeping, Stuck, Large}
use Rattle.lumps.proofs.ByteLaws.{bytes-append, bytes_take}
use Rattle.lumps.proofs.CutLaws.{run-append}
use Rattle.lumps.proofs.ReaderLaws.{good-fits, good-small}
use Rattle.lumps.proofs.ScanLaws.{going-some}
use Rattle.lumps.proofs.StretchLaws.{in_body, stretch-run}
use Rattle.lumps.proofs.WholeLaws.{be4-append}

-- ---- numbers as bytes

abbrev word : ℕ → List ℕ
word n = n / 256 / 256 / 256 % 256 ∷ n / 256 / 256 % 256 ∷ n / 256 % 256 ∷ n % 256 ∷ []

abbrev high : ℕ → ℕ
high n = n / 4294967296

abbrev low : ℕ → ℕ
low n = n % 4294967296

word_bytes : (n : ℕ) → IsBytes (word n)
word_bytes n = (omega arith, (omega arith, (omega arith, (omega arith, tt))))

word_back : (n : ℕ) (s : List ℕ) → n < 4294967296 → be4 (word n ++ s) ≡ n
unfolding be4
word_back n s h = omega arith

words_back : (n : ℕ) → n < 18446744073709551616 → be8 (word (high n) ++ word (low n)) ≡ n
unfolding be8
words_back n h = rw (word_back (high n) (word (low n)) (omega arith), word_back (low n) [] (omega arith)) (omega arith)

-- ---- headers

abbrev in_head : List ℕ → ℕ → List ℕ → Reading
in_head l n kept = record { doing = heading l; fragments = n; kept = kept }

-- a header that is not whole waits for more
waits : (l : List ℕ) → length l < 16 → (8 ≤ length l → be4 l ≡ 1) → begun_of l ≡ begun.More
waits l h o =
    by-test (λ (g : Begun). g ≡ begun.More) (eqb (length l) 8)
    (λ e. by-test (λ (g : Begun). g ≡ begun.More) (eqb (be4 l) 1) (λ _. refl) (λ n. absurd (eqb-false (be4 l) 1 n (o (omega (arith, eqb-true (length l) 8 e))))))
    (λ _. by-test (λ (g : Begun). g ≡ begun.More) (eqb (length l) 16) (λ e. absurd (omega (arith, eqb-true (length l) 16 e))) (λ _. refl))

waits-run : (n : ℕ) (kept a l : List ℕ) → length (a ++ l) < 16 → (8 ≤ length (a ++ l) → be4 (a ++ l) ≡ 1) → run (in_head a n kept) l ≡ in_head (a ++ l) n kept
waits-run n kept a [] h o = ap (λ (x : List ℕ). in_head x n kept) (sym (append-nil a))
waits-run n kept a (b ∷ l) h o =
    let a' = a ++ (b ∷ []) in
    let e : a' ++ l ≡ a ++ (b ∷ l) = append_assoc a (b ∷ []) l in
    let m : length a' ≡ length a + 1 = length-append a (b ∷ []) in
    let k : length (a ++ (b ∷ l)) ≡ length a + suc (length l) = length-append a (b ∷ l) in
    let w : begun_of a' ≡ begun.More = waits a' (omega (arith, m, k)) (λ g. sym (be4-append a' l (omega arith)) ∙ ap be4 e ∙ o (omega (arith, m, k))) in
    ap (λ (g : Begun). run (begins g a' n kept) l) w
    ∙ waits-run n kept a' l (rw e h) (rw e o)
    ∙ ap (λ (x : List ℕ). in_head x n kept) e

-- a header up to its last byte, and what it begins
header-run : (n : ℕ) (kept l : List ℕ) (b : ℕ) → length l < 16 → (8 ≤ length l → be4 l ≡ 1) → run (in_head [] n kept) (l ++ (b ∷ [])) ≡ begins (begun_of (l ++ (b ∷ []))) (l ++ (b ∷ [])) n kept
header-run n kept l b h o = run-append (in_head [] n kept) l (b ∷ []) ∙ ap (λ (x : Reading). run x (b ∷ [])) (waits-run n kept [] l h o)

-- a movie fragment box of this size; the first one's body is kept
abbrev moof : ℕ → List ℕ
moof size = word size ++ word moof_kind

moof-bytes : (size : ℕ) → IsBytes (moof size)
moof-bytes size = bytes-append (word size) (word moof_kind) (word_bytes size) (word_bytes moof_kind)

moof-run : (size : ℕ) → 8 ≤ size → size ≤ most → run fresh (moof size) ≡ in_body true 1 (size - 8) []
moof-run size h k =
    let q : be4 (moof size) ≡ size = word_back size (word moof_kind) (omega arith) in
    let t₁ : eqb size 1 ≡ false = ne_eqb size 1 (λ e. absurd (omega arith)) in
    header-run 0 [] (take 7 (moof size)) (moof_kind % 256) (omega arith) (λ z. absurd (omega arith))
    ∙ rw (q, t₁, le-ltb size 8 h, word_back moof_kind [] (omega arith), le-ltb most size k) refl

-- a box of 64-bit size that is no movie fragment: `free` in four letters
abbrev free : ℕ → List ℕ
free size = word 1 ++ (word 1718773093 ++ (word (high size) ++ word (low size)))

free_bytes : (size : ℕ) → IsBytes (free size)
free_bytes size =
    let sizes = bytes-append (word (high size)) (word (low size)) (word_bytes (high size)) (word_bytes (low size)) in
    let named = bytes-append (word 1718773093) (word (high size) ++ word (low size)) (word_bytes 1718773093) sizes in
    bytes-append (word 1) (word 1718773093 ++ (word (high size) ++ word (low size))) (word_bytes 1) named

free-run : (n size : ℕ) (kept : List ℕ) → 16 ≤ size → size < 18446744073709551616 → run (in_head [] n kept) (free size) ≡ in_body false n (size - 16) kept
free-run n size kept h k =
    let p : be8 (word (high size) ++ word (low size)) ≡ size = words_back size k in
    let q : be4 (free size) ≡ 1 = word_back 1 (word 1718773093 ++ (word (high size) ++ word (low size))) (omega arith) in
    let f : be4 (word 1718773093 ++ (word (high size) ++ word (low size))) ≡ 1718773093 = word_back 1718773093 (word (high size) ++ word (low size)) (omega arith) in
    header-run n kept (take 15 (free size)) (low size % 256) (omega arith) (λ z. word_back 1 (word 1718773093 ++ (word (high size) ++ take 3 (word (low size)))) (omega arith))
    ∙ rw (p, le-ltb size 16 h, f) refl

-- a second movie fragment, and a size of 0
second_run : (kept : List ℕ) → run (in_head [] 1 kept) (moof 8) ≡ in_head [] 2 kept
unfolding be4
second_run kept = refl

abbrev zeros : List ℕ
zeros = 0 ∷ 0 ∷ 0 ∷ 0 ∷ 0 ∷ 0 ∷ 0 ∷ 0 ∷ []

zeros-run : (n : ℕ) (kept : List ℕ) → run (in_head [] n kept) zeros ≡ record { doing = stuck; fragments = n; kept = kept }
unfolding be4
zeros-run n kept = refl

-- ---- what bytes lead to

pub record IsReached (x : Reading) : Type 0 where
  pub from : List ℕ
  pub bytes : IsBytes from
  pub leads : run fresh from ≡ x

further : (x : Reading) → IsReached x → (s : List ℕ) → IsBytes s → IsReached (run x s)
further x c s b = record { from = c.from ++ s; bytes = bytes-append c.from s c.bytes b; leads = run-append fresh c.from s ∙ ap (λ (y : Reading). run y s) c.leads }

-- some of a movie fragment's body
body-reached : (kept : List ℕ) (left : ℕ) → IsBytes kept → length kept + left ≤ most_kept → IsReached (in_body true 1 left kept)
body-reached kept left b h =
    let size = length kept + left + 8 in
    let j : size - 8 ≡ length kept + left = omega arith in
    let k : size - 8 - length kept ≡ left = omega arith in
    let t = take-length kept in
    let d : drop (length kept) kept ≡ [] = drop-length kept in
    subst IsReached
    (ap (λ (x : Reading). run x kept) (moof-run size (omega arith) (omega arith)) ∙ stretch-run true 1 (size - 8) (length kept) [] kept (omega arith) (omega arith) ∙ rw (k, t, d))
    (further (run fresh (moof size)) (record { from = moof size; bytes = moof-bytes size; leads = refl }) kept b)

-- between two boxes
between-reached : (n : ℕ) (kept : List ℕ) → n ≤ 2 → (n ≡ 0 → length kept ≡ 0) → IsBytes kept → length kept ≤ most_kept → IsReached (in_head [] n kept)
between-reached zero [] h o b k = record { from = []; bytes = tt; leads = refl }
between-reached zero (v ∷ kept) h o b k = absurd (omega (arith, o refl))
between-reached (suc zero) kept h o b k = body-reached kept 0 b (omega arith)
between-reached (suc (suc zero)) kept h o b k =
    subst IsReached (second_run kept) (further (in_head [] 1 kept) (body-reached kept 0 b (omega arith)) (moof 8) (moof-bytes 8))
between-reached (suc (suc (suc n))) kept h o b k = absurd (omega arith)

module _ (r : LumpReader) (f : Fits r) (head : IsBytes r.head) (kept : List ℕ) (e : length kept ≡ r.kept) (b : IsBytes kept) where
  between : IsReached (in_head [] r.fragments kept)
  between = between-reached r.fragments kept f.fragments (λ z. e ∙ f.none z) b (omega (arith, e, f.kept))

  in-phase : (p : Phase) → (p ≡ Large → ⊥) → FitsIn p r → IsReached (record { doing = doing_of p r; fragments = r.fragments; kept = kept })
  in-phase Heading n g =
      let l = take r.seen r.head in
      let m : length l ≡ r.seen = length-take-le r.seen r.head (omega (arith, f.bytes, g.0)) in
      subst IsReached (waits-run r.fragments kept [] l (omega (arith, m, g.0)) (λ h. announced m h)) (further (in_head [] r.fragments kept) between l (bytes_take r.seen r.head head))
    where
      announced : length (take r.seen r.head) ≡ r.seen → 8 ≤ length (take r.seen r.head) → be4 (take r.seen r.head) ≡ 1
      announced m h =
          sym (be4-append (take r.seen r.head) (drop r.seen r.head) (omega arith))
          ∙ ap be4 (take-append-drop r.seen r.head) ∙ g.2 (omega (arith, m))
  in-phase Passing n g =
      let size = r.left + 16 in
      let j : size - 16 ≡ r.left = omega arith in
      subst IsReached (free-run r.fragments size kept (omega arith) (omega (arith, g.2)) ∙ rw (j, going-some passing r.left g.1))
      (further (in_head [] r.fragments kept) between (free size) (free_bytes size))
  in-phase Keeping n g = rw g.3 (subst IsReached (rw (going-some keeping r.left g.1)) (body-reached kept r.left b (omega (arith, e, g.2))))
  in-phase Stuck n g =
      subst IsReached (zeros-run r.fragments kept)
      (further (in_head [] r.fragments kept) between zeros (omega arith, (omega arith, (omega arith, (omega arith, (omega arith, (omega arith, (omega arith, (omega arith, tt)))))))))
  in-phase Large n g = absurd (n refl)

-- a reader that meets the condition, with a buffer of bytes that has those that it keeps
pub good-reached : (r : LumpReader) (buffer : List ℕ) → length r.head ≡ 16 → IsBytes r.head → IsBytes buffer → r.kept ≤ length buffer → good_reader r ≡ true
    → IsReached (reading_of r buffer)
good-reached r buffer h y z k g =
    let f = good-fits r h g in
    in-phase r f y (take r.kept buffer) (length-take-le r.kept buffer k) (bytes_take r.kept buffer z) r.phase (good-small r g) f.phase
