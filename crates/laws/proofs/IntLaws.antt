-- Orders and sums of integers, carried to ℕ, where `omega` reads them: `lift k z` is z + k, for every k that z does not pass below.
use mathlib.Core.Path.{◌≡◌, refl, ap, sym}
use mathlib.Core.Bool.{Bool, true, false, cond}
use Prim.Native.Nat.{ℕ, suc, ◌+◌, ◌-◌, ◌≤◌, ◌<◌}
use native.Mathlib.Omega.{arith}
use lib.Dec.{T, ltb}
use lib.IntN.{ℤ, pos, negsuc, ◌+ℤ◌}
use lib.Signed.{lt_z, le_z, mag, ◌<ℤ◌, ◌≤ℤ◌, ≤ℤ_refl, <ℤ-≤ℤ_trans}
use borrow.Author.Tests.{ltb-true, ltb-false, leb-true, leb-false, lt-ltb, le-ltb, le-leb, lt-leb}
use Rattle.laws.proofs.BoolLaws.{clash, split}

abbrev pub lift : ℕ → ℤ → ℕ
lift k (pos n) = k + n
lift k (negsuc n) = k - suc n

-- ---- what a test says

module _ (k : ℕ) where
  pub lt-lift : (a b : ℤ) → mag a < k → lt_z a b ≡ true → lift k a < lift k b
  lt-lift (pos a) (pos b) h e = omega (arith, ltb-true a b e)
  lt-lift (pos a) (negsuc b) h e = clash (sym e)
  lt-lift (negsuc a) (pos b) h e = omega arith
  lt-lift (negsuc a) (negsuc b) h e = omega (arith, ltb-true b a e)

  pub ge-lift : (a b : ℤ) → mag b < k → lt_z a b ≡ false → lift k b ≤ lift k a
  ge-lift (pos a) (pos b) h e = omega (arith, ltb-false a b e)
  ge-lift (pos a) (negsuc b) h e = omega arith
  ge-lift (negsuc a) (pos b) h e = clash e
  ge-lift (negsuc a) (negsuc b) h e = omega (arith, ltb-false b a e)

  pub le-lift : (a b : ℤ) → mag a < k → le_z a b ≡ true → lift k a ≤ lift k b
  le-lift (pos a) (pos b) h e = omega (arith, leb-true a b e)
  le-lift (pos a) (negsuc b) h e = clash (sym e)
  le-lift (negsuc a) (pos b) h e = omega arith
  le-lift (negsuc a) (negsuc b) h e = omega (arith, leb-true b a e)

  pub gt-lift : (a b : ℤ) → mag b < k → le_z a b ≡ false → lift k b < lift k a
  gt-lift (pos a) (pos b) h e = omega (arith, leb-false a b e)
  gt-lift (pos a) (negsuc b) h e = omega arith
  gt-lift (negsuc a) (pos b) h e = clash e
  gt-lift (negsuc a) (negsuc b) h e = omega (arith, leb-false b a e)

  -- ---- a test from what is known

  pub lift-lt : (a b : ℤ) → lift k a < lift k b → lt_z a b ≡ true
  lift-lt (pos a) (pos b) h = lt-ltb a b (omega arith)
  lift-lt (pos a) (negsuc b) h = absurd (omega arith)
  lift-lt (negsuc a) (pos b) h = refl
  lift-lt (negsuc a) (negsuc b) h = lt-ltb b a (omega arith)

  pub lift-ge : (a b : ℤ) → mag a < k → lift k b ≤ lift k a → lt_z a b ≡ false
  lift-ge (pos a) (pos b) m h = le-ltb a b (omega arith)
  lift-ge (pos a) (negsuc b) m h = refl
  lift-ge (negsuc a) (pos b) m h = absurd (omega arith)
  lift-ge (negsuc a) (negsuc b) m h = le-ltb b a (omega arith)

  pub lift-le : (a b : ℤ) → mag b < k → lift k a ≤ lift k b → le_z a b ≡ true
  lift-le (pos a) (pos b) m h = le-leb a b (omega arith)
  lift-le (pos a) (negsuc b) m h = absurd (omega arith)
  lift-le (negsuc a) (pos b) m h = refl
  lift-le (negsuc a) (negsuc b) m h = le-leb b a (omega arith)

  pub lift-gt : (a b : ℤ) → lift k b < lift k a → le_z a b ≡ false
  lift-gt (pos a) (pos b) h = lt-leb a b (omega arith)
  lift-gt (pos a) (negsuc b) h = refl
  lift-gt (negsuc a) (pos b) h = absurd (omega arith)
  lift-gt (negsuc a) (negsuc b) h = lt-leb b a (omega arith)

  pub lift-eq : (a b : ℤ) → mag a < k → mag b < k → lift k a ≡ lift k b → a ≡ b
  lift-eq (pos a) (pos b) m n h = ap pos (omega arith)
  lift-eq (pos a) (negsuc b) m n h = absurd (omega arith)
  lift-eq (negsuc a) (pos b) m n h = absurd (omega arith)
  lift-eq (negsuc a) (negsuc b) m n h = ap negsuc (omega arith)

-- ---- the order of all integers: a test as a fact, and a fact as a test

true-T : (b : Bool) → b ≡ true → T b
true-T true e = tt
true-T false e = clash (sym e)

T_true : (b : Bool) → T b → b ≡ true
T_true true t = refl
T_true false t = absurd t

pub test-lt : {a b : ℤ} → lt_z a b ≡ true → a <ℤ b
test-lt {a} {b} e = record { lt = true-T (lt_z a b) e }

pub test-le : {a b : ℤ} → le_z a b ≡ true → a ≤ℤ b
test-le {a} {b} e = record { le = true-T (le_z a b) e }

pub lt_test : {a b : ℤ} → a <ℤ b → lt_z a b ≡ true
lt_test {a} {b} h = T_true (lt_z a b) h.lt

pub le_test : {a b : ℤ} → a ≤ℤ b → le_z a b ≡ true
le_test {a} {b} h = T_true (le_z a b) h.le

-- a bound that two integers do not reach, and one for three
abbrev over : ℤ → ℤ → ℕ
over a b = suc (mag a + mag b)

abbrev over₃ : ℤ → ℤ → ℤ → ℕ
over₃ a b c = suc (mag a + mag b + mag c)

-- a test that failed
pub test-ge : {a b : ℤ} → lt_z a b ≡ false → b ≤ℤ a
test-ge {a} {b} e = let k = over a b in test-le (lift-le k b a (omega arith) (ge-lift k a b (omega arith) e))

pub test-gt : {a b : ℤ} → le_z a b ≡ false → b <ℤ a
test-gt {a} {b} e = let k = over a b in test-lt (lift-lt k b a (gt-lift k a b (omega arith) e))

pub ge-test : {a b : ℤ} → b ≤ℤ a → lt_z a b ≡ false
ge-test {a} {b} h = let k = over a b in lift-ge k a b (omega arith) (le-lift k b a (omega arith) (le_test h))

pub gt-test : {a b : ℤ} → b <ℤ a → le_z a b ≡ false
gt-test {a} {b} h = let k = over a b in lift-gt k a b (lt-lift k b a (omega arith) (lt_test h))

-- by cases: the one is below, or it is not
pub below_or_not {ℓ} : {X : Type ℓ} (a b : ℤ) → (a <ℤ b → X) → (b ≤ℤ a → X) → X
below_or_not a b h k = split (lt_z a b) (λ e. h (test-lt e)) (λ e. k (test-ge e))

pub lt-lt : {a b c : ℤ} → a <ℤ b → b <ℤ c → a <ℤ c
lt-lt {a} {b} {c} h g =
    let k = over₃ a b c in
    test-lt (lift-lt k a c (omega (arith, lt-lift k a b (omega arith) (lt_test h), lt-lift k b c (omega arith) (lt_test g))))

pub lt-le : {a b c : ℤ} → a <ℤ b → b ≤ℤ c → a <ℤ c
lt-le = <ℤ-≤ℤ_trans

pub le-lt : {a b c : ℤ} → a ≤ℤ b → b <ℤ c → a <ℤ c
le-lt {a} {b} {c} h g =
    let k = over₃ a b c in
    test-lt (lift-lt k a c (omega (arith, le-lift k a b (omega arith) (le_test h), lt-lift k b c (omega arith) (lt_test g))))

pub le-le : {a b c : ℤ} → a ≤ℤ b → b ≤ℤ c → a ≤ℤ c
le-le {a} {b} {c} h g =
    let k = over₃ a b c in
    test-le (lift-le k a c (omega arith) (omega (arith, le-lift k a b (omega arith) (le_test h), le-lift k b c (omega arith) (le_test g))))

pub le_refl : (a : ℤ) → a ≤ℤ a
le_refl = ≤ℤ_refl

pub weaken : {a b : ℤ} → a <ℤ b → a ≤ℤ b
weaken {a} {b} h = let k = over a b in test-le (lift-le k a b (omega arith) (omega (arith, lt-lift k a b (omega arith) (lt_test h))))

pub le_antisym : {a b : ℤ} → a ≤ℤ b → b ≤ℤ a → a ≡ b
le_antisym {a} {b} h g =
    let k = over a b in
    lift-eq k a b (omega arith) (omega arith) (omega (arith, le-lift k a b (omega arith) (le_test h), le-lift k b a (omega arith) (le_test g)))

-- ---- sums

sub-lift : (k a b : ℕ) → suc (a + b) < k → (t : Bool) → ltb a (suc b) ≡ t → lift k (cond t (negsuc (suc b - suc a)) (pos (a - suc b))) + suc b ≡ k + a
sub-lift k a b h true e = omega (arith, ltb-true a (suc b) e)
sub-lift k a b h false e = omega (arith, ltb-false a (suc b) e)

pub lift-add : (k : ℕ) (a b : ℤ) → suc (mag a + mag b) < k → lift k (a +ℤ b) + k ≡ lift k a + lift k b
lift-add k (pos a) (pos b) h = omega arith
lift-add k (pos a) (negsuc b) h = omega (arith, sub-lift k a b h _ refl)
lift-add k (negsuc a) (pos b) h = omega (arith, sub-lift k b a (omega arith) _ refl)
lift-add k (negsuc a) (negsuc b) h = omega arith

-- a positive number added
pub lt-add : (a : ℤ) (n : ℕ) → 1 ≤ n → a <ℤ (a +ℤ pos n)
lt-add a n h =
    let k = suc (suc (mag a + n)) in
    test-lt (lift-lt k a (a +ℤ pos n) (omega (arith, lift-add k a (pos n) (omega arith))))

-- ---- magnitudes, for what fits a word

sub-mag : (a b : ℕ) (t : Bool) → mag (cond t (negsuc (suc b - suc a)) (pos (a - suc b))) ≤ a + b
sub-mag a b true = omega arith
sub-mag a b false = omega arith

-- a sum is not larger than its parts, and one
pub mag-add : (a b : ℤ) → mag (a +ℤ b) ≤ suc (mag a + mag b)
mag-add (pos a) (pos b) = omega arith
mag-add (pos a) (negsuc b) = omega (arith, sub-mag a b (ltb a (suc b)))
mag-add (negsuc a) (pos b) = omega (arith, sub-mag b a (ltb b (suc a)))
mag-add (negsuc a) (negsuc b) = omega arith
