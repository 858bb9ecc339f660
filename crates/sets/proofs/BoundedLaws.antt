-- Laws of what is said of all numbers below a bound: one turn of a loop each, and what each says of one number.
use Prim.Native.Nat.{ℕ, zero, suc, ◌+◌, ◌*◌, ◌/◌, ◌%◌, ◌^◌, ◌<◌, ◌≤◌}
use mathlib.Core.Bool.{Bool, true, false}
use mathlib.Core.Path.{◌≡◌, refl, sym, ap, ◌∙◌}
use mathlib.Core.Logic.{⊎_elim}
use native.Mathlib.Nat.{lt_irrefl, add_comm, mod-eq_of_lt, eq-or-lt_of_le, le_of_suc-le-suc, mul-le-mul_right}
use native.Mathlib.Numerals.{add-one}
use native.Mathlib.Omega.{arith}
use lib.Bits.{or_zero_r}
use lib.Dec.{ltb}
use lib.Pow.{high, low}
use borrow.Author.Tests.{ltb-true, ltb-false}
use Rattle.std.proofs.lemmas.Bool.{and_parts}
pub use Rattle.std.proofs.lemmas.Bool.{and_from as both-on}
pub use Rattle.std.proofs.Math.Bool.{and_assoc as both-assoc, and-true as both_yes}
use Rattle.sets.specs.Choice.{pick, both}
use Rattle.sets.specs.Sets.{digit, union}
use Rattle.sets.specs.Bounded.{times, each, unions, those}
use Rattle.sets.proofs.SetLaws.{digit_low, digit-high}

eq-zero : {n : ℕ} → n ≤ 0 → n ≡ 0
eq-zero l = omega arith

-- ---- Choosing

pub both_left : (a b : Bool) → both a b ≡ true → a ≡ true
both_left a b h = (and_parts a b h).0

pub both_right : (a b : Bool) → both a b ≡ true → b ≡ true
both_right a b h = (and_parts a b h).1

pub both_true : {a : Bool} (b : Bool) → a ≡ true → b ≡ both a b
both_true b e = ap (λ (x : Bool). both x b) (sym e)

pub both_false : {a : Bool} (b : Bool) → a ≡ false → false ≡ both a b
both_false b e = ap (λ (x : Bool). both x b) (sym e)

pub pick_true : {A : Type 0} {t : Bool} (a b : A) → t ≡ true → a ≡ pick t a b
pick_true a b e = ap (λ (x : Bool). pick x a b) (sym e)

pub pick-false : {A : Type 0} {t : Bool} (a b : A) → t ≡ false → b ≡ pick t a b
pick-false a b e = ap (λ (x : Bool). pick x a b) (sym e)

-- ---- What grows by one number after the other

-- one turn of a loop that grows it
one_more : {A : Type 0} (grow : ℕ → A → A) (all : ℕ → A) → ((k : ℕ) → all (suc k) ≡ grow k (all k)) → (k : ℕ) {cur next : A}
    → cur ≡ all k → next ≡ grow k cur → next ≡ all (k + 1)
one_more grow all more k p q = q ∙ ap (grow k) p ∙ sym (more k) ∙ ap all (sym (add-one k))

-- numbers that add nothing need no look
no_more : {A : Type 0} (join : A → A → A) (nothing : A) → ((a : A) → join a nothing ≡ a) → (all f : ℕ → A)
    → ((k : ℕ) → all (suc k) ≡ join (all k) (f k)) → (j k : ℕ) → j ≤ k → ((n : ℕ) → j ≤ n → n < k → f n ≡ nothing) → all j ≡ all k
no_more join nothing unchanged all f more j zero l h = ap all (eq-zero l)
no_more join nothing unchanged all f more j (suc k) l h =
    ⊎_elim (λ e. ap all e)
    (λ m.
    no_more join nothing unchanged all f more j k (le_of_suc-le-suc m) (λ n a b. h n a (omega arith)) ∙ sym (unchanged (all k))
    ∙ ap (join (all k)) (sym (h k (le_of_suc-le-suc m) (omega arith))) ∙ sym (more k))
    (eq-or-lt_of_le l)

-- ---- One after the other

pub times_zero : {A : Type 0} (f : ℕ → A → A) (a : A) → a ≡ times f 0 a
unfolding times
times_zero f a = refl

pub times-on : {A : Type 0} (f : ℕ → A → A) (k : ℕ) (a : A) {cur next : A} → cur ≡ times f k a → next ≡ f k cur → next ≡ times f (k + 1) a
unfolding times
times-on f k a = one_more f (λ (n : ℕ). times f n a) (λ n. refl) k

-- ---- Of each

-- what holds of each holds of one
pub each_at : (k : ℕ) (p : ℕ → Bool) → each k p ≡ true → (n : ℕ) → n < k → p n ≡ true
unfolding each
each_at zero p h n l = absurd (lt_irrefl 0 (omega arith))
each_at (suc k) p h n l =
    ⊎_elim (λ e. rw e (both_right (each k p) (p k) h))
    (λ m. each_at k p (both_left (each k p) (p k) h) n m)
    (eq-or-lt_of_le (le_of_suc-le-suc l))

-- what holds of every one holds of each
pub at_each : (k : ℕ) (p : ℕ → Bool) → ((n : ℕ) → n < k → p n ≡ true) → each k p ≡ true
unfolding each
at_each zero p h = refl
at_each (suc k) p h = both-on (each k p) (p k) (at_each k p (λ n l. h n (omega arith))) (h k (omega arith))

-- numbers of which the test holds anyway need no look
pub each-rest : (p : ℕ → Bool) (j k : ℕ) → j ≤ k → ((n : ℕ) → j ≤ n → n < k → p n ≡ true) → each j p ≡ each k p
unfolding each
each-rest p = no_more both true both_yes (λ (n : ℕ). each n p) p (λ n. refl)

-- ---- Unions

-- sets that are empty add nothing
pub unions-rest : (f : ℕ → ℕ) (j k : ℕ) → j ≤ k → ((n : ℕ) → j ≤ n → n < k → f n ≡ 0) → unions j f ≡ unions k f
unfolding unions
unions-rest f = no_more union 0 or_zero_r (λ (n : ℕ). unions n f) f (λ n. refl)

-- ---- The set of those of which a test holds

pub those-zero : (p : ℕ → Bool) → 0 ≡ those 0 p
unfolding those
those-zero p = refl

pub those-suc : (k : ℕ) (p : ℕ → Bool) → those (k + 1) p ≡ those k p + pick (p k) 1 0 * 2 ^ k
unfolding those
those-suc k p = ap (λ (n : ℕ). those n p) (add-one k)

-- one number more, of which the test holds, or does not
pub those-in : (k : ℕ) (p : ℕ → Bool) → p k ≡ true → those k p + 2 ^ k ≡ those (k + 1) p
those-in k p e =
    let q : ◌≡◌ {A = ℕ} (pick (p k) 1 0) 1 = ap (λ (t : Bool). pick t 1 0) e in
    rw (those-suc k p, q) (omega arith)

pub those-out : (k : ℕ) (p : ℕ → Bool) → p k ≡ false → those k p ≡ those (k + 1) p
those-out k p e =
    let q : ◌≡◌ {A = ℕ} (pick (p k) 1 0) 0 = ap (λ (t : Bool). pick t 1 0) e in
    rw (those-suc k p, q) (omega arith)

one-le : (b : Bool) → ◌≤◌ (pick b 1 0) 1
one-le true = omega arith
one-le false = omega arith

pub those-lt : (k : ℕ) (p : ℕ → Bool) → those k p < 2 ^ k
unfolding those
those-lt zero p = omega arith
those-lt (suc k) p = omega (arith, those-lt k p, mul-le-mul_right (2 ^ k) (one-le (p k)))

step-low : (n k d a : ℕ) → a < 2 ^ k → n < k → digit n (a + d * 2 ^ k) ≡ digit n a
step-low n k d a h l =
    sym (digit_low n k (a + d * 2 ^ k) l) ∙ ap (digit n) (ap (λ (x : ℕ). x % 2 ^ k) (add_comm a (d * 2 ^ k)) ∙ low d k h)

step-here : (k d a : ℕ) → a < 2 ^ k → d < 2 → digit k (a + d * 2 ^ k) ≡ d
step-here k d a h l =
    ap (λ (x : ℕ). x % 2) (ap (λ (x : ℕ). x / 2 ^ k) (add_comm a (d * 2 ^ k)) ∙ high d k h) ∙ mod-eq_of_lt l

-- a number below the bound is in it where the test holds
pub those-digit : (k : ℕ) (p : ℕ → Bool) (n : ℕ) → n < k → digit n (those k p) ≡ pick (p n) 1 0
unfolding those
those-digit zero p n h = absurd (lt_irrefl 0 (omega arith))
those-digit (suc k) p n h =
    ⊎_elim
    (λ e. rw e (step-here k (pick (p k) 1 0) (those k p) (those-lt k p) (omega (arith, one-le (p k)))))
    (λ l. step-low n k (pick (p k) 1 0) (those k p) (those-lt k p) l ∙ those-digit k p n l)
    (eq-or-lt_of_le (le_of_suc-le-suc h))

-- a number is in it exactly where it is below the bound and the test holds of it
pub those-has : (k : ℕ) (p : ℕ → Bool) (n : ℕ) → n < k → p n ≡ true → digit n (those k p) ≡ 1
those-has k p n l e = those-digit k p n l ∙ sym (pick_true 1 0 e)

pub in-those : (k : ℕ) (p : ℕ → Bool) (n : ℕ) → digit n (those k p) ≡ 1 → (n < k) × (p n ≡ true)
in-those k p n h = go (ltb n k) refl
  where
    passes : (t : Bool) → ◌≡◌ {A = ℕ} (pick t 1 0) 1 → t ≡ true
    passes true e = refl
    passes false e = absurd (lt_irrefl 0 (omega arith))

    go : (t : Bool) → ltb n k ≡ t → (n < k) × (p n ≡ true)
    go true e = let l = ltb-true n k e in (l, passes (p n) (sym (those-digit k p n l) ∙ h))
    go false e = absurd (lt_irrefl 0 (omega (arith, h, digit-high k n (those k p) (those-lt k p) (ltb-false n k e))))
