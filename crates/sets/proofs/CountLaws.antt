-- Laws of counting: how many a set has is what `count_ones` gives (`ones-count`), at most its width (`count-le`), and what it weighs with one for each (`one-counts`).
use Prim.Native.Nat.{ℕ, zero, suc, ◌+◌, ◌*◌, ◌%◌, ◌^◌, ◌<◌, ◌≤◌}
use mathlib.Core.Path.{◌≡◌, refl, sym, ap, ap₂, ◌∙◌}
use native.Mathlib.Nat.{lt_irrefl, mod-lt}
use native.Mathlib.Numerals.{one-add}
use native.Mathlib.Omega.{arith}
use lib.Arith.{lt-one}
use lib.Count.{ones, ones_in, ones_cat}
use lib.Pow.{pow_pos, recompose}
use Rattle.sets.specs.Sets.{digit}
use Rattle.sets.specs.Bounded.{how_many}
use Rattle.sets.specs.Majority.{one, weigh}
use Rattle.sets.proofs.SetLaws.{digit_lt, digit_low}

count_low : (j k a : ℕ) → j ≤ k → how_many j (a % 2 ^ k) ≡ how_many j a
unfolding how_many
count_low zero k a h = refl
count_low (suc j) k a h = ap₂ (λ (x y : ℕ). x + y) (count_low j k a (omega arith)) (digit_low j k a h)

ones-digit : (x : ℕ) → x < 2 → ones x ≡ x
unfolding ones ones_in
ones-digit zero h = refl
ones-digit (suc zero) h = refl
ones-digit (suc (suc x)) h = absurd (lt_irrefl 0 (omega arith))

-- a set has as many numbers as it has bits set
pub ones-count : (k a : ℕ) → a < 2 ^ k → ones a ≡ how_many k a
unfolding how_many
ones-count zero a h = ap ones (lt-one h) ∙ ones-digit 0 (omega arith)
ones-count (suc k) a h =
    let e : digit k a * 2 ^ k + a % 2 ^ k ≡ a = recompose 1 k (rw one-add h) in
    let l : a % 2 ^ k < 2 ^ k = mod-lt a (pow_pos k) in
    ap ones (sym e) ∙ ones_cat k (digit k a) (a % 2 ^ k) l
    ∙ omega (arith, ones-digit (digit k a) (digit_lt k a), ones-count k (a % 2 ^ k) l ∙ count_low k k a (omega arith))

-- no more than there are numbers below the bound
pub count-le : (k a : ℕ) → how_many k a ≤ k
unfolding how_many
count-le zero a = omega arith
count-le (suc k) a = omega (arith, count-le k a, digit_lt k a)

-- weighing with one for each is counting
pub one-counts : (k a : ℕ) → weigh one k a ≡ how_many k a
unfolding weigh one how_many
one-counts zero a = refl
one-counts (suc k) a = omega (arith, one-counts k a)
