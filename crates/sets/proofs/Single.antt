-- The set of no number (`none_in_empty`), a set of a width (`below-width`), a set whose numbers are moved up (`in_moved`), and the set of one number (`in-single`, `single-has`).
use Prim.Native.Nat.{ℕ, ◌+◌, ◌*◌, ◌^◌, ◌<◌, ◌≤◌}
use mathlib.Core.Bool.{Bool, true, false}
use mathlib.Core.Path.{◌≡◌, refl, sym, ap, ◌∙◌}
use native.Mathlib.Nat.{lt_irrefl, mul-mod_left, one-mul}
use native.Mathlib.Omega.{arith}
use lib.Dec.{ltb}
use lib.Pow.{shl_lt}
use borrow.Author.Tests.{ltb-true, ltb-false}
use Rattle.std.proofs.lemmas.Nat.Bits.{bit_at-pow_same}
use Rattle.sets.specs.Sets.{digit}
use Rattle.sets.proofs.SetLaws.{digit_low, digit-high}

pub none_in_empty : (n : ℕ) → digit n 0 ≡ 1 → ⊥
none_in_empty n h = lt_irrefl 0 (omega (arith, h, digit-high 0 n 0 (omega arith) (omega arith)))

-- moved up by k, a set has nothing below k
nothing-below : (k a n : ℕ) → n < k → digit n (a * 2 ^ k) ≡ 0
nothing-below k a n l =
    sym (digit_low n k (a * 2 ^ k) l) ∙ ap (digit n) (mul-mod_left a (2 ^ k)) ∙ digit-high 0 n 0 (omega arith) (omega arith)

pub above-move : (k a n : ℕ) → digit n (a * 2 ^ k) ≡ 1 → k ≤ n
above-move k a n h = go (ltb n k) refl
  where
    go : (t : Bool) → ltb n k ≡ t → k ≤ n
    go true e = absurd (lt_irrefl 0 (omega (arith, h, nothing-below k a n (ltb-true n k e))))
    go false e = ltb-false n k e

-- in a set below 2^k each number is below k
pub below-width : (k a n : ℕ) → a < 2 ^ k → digit n a ≡ 1 → n < k
below-width k a n l h = go (ltb n k) refl
  where
    go : (t : Bool) → ltb n k ≡ t → n < k
    go true e = ltb-true n k e
    go false e = absurd (lt_irrefl 0 (omega (arith, h, digit-high k n a l (ltb-false n k e))))

-- of a set below 2^j moved up by k, each number is one of the j from k on
pub in_moved : (j k a n : ℕ) → a < 2 ^ j → digit n (a * 2 ^ k) ≡ 1 → (k ≤ n) × (n < j + k)
in_moved j k a n l h = (above-move k a n h, below-width (j + k) (a * 2 ^ k) n (shl_lt j k l) h)

-- in the set of one number there is that number and no other
pub in-single : (k n : ℕ) → digit n (2 ^ k) ≡ 1 → n ≡ k
in-single k n h =
    let m = in_moved 1 k 1 n (omega arith) (ap (digit n) (one-mul (2 ^ k)) ∙ h) in
    omega arith

pub single-has : (k : ℕ) → digit k (2 ^ k) ≡ 1
single-has k = bit_at-pow_same k
