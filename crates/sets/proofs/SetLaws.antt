-- Laws of sets of small numbers, proved once for any width by the digits of the numbers that they are: what is in a union, in what two sets
-- share, and among the members. What the library says of the bits of a number it says of the digits of a set.
use Prim.Native.Nat.{ℕ, zero, suc, ◌+◌, ◌-◌, ◌/◌, ◌%◌, ◌^◌, ◌<◌, ◌≤◌, min, max}
use mathlib.Core.Bool.{Bool, true, false}
use mathlib.Core.Path.{◌≡◌, refl, sym, ap, ap₂, ◌∙◌}
use mathlib.Core.Logic.{◌⊎◌, inl, inr, ⊎_elim}
use native.Mathlib.Nat.{max-eq_right, lt_irrefl}
use native.Mathlib.Omega.{arith}
use lib.Pow.{field, mod-mod-pow}
use lib.Bits.{and_step, and_le_l, and_le_r, or_lt, or_add_and}
use Rattle.std.proofs.lemmas.Bool.{eqb-true, eq-eqb}
use Rattle.std.proofs.lemmas.Nat.Bits.{bit_at-lt, bit_at_lowest, bit_at-suc, bit_at_and, bit_at_or, bit_at_above, same_from_bits}
use Rattle.sets.specs.Sets.{digit, has, union, shared, members, inside}
use Rattle.sets.specs.Joined.{sets-joined}

-- ---- Membership

pub digit_lt : (n a : ℕ) → digit n a < 2
digit_lt n a = bit_at-lt a n

-- what is in a set, as a digit and as a test
pub has-digit : (n a : ℕ) → has n a ≡ true → digit n a ≡ 1
has-digit n a h = eqb-true (digit n a) 1 h

pub digit-has : (n a : ℕ) → digit n a ≡ 1 → has n a ≡ true
digit-has n a h = eq-eqb (digit n a) 1 h

-- a number is in a union where it is in one of the two
pub digit-union : (n a b : ℕ) → digit n (union a b) ≡ max (digit n a) (digit n b)
digit-union n a b = bit_at_or a b n

-- a number is in what two sets share where it is in both
pub digit-shared : (n a b : ℕ) → digit n (shared a b) ≡ min (digit n a) (digit n b)
digit-shared n a b = bit_at_and a b n

members-half : (a b : ℕ) → members a b / 2 ≡ members (a / 2) (b / 2)
members-half a b = omega (arith, and_step a b, and_le_l (a / 2) (b / 2))

members-low : (a b : ℕ) → members a b % 2 ≡ a % 2 - b % 2
members-low a b = omega (arith, and_step a b, and_le_l (a / 2) (b / 2))

-- a number is among the members, the difference of two sets, where it is in the first and not in the second
pub digit-members : (n a b : ℕ) → digit n (members a b) ≡ digit n a - digit n b
digit-members zero a b = rw (bit_at_lowest (members a b), bit_at_lowest a, bit_at_lowest b) (members-low a b)
digit-members (suc n) a b =
    bit_at-suc (members a b) n ∙ ap (digit n) (members-half a b) ∙ digit-members n (a / 2) (b / 2)
    ∙ ap₂ (λ (x y : ℕ). x - y) (sym (bit_at-suc a n)) (sym (bit_at-suc b n))

-- past its width no number is in a set
pub digit-high : (k n a : ℕ) → a < 2 ^ k → k ≤ n → digit n a ≡ 0
digit-high k n a = bit_at_above a k n

-- what is in a set is not lost by cutting it off above
digit-low-go : (d n a : ℕ) → digit n (a % 2 ^ (d + 1 + n)) ≡ digit n a
digit-low-go d n a = ap (λ (x : ℕ). x % 2) (field a (d + 1) n) ∙ mod-mod-pow (a / 2 ^ n) d 1

pub digit_low : (n k a : ℕ) → n < k → digit n (a % 2 ^ k) ≡ digit n a
digit_low n k a h =
    let e : (k - 1 - n) + 1 + n ≡ k = omega arith in
    rw e at (digit-low-go (k - 1 - n) n a)

-- ---- What two sets share

-- what a set shares with another, it shares with what they share
pub shared-again : (a b : ℕ) → shared a (shared a b) ≡ shared a b
shared-again a b = same_from_bits _ _ (λ n. omega (arith, bit_at_and a (shared a b) n, bit_at_and a b n))

-- a union is as wide as its sides
pub union-lt : (k a b : ℕ) → a < 2 ^ k → b < 2 ^ k → union a b < 2 ^ k
union-lt = or_lt

-- ---- Containment

digit-inside : (a b : ℕ) → ((n : ℕ) → digit n a ≤ digit n b) → inside a b ≡ true
digit-inside a b h = sets-joined.eq_inside a b (same_from_bits (union a b) b (λ n. digit-union n a b ∙ max-eq_right (h n)))

-- contained is what has no number that the other has not
pub has-inside : (a b : ℕ) → ((n : ℕ) → digit n a ≡ 1 → digit n b ≡ 1) → inside a b ≡ true
has-inside a b h = digit-inside a b (λ n. go n (digit n a) (digit_lt n a) refl)
  where
    go : (n x : ℕ) → x < 2 → digit n a ≡ x → x ≤ digit n b
    go n zero l e = omega arith
    go n (suc x) l e = omega (arith, h n (e ∙ omega arith))

-- a number of a union is in one of its sides
pub in-union : (n a b : ℕ) → digit n (union a b) ≡ 1 → (digit n a ≡ 1) ⊎ (digit n b ≡ 1)
in-union n a b h = go (digit n a) (digit n b) (digit_lt n a) (digit_lt n b) (sym (digit-union n a b) ∙ h)
  where
    go : (x y : ℕ) → x < 2 → y < 2 → max x y ≡ 1 → (x ≡ 1) ⊎ (y ≡ 1)
    go zero y hx hy e = inr (omega arith)
    go (suc x) y hx hy e = inl (omega arith)

pub union-has-left : (n a b : ℕ) → digit n a ≡ 1 → digit n (union a b) ≡ 1
union-has-left n a b h = omega (arith, digit-union n a b, digit_lt n b)

pub union-has-right : (n a b : ℕ) → digit n b ≡ 1 → digit n (union a b) ≡ 1
union-has-right n a b h = omega (arith, digit-union n a b, digit_lt n a)

-- the same, as a test
pub has-union : (n a b : ℕ) → has n (union a b) ≡ true → (has n a ≡ true) ⊎ (has n b ≡ true)
has-union n a b h = ⊎_elim (λ l. inl (digit-has n a l)) (λ r. inr (digit-has n b r)) (in-union n a b (has-digit n (union a b) h))

pub union-has : (n a b : ℕ) → has n a ≡ true → has n (union a b) ≡ true
union-has n a b h = digit-has n (union a b) (union-has-left n a b (has-digit n a h))

-- ---- A set that is contained in another is no larger number

pub inside-le : (a b : ℕ) → inside a b ≡ true → a ≤ b
inside-le a b h = omega (arith, sets-joined.inside_eq a b h, or_add_and a b, and_le_r a b)

pub larger-not-inside : (a b : ℕ) → b < a → inside a b ≡ false
larger-not-inside a b l = go (inside a b) refl
  where
    go : (t : Bool) → inside a b ≡ t → inside a b ≡ false
    go true e = absurd (lt_irrefl 0 (omega (arith, inside-le a b e)))
    go false e = e
