-- What the code's shifts and masks are as sums, quotients and remainders.
use mathlib.Core.Path.{◌≡◌, sym, ap, ap₂, ◌∙◌}
use Prim.Native.Nat.{ℕ, ◌+◌, ◌-◌, ◌*◌, ◌/◌, ◌%◌, ◌^◌, ◌≤◌, ◌<◌}
use native.Mathlib.Nat.{mod-eq_of_lt, one-mul, mul-mod_left, add-zero}
use native.Mathlib.Omega.{arith}
use lib.Pow.{pow-lt, shl_exact, shl-shr, shr-shr, mod-pow-add, field}
use lib.Bits.{bit_and, bit_or, or_shifted, and_mask}

-- `1 << w`
pub one_shl : (w : ℕ) → w < 64 → (1 * 2 ^ w) % 2 ^ 64 ≡ 2 ^ w
one_shl w h = ap (λ (x : ℕ). x % 2 ^ 64) (one-mul (2 ^ w)) ∙ mod-eq_of_lt (pow-lt h)

-- `x & ((1 << w) - 1)`
pub masked : (x w : ℕ) → w < 64 → bit_and x ((1 * 2 ^ w) % 2 ^ 64 - 1) ≡ x % 2 ^ w
masked x w h = ap (λ (m : ℕ). bit_and x (m - 1)) (one_shl w h) ∙ and_mask x w

-- `(x << k) | g`, where nothing is shifted out
pub push : {x g : ℕ} (i k : ℕ) → x < 2 ^ i → g < 2 ^ k → i + k ≤ 64 → bit_or (x * 2 ^ k % 2 ^ 64) g ≡ x * 2 ^ k + g
push {x} {g} i k hx hg h = ap (λ (y : ℕ). bit_or y g) (shl_exact i k 64 hx h) ∙ or_shifted x k g hg

-- `x << r`, where the upper r bits are shifted out
pub shl-out : (x j r : ℕ) → x * 2 ^ r % 2 ^ (j + r) ≡ x % 2 ^ j * 2 ^ r
shl-out x j r =
    mod-pow-add (x * 2 ^ r) j r
    ∙ ap₂ (λ (a b : ℕ). a % 2 ^ j * 2 ^ r + b) (shl-shr x r) (mul-mod_left x (2 ^ r))
    ∙ add-zero (x % 2 ^ j * 2 ^ r)

-- `(x << from) >> (64 - width)`
pub shl-shr-field : (x from width : ℕ) → from + width ≤ 64 → x * 2 ^ from % 2 ^ 64 / 2 ^ (64 - width) ≡ x / 2 ^ (64 - from - width) % 2 ^ width
shl-shr-field x from width h =
    let m = 64 - from - width in
    let e : 64 ≡ width + m + from = omega arith in
    let k : 64 - width ≡ from + m = omega arith in
    ap₂ (λ (a b : ℕ). x * 2 ^ from % 2 ^ a / 2 ^ b) e k
    ∙ ap (λ (a : ℕ). a / 2 ^ (from + m)) (shl-out x (width + m) from)
    ∙ sym (shr-shr (x % 2 ^ (width + m) * 2 ^ from) from m)
    ∙ ap (λ (a : ℕ). a / 2 ^ m) (shl-shr (x % 2 ^ (width + m)) from)
    ∙ field x width m
