-- Laws of words: a field cut from a word, bits at the top of a word.
use mathlib.Core.Path.{◌≡◌, refl, sym, ap, ap₂, subst, ◌∙◌}
use Prim.Native.Nat.{ℕ, ◌+◌, ◌-◌, ◌*◌, ◌/◌, ◌%◌, ◌^◌, ◌≤◌, ◌<◌}
use mathlib.Core.List.{List, ◌++◌}
use mathlib.Core.Bool.{Bool, true, false, cond}
use native.Mathlib.Nat.{add-zero, mod-eq_of_lt}
use native.Mathlib.Omega.{arith}
use lib.ListN.{length, take, drop, length-append, length-drop, replicate, length-replicate}
use lib.Seq.{length-take-le, take_at}
use lib.Pow.{shl_lt, shl_exact, shr_lt}
use lib.Dec.{leb}
use borrow.Author.Tests.{le-leb, lt-leb}
use Rattle.tape.specs.Bits.{num, bits, field_at, word}
use Rattle.tape.proofs.BitLaws.{length-bits, num-append, num-lt, num-bits-small, num-field, num-take, num-take-lt, num-zeros, bits_is}
use Rattle.tape.proofs.Shifts.{shl-shr-field}

-- a field as a quotient and a remainder
word_cut : (x i k : ℕ) → x < 2 ^ 64 → i + k ≤ 64 → num (take k (drop i (bits 64 x))) ≡ x / 2 ^ (64 - i - k) % 2 ^ k
word_cut x i k hx h =
    num-field (bits 64 x) i k (rw length-bits h) ∙ ap₂ (λ a b. a / 2 ^ b % 2 ^ k) (num-bits-small 64 x hx) n
  where
    n : length (bits 64 x) - (i + k) ≡ 64 - i - k
    n = rw length-bits (omega arith)

pub field-inside : (x from width : ℕ) → from + width ≤ 64 → field_at x from width ≡ num (take width (drop from (bits 64 x)))
unfolding field_at
field-inside x from width h = simp (le-leb _ _ h)

-- the field at the top
pub field_top : (x width : ℕ) → width ≤ 64 → field_at x 0 width ≡ num (take width (bits 64 x))
field_top x width h = field-inside x 0 width (omega arith)

pub field-outside : (x from width : ℕ) → 64 < from + width → field_at x from width ≡ 0
unfolding field_at
field-outside x from width h = simp (lt-leb _ _ h)

-- a field of no bits
pub field-none : (x from width : ℕ) → width ≡ 0 → field_at x from width ≡ 0
unfolding field_at num
field-none x from width e = go (leb (from + width) 64)
  where
    go : (b : Bool) → cond b (num (take width (drop from (bits 64 x)))) 0 ≡ 0
    go true = ap (λ w. num (take w (drop from (bits 64 x)))) e
    go false = refl

-- `(x << from) >> (64 - width)`
pub field-shifted : (x from width : ℕ) → x < 2 ^ 64 → from + width ≤ 64 → x * 2 ^ from % 2 ^ 64 / 2 ^ (64 - width) ≡ field_at x from width
field-shifted x from width hx h = shl-shr-field x from width h ∙ sym (field-inside x from width h ∙ word_cut x from width hx h)

pub field_lt : (x from width : ℕ) → from + width ≤ 64 → field_at x from width < 2 ^ width
field_lt x from width h = rw (field-inside x from width h) (num-take-lt (drop from (bits 64 x)) width)

-- the bits at the top of a word are its upper bits
pub word-top : (x w : ℕ) → x < 2 ^ 64 → w ≤ 64 → x / 2 ^ (64 - w) * 2 ^ (64 - w) % 2 ^ 64 ≡ word (take w (bits 64 x))
unfolding word
word-top x w hx h =
    let n : w + (64 - w) ≡ 64 = omega arith in
    let m : w ≤ length (bits 64 x) = rw length-bits h in
    shl_exact w (64 - w) 64 (shr_lt w (64 - w) (subst (λ (k : ℕ). x < 2 ^ k) (sym n) hx)) (omega arith)
    ∙ sym (ap₂ (λ a b. a * 2 ^ b)
    (num-take (bits 64 x) w ∙ ap₂ (λ a b. a / 2 ^ b) (num-bits-small 64 x hx) (length-drop w (bits 64 x) ∙ ap (λ k. k - w) (length-bits 64 x)))
    (ap (λ k. 64 - k) (length-take-le w (bits 64 x) m)))

-- a word of some bits has these bits first, and zeros behind them
pub word-bits : (f : List Bool) → length f ≤ 64 → bits 64 (word f) ≡ f ++ replicate (64 - length f) false
unfolding word
word-bits f h =
    bits_is 64 (num f * 2 ^ (64 - length f)) (f ++ replicate (64 - length f) false)
    (length-append f (replicate (64 - length f) false) ∙ ap (λ z. length f + z) (length-replicate (64 - length f) false) ∙ omega arith)
    (mod-eq_of_lt (subst (λ z. num f * 2 ^ (64 - length f) < 2 ^ z) n (shl_lt (length f) (64 - length f) (num-lt f)))
    ∙ sym (num-append f (replicate (64 - length f) false) ∙ ap₂ (λ a b. num f * 2 ^ a + b) (length-replicate (64 - length f) false) (num-zeros (64 - length f)) ∙ add-zero (num f * 2 ^ (64 - length f))))
  where
    n : length f + (64 - length f) ≡ 64
    n = omega arith

pub take-word : (f : List Bool) (w : ℕ) → length f ≡ w → w ≤ 64 → take w (bits 64 (word f)) ≡ f
take-word f w e h = ap (take w) (word-bits f (omega arith)) ∙ take_at f (replicate (64 - length f) false) w e
