-- Laws of bit lists and of the numbers that they are. Every law about `bits` follows from two: a list's number is below its
-- power of two (`num-lt`), and lists of one length with one number are equal (`num-inj`).
use mathlib.Core.Logic.{◌≢◌}
use mathlib.Core.Path.{◌≡◌, refl, sym, ap, ap₂, ◌∙◌}
use Prim.Native.Nat.{ℕ, zero, suc, ◌+◌, ◌-◌, ◌*◌, ◌/◌, ◌%◌, ◌^◌, ◌≤◌, ◌<◌}
use mathlib.Core.List.{List, [], ◌∷◌, ◌++◌, append_assoc}
use mathlib.Core.Bool.{Bool, true, false}
use native.Mathlib.Nat.{lt_of_lt_of_le, pow-suc, mul_assoc, add_assoc, mod-eq_of_lt, add-mul, mod-mod}
use native.Mathlib.Numerals.{one-add}
use native.Mathlib.Omega.{arith}
use lib.ListN.{length, take, drop, length-append, take-append-drop, length-take, length-drop, replicate}
use lib.Seq.{take-append-le, drop-append-le, length-take-le, drop_at, drop-drop, take-add}
use lib.Pow.{pow-add, pow_mono, mod-pow-add, high, low}
use lib.Dec.{eqb}
use borrow.Author.Tests.{eqb-true, eqb-false}
use Rattle.tape.specs.Bits.{bit, odd, num, bits}

bit-odd : (n : ℕ) → bit (odd n) ≡ n % 2
unfolding bit odd
bit-odd n = go (eqb (n % 2) 1) refl
  where
    go : (t : Bool) → eqb (n % 2) 1 ≡ t → bit t ≡ n % 2
    go true e = sym (eqb-true _ _ e)
    go false e = let h : n % 2 ≢ 1 = eqb-false (n % 2) 1 e in omega arith

pub length-bits : (w n : ℕ) → length (bits w n) ≡ w
unfolding bits
length-bits zero n = refl
length-bits (suc w) n = ap suc (length-bits w n)

pub num-lt : (l : List Bool) → num l < 2 ^ length l
unfolding num bit
num-lt [] = omega arith
num-lt (true ∷ l) = omega (arith, num-lt l, pow-suc 2 (length l))
num-lt (false ∷ l) = omega (arith, num-lt l, pow-suc 2 (length l))

pub num-append : (a b : List Bool) → num (a ++ b) ≡ num a * 2 ^ length b + num b
unfolding num
num-append [] b = omega arith
num-append (x ∷ a) b =
    simp (length-append a b, num-append a b, pow-add 2, add-mul, add_assoc, mul_assoc)

pub num-bits : (w n : ℕ) → num (bits w n) ≡ n % 2 ^ w
unfolding num bits
num-bits zero n = omega arith
num-bits (suc w) n =
    ap (λ (k : ℕ). bit (odd (n / 2 ^ w)) * 2 ^ k + num (bits w n)) (length-bits w n)
    ∙ ap₂ (λ (x y : ℕ). x * 2 ^ w + y) (bit-odd (n / 2 ^ w)) (num-bits w n)
    ∙ sym (mod-pow-add n 1 w) ∙ ap (λ (k : ℕ). n % 2 ^ k) (one-add w)

pows : (a b : List Bool) → length a ≡ length b → 2 ^ length a ≡ 2 ^ length b
pows a b l = ap (λ (k : ℕ). 2 ^ k) l

-- two lists of one length with one number are equal
pub num-inj : (a b : List Bool) → length a ≡ length b → num a ≡ num b → a ≡ b
unfolding num bit
num-inj [] [] e h = refl
num-inj [] (true ∷ b) e h = absurd (omega arith)
num-inj [] (false ∷ b) e h = absurd (omega arith)
num-inj (true ∷ a) [] e h = absurd (omega arith)
num-inj (false ∷ a) [] e h = absurd (omega arith)
num-inj (true ∷ a) (true ∷ b) e h = ap (λ (z : List Bool). true ∷ z) (num-inj a b (omega arith) (omega (arith, pows a b (omega arith))))
num-inj (false ∷ a) (false ∷ b) e h = ap (λ (z : List Bool). false ∷ z) (num-inj a b (omega arith) (omega arith))
num-inj (true ∷ a) (false ∷ b) e h = absurd (omega (arith, pows a b (omega arith), num-lt a, num-lt b))
num-inj (false ∷ a) (true ∷ b) e h = absurd (omega (arith, pows a b (omega arith), num-lt a, num-lt b))

-- a list is the bits of its number
pub bits_is : (w n : ℕ) (l : List Bool) → length l ≡ w → n % 2 ^ w ≡ num l → bits w n ≡ l
bits_is w n l e h = num-inj (bits w n) l (length-bits w n ∙ sym e) (num-bits w n ∙ h)

pub bits-num : (l : List Bool) → bits (length l) (num l) ≡ l
bits-num l = bits_is (length l) (num l) l refl (mod-eq_of_lt (num-lt l))

pub num-bits-small : (w n : ℕ) → n < 2 ^ w → num (bits w n) ≡ n
num-bits-small w n h = num-bits w n ∙ mod-eq_of_lt h

-- upper and lower bits
pub bits-append : (a b n : ℕ) → bits (a + b) n ≡ bits a (n / 2 ^ b) ++ bits b n
bits-append a b n =
    bits_is (a + b) n (bits a (n / 2 ^ b) ++ bits b n) (simp (length-append, length-bits))
    (mod-pow-add n a b ∙ sym (num-append (bits a (n / 2 ^ b)) (bits b n) ∙ simp (length-bits, num-bits)))

-- the number of a part in the middle
num-mid : (a f r : List Bool) → num (a ++ (f ++ r)) / 2 ^ length r % 2 ^ length f ≡ num f
num-mid a f r =
    ap (λ (x : ℕ). x / 2 ^ length r % 2 ^ length f) (ap num (sym (append_assoc a f r)) ∙ num-append (a ++ f) r)
    ∙ ap (λ (x : ℕ). x % 2 ^ length f) (high (num (a ++ f)) (length r) (num-lt r) ∙ num-append a f)
    ∙ low (num a) (length f) (num-lt f)

pub cut : {A : Type 0} (l : List A) (a w : ℕ) → l ≡ take a l ++ (take w (drop a l) ++ drop (a + w) l)
cut l a w =
    sym (take-append-drop a l) ∙ ap (λ z. take a l ++ z) (sym (take-append-drop w (drop a l)) ∙ ap (λ z. take w (drop a l) ++ z) (drop-drop w a l))

-- a field: w bits from bit a on
pub num-field : (l : List Bool) (a w : ℕ) → a + w ≤ length l → num (take w (drop a l)) ≡ num l / 2 ^ (length l - (a + w)) % 2 ^ w
num-field l a w h =
    sym (num-mid (take a l) (take w (drop a l)) (drop (a + w) l))
    ∙ ap₂ (λ (x y : ℕ). num (take a l ++ (take w (drop a l) ++ drop (a + w) l)) / 2 ^ x % 2 ^ y)
    (length-drop (a + w) l)
    (length-take-le w (drop a l) (simp length-drop (omega arith)))
    ∙ ap (λ z. num z / 2 ^ (length l - (a + w)) % 2 ^ w) (sym (cut l a w))

-- what stands behind does not matter
pub cut-append : {A : Type 0} (l r : List A) (a w : ℕ) → a + w ≤ length l → take w (drop a (l ++ r)) ≡ take w (drop a l)
cut-append l r a w h =
    ap (take w) (drop-append-le a l r (omega arith)) ∙ take-append-le w (drop a l) r (simp length-drop (omega arith))

-- at most w bits are a number below the power of w
pub num-take-lt : (l : List Bool) (w : ℕ) → num (take w l) < 2 ^ w
num-take-lt l w = lt_of_lt_of_le (num-lt (take w l)) (pow_mono {i = length (take w l)} {j = w} (rw length-take (omega arith)))

pub drop-take : {A : Type 0} (a b : ℕ) (l : List A) → a ≤ length l → drop a (take (a + b) l) ≡ take b (drop a l)
drop-take a b l h = ap (drop a) (take-add a b l) ∙ drop_at (take a l) (take b (drop a l)) a (length-take-le a l h)

pub num-take : (l : List Bool) (a : ℕ) → num (take a l) ≡ num l / 2 ^ length (drop a l)
num-take l a = sym (ap (λ x. x / 2 ^ length (drop a l)) (ap num (sym (take-append-drop a l)) ∙ num-append (take a l) (drop a l)) ∙ high (num (take a l)) (length (drop a l)) (num-lt (drop a l)))

pub num-drop : (l : List Bool) (a : ℕ) → num (drop a l) ≡ num l % 2 ^ length (drop a l)
num-drop l a = sym (ap (λ x. x % 2 ^ length (drop a l)) (ap num (sym (take-append-drop a l)) ∙ num-append (take a l) (drop a l)) ∙ low (num (take a l)) (length (drop a l)) (num-lt (drop a l)))

pub bits-mod : (w n : ℕ) → bits w (n % 2 ^ w) ≡ bits w n
bits-mod w n = bits_is w (n % 2 ^ w) (bits w n) (length-bits w n) (mod-mod n (2 ^ w) ∙ sym (num-bits w n))

-- the bits of a part's number are the part
pub bits-part : (k : ℕ) (f : List Bool) → length f ≡ k → bits k (num f) ≡ f
bits-part k f e = ap (λ n. bits n (num f)) (sym e) ∙ bits-num f

pub num-zeros : (n : ℕ) → num (replicate n false) ≡ 0
unfolding num bit
num-zeros zero = refl
num-zeros (suc n) = omega (arith, num-zeros n)
