-- Laws of bytes and their bits: what a window of some bytes shows, and that bytes with the same bits are the same.
use mathlib.Core.Path.{◌≡◌, refl, sym, ap, ap₂, subst, ◌∙◌}
use Prim.Native.Nat.{ℕ, zero, suc, ◌+◌, ◌-◌, ◌*◌, ◌/◌, ◌%◌, ◌^◌, ◌≤◌, ◌<◌}
use mathlib.Core.List.{List, [], ◌∷◌, ◌++◌, append_assoc}
use mathlib.Core.Bool.{Bool, false}
use native.Mathlib.Nat.{add-zero, zero-add, sub-zero, mod-mod}
use native.Mathlib.Omega.{arith}
use lib.ListN.{length, take, drop, get_or, length-append, length-drop, replicate, length-replicate, take-append-drop}
use lib.Seq.{length-take-le, take-append-le, take_at, drop_at, drop-drop, drop-nil, get_or-drop}
use lib.Bits.{bit_or}
use Rattle.std.proofs.lemmas.List.{get_or-take}
use Rattle.tape.specs.Bits.{num, bits, bits_of, Bytes, window, Ahead}
use Rattle.tape.specs.Writing.{pack}
use Rattle.tape.proofs.BitLaws.{length-bits, num-append, num-lt, num-bits-small, num-drop, num-take-lt, num-zeros, bits_is, bits-part, cut-append}
use Rattle.tape.proofs.Shifts.{push, shl-out}

pub append-nil : {A : Type 0} (l : List A) → l ++ [] ≡ l
append-nil [] = refl
append-nil (x ∷ l) = ap (λ z. x ∷ z) (append-nil l)

pub length-bits_of : (xs : List ℕ) → length (bits_of xs) ≡ 8 * length xs
unfolding bits_of
length-bits_of [] = refl
length-bits_of (x ∷ xs) = simp (length-append, length-bits) (omega (arith, length-bits_of xs))

pub bits_of-append : (a b : List ℕ) → bits_of (a ++ b) ≡ bits_of a ++ bits_of b
unfolding bits_of
bits_of-append [] b = refl
bits_of-append (x ∷ a) b = ap (λ z. bits 8 x ++ z) (bits_of-append a b) ∙ sym (append_assoc (bits 8 x) (bits_of a) (bits_of b))

pub drop-bits_of : (i : ℕ) (xs : List ℕ) → drop (8 * i) (bits_of xs) ≡ bits_of (drop i xs)
unfolding bits_of
drop-bits_of zero xs = refl
drop-bits_of (suc i) [] = drop-nil (8 * suc i)
drop-bits_of (suc i) (x ∷ xs) =
    let e : 8 * suc i ≡ 8 + 8 * i = omega arith in
    ap (λ k. drop k (bits 8 x ++ bits_of xs)) e
    ∙ sym (drop-drop (8 * i) 8 (bits 8 x ++ bits_of xs))
    ∙ ap (drop (8 * i)) (drop_at (bits 8 x) (bits_of xs) 8 (length-bits 8 x))
    ∙ drop-bits_of i xs

pub length-window : (n : ℕ) (s : List ℕ) (i : ℕ) → length (window n s i) ≡ 8 * n
unfolding window
length-window zero s i = refl
length-window (suc n) s i = simp (length-append, length-bits) (omega (arith, length-window n s (suc i)))

window-add : (a b : ℕ) (s : List ℕ) (i : ℕ) → window (a + b) s i ≡ window a s i ++ window b s (i + a)
unfolding window
window-add zero b s i = ap₂ (λ m j. window m s j) (zero-add b) (sym (add-zero i))
window-add (suc a) b s i =
    let e : suc a + b ≡ suc (a + b) = omega arith in
    let k : suc i + a ≡ i + suc a = omega arith in
    ap (λ m. window m s i) e
    ∙ ap (λ z. bits 8 (get_or s i 0) ++ z) (window-add a b s (suc i) ∙ ap (λ j. window a s (suc i) ++ window b s j) k)
    ∙ sym (append_assoc (bits 8 (get_or s i 0)) (window a s (suc i)) (window b s (i + suc a)))

pub num-window-lt : (n : ℕ) (s : List ℕ) (i : ℕ) → num (window n s i) < 2 ^ (8 * n)
num-window-lt n s i = subst (λ (k : ℕ). num (window n s i) < 2 ^ k) (length-window n s i) (num-lt (window n s i))

-- a window of one byte is the byte
pub window-one : (s : List ℕ) (i x : ℕ) → x ≡ get_or s i 0 → x < 256 → x ≡ num (window 1 s i)
unfolding window
window-one s i x e h =
    e ∙ sym (ap num (append-nil (bits 8 (get_or s i 0))) ∙ num-bits-small 8 (get_or s i 0) (subst (λ (y : ℕ). y < 256) e h))

-- `(x << 8 b) | y`: two windows, one behind the other
pub window-join : (a b : ℕ) (s : List ℕ) (i x y : ℕ) → a + b ≤ 8 → x ≡ num (window a s i) → y ≡ num (window b s (i + a)) → bit_or (x * 2 ^ (8 * b) % 2 ^ 64) y ≡ num (window (a + b) s i)
window-join a b s i x y h e f =
    push {x = x} {g = y} (8 * a) (8 * b) (subst (λ (z : ℕ). z < 2 ^ (8 * a)) (sym e) (num-window-lt a s i)) (subst (λ (z : ℕ). z < 2 ^ (8 * b)) (sym f) (num-window-lt b s (i + a))) (omega arith)
    ∙ ap₂ (λ (u v : ℕ). u * 2 ^ (8 * b) + v) e f
    ∙ sym (ap num (window-add a b s i) ∙ num-append (window a s i) (window b s (i + a))
    ∙ ap (λ (n : ℕ). num (window a s i) * 2 ^ n + num (window b s (i + a))) (length-window b s (i + a)))

-- the first byte of a window, and the rest of it
num-window : (n : ℕ) (s : List ℕ) (i j : ℕ) → Bytes s → suc i ≡ j → num (window (suc n) s i) ≡ get_or s i 0 * 2 ^ (8 * n) + num (window n s j)
unfolding window
num-window n s i j b e =
    num-append (bits 8 (get_or s i 0)) (window n s (suc i))
    ∙ ap₂ (λ (u v : ℕ). u * 2 ^ v + num (window n s (suc i))) (num-bits-small 8 (get_or s i 0) (b i)) (length-window n s (suc i))
    ∙ ap (λ k. get_or s i 0 * 2 ^ (8 * n) + num (window n s k)) e

num-window-none : (s : List ℕ) (i : ℕ) → num (window 0 s i) ≡ 0
unfolding num window
num-window-none s i = refl

-- eight bytes as one number
pub window-eight : (s bs : List ℕ) (i x : ℕ) → Bytes s → bs ≡ take 8 (drop i s)
    → x ≡ get_or bs 0 0 * 0x100000000000000 + get_or bs 1 0 * 0x1000000000000 + get_or bs 2 0 * 0x10000000000 + get_or bs 3 0 * 0x100000000
    + get_or bs 4 0 * 0x1000000 + get_or bs 5 0 * 0x10000 + get_or bs 6 0 * 0x100 + get_or bs 7 0
    → x ≡ num (window 8 s i)
window-eight s bs i x b e h =
    omega (
      arith,
      h,
      byte 0 (omega arith),
      byte 1 (omega arith),
      byte 2 (omega arith),
      byte 3 (omega arith),
      byte 4 (omega arith),
      byte 5 (omega arith),
      byte 6 (omega arith),
      byte 7 (omega arith),
      ap (λ k. num (window 8 s k)) (add-zero i),
      next 7 0,
      next 6 1,
      next 5 2,
      next 4 3,
      next 3 4,
      next 2 5,
      next 1 6,
      next 0 7,
      num-window-none s (i + 8),
    )
  where
    byte : (k : ℕ) → k < 8 → get_or bs k 0 ≡ get_or s (i + k) 0
    byte k l = ap (λ z. get_or z k 0) e ∙ get_or-take 8 (drop i s) k 0 l ∙ get_or-drop i s k 0

    next : (n k : ℕ) → num (window (suc n) s (i + k)) ≡ get_or s (i + k) 0 * 2 ^ (8 * n) + num (window n s (i + suc k))
    next n k = num-window n s (i + k) (i + suc k) b (omega arith)

pub window-three : (s : List ℕ) (i : ℕ) → window 3 s i ≡ bits 8 (get_or s i 0) ++ (bits 8 (get_or s (i + 1) 0) ++ bits 8 (get_or s (i + 2) 0))
unfolding window
window-three s i =
    let a : suc i ≡ i + 1 = omega arith in
    let b : suc (suc i) ≡ i + 2 = omega arith in
    ap₂ (λ j k. bits 8 (get_or s i 0) ++ (bits 8 (get_or s j 0) ++ (bits 8 (get_or s k 0) ++ []))) a b
    ∙ ap (λ z. bits 8 (get_or s i 0) ++ (bits 8 (get_or s (i + 1) 0) ++ z)) (append-nil (bits 8 (get_or s (i + 2) 0)))

window-drop : (n : ℕ) (s : List ℕ) (i j : ℕ) → window n s (i + j) ≡ window n (drop i s) j
unfolding window
window-drop zero s i j = refl
window-drop (suc n) s i j =
    let e : suc (i + j) ≡ i + suc j = omega arith in
    ap₂ (λ a b. bits 8 a ++ b) (sym (get_or-drop i s j 0)) (ap (window n s) e ∙ window-drop n s i (suc j))

window-tail : (n : ℕ) (x : ℕ) (s : List ℕ) (j : ℕ) → window n (x ∷ s) (suc j) ≡ window n s j
unfolding window
window-tail zero x s j = refl
window-tail (suc n) x s j = ap (λ z. bits 8 (get_or s j 0) ++ z) (window-tail n x s (suc j))

-- a window from the first byte on goes on as the bytes do, or the bytes as the window does
window-front : (n : ℕ) (s : List ℕ) → window n s 0 ++ bits_of (drop n s) ≡ bits_of s ++ window (n - length s) [] 0
unfolding window bits_of
window-front zero s =
    let e : 0 - length s ≡ 0 = omega arith in
    sym (ap (λ k. bits_of s ++ window k [] 0) e ∙ append-nil (bits_of s))
window-front (suc n) [] = append-nil (window (suc n) [] 0) ∙ ap (λ k. window k [] 0) (sym (sub-zero (suc n)))
window-front (suc n) (x ∷ s) =
    let e : n - length s ≡ suc n - suc (length s) = omega arith in
    append_assoc (bits 8 x) (window n (x ∷ s) 1) (bits_of (drop n s))
    ∙ ap (λ z. bits 8 x ++ (z ++ bits_of (drop n s))) (window-tail n x s 0)
    ∙ ap (λ z. bits 8 x ++ z) (window-front n s)
    ∙ sym (append_assoc (bits 8 x) (bits_of s) (window (n - length s) [] 0))
    ∙ ap (λ k. (bits 8 x ++ bits_of s) ++ window k [] 0) e

-- a field that lies in a window
pub window-field : (n : ℕ) (s : List ℕ) (p w : ℕ) → p % 8 + w ≤ 8 * n → p + w ≤ 8 * length s
    → take w (drop (p % 8) (window n s (p / 8))) ≡ take w (drop p (bits_of s))
window-field n s p w h l =
    let i = p / 8 in
    let a = p % 8 in
    let t = drop i s in
    let e : p ≡ 8 * i + a = omega arith in
    let z = window (n - length t) [] 0 in
    ap (λ k. take w (drop a (window n s k))) (sym (add-zero i))
    ∙ ap (λ v. take w (drop a v)) (window-drop n s i 0)
    ∙ sym (cut-append (window n t 0) (bits_of (drop n t)) a w (rw length-window h))
    ∙ ap (λ v. take w (drop a v)) (window-front n t)
    ∙ cut-append (bits_of t) z a w (simp (length-bits_of, length-drop) (omega arith))
    ∙ ap (λ v. take w (drop a v)) (sym (drop-bits_of i s))
    ∙ ap (take w) (drop-drop a (8 * i) (bits_of s))
    ∙ ap (λ k. take w (drop k (bits_of s))) (sym e)

-- eight bytes shifted up by the bits before p
pub ahead-is : (s : List ℕ) (p x : ℕ) → x ≡ num (window 8 s (p / 8)) → Ahead (bits_of s) p (x * 2 ^ (p % 8) % 2 ^ 64)
ahead-is s p x e w h l =
    ap (take w) (shifted (p % 8) (omega arith))
    ∙ take-append-le w (drop (p % 8) v) (replicate (p % 8) false) (simp (length-drop, length-window) (omega arith))
    ∙ window-field 8 s p w (omega arith) (subst (λ (k : ℕ). p + w ≤ k) (length-bits_of s) l)
  where
    v : List Bool
    v = window 8 s (p / 8)

    shifted : (r : ℕ) → r < 8 → bits 64 (x * 2 ^ r % 2 ^ 64) ≡ drop r v ++ replicate r false
    shifted r k =
        let n : length (drop r v) ≡ 64 - r = length-drop r v ∙ ap (λ m. m - r) (length-window 8 s (p / 8)) in
        let m : 64 ≡ 64 - r + r = omega arith in
        bits_is 64 (x * 2 ^ r % 2 ^ 64) (drop r v ++ replicate r false)
        (length-append (drop r v) (replicate r false) ∙ ap₂ (λ a b. a + b) n (length-replicate r false) ∙ sym m)
        (mod-mod (x * 2 ^ r) (2 ^ 64) ∙ ap (λ (a : ℕ). x * 2 ^ r % 2 ^ a) m ∙ shl-out x (64 - r) r
        ∙ ap₂ (λ (a b : ℕ). a % 2 ^ b * 2 ^ r) e (sym n)
        ∙ sym (num-append (drop r v) (replicate r false) ∙ ap₂ (λ (a b : ℕ). num (drop r v) * 2 ^ a + b) (length-replicate r false) (num-zeros r) ∙ add-zero (num (drop r v) * 2 ^ r) ∙ ap (λ (a : ℕ). a * 2 ^ r) (num-drop v r)))

pub bytes-append : (a b : List ℕ) → Bytes a → Bytes b → Bytes (a ++ b)
bytes-append [] b p q i = q i
bytes-append (x ∷ a) b p q zero = p zero
bytes-append (x ∷ a) b p q (suc i) = bytes-append a b (λ j. p (suc j)) q i

pub bytes_drop : (n : ℕ) (a : List ℕ) → Bytes a → Bytes (drop n a)
bytes_drop n a p i = rw get_or-drop (p (n + i))

pub bytes-pack : (n : ℕ) (l : List Bool) → Bytes (pack n l)
unfolding pack
bytes-pack zero l i = omega arith
bytes-pack (suc n) l zero = num-take-lt l 8
bytes-pack (suc n) l (suc i) = bytes-pack n (drop 8 l) i

pub length-pack : (n : ℕ) (l : List Bool) → length (pack n l) ≡ n
unfolding pack
length-pack zero l = refl
length-pack (suc n) l = ap suc (length-pack n (drop 8 l))

pub bits_of-pack : (n : ℕ) (l : List Bool) → length l ≡ 8 * n → bits_of (pack n l) ≡ l
unfolding pack bits_of
bits_of-pack zero [] h = refl
bits_of-pack zero (x ∷ l) h = absurd (omega arith)
bits_of-pack (suc n) l h =
    ap₂ (λ a b. a ++ b) (bits-part 8 (take 8 l) (length-take-le 8 l (omega arith))) (bits_of-pack n (drop 8 l) (rw length-drop (omega arith)))
    ∙ take-append-drop 8 l

-- bytes with the same bits are the same
pub bits_of-inj : (a b : List ℕ) → length a ≡ length b → Bytes a → Bytes b → bits_of a ≡ bits_of b → a ≡ b
unfolding bits_of
bits_of-inj [] [] h p q e = refl
bits_of-inj [] (y ∷ b) h p q e = absurd (omega arith)
bits_of-inj (x ∷ a) [] h p q e = absurd (omega arith)
bits_of-inj (x ∷ a) (y ∷ b) h p q e =
    ap₂ (λ u v. u ∷ v)
    (sym (num-bits-small 8 x (p zero)) ∙ ap num (sym (take_at (bits 8 x) (bits_of a) 8 (length-bits 8 x)) ∙ ap (take 8) e ∙ take_at (bits 8 y) (bits_of b) 8 (length-bits 8 y)) ∙ num-bits-small 8 y (q zero))
    (bits_of-inj a b (omega arith) (λ i. p (suc i)) (λ i. q (suc i)) (sym (drop_at (bits 8 x) (bits_of a) 8 (length-bits 8 x)) ∙ ap (drop 8) e ∙ drop_at (bits 8 y) (bits_of b) 8 (length-bits 8 y)))
