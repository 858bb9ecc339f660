-- Laws of bits that are overlaid over others, and of the three bytes that a field is stored with.
use mathlib.Core.Path.{◌≡◌, sym, ap, ap₂, ◌∙◌}
use Prim.Native.Nat.{ℕ, ◌+◌, ◌-◌, ◌*◌, ◌/◌, ◌%◌, ◌^◌, ◌≤◌}
use mathlib.Core.List.{List, [], ◌∷◌, ◌++◌, append_assoc}
use mathlib.Core.Bool.{Bool}
use native.Mathlib.Nat.{add-zero, zero-add}
use native.Mathlib.Omega.{arith}
use lib.ListN.{length, take, drop, get_or, set, length-append, take-append-drop, length-take, length-drop, drop_of_length-le}
use lib.Seq.{take-append-le, drop-append-le, take-append-add, drop-append-add, length-take-le, take_at, drop_at, drop-set-add, take-set-le, get_or-drop, drop-drop, take_all}
use Rattle.tape.specs.Bits.{num, bits, bits_of, Bytes, window, overlaid}
use Rattle.tape.specs.Writing.{pack}
use Rattle.tape.proofs.BitLaws.{length-bits, num-append, num-take, num-drop, bits-mod, bits-num, bits-append}
use Rattle.tape.proofs.ByteLaws.{append-nil, length-bits_of, bits_of-append, drop-bits_of, window-three, bytes-append, bytes_drop, bytes-pack, length-pack, bits_of-pack, bits_of-inj}

module _ (l : List Bool) (p : ℕ) (f : List Bool) (h : p + length f ≤ length l) where
  pub length-overlaid : length (overlaid l p f) ≡ length l
  unfolding overlaid
  length-overlaid = simp (length-append, length-take, length-drop) (omega arith)

  overlaid-front : (r : List Bool) → overlaid (l ++ r) p f ≡ overlaid l p f ++ r
  unfolding overlaid
  overlaid-front r =
      ap₂ (λ a b. (a ++ f) ++ b) (take-append-le p l r (omega arith)) (drop-append-le (p + length f) l r h)
      ∙ sym (append_assoc (take p l ++ f) (drop (p + length f) l) r)

  pub num-overlaid : (w sh : ℕ) → length f ≡ w → p + w + sh ≡ length l → num (overlaid l p f) ≡ (num l / 2 ^ (w + sh) * 2 ^ w + num f) * 2 ^ sh + num l % 2 ^ sh
  unfolding overlaid
  num-overlaid w sh e k =
      num-append (take p l ++ f) (drop (p + length f) l)
      ∙ ap₂ (λ a b. a * 2 ^ length (drop (p + length f) l) + b) (num-append (take p l) f ∙ ap (λ x. x * 2 ^ length f + num f) (num-take l p)) (num-drop l (p + length f))
      ∙ ap (λ n. (num l / 2 ^ length (drop p l) * 2 ^ length f + num f) * 2 ^ n + num l % 2 ^ n) e₁
      ∙ ap₂ (λ m n. (num l / 2 ^ m * 2 ^ n + num f) * 2 ^ sh + num l % 2 ^ sh) e₂ e
    where
      e₁ : length (drop (p + length f) l) ≡ sh
      e₁ = simp length-drop (omega arith)

      e₂ : length (drop p l) ≡ w + sh
      e₂ = simp length-drop (omega arith)

overlaid-behind : (a l : List Bool) (q : ℕ) (f : List Bool) → overlaid (a ++ l) (length a + q) f ≡ a ++ overlaid l q f
unfolding overlaid
overlaid-behind a l q f =
    ap₂ (λ x y. (x ++ f) ++ y) (take-append-add a l q) (ap (λ k. drop k (a ++ l)) e ∙ drop-append-add a l (q + length f))
    ∙ simp append_assoc
  where
    e : length a + q + length f ≡ length a + (q + length f)
    e = omega arith

-- the first part of what is overlaid over a first part
overlaid-part : (a r a' r' : List Bool) (q : ℕ) (f : List Bool) → a ++ r ≡ overlaid (a' ++ r') q f → length a ≡ length a' → q + length f ≤ length a' → a ≡ overlaid a' q f
overlaid-part a r a' r' q f e k h =
    sym (take_at a r (length a') k) ∙ ap (take (length a')) (e ∙ overlaid-front a' q f h r') ∙ take_at (overlaid a' q f) r' (length a') (length-overlaid a' q f h)

-- the bytes of a number of 24 bits
bytes3 : (l : List Bool) (x : ℕ) → length l ≡ 24 → x ≡ num l → bits 8 (x / 2 ^ 16) ++ (bits 8 (x / 2 ^ 8 % 2 ^ 8) ++ bits 8 (x % 2 ^ 8)) ≡ l
bytes3 l x k e =
    ap (λ z. bits 8 (x / 2 ^ 16) ++ z) (ap₂ (λ a b. a ++ b) (bits-mod 8 (x / 2 ^ 8)) (bits-mod 8 x) ∙ sym (bits-append 8 8 x))
    ∙ sym (bits-append 8 16 x)
    ∙ ap₂ bits (sym k) e ∙ bits-num l

-- the bits of three bytes
abbrev three : List ℕ → ℕ → List Bool
three s i = bits 8 (get_or s i 0) ++ (bits 8 (get_or s (i + 1) 0) ++ bits 8 (get_or s (i + 2) 0))

length_three : (t : List ℕ) (i : ℕ) → length (three t i) ≡ 24
length_three t i = simp (length-append, length-bits)

-- three bytes set to those of a number of 24 bits
abbrev pub stored : List ℕ → ℕ → ℕ → List ℕ
stored t i x = set (set (set t i (x / 2 ^ 16)) (i + 1) (x / 2 ^ 8 % 2 ^ 8)) (i + 2) (x % 2 ^ 8)

stored-first : (t : List ℕ) (q : ℕ) (f : List Bool) (x : ℕ) → q + length f ≤ 24 → 1 ≤ length f → q + length f ≤ length (bits_of t) → x ≡ num (overlaid (three t 0) q f)
    → bits_of (stored t 0 x) ≡ overlaid (bits_of t) q f
unfolding bits_of
stored-first [] q f x h o k e = absurd (omega arith)
stored-first (a ∷ []) q f x h o k e =
    overlaid-part (bits 8 (x / 2 ^ 16) ++ []) (bits 8 (x / 2 ^ 8 % 2 ^ 8) ++ bits 8 (x % 2 ^ 8)) (bits 8 a ++ []) (bits 8 0 ++ bits 8 0) q f
    (simp append_assoc (bytes3 (overlaid (three (a ∷ []) 0) q f) x (length-overlaid (three (a ∷ []) 0) q f (rw length_three h) ∙ length_three (a ∷ []) 0) e))
    (simp (length-append, length-bits)) k
stored-first (a ∷ b ∷ []) q f x h o k e =
    overlaid-part (bits 8 (x / 2 ^ 16) ++ (bits 8 (x / 2 ^ 8 % 2 ^ 8) ++ [])) (bits 8 (x % 2 ^ 8)) (bits 8 a ++ (bits 8 b ++ [])) (bits 8 0) q f
    (simp append_assoc (bytes3 (overlaid (three (a ∷ b ∷ []) 0) q f) x (length-overlaid (three (a ∷ b ∷ []) 0) q f (rw length_three h) ∙ length_three (a ∷ b ∷ []) 0) e))
    (simp (length-append, length-bits)) k
stored-first (a ∷ b ∷ c ∷ t) q f x h o k e =
    let w = three (a ∷ b ∷ c ∷ t) 0 in
    let g : q + length f ≤ length w = rw length_three h in
    simp append_assoc at (ap (λ z. z ++ bits_of t) (bytes3 (overlaid w q f) x (length-overlaid w q f g ∙ length_three (a ∷ b ∷ c ∷ t) 0) e) ∙ sym (overlaid-front w q f g (bits_of t)))

stored-drop : (s : List ℕ) (i x : ℕ) → stored s i x ≡ take i s ++ stored (drop i s) 0 x
stored-drop s i x =
    sym (take-append-drop i (stored s i x)) ∙ ap₂ (λ a b. a ++ b)
    (take-set-le i (set (set s i (x / 2 ^ 16)) (i + 1) (x / 2 ^ 8 % 2 ^ 8)) (i + 2) (x % 2 ^ 8) (omega arith)
    ∙ take-set-le i (set s i (x / 2 ^ 16)) (i + 1) (x / 2 ^ 8 % 2 ^ 8) (omega arith) ∙ take-set-le i s i (x / 2 ^ 16) (omega arith))
    (drop-set-add i (set (set s i (x / 2 ^ 16)) (i + 1) (x / 2 ^ 8 % 2 ^ 8)) 2 (x % 2 ^ 8)
    ∙ ap (λ z. set z 2 (x % 2 ^ 8)) (drop-set-add i (set s i (x / 2 ^ 16)) 1 (x / 2 ^ 8 % 2 ^ 8)
    ∙ ap (λ z. set z 1 (x / 2 ^ 8 % 2 ^ 8)) (ap (λ k. drop i (set s k (x / 2 ^ 16))) (sym (add-zero i)) ∙ drop-set-add i s 0 (x / 2 ^ 16))))

-- a field that is stored with the rest of its three bytes
pub stored-overlaid : (s : List ℕ) (p : ℕ) (f : List Bool) (x : ℕ) → length f ≤ 17 → 1 ≤ length f → p + length f ≤ 8 * length s → x ≡ num (overlaid (window 3 s (p / 8)) (p % 8) f)
    → bits_of (stored s (p / 8) x) ≡ overlaid (bits_of s) p f
stored-overlaid s p f x h o k e =
    ap bits_of (stored-drop s (p / 8) x) ∙ bits_of-append (take (p / 8) s) (stored (drop (p / 8) s) 0 x)
    ∙ ap (λ z. bits_of (take (p / 8) s) ++ z)
    (stored-first (drop (p / 8) s) (p % 8) f x (omega arith) o (simp (length-bits_of, length-drop) (omega arith)) (e ∙ ap (λ z. num (overlaid z (p % 8) f)) t))
    ∙ sym (overlaid-behind (bits_of (take (p / 8) s)) (bits_of (drop (p / 8) s)) (p % 8) f)
    ∙ ap₂ (λ a b. overlaid a b f) (sym (bits_of-append (take (p / 8) s) (drop (p / 8) s)) ∙ ap bits_of (take-append-drop (p / 8) s)) n
  where
    t : window 3 s (p / 8) ≡ three (drop (p / 8) s) 0
    t = window-three s (p / 8) ∙ simp (get_or-drop, add-zero)

    n : length (bits_of (take (p / 8) s)) + p % 8 ≡ p
    n = simp (length-bits_of, length-take) (omega arith)

pub overlaid-nil : (l : List Bool) (p : ℕ) → overlaid l p [] ≡ l
unfolding overlaid
overlaid-nil l p = append_assoc (take p l) [] (drop (p + 0) l) ∙ ap (λ k. take p l ++ drop k l) (add-zero p) ∙ take-append-drop p l

-- one behind the other
pub overlaid-overlaid : (l : List Bool) (p : ℕ) (f g : List Bool) → p ≤ length l → overlaid (overlaid l p f) (p + length f) g ≡ overlaid l p (f ++ g)
unfolding overlaid
overlaid-overlaid l p f g h =
    ap₂ (λ a b. (a ++ g) ++ b) (take_at (take p l ++ f) (drop (p + length f) l) (p + length f) n)
    (sym (drop-drop (length g) (p + length f) (overlaid l p f)) ∙ ap (drop (length g)) (drop_at (take p l ++ f) (drop (p + length f) l) (p + length f) n)
    ∙ drop-drop (length g) (p + length f) l ∙ ap (λ k. drop k l) m)
    ∙ ap (λ z. z ++ drop (p + length (f ++ g)) l) (append_assoc (take p l) f g)
  where
    n : length (take p l ++ f) ≡ p + length f
    n = length-append (take p l) f ∙ ap (λ k. k + length f) (length-take-le p l h)

    m : p + length f + length g ≡ p + length (f ++ g)
    m = simp length-append (omega arith)

-- whole bytes of bits overlaid over the front of a buffer
pub unlaid : (s e : List ℕ) (n : ℕ) (l : List Bool) → length e ≡ length s → Bytes s → Bytes e → length l ≡ 8 * n → n ≤ length s → bits_of e ≡ overlaid (bits_of s) 0 l
    → e ≡ pack n l ++ drop n s
unfolding overlaid
unlaid s e n l k p q h m f =
    bits_of-inj e (pack n l ++ drop n s)
    (k ∙ sym (length-append (pack n l) (drop n s) ∙ ap₂ (λ a b. a + b) (length-pack n l) (length-drop n s) ∙ omega arith))
    q (bytes-append (pack n l) (drop n s) (bytes-pack n l) (bytes_drop n s p))
    (f ∙ ap (λ a. l ++ drop a (bits_of s)) (zero-add (length l) ∙ h)
    ∙ sym (bits_of-append (pack n l) (drop n s) ∙ ap₂ (λ a b. a ++ b) (bits_of-pack n l h) (sym (drop-bits_of n s))))

-- `&l[a..]`
pub part-from : {A : Type 0} (a : ℕ) (l : List A) → take (length l - a) (drop a l) ≡ drop a l
part-from a l = take_all (length l - a) (drop a l) (simp length-drop (omega arith))

-- bits overlaid over the front of the part from byte 2 on
pub lay-part : (b ps : List ℕ) (f : List Bool) → 2 ≤ length b → bits_of ps ≡ overlaid (bits_of (take (length b - 2) (drop 2 b))) 0 f
    → bits_of (take 2 b ++ (ps ++ drop (length b - 2) (drop 2 b))) ≡ overlaid (bits_of b) 16 f
lay-part b ps f h e =
    ap (λ z. bits_of (take 2 b ++ (ps ++ z))) (drop_of_length-le (drop 2 b) {i = length b - 2} (rw length-drop (omega arith)))
    ∙ ap (λ z. bits_of (take 2 b ++ z)) (append-nil ps)
    ∙ bits_of-append (take 2 b) ps
    ∙ ap (λ z. bits_of (take 2 b) ++ z) (e ∙ ap (λ z. overlaid (bits_of z) 0 f) (part-from 2 b))
    ∙ sym (overlaid-behind (bits_of (take 2 b)) (bits_of (drop 2 b)) 0 f)
    ∙ ap₂ (λ y z. overlaid y (z + 0) f) (sym (bits_of-append (take 2 b) (drop 2 b)) ∙ ap bits_of (take-append-drop 2 b)) n
  where
    n : length (bits_of (take 2 b)) ≡ 16
    n = length-bits_of (take 2 b) ∙ ap (λ k. 8 * k) (length-take-le 2 b h)
