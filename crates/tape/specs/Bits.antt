-- Numbers and bytes as lists of bits, most significant first (01, "The tape").
use Rattle.std.specs.Prelude.{ℕ, zero, suc, ◌+◌, ◌-◌, ◌*◌, ◌/◌, ◌%◌, ◌^◌, ◌≤◌, ◌<◌, ◌≡◌, List, [], ◌∷◌, ◌++◌, Bool, true, false, cond, length, take, drop, get_or, eqb, leb}

-- a bit as a number
unfoldable pub bit : Bool → ℕ
bit true = 1
bit false = 0

-- the last bit of a number
unfoldable pub odd : ℕ → Bool
odd n = eqb (n % 2) 1

-- the number that a list of bits is
unfoldable pub num : List Bool → ℕ
num [] = 0
num (b ∷ bs) = bit b * 2 ^ length bs + num bs

-- the last w bits of a number
unfoldable pub bits : ℕ → ℕ → List Bool
bits zero n = []
bits (suc w) n = odd (n / 2 ^ w) ∷ bits w n

-- the bits of some bytes
unfoldable pub bits_of : List ℕ → List Bool
bits_of [] = []
bits_of (x ∷ xs) = bits 8 x ++ bits_of xs

-- every number of a list is a byte
abbrev pub Bytes : List ℕ → Type 0
Bytes xs = (i : ℕ) → get_or xs i 0 < 256

-- a field of a word of 64 bits, by its first bit and its width; 0 where it does not lie in the word
unfoldable pub field_at : ℕ → ℕ → ℕ → ℕ
field_at x from width = cond (leb (from + width) 64) (num (take width (drop from (bits 64 x)))) 0

-- a word with bits at its top, and zeros below
unfoldable pub word : List Bool → ℕ
word f = num f * 2 ^ (64 - length f)

-- the bits of n bytes from byte i on, zeros behind the end
unfoldable pub window : ℕ → List ℕ → ℕ → List Bool
window zero s i = []
window (suc n) s i = bits 8 (get_or s i 0) ++ window n s (suc i)

-- a word has at its top the bits from p on, as many as there are, up to 57
abbrev pub Ahead : List Bool → ℕ → ℕ → Type 0
Ahead t p x = (w : ℕ) → w ≤ 57 → p + w ≤ length t → take w (bits 64 x) ≡ take w (drop p t)

-- a list of bits overlaid over another from p on
unfoldable pub overlaid : List Bool → ℕ → List Bool → List Bool
overlaid l p f = (take p l ++ f) ++ drop (p + length f) l
