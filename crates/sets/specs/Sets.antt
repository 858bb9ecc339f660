-- Sets of small numbers. A set is a number: "box b having weight 2^b", "note n having weight 2^n" (01, Books, boxes and containment).
-- So a set of boxes is a number below 2^16, each part of the notes one below 2^64, a set of listed changes one below 2^6; no definition here knows the width.
use Rattle.std.specs.Prelude.{ℕ, ◌-◌, ◌/◌, ◌%◌, ◌^◌, Bool, eqb}
use Rattle.std.specs.Int.Bits.{bit_and, bit_or}

-- 1 where n is in the set, else 0
abbrev pub digit : ℕ → ℕ → ℕ
digit n set = set / 2 ^ n % 2

-- n is in the set
abbrev pub has : ℕ → ℕ → Bool
has n set = eqb (set / 2 ^ n % 2) 1

-- "Joining is union, set by set."
abbrev pub union : ℕ → ℕ → ℕ
union a b = bit_or a b

-- what two sets share
abbrev pub shared : ℕ → ℕ → ℕ
shared a b = bit_and a b

-- "Members are those added and not removed."
abbrev pub members : ℕ → ℕ → ℕ
members added removed = added - bit_and added removed

-- the first set is contained in the second
abbrev pub inside : ℕ → ℕ → Bool
inside a b = eqb (bit_or a b) b
