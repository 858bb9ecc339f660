-- What is said of all numbers below a bound: of each, of the set of some, of how many, of one after the other.
use Rattle.std.specs.Prelude.{ℕ, zero, suc, ◌+◌, ◌*◌, ◌^◌, Bool, true}
use Rattle.sets.specs.Choice.{both, pick}
use Rattle.sets.specs.Sets.{digit, union}

-- f 0, f 1, .. f (k - 1), one after the other
unfoldable pub times : {A : Type 0} → (ℕ → A → A) → ℕ → A → A
times f zero a = a
times f (suc k) a = f k (times f k a)

-- the test holds of each number below k
unfoldable pub each : ℕ → (ℕ → Bool) → Bool
each zero p = true
each (suc k) p = both (each k p) (p k)

-- the union of the sets f 0 .. f (k - 1)
unfoldable pub unions : ℕ → (ℕ → ℕ) → ℕ
unions zero f = 0
unions (suc k) f = union (unions k f) (f k)

-- how many of the numbers below k a set has
unfoldable pub how_many : ℕ → ℕ → ℕ
how_many zero set = 0
how_many (suc k) set = how_many k set + digit k set

-- the set of the numbers below k of which the test holds
unfoldable pub those : ℕ → (ℕ → Bool) → ℕ
those zero p = 0
those (suc k) p = those k p + pick (p k) 1 0 * 2 ^ k
