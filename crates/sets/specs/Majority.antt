-- The majority (01, Books, boxes and containment), over a weight for each box. Where each weighs one, a set weighs what it counts (`one-counts`).
use Rattle.std.specs.Prelude.{ℕ, zero, suc, ◌+◌, ◌*◌, Bool, ltb}
use Rattle.sets.specs.Sets.{digit, shared, members}

-- each box weighs one
unfoldable pub one : ℕ → ℕ
one box = 1

-- what the numbers below k of a set weigh together
unfoldable pub weigh : (ℕ → ℕ) → ℕ → ℕ → ℕ
weigh weight zero set = 0
weigh weight (suc k) set = weigh weight k set + digit k set * weight k

-- "twice the number of its members that answered exceeds the number of its members"; "Boxes that answered and are no members count for nothing"
unfoldable pub majority : (ℕ → ℕ) → ℕ → ℕ → Bool
majority weight boxes answered = ltb (weigh weight 16 boxes) (2 * weigh weight 16 (shared boxes answered))

-- the parlour's majority of the configuration of two sets: each of the 16 boxes weighs one
unfoldable pub majority_of : ℕ → ℕ → ℕ → Bool
majority_of added removed answered = majority one (members added removed) answered
