-- Laws of weights and majorities. The main one: two majorities of one configuration share a member, by any weights (`majorities-meet`).
use Prim.Native.Nat.{ℕ, zero, suc, ◌+◌, ◌<◌, ◌≤◌, min}
use mathlib.Core.Bool.{Bool, true, false}
use mathlib.Core.Path.{◌≡◌, refl}
use mathlib.Core.Logic.{◌⊎◌, inl, inr, ⊎_elim}
use native.Mathlib.Nat.{mul-le-mul_right, lt_irrefl}
use native.Mathlib.Omega.{arith}
use borrow.Author.Tests.{ltb-true}
use Rattle.sets.specs.Sets.{digit, shared}
use Rattle.sets.specs.Majority.{weigh, majority}
use Rattle.sets.proofs.SetLaws.{digit_lt, digit-high, digit-shared, shared-again}

-- ---- Two majorities meet

-- a number below k that three sets share
pub record Meet (k : ℕ) (boxes a b : ℕ) : Type 0 where
  pub box : ℕ
  pub below : box < k
  pub member : digit box boxes ≡ 1
  pub left : digit box a ≡ 1
  pub right : digit box b ≡ 1

digits-apart : (x y z : ℕ) → x < 2 → y < 2 → z < 2 → ((x ≡ 1) × (y ≡ 1) × (z ≡ 1)) ⊎ (min x y + min x z ≤ x)
digits-apart zero y z hx hy hz = inr (omega arith)
digits-apart (suc x) zero z hx hy hz = inr (omega arith)
digits-apart (suc x) (suc y) zero hx hy hz = inr (omega arith)
digits-apart (suc x) (suc y) (suc z) hx hy hz = inl (omega arith, omega arith, omega arith)

-- two parts of a set share a number, or weigh together at most what the set weighs
meet-or-apart : (w : ℕ → ℕ) (k m a b : ℕ) → Meet k m a b ⊎ (weigh w k (shared m a) + weigh w k (shared m b) ≤ weigh w k m)
unfolding weigh
meet-or-apart w zero m a b = inr (omega arith)
meet-or-apart w (suc k) m a b =
    ⊎_elim
    (λ s. inl (record { box = s.box; below = omega (arith, s.below); member = s.member; left = s.left; right = s.right }))
    more
    (meet-or-apart w k m a b)
  where
    less : weigh w k (shared m a) + weigh w k (shared m b) ≤ weigh w k m
        → min (digit k m) (digit k a) + min (digit k m) (digit k b) ≤ digit k m
        → Meet (suc k) m a b ⊎ (weigh w (suc k) (shared m a) + weigh w (suc k) (shared m b) ≤ weigh w (suc k) m)
    less h l = inr (rw (digit-shared k m a, digit-shared k m b) (omega (arith, mul-le-mul_right (w k) l)))

    more : weigh w k (shared m a) + weigh w k (shared m b) ≤ weigh w k m
        → Meet (suc k) m a b ⊎ (weigh w (suc k) (shared m a) + weigh w (suc k) (shared m b) ≤ weigh w (suc k) m)
    more h =
        ⊎_elim (λ s. inl (record { box = k; below = omega arith; member = s.0; left = s.1; right = s.2 })) (less h)
        (digits-apart (digit k m) (digit k a) (digit k b) (digit_lt k m) (digit_lt k a) (digit_lt k b))

-- two majorities of the same members, by any weights, share a member
pub majorities-meet : (w : ℕ → ℕ) (boxes a b : ℕ) → majority w boxes a ≡ true → majority w boxes b ≡ true → Meet 16 boxes a b
unfolding majority
majorities-meet w m a b h g =
    ⊎_elim (λ s. s) (λ l. absurd (lt_irrefl 0 (omega (arith, ltb-true)))) (meet-or-apart w 16 m a b)

-- with no members there is never a majority
pub no-members-no-majority : (w : ℕ → ℕ) (answered : ℕ) → majority w 0 answered ≡ false
no-members-no-majority w answered = go (majority w 0 answered) refl
  where
    go : (t : Bool) → majority w 0 answered ≡ t → majority w 0 answered ≡ false
    go true h =
        let m = majorities-meet w 0 answered answered h h in
        absurd (lt_irrefl 0 (omega (arith, m.member, digit-high 0 m.box 0 (omega arith) (omega arith))))
    go false h = h

-- boxes that answered and are no members count for nothing
pub members_only : (w : ℕ → ℕ) (boxes answered : ℕ) → majority w boxes answered ≡ majority w boxes (shared boxes answered)
unfolding majority
members_only w boxes answered = rw (shared-again boxes answered)
