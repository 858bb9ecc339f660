-- Laws of the queried configurations and of sets of listed changes: where every one has a majority, each subset's has one (`majority-at`);
-- a trimmed set has what is left (`in-outside`, `outside-has`).
use Prim.Native.Nat.{ℕ, ◌<◌}
use mathlib.Core.Bool.{true, false, not}
use mathlib.Core.Path.{◌≡◌, ap, ◌∙◌}
use borrow.Author.Tests.{not-true}
use Rattle.sets.specs.Sets.{digit, has, inside}
use Rattle.sets.proofs.SetLaws.{has-digit, digit-has, has-inside}
use Rattle.sets.proofs.BoundedLaws.{both_left, both_right, both-on, pick_true, each_at, those-has, in-those}
use Rattle.books.specs.declared.Config.{Config}
use Rattle.books.specs.declared.Listed.{Listed}
use Rattle.books.specs.Books.{config_inside, has_majority}
use Rattle.books.specs.Queried.{change_at, joined_with, every_majority, stays, outside}
use Rattle.books.proofs.Turns.{queried}

-- ---- Every queried configuration has a majority

pub majority-at : (listed : Listed) (config : Config) (t answered : ℕ) → every_majority listed config t answered ≡ true
    → (subset : ℕ) → subset < 64 → inside subset t ≡ true → has_majority (joined_with listed config subset) answered ≡ true
unfolding every_majority
majority-at listed config t answered h subset l p =
    pick_true (has_majority (joined_with listed config subset) answered) true p ∙ each_at 64 (queried (λ (c : Config). has_majority c answered) true listed config t) h subset l

-- ---- The changes of a set that are not contained in a configuration

module _ (listed : Listed) (config : Config) (t : ℕ) where
  pub in-outside : (k : ℕ) → digit k (outside listed config t) ≡ 1
      → (k < 6) × (digit k t ≡ 1) × (config_inside (change_at listed k) config ≡ false)
  unfolding outside
  in-outside k h =
      let o = in-those 6 (λ k. stays (change_at listed k) config t k) k h in (
        o.0,
        has-digit k t (both_left (has k t) (not (config_inside (change_at listed k) config)) o.1),
        not-true (config_inside (change_at listed k) config) (both_right (has k t) (not (config_inside (change_at listed k) config)) o.1),
      )

  pub outside-has : (k : ℕ) → k < 6 → digit k t ≡ 1 → config_inside (change_at listed k) config ≡ false
      → digit k (outside listed config t) ≡ 1
  unfolding outside
  outside-has k l h o =
      those-has 6 (λ k. stays (change_at listed k) config t k) k l
      (both-on (has k t) (not (config_inside (change_at listed k) config)) (digit-has k t h) (ap not o))

  pub outside-inside : inside (outside listed config t) t ≡ true
  outside-inside = has-inside (outside listed config t) t (λ k h. (in-outside k h).1)
