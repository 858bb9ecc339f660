-- Laws of how an ask names its pair: the changes listed before stay as they were, all listed changes differ, and the set names the pair
-- and nothing else.
use Prim.Native.Nat.{ℕ, ◌^◌, ◌<◌, ◌≤◌}
use mathlib.Core.Bool.{true}
use mathlib.Core.Path.{◌≡◌, refl, sym, ap, ◌∙◌}
use mathlib.Core.Logic.{◌⊎◌, inl, inr}
use native.Mathlib.Nat.{le_refl}
use native.Mathlib.Omega.{arith}
use lib.ListN.{length}
use lib.Pow.{pow-lt, pow_pos}
use Rattle.sets.specs.Sets.{has}
use Rattle.sets.proofs.SetLaws.{has-digit, digit-has}
use Rattle.books.specs.declared.Config.{Config}
use Rattle.books.specs.declared.Listed.{Listed}
use Rattle.books.specs.Books.{config_inside}
use Rattle.books.specs.Queried.{change_at, place_of, with_change}
use Rattle.books.proofs.ListedLaws.{place_found, place-new, listed-before, listed-last, listed-length}
use Rattle.state.specs.State.{all_different}
use Rattle.state.proofs.ListingLaws.{different-more}
use Rattle.sets.proofs.Single.{none_in_empty, in-single, single-has}
use Rattle.parlour.proofs.Acts.{Naming, contained, listed_already, listed_now}

module _ {config pair : Config} {before : Listed} where
  pub naming-more : {after : Listed} {named : ℕ} → Naming config pair before after named → before.count ≤ after.count
  unfolding with_change
  naming-more (contained e) = le_refl _
  naming-more (listed_already l) = le_refl _
  naming-more (listed_now l f) = omega arith

  pub naming-few : {after : Listed} {named : ℕ} → Naming config pair before after named → before.count ≤ 6 → after.count ≤ 6
  unfolding with_change
  naming-few (contained e) h = h
  naming-few (listed_already l) h = h
  naming-few (listed_now l f) h = omega arith

  pub naming-long : {after : Listed} {named : ℕ} → Naming config pair before after named → length before.changes ≡ 6
      → length after.changes ≡ 6
  naming-long (contained e) h = h
  naming-long (listed_already l) h = h
  naming-long (listed_now l f) h = listed-length before pair ∙ h

  -- "never shortened": what was listed stays at its place
  pub naming-same : {after : Listed} {named : ℕ} → Naming config pair before after named → (k : ℕ) → k < before.count
      → change_at before k ≡ change_at after k
  naming-same (contained e) k h = refl
  naming-same (listed_already l) k h = refl
  naming-same (listed_now l f) k h = sym (listed-before before pair k h)

  -- the set names listed changes only
  pub naming-fits : {after : Listed} {named : ℕ} → Naming config pair before after named → named < 2 ^ after.count
  unfolding with_change
  naming-fits (contained e) = pow_pos _
  naming-fits (listed_already l) = pow-lt l
  naming-fits (listed_now l f) = pow-lt (omega arith)

  -- "all different": a change is listed only where it is none of those listed
  pub naming-different : {after : Listed} {named : ℕ} → Naming config pair before after named → length before.changes ≡ 6
      → all_different before ≡ true → all_different after ≡ true
  naming-different (contained e) n h = h
  naming-different (listed_already l) n h = h
  naming-different (listed_now l f) n h = different-more before pair (omega arith) h (λ k u. place-new before pair k (omega arith))

  -- the set names the pair and nothing else
  pub naming-only : {after : Listed} {named : ℕ} → Naming config pair before after named → length before.changes ≡ 6
      → before.count ≤ 6 → (k : ℕ) → has k named ≡ true → change_at after k ≡ pair
  naming-only (contained e) n f k h = absurd (none_in_empty k (has-digit k 0 h))
  naming-only (listed_already l) n f k h =
      ap (change_at before) (in-single (place_of before pair) k (has-digit k _ h)) ∙ place_found before pair l (omega arith)
  naming-only (listed_now l f) n g k h =
      ap (change_at (with_change before pair)) (in-single before.count k (has-digit k _ h)) ∙ listed-last before pair (omega arith)

  -- and it names the pair, unless v contains it
  pub naming-known : {after : Listed} {named : ℕ} → Naming config pair before after named → length before.changes ≡ 6
      → before.count ≤ 6 → (config_inside pair config ≡ true) ⊎ ((k : ℕ) × (k < 6) × (has k named ≡ true) × (change_at after k ≡ pair))
  naming-known (contained e) n f = inl e
  naming-known (listed_already l) n f =
      inr (place_of before pair, omega arith, digit-has (place_of before pair) _ (single-has (place_of before pair)), place_found before pair l (omega arith))
  naming-known (listed_now l f) n g =
      inr (before.count, omega arith, digit-has before.count _ (single-has before.count), listed-last before pair (omega arith))

-- ---- What becomes of the list of changes

-- a step leaves the list, or names a pair in it
pub data Lists (before : Listed) : Listed → Type 0 where
  as_before : Lists before before
  by_ask : {config pair : Config} {after : Listed} {named : ℕ} → Naming config pair before after named → Lists before after

module _ {before : Listed} where
  -- "never shortened"
  pub lists-same : {after : Listed} → Lists before after → (k : ℕ) → k < before.count → change_at before k ≡ change_at after k
  lists-same as_before k u = refl
  lists-same (by_ask n) k u = naming-same n k u

  pub lists-more : {after : Listed} → Lists before after → before.count ≤ after.count
  lists-more as_before = le_refl _
  lists-more (by_ask n) = naming-more n

  pub lists-long : {after : Listed} → Lists before after → length before.changes ≡ 6 → length after.changes ≡ 6
  lists-long as_before h = h
  lists-long (by_ask n) h = naming-long n h
