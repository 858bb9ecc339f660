-- "Show that two results meeting it are equal" (01, "How far a contract must reach"): each public call, with its contract.
use Rattle.std.specs.Prelude.{ℕ, Bool, ◌≡◌}
use Rattle.sets.specs.Settles.{Settles}
use Rattle.sets.specs.Sets.{union, inside, members}
use Rattle.sets.specs.Bounded.{how_many}
use Rattle.sets.specs.Majority.{majority_of}

pub record Settled : Type 0 where
  pub members_of : (added removed : ℕ) → Settles (λ (r : ℕ). r ≡ members added removed)
  pub count_boxes : (boxes : ℕ) → Settles (λ (r : ℕ). r ≡ how_many 16 boxes)
  pub majority : (added removed answered : ℕ) → Settles (λ (r : Bool). r ≡ majority_of added removed answered)
  -- sets of listed changes, of boxes, and parts of the notes
  pub u8_join : (self other : ℕ) → Settles (λ (r : ℕ). r ≡ union self other)
  pub u8_is_inside : (self other : ℕ) → Settles (λ (r : Bool). r ≡ inside self other)
  pub u16_join : (self other : ℕ) → Settles (λ (r : ℕ). r ≡ union self other)
  pub u16_is_inside : (self other : ℕ) → Settles (λ (r : Bool). r ≡ inside self other)
  pub u64_join : (self other : ℕ) → Settles (λ (r : ℕ). r ≡ union self other)
  pub u64_is_inside : (self other : ℕ) → Settles (λ (r : Bool). r ≡ inside self other)
