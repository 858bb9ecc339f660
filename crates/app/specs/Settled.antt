-- "Show that two results meeting it are equal" (01, "How far a contract must reach"): each call of the tablet app, with its contract.
use Rattle.std.specs.Prelude.{ℕ, Bool, List, ◌≡◌}
use Rattle.sets.specs.Majority.{majority_of}
use Rattle.sets.specs.Settles.{Settles}
use Rattle.tape.specs.Promises.{CheckPromise}

pub record Settled : Type 0 where
  pub parlour_majority : (added removed answered : ℕ) → Settles (λ (r : Bool). r ≡ majority_of added removed answered)
  pub parlour_tape_check : (tape : List ℕ) → Settles (λ (r : ℕ). CheckPromise tape r)
