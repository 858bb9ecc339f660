-- What holds of the table of numbers (01, "Numbers a caller gets back"). Proved in proofs/Statements.
use Rattle.std.specs.Prelude.{ℕ, ◌<◌, ◌≡◌}
use Rattle.sets.specs.Settles.{Settles}
use Rattle.refusals.specs.declared.Refusal.{Refusal}
use Rattle.refusals.specs.Refusals.{number}

-- "Show that two results meeting it are equal"
pub record Settled : Type 0 where
  pub u8_from : (refusal : Refusal) → Settles (λ (r : ℕ). r ≡ number refusal)

pub record Statements : Type 0 where
  pub settled : Settled
  -- a number names one refusal
  pub one : (a b : Refusal) → number a ≡ number b → a ≡ b
  -- "0: done" names none
  pub some : (refusal : Refusal) → 0 < number refusal
