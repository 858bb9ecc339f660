-- "Show that two results meeting it are equal" (01, "How far a contract must reach"): what it means that a contract settles its result,
-- and the one law for contracts that are an equation. Each crate lists its public calls in a record `Settled`.
use Rattle.std.specs.Prelude.{◌≡◌}
use Rattle.std.proofs.Common.{sym, ◌∙◌}

-- a contract settles the result: two results that meet it are equal
abbrev pub Settles : {A : Type 0} → (A → Type 0) → Type 0
Settles {A} contract = (x y : A) → contract x → contract y → x ≡ y

-- a contract that is an equation does
pub equation-settles : {A : Type 0} (it : A) → Settles (λ (r : A). r ≡ it)
equation-settles it x y a b = a ∙ sym b
