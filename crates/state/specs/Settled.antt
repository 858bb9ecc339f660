-- "Show that two results meeting it are equal" (01, "How far a contract must reach"): each public call, with its contract.
use Rattle.std.specs.Prelude.{ℕ, Bool, List, ◌≡◌}
use Rattle.sets.specs.Settles.{Settles}
use Rattle.books.specs.declared.Listed.{Listed}
use Rattle.devices.specs.declared.Contents.{Contents}
use Rattle.devices.specs.declared.Tablet.{Tablet}
use Rattle.devices.specs.declared.Message.{Message}
use Rattle.state.specs.declared.Stepped.{Stepped}
use Rattle.state.specs.State.{StartPromise, proper_up_to, proper_desk}

pub record Settled : Type 0 where
  pub start : (first : ℕ) → Settles (λ (r : Stepped). StartPromise first r)
  pub proper_desk : (listed : Listed) (devices : List Contents) (tablets : List Tablet) → Settles (λ (r : Bool). r ≡ proper_desk listed devices tablets)
  pub proper_message : (n : ℕ) (m : Message) → Settles (λ (r : Bool). r ≡ proper_up_to n m)
