-- "Show that two results meeting it are equal" (01, "How far a contract must reach"): each public call, with its contract.
use Rattle.std.specs.Prelude.{ℕ, Bool, ◌≡◌}
use Rattle.sets.specs.Settles.{Settles}
use Rattle.refusals.specs.declared.Refusal.{Refusal}
use Rattle.books.specs.declared.Book.{Book}
use Rattle.books.specs.declared.Listed.{Listed}
use Rattle.devices.specs.declared.Contents.{Contents}
use Rattle.devices.specs.declared.Message.{Message}
use Rattle.devices.specs.declared.Sending.{Sending}
use Rattle.devices.specs.declared.Here.{Here}
use Rattle.devices.specs.declared.Effect.{Effect}
use Rattle.devices.specs.Contents.{merged}
use Rattle.devices.specs.Effects.{Outcome, number_of, kept_after, only, box_of, addressee, addressed, is_empty, no_sending, unchanged, refuse}

pub record Settled : Type 0 where
  -- outcomes
  pub number_of : (outcome : Outcome) → Settles (λ (r : ℕ). r ≡ number_of outcome)
  pub kept_after : (outcome : Outcome) (kept : Book) → Settles (λ (r : Book). r ≡ kept_after outcome kept)
  -- messages
  pub is_empty : (self : Message) → Settles (λ (r : Bool). r ≡ is_empty self)
  pub addressee : (self : Message) → Settles (λ (r : ℕ). r ≡ addressee self)
  pub addressed_to : (self : Message) (device : ℕ) → Settles (λ (r : Message). r ≡ addressed self device)
  pub none : Settles (λ (r : Sending). r ≡ no_sending)
  -- devices
  pub only_device : (device : ℕ) → Settles (λ (r : ℕ). r ≡ only device)
  pub box_of : (device : ℕ) → Settles (λ (r : ℕ). r ≡ box_of device)
  pub unchanged : (outcome : Outcome) (self : Here) → Settles (λ (r : Effect). r ≡ unchanged outcome self)
  pub refused : (refusal : Refusal) (self : Here) → Settles (λ (r : Effect). r ≡ refuse refusal self)
  pub merge : (listed : Listed) (self theirs : Contents) → Settles (λ (r : Contents). r ≡ merged listed self theirs)
