-- "Show that two results meeting it are equal" (01, "How far a contract must reach"): each public call, with its contract.
use Rattle.std.specs.Prelude.{Bool, ◌≡◌}
use Rattle.sets.specs.Settles.{Settles}
use Rattle.devices.specs.declared.Message.{Message}
use Rattle.devices.specs.declared.Here.{Here}
use Rattle.devices.specs.declared.Effect.{Effect}
use Rattle.devices.specs.declared.Step.{Step}
use Rattle.rules.specs.declared.table.About.{About}
use Rattle.rules.specs.Table.{about_step}
use Rattle.rules.specs.Rules.{effect_of}

pub record Settled : Type 0 where
  pub about_step : (step : Step) → Settles (λ (r : About). r ≡ about_step step)
  pub effect_of : (proper : Bool) (step : Step) (m : Message) (h : Here) → Settles (λ (r : Effect). r ≡ effect_of proper step m h)
