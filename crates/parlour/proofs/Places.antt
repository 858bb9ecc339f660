-- Which slot, device and tablet a step is about, and what one store leaves: the cases of the small functions.
use Prim.Native.Nat.{ℕ, ◌<◌}
use mathlib.Core.Bool.{Bool, true, false}
use mathlib.Core.Path.{◌≡◌, refl, sym, ◌∙◌}
use native.Mathlib.Omega.{arith}
use lib.Dec.{ltb}
use borrow.Author.Tests.{lt-ltb, ltb-true, leb-true}
use Rattle.sets.specs.Choice.{pick}
use Rattle.sets.proofs.BoundedLaws.{pick_true}
use Rattle.devices.specs.declared.Message.{Message}
use Rattle.devices.specs.Effects.{addressee}
use Rattle.rules.specs.declared.table.Named.{Named}
use Rattle.rules.specs.declared.table.Named.TheVariants.{Tablet, Slot, Device}
use Rattle.rules.specs.Table.{in_range, slot_named, device_named}
use Rattle.state.specs.State.{proper_message}
use Rattle.state.proofs.StateLaws.{addressee-to}
use Rattle.parlour.specs.Steps.{within}

pub within_in : (bound n : ℕ) → n < bound → n ≡ within bound n
within_in bound n h = pick_true n 0 (lt-ltb n bound h)

pub within-lt : (bound n : ℕ) → 0 < bound → within bound n < bound
within-lt bound n l = go (ltb n bound) refl
  where
    go : (t : Bool) → ltb n bound ≡ t → pick t n 0 < bound
    go true e = ltb-true n bound e
    go false e = l

-- a tablet stands at its own place
pub tablet-place : {d n : ℕ} → d ≡ n → n < 8 → within 8 d ≡ n
tablet-place {d} e l = sym (within_in 8 d (omega arith)) ∙ e

-- ---- What the table says of a step: its slot and its device, by the kind of number that it names, and whether free slots count

-- in range, they are those that are named
pub slot-named : (n : Named) → in_range n ≡ true → within 128 (slot_named n) ≡ slot_named n
slot-named (Tablet n) h = refl
slot-named (Slot n) h = sym (within_in 128 n (omega (arith, leb-true n 127 h)))
slot-named (Device n) h = refl

pub device-named : (k : ℕ) (n : Named) (m : Message) → in_range n ≡ true → proper_message k m ≡ true
    → within 24 (device_named n m) ≡ device_named n m
device-named k (Tablet n) m h p = sym (within_in 24 n (omega (arith, leb-true n 7 h)))
device-named k (Slot n) m h p = sym (within_in 24 (addressee m) (addressee-to k m p))
device-named k (Device n) m h p = sym (within_in 24 n (omega (arith, leb-true n 23 h)))
