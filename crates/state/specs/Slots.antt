-- The table of message slots (01, "The parlour and what we leave to others", "The steps").
use Rattle.std.specs.Prelude.{ℕ, suc, Bool, true, List, [], ◌∷◌, set}
use Rattle.sets.specs.Choice.{pick, both}
use Rattle.devices.specs.declared.Message.{Message}
use Rattle.devices.specs.declared.Message.TheVariants.{Empty}
use Rattle.devices.specs.Effects.{is_empty}
use Rattle.state.specs.declared.Slot.{Slot}

-- a slot with nothing in it
abbrev pub empty_slot : Slot
empty_slot = record { message = Empty }

-- a slot is free
abbrev pub is_free : Slot → Bool
is_free s = is_empty s.message

module _ {A : Type 0} (p : A → Bool) where
  -- the test holds of all
  unfoldable pub all : List A → Bool
  all [] = true
  all (x ∷ xs) = both (p x) (all xs)

  -- of how many the test holds
  unfoldable pub many : List A → ℕ
  many [] = 0
  many (x ∷ xs) = pick (p x) (suc (many xs)) (many xs)

-- "New messages take the lowest free slots, in order."
unfoldable pub laid : List Message → List Slot → List Slot
laid [] slots = slots
laid (m ∷ ms) [] = []
laid (m ∷ ms) (s ∷ slots) = pick (is_free s) (record { message = m } ∷ laid ms slots) (s ∷ laid (m ∷ ms) slots)

-- the table with a slot freed, or as it is
abbrev pub freed_if : Bool → ℕ → List Slot → List Slot
freed_if frees slot slots = pick frees (set slots slot empty_slot) slots
