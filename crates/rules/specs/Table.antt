-- The table of the steps: what each step is about. Whatever is said of all steps reads it, and does not go by the steps.
-- A further step is its rule (specs/Rules, `ruled`) and its row here.
use Rattle.std.specs.Prelude.{ℕ, Bool, true, false, leb, eqb}
use Rattle.sets.specs.Choice.{both}
use Rattle.books.specs.declared.Config.{Config}
use Rattle.books.specs.declared.Book.{Book}
use Rattle.books.specs.Books.{own_notes, no_book}
use Rattle.devices.specs.declared.Message.{Message}
use Rattle.devices.specs.declared.Step.{Step}
use Rattle.devices.specs.declared.Step.TheVariants.{Ask, Advance, Deliver, Lose, Repeat, Stop}
use Rattle.devices.specs.Effects.{addressee}
use Rattle.rules.specs.declared.table.Named.{Named}
use Rattle.rules.specs.declared.table.Named.TheVariants.{Tablet, Slot, Device}
use Rattle.rules.specs.declared.table.About.{About}

-- ---- The columns

pub record Row : Type 0 where
  -- the number that the step names: a tablet's, a slot's or a device's
  pub names : Named
  -- the number of free slots matters to it
  pub counts : Bool
  -- it may change what its device keeps
  pub changes : Bool
  -- it may free the slot that it names
  pub frees : Bool
  -- it may stop its device
  pub stops : Bool
  -- it is an ask
  pub asks : Bool
  -- what it brings
  pub brings : Book

-- an ask brings its tablet's own notes and its pair, any other step nothing
abbrev pub asked : ℕ → ℕ → Config → Book
asked tablet own pair = record { notes = own_notes tablet own; config = pair }

-- ---- The table

abbrev pub row : Step → Row
row (Ask tablet own pair) =
    record { names = Tablet tablet; counts = true; changes = true; frees = false; stops = false; asks = true; brings = asked tablet own pair }
row (Advance tablet) =
    record { names = Tablet tablet; counts = true; changes = true; frees = false; stops = false; asks = false; brings = no_book }
row (Deliver slot) =
    record { names = Slot slot; counts = false; changes = true; frees = true; stops = false; asks = false; brings = no_book }
row (Lose slot) =
    record { names = Slot slot; counts = false; changes = false; frees = true; stops = false; asks = false; brings = no_book }
row (Repeat slot) =
    record { names = Slot slot; counts = true; changes = false; frees = false; stops = false; asks = false; brings = no_book }
row (Stop device) =
    record { names = Device device; counts = false; changes = false; frees = false; stops = true; asks = false; brings = no_book }

-- the columns that the code reads
abbrev pub about_step : Step → About
about_step step = record { names = (row step).names; counts = (row step).counts }

-- ---- What the number says that a step names

-- "tablet over 7, slot over 127, device over 23" are refused by 2
abbrev pub in_range : Named → Bool
in_range (Tablet n) = leb n 7
in_range (Slot n) = leb n 127
in_range (Device n) = leb n 23

-- the slot that is named; where none is, slot 0, which then stays as it is
abbrev pub slot_named : Named → ℕ
slot_named (Tablet n) = 0
slot_named (Slot n) = n
slot_named (Device n) = 0

-- the step's device: the acting tablet, the addressee of the slot's message, or the device to stop
abbrev pub device_named : Named → Message → ℕ
device_named (Tablet n) m = n
device_named (Slot n) m = addressee m
device_named (Device n) m = n

-- the tablet is named
abbrev pub names_tablet : ℕ → Named → Bool
names_tablet t (Tablet n) = eqb n t
names_tablet t (Slot n) = false
names_tablet t (Device n) = false

-- the step is an ask of the tablet
abbrev pub is_ask_of : ℕ → Step → Bool
is_ask_of t step = both (row step).asks (names_tablet t (row step).names)
