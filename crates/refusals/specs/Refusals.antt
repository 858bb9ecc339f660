-- The numbers a caller gets back (01).
use Rattle.std.specs.Prelude.{ℕ}
use Rattle.refusals.specs.declared.Refusal.{Refusal}
use Rattle.refusals.specs.declared.Refusal.TheVariants.{NoState, OutOfRange, Stopped, Asking, Idle, NotAllowed, EmptySlot, SeventhChange, LastRound, NoRoom, TapeTooLong, NoFirstBox, EndsTooSoon, NoStep, BehindTheEnd, RowTooShort}

-- the number of a refusal, as the table lists them
abbrev pub number : Refusal → ℕ
number NoState = 1
number OutOfRange = 2
number Stopped = 3
number Asking = 4
number Idle = 5
number NotAllowed = 6
number EmptySlot = 7
number SeventhChange = 8
number LastRound = 9
number NoRoom = 10
number TapeTooLong = 11
number NoFirstBox = 12
number EndsTooSoon = 13
number NoStep = 14
number BehindTheEnd = 15
number RowTooShort = 16
