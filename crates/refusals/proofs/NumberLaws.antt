-- A number names one refusal, and none is 0.
use Prim.Native.Nat.{ℕ, ◌<◌}
use mathlib.Core.List.{List, [], ◌∷◌}
use mathlib.Core.Path.{◌≡◌, refl, sym, ap, ◌∙◌}
use native.Mathlib.Omega.{arith}
use lib.ListN.{get_or}
use Rattle.refusals.specs.Refusals.{number}
use Rattle.refusals.specs.declared.Refusal.{Refusal}
use Rattle.refusals.specs.declared.Refusal.TheVariants.{NoState, OutOfRange, Stopped, Asking, Idle, NotAllowed, EmptySlot, SeventhChange, LastRound, NoRoom, TapeTooLong, NoFirstBox, EndsTooSoon, NoStep, BehindTheEnd, RowTooShort}

-- the refusals from number 1 on
in_order : List Refusal
in_order =
    NoState
    ∷ OutOfRange
    ∷ Stopped
    ∷ Asking
    ∷ Idle
    ∷ NotAllowed
    ∷ EmptySlot
    ∷ SeventhChange
    ∷ LastRound
    ∷ NoRoom
    ∷ TapeTooLong
    ∷ NoFirstBox
    ∷ EndsTooSoon
    ∷ NoStep
    ∷ BehindTheEnd
    ∷ RowTooShort
    ∷ []

-- the refusal of a number
named : ℕ → Refusal
named n = get_or (RowTooShort ∷ in_order) n RowTooShort

named-number : (e : Refusal) → named (number e) ≡ e
unfolding named in_order
named-number NoState = refl
named-number OutOfRange = refl
named-number Stopped = refl
named-number Asking = refl
named-number Idle = refl
named-number NotAllowed = refl
named-number EmptySlot = refl
named-number SeventhChange = refl
named-number LastRound = refl
named-number NoRoom = refl
named-number TapeTooLong = refl
named-number NoFirstBox = refl
named-number EndsTooSoon = refl
named-number NoStep = refl
named-number BehindTheEnd = refl
named-number RowTooShort = refl

pub number-one : (d e : Refusal) → number d ≡ number e → d ≡ e
number-one d e h = sym (named-number d) ∙ ap named h ∙ named-number e

pub number-some : (e : Refusal) → 0 < number e
number-some NoState = omega arith
number-some OutOfRange = omega arith
number-some Stopped = omega arith
number-some Asking = omega arith
number-some Idle = omega arith
number-some NotAllowed = omega arith
number-some EmptySlot = omega arith
number-some SeventhChange = omega arith
number-some LastRound = omega arith
number-some NoRoom = omega arith
number-some TapeTooLong = omega arith
number-some NoFirstBox = omega arith
number-some EndsTooSoon = omega arith
number-some NoStep = omega arith
number-some BehindTheEnd = omega arith
number-some RowTooShort = omega arith
