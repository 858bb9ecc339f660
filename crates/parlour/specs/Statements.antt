-- What holds of every step beside what it does (01, "The steps", "How far a contract must reach"; 001, Section 5): a contract settles its result,
-- a refusal leaves the state, a step leaves all others as before, a run stays proper, contents only grow, T is outstanding,
-- rounds go up by 1, new messages take the lowest free slots.
-- It is proved in proofs/Statements, of every state and every step; where a run is meant, it says so.
use Rattle.std.specs.Prelude.{ℕ, ◌+◌, ◌<◌, ◌≤◌, true, false, not, List, [], ◌∷◌, ◌⊎◌, ◌≡◌, get_or, take, length, Bool, Result, Ok, Err}
use Rattle.sets.specs.Settles.{Settles}
use Rattle.sets.specs.Sets.{has}
use Rattle.refusals.specs.declared.Refusal.{Refusal}
use Rattle.books.specs.declared.Listed.{Listed}
use Rattle.books.specs.Books.{notes_inside, config_inside, book_inside}
use Rattle.books.specs.Queried.{change_at}
use Rattle.devices.specs.declared.Contents.{Contents}
use Rattle.devices.specs.declared.Tablet.{Tablet}
use Rattle.devices.specs.declared.Message.{Message}
use Rattle.devices.specs.declared.Message.TheVariants.{Empty}
use Rattle.devices.specs.declared.Accepted.TheVariants.{Done, Round}
use Rattle.devices.specs.declared.Step.{Step}
use Rattle.devices.specs.declared.Step.TheVariants.{Advance}
use Rattle.devices.specs.Contents.{fresh_contents, fresh_tablet, merged}
use Rattle.devices.specs.Effects.{Outcome, number_of, is_empty}
use Rattle.rules.specs.Table.{row, slot_named, device_named, is_ask_of}
use Rattle.state.specs.declared.Slot.{Slot}
use Rattle.state.specs.declared.Run.{Run}
use Rattle.state.specs.declared.Stepped.{Stepped}
use Rattle.state.specs.Slots.{empty_slot, is_free, all, many, laid}
use Rattle.state.specs.State.{fresh, proper}
use Rattle.parlour.specs.Steps.{slot_of, message_at, taken, StepPromise, UnplugPromise}

-- what a device keeps, and a tablet's own part
abbrev pub device_at : ℕ → Run → Contents
device_at d r = get_or r.devices d (fresh_contents 0)

abbrev pub tablet_at : ℕ → Run → Tablet
tablet_at t r = get_or r.tablets t fresh_tablet

-- ---- "Show that two results meeting it are equal"

-- each public call, with its contract
pub record Settled : Type 0 where
  pub step : (run : Run) (step : Step) → Settles (λ (r : Stepped). StepPromise step run r)
  pub ask : (run : Run) (tablet notes added removed : ℕ)
      → Settles (λ (r : Stepped). StepPromise (Step.Ask tablet notes (record { added = added; removed = removed })) run r)
  pub advance : (run : Run) (tablet : ℕ) → Settles (λ (r : Stepped). StepPromise (Step.Advance tablet) run r)
  pub deliver : (run : Run) (slot : ℕ) → Settles (λ (r : Stepped). StepPromise (Step.Deliver slot) run r)
  pub lose : (run : Run) (slot : ℕ) → Settles (λ (r : Stepped). StepPromise (Step.Lose slot) run r)
  pub repeat : (run : Run) (slot : ℕ) → Settles (λ (r : Stepped). StepPromise (Step.Repeat slot) run r)
  pub stop : (run : Run) (device : ℕ) → Settles (λ (r : Stepped). StepPromise (Step.Stop device) run r)
  pub may_unplug : (run : Run) (number : ℕ) → Settles (λ (r : Result Bool Refusal). UnplugPromise run number r)

-- ---- "A refusal carries no book, row or length; state and buffers stay as given."

abbrev pub RefusalsLeave : Type 0
RefusalsLeave = (step : Step) (r : Run) (refusal : Refusal) → (taken step r).outcome ≡ Err refusal → (taken step r).run ≡ r

-- ---- "In one step every other device, slot and listed change is as before."

-- the device that may change
abbrev pub Acting : Step → Message → ℕ → Type 0
Acting step m q = ((row step).changes ≡ true) × (q ≡ device_named (row step).names m)

-- the slot that may be freed
abbrev pub Frees : Step → ℕ → Type 0
Frees step k = ((row step).frees ≡ true) × (k ≡ slot_named (row step).names)

-- the device that may be stopped
abbrev pub Halts : Step → Message → ℕ → Type 0
Halts step m q = ((row step).stops ≡ true) × (q ≡ device_named (row step).names m)

pub record OthersStay (step : Step) (before after : Run) : Type 0 where
  -- every other device, and a tablet's own part
  pub devices : (q : ℕ) → (Acting step (message_at (slot_of step) before) q → ⊥) → device_at q after ≡ device_at q before
  pub tablets : (q : ℕ) → (Acting step (message_at (slot_of step) before) q → ⊥) → tablet_at q after ≡ tablet_at q before
  -- every other filled slot
  pub slots : (k : ℕ) → (Frees step k → ⊥) → is_empty (message_at k before) ≡ false → message_at k after ≡ message_at k before
  -- every listed change; the list is "never shortened"
  pub listed : (k : ℕ) → k < before.listed.count → change_at before.listed k ≡ change_at after.listed k
  pub longer : before.listed.count ≤ after.listed.count
  -- "Stop (device): for good"
  pub stopped : (q : ℕ) → (Halts step (message_at (slot_of step) before) q → ⊥) → has q after.stopped ≡ has q before.stopped
  pub for_good : (q : ℕ) → has q before.stopped ≡ true → has q after.stopped ≡ true
  -- the first boxes stay, and the kept join only grows
  pub first : after.first ≡ before.first
  pub kept : book_inside before.kept after.kept ≡ true

-- ---- The fresh state is a proper one, and every step keeps it so

-- the state after some steps, the first of them first
unfoldable pub ran : Run → List Step → Run
ran r [] = r
ran r (step ∷ later) = ran (taken step r).run later

pub record ProperStays : Type 0 where
  pub fresh_is : (first : ℕ) → proper (fresh first) ≡ true
  -- the list of changes has its six places in every state that a call takes or gives
  pub stays : (step : Step) (r : Run) → length r.listed.changes ≡ 6 → proper r ≡ true → proper (taken step r).run ≡ true
  -- so no step of a run from a fresh start is refused by 1
  pub never_1 : (first : ℕ) (steps : List Step) (step : Step) → number_of (taken step (ran (fresh first) steps)).outcome ≡ 1 → ⊥

-- ---- Contents only grow (001, Property 5.1 and Lemma 5.1)

-- the order of Property 5.1: the new v and candidates contain the old, and each change of the old T is in the new T or contained in the new v's configuration
pub record Grown (listed : Listed) (old new : Contents) : Type 0 where
  pub v : book_inside old.v new.v ≡ true
  pub candidates : notes_inside old.candidates new.candidates ≡ true
  pub changes : (k : ℕ) → k < 6 → has k old.t ≡ true
      → (has k new.t ≡ true) ⊎ (config_inside (change_at listed k) new.v.config ≡ true)

pub record ContentsGrow : Type 0 where
  -- "the reflexivity .. and transitivity" of Property 5.1
  pub same : (listed : Listed) (c : Contents) → Grown listed c c
  pub through : (listed : Listed) (a b c : Contents) → Grown listed a b → Grown listed b c → Grown listed a c
  -- Lemma 5.1: a merge is above both sides
  pub above_mine : (listed : Listed) (mine theirs : Contents) → Grown listed mine (merged listed mine theirs)
  pub above_theirs : (listed : Listed) (mine theirs : Contents) → Grown listed theirs (merged listed mine theirs)
  -- so no step takes anything from any device
  pub in_a_step : (step : Step) (r : Run) (d : ℕ) → Grown (taken step r).run.listed (device_at d r) (device_at d (taken step r).run)

-- ---- "a set T of listed changes not contained in v's configuration"

-- each change of a device's T is listed, and v's configuration does not contain it
abbrev pub Outstanding : Listed → Contents → Type 0
Outstanding listed c =
    (k : ℕ) → has k c.t ≡ true → (k < listed.count) × (config_inside (change_at listed k) c.v.config ≡ false)

-- so it is of every device, in every state of a run from a fresh start
abbrev pub AllOutstanding : Type 0
AllOutstanding = (first : ℕ) (steps : List Step) (d : ℕ) → d < 24
    → Outstanding (ran (fresh first) steps).listed (device_at d (ran (fresh first) steps))

-- ---- "Begin a round. Round plus 1"

-- the step began round n of tablet q: an ask of it that is done, or its Advance, which answers with the round
abbrev pub Began : Step → Outcome → ℕ → ℕ → Type 0
Began step answer q n = ((is_ask_of q step ≡ true) × (answer ≡ Ok Done)) ⊎ ((step ≡ Advance q) × (answer ≡ Ok (Round n)))

-- a round is the old one, or the old one plus 1 where the step began it
abbrev pub RoundMoves : Step → Outcome → ℕ → ℕ → ℕ → Type 0
RoundMoves step answer q old new = (new ≡ old) ⊎ ((new ≡ old + 1) × Began step answer q new)

-- so it is of every step and every tablet's round
abbrev pub RoundsMove : Type 0
RoundsMove = (step : Step) (r : Run) (q : ℕ)
    → RoundMoves step (taken step r).outcome q (tablet_at q r).round (tablet_at q (taken step r).run).round

-- ---- "New messages take the lowest free slots, in order."

pub record LowestFree (ms : List Message) (slots : List Slot) : Type 0 where
  -- a free slot takes the message whose number is how many free slots stand before it, and stays free where there are no more
  pub free : (k : ℕ) → k < length slots → is_free (get_or slots k empty_slot) ≡ true
      → (get_or (laid ms slots) k empty_slot).message ≡ get_or ms (many is_free (take k slots)) Empty
  -- a filled slot takes none
  pub filled : (k : ℕ) → is_free (get_or slots k empty_slot) ≡ false → get_or (laid ms slots) k empty_slot ≡ get_or slots k empty_slot
  -- where there are free slots enough, each message takes one
  pub enough : all (λ (m : Message). not (is_empty m)) ms ≡ true → length ms ≤ many is_free slots
      → many is_free (laid ms slots) + length ms ≡ many is_free slots

-- ---- All of it

pub record Statements : Type 0 where
  pub settled : Settled
  pub refusals_leave : RefusalsLeave
  pub others_stay : (step : Step) (r : Run) → OthersStay step r (taken step r).run
  pub proper_stays : ProperStays
  pub contents_grow : ContentsGrow
  pub all_outstanding : AllOutstanding
  pub rounds_move : RoundsMove
  pub lowest_free : (ms : List Message) (slots : List Slot) → LowestFree ms slots
