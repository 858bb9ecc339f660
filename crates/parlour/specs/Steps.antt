-- One step of a run: the rule's effect on the acting device's parts, applied to the run; and the question whether a box may be unplugged.
use Rattle.std.specs.Prelude.{ℕ, ◌^◌, Bool, ltb, ◌≡◌, get_or, set, Result, Ok, Err, Option, Some, None}
use Rattle.sets.specs.Choice.{pick}
use Rattle.sets.specs.Sets.{has, union}
use Rattle.refusals.specs.declared.Refusal.{Refusal}
use Rattle.refusals.specs.declared.Refusal.TheVariants.{NoState, OutOfRange}
use Rattle.refusals.specs.Refusals.{number}
use Rattle.devices.specs.declared.Message.{Message}
use Rattle.devices.specs.declared.Here.{Here}
use Rattle.devices.specs.declared.Effect.{Effect}
use Rattle.devices.specs.declared.Step.{Step}
use Rattle.devices.specs.Contents.{fresh_contents, fresh_tablet}
use Rattle.devices.specs.Effects.{answer_of, kept_after, messages_of}
use Rattle.rules.specs.Table.{row, slot_named, device_named}
use Rattle.rules.specs.Rules.{effect_of}
use Rattle.state.specs.declared.Run.{Run}
use Rattle.state.specs.declared.Stepped.{Stepped}
use Rattle.state.specs.Slots.{empty_slot, is_free, many, laid, freed_if}
use Rattle.state.specs.State.{proper}

-- ---- Which slot and which device a step is about

-- a place below a bound; 0 where there is no such place: what stands there then stays as it is
abbrev pub within : ℕ → ℕ → ℕ
within bound n = pick (ltb n bound) n 0

-- the place in the table of the slot that a step names
abbrev pub slot_of : Step → ℕ
slot_of step = within 128 (slot_named (row step).names)

-- the place among the devices of the step's device: the acting tablet, the addressee, or the device to stop
abbrev pub device_of : Step → Message → ℕ
device_of step m = within 24 (device_named (row step).names m)

-- what a slot holds
abbrev pub message_at : ℕ → Run → Message
message_at slot r = (get_or r.slots slot empty_slot).message

-- ---- What the rule sees, and what its effect does to the run

-- the parts of device d, a tablet where it is one
unfoldable pub here_at : ℕ → Run → Here
here_at d r =
    record {
      contents = get_or r.devices d (fresh_contents 0);
      tablet = get_or r.tablets (within 8 d) fresh_tablet;
      listed = r.listed;
      free = many is_free r.slots;
      stopped = has d r.stopped;
    }

-- "In one step every other device, slot and listed change is as before"
unfoldable pub applied : ℕ → ℕ → Effect → Run → Stepped
applied slot d e r =
    record {
      outcome = e.outcome;
      run = record {
        devices = set r.devices d e.contents;
        tablets = set r.tablets (within 8 d) e.tablet;
        slots = laid (messages_of e.sending) (freed_if e.frees slot r.slots);
        listed = e.listed;
        stopped = pick e.stops (union r.stopped (2 ^ d)) r.stopped;
        kept = kept_after e.outcome r.kept;
        first = r.first;
      };
    }

-- ---- A step

-- the step at its slot and its device
abbrev pub taken_at : Bool → Step → ℕ → Message → Run → Stepped
taken_at proper step slot m r =
    applied slot (device_of step m) (effect_of proper step m (here_at (device_of step m) r)) r

-- a step, told whether the state is one
unfoldable pub taken_if : Bool → Step → Run → Stepped
taken_if proper step r = taken_at proper step (slot_of step) (message_at (slot_of step) r) r

-- one step of a run: number 1 is given exactly where the state is none
unfoldable pub taken : Step → Run → Stepped
taken step r = taken_if (proper r) step r

-- what a step promises: the whole result, and so the answer that the caller is told
pub record StepPromise (step : Step) (r : Run) (s : Stepped) : Type 0 where
  pub settled : s ≡ taken step r
  pub told : answer_of s.outcome ≡ answer_of (taken step r).outcome

-- ---- The unplug question

-- "The answer is yes exactly when it is in the removed set of the kept join"; "The unplug question gives 1, then 2"
unfoldable pub may_unplug : Run → ℕ → Result Bool Refusal
may_unplug r box =
    pick (proper r) (pick (ltb 15 box) (Err OutOfRange) (Ok (has box r.kept.config.removed))) (Err NoState)

-- the answer that each case is: its number, and yes or no
pub record UnplugAnswer : Type 0 where
  pub number : ℕ
  pub may : Option Bool

abbrev pub unplug_answer : Result Bool Refusal → UnplugAnswer
unplug_answer (Ok may) = record { number = 0; may = Some may }
unplug_answer (Err refusal) = record { number = number refusal; may = None }

-- what the question promises
pub record UnplugPromise (r : Run) (box : ℕ) (u : Result Bool Refusal) : Type 0 where
  pub settled : u ≡ may_unplug r box
  pub told : unplug_answer u ≡ unplug_answer (may_unplug r box)
