-- What is laid, and what is left to lay from slot `next` and this device on, make up the whole.
use Rattle.std.proofs.Common.{◌≡◌, ◌≤◌, length}
use Rattle.devices.specs.Effects.{messages_of}
use Rattle.state.specs.Slots.{laid}
use Rattle.parlour.proofs.Laying.{Laying}
use Rattle.parlour.proofs.lay.Given as goal

abbrev pub invariant-loop-device : goal.invariant-loop-device
invariant-loop-device l = record {
  long : length l.slots ≡ 128;
  within : l.next ≤ 128;
  laying : Laying l.sending.message l.sending.to (laid (messages_of l.sending) l.initial.slots) l.next l.device l.slots;
}
