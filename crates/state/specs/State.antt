-- The state of a run (01, "What each device keeps"): the fresh one, and which states are none, refused by 1.
use Rattle.std.specs.Prelude.{ℕ, ◌/◌, ◌^◌, Bool, true, false, not, List, ◌≡◌, ltb, leb, eqb, replicate, Ok, Err}
use Rattle.sets.specs.Choice.{pick, both}
use Rattle.sets.specs.Bounded.{each}
use Rattle.refusals.specs.declared.Refusal.TheVariants.{NoFirstBox}
use Rattle.books.specs.declared.Listed.{Listed}
use Rattle.books.specs.Books.{no_config, same_config}
use Rattle.books.specs.Queried.{change_at}
use Rattle.devices.specs.declared.Contents.{Contents}
use Rattle.devices.specs.declared.Tablet.{Tablet}
use Rattle.devices.specs.declared.Phase.{Phase}
use Rattle.devices.specs.declared.Phase.TheVariants.{Idle, Asks}
use Rattle.devices.specs.declared.Letter.{Letter}
use Rattle.devices.specs.declared.Message.{Message}
use Rattle.devices.specs.declared.Message.TheVariants.{Empty, Request, Answer, Commit}
use Rattle.devices.specs.declared.Accepted.TheVariants.{Done}
use Rattle.devices.specs.Effects.{answer_of}
use Rattle.devices.specs.Contents.{fresh_contents, fresh_tablet}
use Rattle.state.specs.declared.Slot.{Slot}
use Rattle.state.specs.declared.Run.{Run}
use Rattle.state.specs.declared.Stepped.{Stepped}
use Rattle.state.specs.Slots.{empty_slot, all}

-- "Fresh: .. no change is listed, no slot is filled, no device is stopped"; the kept join is the fresh book
unfoldable pub fresh : ℕ → Run
fresh first =
    record {
      devices = replicate 24 (fresh_contents first);
      tablets = replicate 8 fresh_tablet;
      slots = replicate 128 empty_slot;
      listed = record { changes = replicate 6 no_config; count = 0 };
      stopped = 0;
      kept = (fresh_contents first).v;
      first = first;
    }

-- "Starting a run gives 12 or 0"
unfoldable pub started : ℕ → Stepped
started first = record { outcome = pick (eqb first 0) (Err NoFirstBox) (Ok Done); run = fresh first }

-- what starting a run promises: the whole result, and so the answer that the caller is told
pub record StartPromise (first : ℕ) (s : Stepped) : Type 0 where
  pub settled : s ≡ started first
  pub told : answer_of s.outcome ≡ answer_of (started first).outcome

-- ---- A proper state: none of the cases of number 1

-- "a set naming an unlisted change": t names none beyond the n listed
abbrev pub names_listed : ℕ → ℕ → Bool
names_listed n t = eqb (t / 2 ^ n) 0

-- "two equal changes": each differs from those before it
unfoldable pub all_different : Listed → Bool
all_different listed =
    each listed.count (λ later. each later (λ earlier. not (same_config (change_at listed earlier) (change_at listed later))))

-- of what a device keeps: its T
abbrev pub proper_contents : ℕ → Contents → Bool
proper_contents n c = names_listed n c.t

-- the set saved by an asking tablet names listed changes
abbrev pub proper_phase : ℕ → Phase → Bool
proper_phase n Idle = true
proper_phase n (Asks a) = names_listed n a.t

-- "a round over 1,023"
abbrev pub proper_tablet : ℕ → Tablet → Bool
proper_tablet n x = both (leb x.round 1023) (proper_phase n x.phase)

-- "8 tablets (devices 0 to 7), 16 boxes (0 to 15, devices 8 to 23)"
abbrev pub is_tablet : ℕ → Bool
is_tablet d = ltb d 8

abbrev pub is_box : ℕ → Bool
is_box d = both (leb 8 d) (ltb d 24)

-- of a request or an answer: its round and its T
abbrev pub proper_letter : ℕ → Letter → Bool
proper_letter n l = both (leb l.round 1023) (names_listed n l.contents.t)

-- "a message with wrong kind of sender or addressee": a request goes from tablet to box, an answer from box to tablet, a commit from tablet to device
abbrev pub proper_message : ℕ → Message → Bool
proper_message n Empty = true
proper_message n (Request l) = both (both (is_tablet l.from) (is_box l.to)) (proper_letter n l)
proper_message n (Answer l) = both (both (is_box l.from) (is_tablet l.to)) (proper_letter n l)
proper_message n (Commit c) = both (is_tablet c.from) (ltb c.to 24)

-- the same, asked only where no more than six changes are listed
abbrev pub proper_up_to : ℕ → Message → Bool
proper_up_to n m = pick (ltb 6 n) false (proper_message n m)

-- of what a slot holds
abbrev pub proper_slot : ℕ → Slot → Bool
proper_slot n s = proper_message n s.message

-- everything but the slots
unfoldable pub proper_desk : Listed → List Contents → List Tablet → Bool
proper_desk listed devices tablets =
    both (leb listed.count 6)
    (both (all_different listed)
    (both (all (proper_contents listed.count) devices) (all (proper_tablet listed.count) tablets)))

-- the state is one: number 1 is given exactly where this fails
unfoldable pub proper : Run → Bool
proper r = both (proper_desk r.listed r.devices r.tablets) (all (proper_slot r.listed.count) r.slots)
