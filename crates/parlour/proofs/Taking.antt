-- What the stores of one step make of the run is what the rule's effect does to it.
use Prim.Native.Nat.{ℕ, ◌^◌}
use mathlib.Core.Bool.{Bool, true, false}
use mathlib.Core.List.{List}
use mathlib.Core.Path.{◌≡◌, refl, ap, ◌∙◌}
use lib.ListN.{get_or, set}
use lib.Seq.{set-get_or}
use Rattle.sets.specs.Choice.{pick}
use Rattle.sets.specs.Sets.{has, union}
use Rattle.books.specs.declared.Book.{Book}
use Rattle.devices.specs.declared.Message.{Message}
use Rattle.devices.specs.declared.Here.{Here}
use Rattle.devices.specs.declared.Effect.{Effect}
use Rattle.devices.specs.declared.Step.{Step}
use Rattle.devices.specs.Contents.{fresh_contents, fresh_tablet}
use Rattle.devices.specs.Effects.{kept_after, messages_of}
use Rattle.rules.specs.Table.{row}
use Rattle.rules.specs.Rules.{effect_of}
use Rattle.rules.proofs.FreeSlots.{effect-free}
use Rattle.state.specs.declared.Slot.{Slot}
use Rattle.state.specs.declared.Run.{Run}
use Rattle.state.specs.declared.Stepped.{Stepped}
use Rattle.state.specs.Slots.{empty_slot, is_free, many, laid, freed_if}
use Rattle.parlour.specs.Steps.{within, slot_of, device_of, message_at, here_at, applied, taken_at, taken_if}

-- ---- The stores

-- the named slot is stored as it was, or freed
pub freed-store : (frees : Bool) (at : ℕ) (slots : List Slot) → set slots at (pick frees empty_slot (get_or slots at empty_slot)) ≡ freed_if frees at slots
freed-store true at slots = refl
freed-store false at slots = set-get_or slots at empty_slot

-- the run after the stores of an effect, its table given
abbrev pub stored : ℕ → ℕ → List Slot → ℕ → Book → Effect → Run → Run
stored d t slots stopped kept e r =
    record {
      devices = set r.devices d e.contents;
      tablets = set r.tablets t e.tablet;
      slots = slots;
      listed = e.listed;
      stopped = stopped;
      kept = kept;
      first = r.first;
    }

-- that is what the effect does to the run
stored_is : (at d : ℕ) (e : Effect) (r : Run) {t stopped : ℕ} {slot : Slot} {slots : List Slot} {kept : Book} → t ≡ within 8 d
    → slot ≡ pick e.frees empty_slot (get_or r.slots at empty_slot) → stopped ≡ pick e.stops (union r.stopped (2 ^ d)) r.stopped
    → kept ≡ kept_after e.outcome r.kept → slots ≡ laid (messages_of e.sending) (set r.slots at slot)
    → record { outcome = e.outcome; run = stored d t slots stopped kept e r } ≡ applied at d e r
unfolding applied
stored_is at d e r c s u k w =
    rw (w, k, u, s, c)
    (ap (λ (slots : List Slot). with_table (laid (messages_of e.sending) slots)) (freed-store e.frees at r.slots))
  where
    with_table : List Slot → Stepped
    with_table slots =
        record {
          outcome = e.outcome;
          run = stored d (within 8 d) slots (pick e.stops (union r.stopped (2 ^ d)) r.stopped) (kept_after e.outcome r.kept) e r;
        }

-- the parts that the code hands to the rule
abbrev pub seen : ℕ → ℕ → ℕ → Run → Here
seen d t free r =
    record {
      contents = get_or r.devices d (fresh_contents 0);
      tablet = get_or r.tablets t fresh_tablet;
      listed = r.listed;
      free = free;
      stopped = has d r.stopped;
    }

effect_is : (ok : Bool) (step : Step) (m : Message) (r : Run) (free d : ℕ) {t : ℕ} {e : Effect} → t ≡ within 8 d
    → ((row step).counts ≡ true → free ≡ many is_free r.slots) → e ≡ effect_of ok step m (seen d t free r) → e ≡ effect_of ok step m (here_at d r)
unfolding here_at
effect_is ok step m r free d c f g =
    g ∙ ap (λ (t : ℕ). effect_of ok step m (seen d t free r)) c ∙ effect-free ok step m free (here_at d r) f

-- what the code reads at its places and stores there is what the rules say
pub take-is : (ok : Bool) (step : Step) (r : Run) (free : ℕ) {at d t stopped : ℕ} {slot : Slot} {slots : List Slot} {kept : Book} {e : Effect}
    → at ≡ slot_of step → d ≡ device_of step (message_at at r) → t ≡ within 8 d → ((row step).counts ≡ true → free ≡ many is_free r.slots)
    → e ≡ effect_of ok step (message_at at r) (seen d t free r)
    → slot ≡ pick e.frees empty_slot (get_or r.slots at empty_slot) → stopped ≡ pick e.stops (union r.stopped (2 ^ d)) r.stopped
    → kept ≡ kept_after e.outcome r.kept → slots ≡ laid (messages_of e.sending) (set r.slots at slot)
    → record { outcome = e.outcome; run = stored d t slots stopped kept e r } ≡ taken_if ok step r
unfolding taken_if
take-is ok step r free {at} {d} {e = e} a b c f g s u k w =
    stored_is at d e r c s u k w ∙ ap (λ (x : Effect). applied at d x r) (effect_is ok step (message_at at r) r free d c f g)
    ∙ ap (λ (x : ℕ). applied at x (effect_of ok step (message_at at r) (here_at x r)) r) b
    ∙ ap (λ (x : ℕ). taken_at ok step x (message_at x r) r) a

-- the number of free slots, where it matters
pub counted-free : (step : Step) (r : Run) {free : ℕ} → free ≡ pick (row step).counts (many is_free r.slots) 0 → (row step).counts ≡ true
    → free ≡ many is_free r.slots
counted-free step r e t = e ∙ ap (λ (x : Bool). pick x (many is_free r.slots) 0) t
