-- What an effect makes of a run. The acting device's parts are the effect's, every other device and tablet is as it was (`device-now`,
-- `device-other`, `tablet-now`, `tablet-other`), and so is every filled slot that is not freed (`slot-other`). What lies in a slot lay in one
-- before or is sent now (`message-from`). The lists keep their lengths (`sized-applied`). A refusal leaves the run (`refusal-leaves`).
use Prim.Native.Nat.{ℕ, zero, suc, ◌+◌, ◌<◌, ◌≤◌}
use mathlib.Core.Bool.{Bool, true, false, true≢false}
use mathlib.Core.Path.{◌≡◌, refl, ap, ap₂, subst, sym, ◌∙◌}
use mathlib.Core.Logic.{◌⊎◌, inl, inr}
use mathlib.Core.List.{List, ◌∷◌}
use native.Mathlib.Nat.{le_refl, lt_irrefl}
use native.Mathlib.Omega.{arith}
use lib.ListN.{length, get_or, length-set}
use lib.Seq.{get_or-set_same, get_or-set_other, set-get_or}
use Rattle.sets.specs.Choice.{pick}
use Rattle.sets.specs.Sets.{has}
use Rattle.refusals.specs.declared.Refusal.{Refusal}
use Rattle.devices.specs.declared.Contents.{Contents}
use Rattle.devices.specs.declared.Tablet.{Tablet}
use Rattle.devices.specs.declared.Message.{Message}
use Rattle.devices.specs.declared.Message.TheVariants.{Empty}
use Rattle.devices.specs.declared.Sending.{Sending}
use Rattle.devices.specs.declared.Effect.{Effect}
use Rattle.devices.specs.Contents.{fresh_contents, fresh_tablet}
use Rattle.devices.specs.Effects.{addressed, is_empty, copies, messages_of, refuse}
use Rattle.state.specs.declared.Slot.{Slot}
use Rattle.state.specs.declared.Run.{Run}
use Rattle.state.specs.Slots.{empty_slot, is_free, laid, freed_if}
use Rattle.state.proofs.SlotLaws.{replaced-at, OneOf, laid-at, laid-keeps, length-laid}
use Rattle.state.proofs.StateLaws.{Sized}
use Rattle.parlour.specs.Steps.{within, message_at, here_at, applied}
use Rattle.parlour.specs.Statements.{device_at, tablet_at}
use Rattle.parlour.proofs.Places.{within-lt}

-- ---- Devices and tablets

module _ (slot d : ℕ) (e : Effect) (r : Run) where
  pub device-now : Sized r → d < 24 → device_at d (applied slot d e r).run ≡ e.contents
  unfolding applied
  device-now s l = get_or-set_same r.devices d e.contents (fresh_contents 0) (omega (arith, s.devices))

  pub device-other : (q : ℕ) → (q ≡ d → ⊥) → device_at q (applied slot d e r).run ≡ device_at q r
  unfolding applied
  device-other q n = get_or-set_other r.devices d q e.contents (fresh_contents 0) n

  pub tablet-now : Sized r → tablet_at (within 8 d) (applied slot d e r).run ≡ e.tablet
  unfolding applied
  tablet-now s = get_or-set_same r.tablets (within 8 d) e.tablet fresh_tablet (omega (arith, s.tablets, within-lt 8 d (omega arith)))

  pub tablet-other : (q : ℕ) → (q ≡ within 8 d → ⊥) → tablet_at q (applied slot d e r).run ≡ tablet_at q r
  unfolding applied
  tablet-other q n = get_or-set_other r.tablets (within 8 d) q e.tablet fresh_tablet n

-- ---- Slots

freed-other : (frees : Bool) (slot : ℕ) (slots : List Slot) (k : ℕ) → (frees ≡ false) ⊎ (k ≡ slot → ⊥)
    → get_or (freed_if frees slot slots) k empty_slot ≡ get_or slots k empty_slot
freed-other false slot slots k h = refl
freed-other true slot slots k (inl e) = absurd (true≢false e)
freed-other true slot slots k (inr n) = get_or-set_other slots slot k empty_slot empty_slot n

pub slot-other : (slot d : ℕ) (e : Effect) (r : Run) (k : ℕ) → is_empty (message_at k r) ≡ false → (e.frees ≡ false) ⊎ (k ≡ slot → ⊥)
    → message_at k (applied slot d e r).run ≡ message_at k r
unfolding applied
slot-other slot d e r k h n =
    let q = freed-other e.frees slot r.slots k n in
    ap (λ (s : Slot). s.message) (laid-keeps (messages_of e.sending) (freed_if e.frees slot r.slots) k (ap is_free q ∙ h) ∙ q)

-- where a message in a slot comes from: nowhere, a slot before, or what is sent now
pub data Source (r : Run) (sending : Sending) : Message → Type 0 where
  none : Source r sending Empty
  stayed : (k : ℕ) → Source r sending (message_at k r)
  sent : (d : ℕ) → d < 24 → has d sending.to ≡ true → Source r sending (addressed sending.message d)

-- every copy of a message goes to a device of the set
copies-from : (P : Message → Type 0) (m : Message) (to d k : ℕ) → ((j : ℕ) → d ≤ j → j < d + k → has j to ≡ true → P (addressed m j))
    → (i : ℕ) → i < length (copies m to d k) → P (get_or (copies m to d k) i Empty)
unfolding copies
copies-from P m to d zero f i l = absurd (lt_irrefl 0 (omega arith))
copies-from P m to d (suc k) f i l = go (has d to) refl (copies-from P m to (suc d) k (λ j u v. f j (omega arith) (omega arith))) i l
  where
    rest : List Message
    rest = copies m to (suc d) k

    go : (b : Bool) → has d to ≡ b → ((i : ℕ) → i < length rest → P (get_or rest i Empty)) → (i : ℕ)
        → i < length (pick b (addressed m d ∷ rest) rest) → P (get_or (pick b (addressed m d ∷ rest) rest) i Empty)
    go true e g zero u = f d (le_refl d) (omega arith) e
    go true e g (suc i) u = g i (omega arith)
    go false e g i u = g i u

-- a freed slot holds nothing
freed-from : (P : Message → Type 0) → P Empty → (frees : Bool) (slot : ℕ) (slots : List Slot) → ((k : ℕ) → P (get_or slots k empty_slot).message)
    → (k : ℕ) → P (get_or (freed_if frees slot slots) k empty_slot).message
freed-from P e false slot slots f k = f k
freed-from P e true slot slots f k =
    replaced-at (λ (a b : Slot). P a.message → P b.message) (λ s p. p) empty_slot slots slot empty_slot (λ p. e) k (f k)

pub message-from : (slot d : ℕ) (e : Effect) (r : Run) (k : ℕ) → Source r e.sending (message_at k (applied slot d e r).run)
unfolding applied
message-from slot d e r k = go (laid-at ms slots k)
  where
    ms : List Message
    ms = messages_of e.sending

    slots : List Slot
    slots = freed_if e.frees slot r.slots

    P : Slot → Type 0
    P s = Source r e.sending s.message

    go : (get_or (laid ms slots) k empty_slot ≡ get_or slots k empty_slot) ⊎ OneOf ms (get_or (laid ms slots) k empty_slot)
        → P (get_or (laid ms slots) k empty_slot)
    go (inl q) = subst P (sym q) (freed-from (Source r e.sending) none e.frees slot r.slots stayed k)
    go (inr o) =
        subst P (sym o.same)
        (copies-from (Source r e.sending) e.sending.message e.sending.to 0 24 (λ j u v h. sent j (omega arith) h) o.which o.below)

-- ---- The lists keep their lengths

freed-length : (frees : Bool) (slot : ℕ) (slots : List Slot) → length (freed_if frees slot slots) ≡ length slots
freed-length true slot slots = length-set slots slot empty_slot
freed-length false slot slots = refl

pub sized-applied : (slot d : ℕ) (e : Effect) (r : Run) → Sized r → length e.listed.changes ≡ 6 → Sized (applied slot d e r).run
unfolding applied
sized-applied slot d e r s l =
    record {
      devices = length-set r.devices d e.contents ∙ s.devices;
      tablets = length-set r.tablets (within 8 d) e.tablet ∙ s.tablets;
      slots =
          length-laid (messages_of e.sending) (freed_if e.frees slot r.slots) ∙ freed-length e.frees slot r.slots ∙ s.slots;
      changes = l;
    }

-- ---- A refusal

-- the parts are stored as they were read, in any state
pub refusal-leaves : (n : Refusal) (slot d : ℕ) (r : Run) → (applied slot d (refuse n (here_at d r)) r).run ≡ r
unfolding applied refuse here_at laid copies
refusal-leaves n slot d r =
    ap₂ (λ (devices : List Contents) (tablets : List Tablet).
    record {
      devices = devices;
      tablets = tablets;
      slots = r.slots;
      listed = r.listed;
      stopped = r.stopped;
      kept = r.kept;
      first = r.first;
    })
    (set-get_or r.devices d (fresh_contents 0)) (set-get_or r.tablets (within 8 d) fresh_tablet)
