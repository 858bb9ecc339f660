-- The laying of the messages of one step: one turn for each device, where it is no addressee (`lay-skip`), where the next free slot takes its message
-- (`lay-store`) and where none is left (`lay-full`); and the end (`lay_done`).
use Prim.Native.Nat.{ℕ, suc, ◌+◌, ◌-◌, ◌≤◌, ◌<◌}
use mathlib.Core.Bool.{true, false}
use mathlib.Core.List.{List, [], ◌∷◌}
use mathlib.Core.Path.{◌≡◌, sym, ap, ◌∙◌}
use native.Mathlib.Numerals.{add-one}
use native.Mathlib.Omega.{arith}
use lib.ListN.{take, drop, set, length, length-drop}
use lib.Seq.{take_all}
use Rattle.sets.specs.Sets.{has}
use Rattle.devices.specs.declared.Message.{Message}
use Rattle.devices.specs.Effects.{addressed, copies}
use Rattle.state.specs.declared.Slot.{Slot}
use Rattle.state.specs.Slots.{is_free}
use Rattle.state.proofs.SlotLaws.{holding, laid_from, laid-from-none, laid-first, laid-full}
use Rattle.std.specs.Prelude.{Some, None, position}

-- ---- The messages of a sending, from device q on

module _ (m : Message) (to q : ℕ) (h : q < 24) where
  left : 24 - q ≡ suc (24 - (q + 1))
  left = omega arith

  pub copies-in : has q to ≡ true → copies m to q (24 - q) ≡ addressed m q ∷ copies m to (q + 1) (24 - (q + 1))
  unfolding copies
  copies-in e = ap (copies m to q) left ∙ rw (e, add-one q)

  pub copies-out : has q to ≡ false → copies m to q (24 - q) ≡ copies m to (q + 1) (24 - (q + 1))
  unfolding copies
  copies-out e = ap (copies m to q) left ∙ rw (e, add-one q)

pub copies-end : (m : Message) (to q : ℕ) → 24 ≤ q → copies m to q (24 - q) ≡ []
unfolding copies
copies-end m to q h =
    let e : 24 - q ≡ 0 = omega arith in
    ap (copies m to q) e

-- all that stands from a place on
pub rest_whole : (p : ℕ) (slots : List Slot) → length slots ≡ 128 → take (128 - p) (drop p slots) ≡ drop p slots
rest_whole p slots long = take_all (128 - p) (drop p slots) (omega (arith, long, length-drop p slots))

-- ---- The laying: what is laid and what is left to lay make up the whole

-- from slot p and device q on
abbrev pub Laying : Message → ℕ → List Slot → ℕ → ℕ → List Slot → Type 0
Laying m to whole p q slots = laid_from p (copies m to q (24 - q)) slots ≡ whole

module _ (m : Message) (to : ℕ) (whole : List Slot) (p q : ℕ) (slots : List Slot) where
  -- a device that is no addressee is passed
  pub lay-skip : q < 24 → has q to ≡ false → Laying m to whole p q slots → Laying m to whole p (q + 1) slots
  lay-skip h e i = ap (λ (ms : List Message). laid_from p ms slots) (sym (copies-out m to q h e)) ∙ i

  -- the next free slot takes the message
  pub lay-store : {copy : Message} {p' : ℕ} {slots' : List Slot} (place : ℕ) → q < 24 → has q to ≡ true → position is_free (drop p slots) ≡ Some place
      → copy ≡ addressed m q → p' ≡ p + (place + 1) → slots' ≡ set slots (p + place) (holding copy) → Laying m to whole p q slots
      → (p' ≤ length slots) × Laying m to whole p' (q + 1) slots'
  lay-store place h e f c n s i =
      let first = laid-first (addressed m q) (copies m to (q + 1) (24 - (q + 1))) slots p place f in
      let next : p + (place + 1) ≡ p + place + 1 = omega arith in
      rw (n, s, c, next)
      (omega (arith, first.0), first.1 ∙ ap (λ (ms : List Message). laid_from p ms slots) (sym (copies-in m to q h e)) ∙ i)

  -- no free slot is left, or no device
  pub lay-full : q < 24 → has q to ≡ true → p ≤ length slots → position is_free (drop p slots) ≡ None → Laying m to whole p q slots → slots ≡ whole
  lay-full h e l f i =
      sym (laid-full (addressed m q) (copies m to (q + 1) (24 - (q + 1))) slots p l f)
      ∙ ap (λ (ms : List Message). laid_from p ms slots) (sym (copies-in m to q h e)) ∙ i

  pub lay_done : 24 ≤ q → Laying m to whole p q slots → slots ≡ whole
  lay_done h i = sym (laid-from-none p slots) ∙ ap (λ (ms : List Message). laid_from p ms slots) (sym (copies-end m to q h)) ∙ i
