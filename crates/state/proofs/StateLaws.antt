-- Laws of the state of a run: how long its lists are (`Sized`); that no two listed changes are equal (`changes-differ`);
-- that a state is proper exactly where each of its parts is, place by place (`proper-parts`, `parts-proper`), and that the fresh one is (`fresh-proper`).
use Prim.Native.Nat.{ℕ, ◌+◌, ◌*◌, ◌/◌, ◌%◌, ◌^◌, ◌≤◌, ◌<◌}
use mathlib.Core.Bool.{Bool, true, false, not}
use mathlib.Core.List.{List}
use mathlib.Core.Path.{◌≡◌, refl, sym, ap, ◌∙◌}
use native.Mathlib.Nat.{mod-lt, div-eq_of_lt}
use native.Mathlib.Omega.{arith}
use lib.ListN.{length, get_or, length-replicate}
use lib.Pow.{pow_pos, split}
use lib.Dec.{ltb, leb}
use borrow.Author.Tests.{eqb-true, eq-eqb, ltb-true, leb-true, leb-false, le-leb, lt-leb, le-ltb, not-true}
use Rattle.sets.specs.Choice.{both}
use Rattle.sets.specs.Bounded.{each}
use Rattle.sets.proofs.BoundedLaws.{both_left, both_right, both-on, both_true, both_false, both-assoc, pick-false, each_at, at_each}
use Rattle.sets.proofs.Parts.{ne_same, same-ne}
use Rattle.books.specs.declared.Listed.{Listed}
use Rattle.books.specs.Books.{no_config, same_config}
use Rattle.books.specs.Queried.{change_at}
use Rattle.books.proofs.BookLaws.{configs-decided}
use Rattle.devices.specs.declared.Contents.{Contents}
use Rattle.devices.specs.declared.Tablet.{Tablet}
use Rattle.devices.specs.declared.Letter.{Letter}
use Rattle.devices.specs.declared.Message.{Message}
use Rattle.devices.specs.declared.Message.TheVariants.{Empty, Request, Answer, Commit}
use Rattle.devices.specs.Contents.{fresh_contents, fresh_tablet}
use Rattle.devices.specs.Effects.{addressee}
use Rattle.state.specs.declared.Slot.{Slot}
use Rattle.state.specs.declared.Run.{Run}
use Rattle.state.specs.Slots.{empty_slot, all}
use Rattle.state.specs.State.{fresh, names_listed, all_different, proper_contents, proper_tablet, is_tablet, is_box, proper_letter, proper_message, proper_up_to, proper_slot, proper_desk, proper}
use Rattle.state.proofs.SlotLaws.{all-at, at_all, all_same}

-- ---- The lengths of the lists

pub record Sized (r : Run) : Type 0 where
  pub devices : length r.devices ≡ 24
  pub tablets : length r.tablets ≡ 8
  pub slots : length r.slots ≡ 128
  pub changes : length r.listed.changes ≡ 6

pub sized_fresh : (first : ℕ) → Sized (fresh first)
unfolding fresh
sized_fresh first =
    record {
      devices = length-replicate 24 (fresh_contents first);
      tablets = length-replicate 8 fresh_tablet;
      slots = length-replicate 128 empty_slot;
      changes = length-replicate 6 no_config;
    }

-- ---- No two listed changes are equal

-- a change differs from an earlier one, and from all earlier ones
abbrev pub differ : Listed → ℕ → ℕ → Bool
differ listed later earlier = not (same_config (change_at listed earlier) (change_at listed later))

abbrev pub is_new : Listed → ℕ → Bool
is_new listed later = each later (differ listed later)

module _ (listed : Listed) where
  pub changes-differ : all_different listed ≡ true → (i j : ℕ) → i < j → j < listed.count → change_at listed i ≡ change_at listed j → ⊥
  unfolding all_different
  changes-differ h i j l m =
      let new = each_at listed.count (is_new listed) h j m in
      same-ne configs-decided (change_at listed i) (change_at listed j)
      (not-true (same_config (change_at listed i) (change_at listed j)) (each_at j (differ listed j) new i l))

  pub differ-changes : ((i j : ℕ) → i < j → j < listed.count → change_at listed i ≡ change_at listed j → ⊥) → all_different listed ≡ true
  unfolding all_different
  differ-changes h =
      at_each listed.count (is_new listed)
      (λ j m.
      at_each j (differ listed j)
      (λ i l. ap not (ne_same configs-decided (change_at listed i) (change_at listed j) (h i j l m))))

-- ---- A proper state, part by part

-- a set names none but the first n changes exactly where it is below 2^n
pub names-lt : (n t : ℕ) → names_listed n t ≡ true → t < 2 ^ n
names-lt n t h =
    let e : 0 * 2 ^ n + t % 2 ^ n ≡ t = rw (eqb-true (t / 2 ^ n) 0 h) at (split t n) in
    omega (arith, mod-lt t (pow_pos n))

pub lt-names : (n t : ℕ) → t < 2 ^ n → names_listed n t ≡ true
lt-names n t h = eq-eqb (t / 2 ^ n) 0 (div-eq_of_lt h)

-- everything but the slots
module _ (listed : Listed) (devices : List Contents) (tablets : List Tablet) where
  abbrev contents_proper : Bool
  contents_proper = all (proper_contents listed.count) devices

  abbrev tablets_proper : Bool
  tablets_proper = all (proper_tablet listed.count) tablets

  -- the test of a list of more than six changes, and of one of up to six
  pub desk-over : 6 < listed.count → false ≡ proper_desk listed devices tablets
  unfolding proper_desk
  desk-over h = both_false (both (all_different listed) (both contents_proper tablets_proper)) (lt-leb listed.count 6 h)

  pub desk-up-to : listed.count ≤ 6 → both (both (all_different listed) contents_proper) tablets_proper ≡ proper_desk listed devices tablets
  unfolding proper_desk
  desk-up-to h =
      both-assoc (all_different listed) contents_proper tablets_proper
      ∙ both_true (both (all_different listed) (both contents_proper tablets_proper)) (le-leb listed.count 6 h)

-- what the test of its message tells of a slot
abbrev pub up_to_slot : ℕ → Slot → Bool
up_to_slot n s = proper_up_to n s.message

-- what the test of a proper state says of each part of a run
pub record Proper (r : Run) : Type 0 where
  pub few : r.listed.count ≤ 6
  pub different : all_different r.listed ≡ true
  pub devices : (d : ℕ) → (get_or r.devices d (fresh_contents 0)).t < 2 ^ r.listed.count
  pub tablets : (t : ℕ) → proper_tablet r.listed.count (get_or r.tablets t fresh_tablet) ≡ true
  pub messages : (k : ℕ) → proper_message r.listed.count (get_or r.slots k empty_slot).message ≡ true

module _ (r : Run) where
  abbrev n : ℕ
  n = r.listed.count

  abbrev desk_proper : Bool
  desk_proper = proper_desk r.listed r.devices r.tablets

  abbrev slots_proper : Bool
  slots_proper = all (proper_slot n) r.slots

  -- the two lists of the desk
  abbrev lists_proper : Bool
  lists_proper = both (all (proper_contents n) r.devices) (all (proper_tablet n) r.tablets)

  pub proper-parts : proper r ≡ true → Proper r
  unfolding proper proper_desk
  proper-parts h =
      let desk = both_left (both (leb n 6) (both (all_different r.listed) lists_proper)) slots_proper h in
      let rest = both_right (leb n 6) (both (all_different r.listed) lists_proper) desk in
      let lists = both_right (all_different r.listed) lists_proper rest in
      let contents = both_left (all (proper_contents n) r.devices) (all (proper_tablet n) r.tablets) lists in
      record {
        few = leb-true n 6 (both_left (leb n 6) (both (all_different r.listed) lists_proper) desk);
        different = both_left (all_different r.listed) lists_proper rest;
        devices = λ d. names-lt n _ (all-at (proper_contents n) (fresh_contents 0) (lt-names n 0 (pow_pos n)) r.devices contents d);
        tablets =
            all-at (proper_tablet n) fresh_tablet refl r.tablets (both_right (all (proper_contents n) r.devices) (all (proper_tablet n) r.tablets) lists);
        messages = all-at (proper_slot n) empty_slot refl r.slots (both_right desk_proper slots_proper h);
      }

  pub parts-proper : Proper r → proper r ≡ true
  unfolding proper proper_desk
  parts-proper p =
      both-on (both (leb n 6) (both (all_different r.listed) lists_proper)) slots_proper
      (both-on (leb n 6) (both (all_different r.listed) lists_proper) (le-leb n 6 p.few)
      (both-on (all_different r.listed) lists_proper p.different
      (both-on (all (proper_contents n) r.devices) (all (proper_tablet n) r.tablets)
      (at_all (proper_contents n) (fresh_contents 0) r.devices (λ d. lt-names n _ (p.devices d)))
      (at_all (proper_tablet n) fresh_tablet r.tablets p.tablets))))
      (at_all (proper_slot n) empty_slot r.slots p.messages)

  -- the test of each message, asked only where no more than six changes are listed, tells the same: more are told by the rest
  pub proper-by-messages : both desk_proper (all (up_to_slot r.listed.count) r.slots) ≡ proper r
  unfolding proper
  proper-by-messages = go (leb r.listed.count 6) refl
    where
      go : (t : Bool) → leb r.listed.count 6 ≡ t
          → both desk_proper (all (up_to_slot r.listed.count) r.slots) ≡ both desk_proper slots_proper
      go true e =
          ap (both desk_proper)
          (all_same (up_to_slot r.listed.count) (proper_slot r.listed.count) r.slots
          (λ s. sym (pick-false false (proper_slot r.listed.count s) (le-ltb 6 r.listed.count (leb-true r.listed.count 6 e)))))
      go false e =
          let z = desk-over r.listed r.devices r.tablets (leb-false r.listed.count 6 e) in
          sym (both_false (all (up_to_slot r.listed.count) r.slots) (sym z)) ∙ both_false slots_proper (sym z)

-- ---- What a proper message tells

-- the set that a letter carries names listed changes, whatever its ends are
pub letter-fits : (n : ℕ) (ends : Bool) (l : Letter) → both ends (proper_letter n l) ≡ true → l.contents.t < 2 ^ n
letter-fits n ends l h =
    names-lt n l.contents.t (both_right (leb l.round 1023) (names_listed n l.contents.t) (both_right ends (proper_letter n l) h))

-- whom a request, an answer, any message goes to
pub request-to : (n : ℕ) (l : Letter) → proper_message n (Request l) ≡ true → (8 ≤ l.to) × (l.to < 24)
request-to n l h =
    let ends = both_left (both (is_tablet l.from) (is_box l.to)) (proper_letter n l) h in
    let box = both_right (is_tablet l.from) (is_box l.to) ends in
    (leb-true 8 l.to (both_left (leb 8 l.to) (ltb l.to 24) box), ltb-true l.to 24 (both_right (leb 8 l.to) (ltb l.to 24) box))

pub answer-to : (n : ℕ) (l : Letter) → proper_message n (Answer l) ≡ true → l.to < 8
answer-to n l h =
    let ends = both_left (both (is_box l.from) (is_tablet l.to)) (proper_letter n l) h in
    ltb-true l.to 8 (both_right (is_box l.from) (is_tablet l.to) ends)

pub addressee-to : (n : ℕ) (m : Message) → proper_message n m ≡ true → addressee m < 24
addressee-to n Empty h = omega arith
addressee-to n (Request l) h = (request-to n l h).1
addressee-to n (Answer l) h = omega (arith, answer-to n l h)
addressee-to n (Commit c) h = ltb-true c.to 24 (both_right (is_tablet c.from) (ltb c.to 24) h)

-- ---- The fresh state

pub fresh-proper : (first : ℕ) → proper (fresh first) ≡ true
unfolding fresh proper proper_desk all all_different each
fresh-proper first = refl
