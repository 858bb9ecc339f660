-- Laws of the table of slots: of what holds of all and of how many, and of laying messages into the lowest free slots.
-- What stands in the table after laying is what stood there, or one of the messages (`laid-at`); a filled slot stays (`laid-keeps`), a free one takes
-- the message whose number is how many free slots stand before it (`laid-lowest`); where there are free slots enough, every message takes one
-- (`laid-count`). The search for the next free slot in a pass is `laid-first` and `laid-full`.
use Prim.Native.Nat.{ℕ, zero, suc, ◌+◌, ◌-◌, ◌≤◌, ◌<◌}
use mathlib.Core.Bool.{Bool, true, false, not, cond}
use mathlib.Core.List.{List, [], ◌∷◌, ◌++◌, append-nil}
use mathlib.Core.Path.{◌≡◌, refl, sym, ap, ap₂, ◌∙◌}
use mathlib.Core.Logic.{◌⊎◌, inl, inr, ⊎_elim}
use native.Mathlib.Nat.{lt_irrefl, add-zero}
use native.Mathlib.Numerals.{add-one}
use native.Mathlib.Omega.{arith}
use lib.ListN.{get_or, take, drop, set, length, length-drop, drop_of_length-le, take-append-drop}
use lib.Seq.{drop-cons, take_all, take-suc, take-suc-set, drop-set-lt, append_snoc}
use borrow.Author.Tests.{not-true, ltb-true, ltb-false}
use Rattle.std.proofs.lemmas.List.{get_or-drop}
use lib.Dec.{ltb}
use Rattle.std.specs.Prelude.{Some, None, position}
use Rattle.std.specs.List.{position_or_len}
use Rattle.std.proofs.lemmas.List.Sums.{passes_at_first, fails_before_first}
use Rattle.sets.specs.Choice.{pick, both}
use Rattle.sets.proofs.BoundedLaws.{both_left, both_right, both-on}
use Rattle.devices.specs.declared.Message.{Message}
use Rattle.devices.specs.declared.Message.TheVariants.{Empty, Request, Answer, Commit}
use Rattle.devices.specs.Effects.{is_empty}
use Rattle.state.specs.declared.Slot.{Slot}
use Rattle.state.specs.Slots.{empty_slot, is_free, all, many, laid}

-- ---- Of all

module _ {A : Type 0} (p : A → Bool) (d : A) where
  -- what holds of all holds at each place, and the other way
  pub all-at : p d ≡ true → (xs : List A) → all p xs ≡ true → (k : ℕ) → p (get_or xs k d) ≡ true
  unfolding all
  all-at e [] h k = e
  all-at e (x ∷ xs) h zero = both_left (p x) (all p xs) h
  all-at e (x ∷ xs) h (suc k) = all-at e xs (both_right (p x) (all p xs) h) k

  pub at_all : (xs : List A) → ((k : ℕ) → p (get_or xs k d) ≡ true) → all p xs ≡ true
  unfolding all
  at_all [] h = refl
  at_all (x ∷ xs) h = both-on (p x) (all p xs) (h zero) (at_all xs (λ k. h (suc k)))

-- two tests that agree on every element
pub all_same : {A : Type 0} (p q : A → Bool) (xs : List A) → ((x : A) → p x ≡ q x) → all p xs ≡ all q xs
unfolding all
all_same p q [] h = refl
all_same p q (x ∷ xs) h = ap₂ both (h x) (all_same p q xs h)

-- ---- Of how many

module _ {A : Type 0} (p : A → Bool) (x : A) (xs : List A) where
  many-yes : p x ≡ true → many p (x ∷ xs) ≡ suc (many p xs)
  unfolding many
  many-yes e = ap (λ (t : Bool). pick t (suc (many p xs)) (many p xs)) e

  many-no : p x ≡ false → many p (x ∷ xs) ≡ many p xs
  unfolding many
  many-no e = ap (λ (t : Bool). pick t (suc (many p xs)) (many p xs)) e

module _ {A : Type 0} (p : A → Bool) where
  many-le : (xs : List A) → many p xs ≤ length xs
  unfolding many
  many-le [] = omega arith
  many-le (x ∷ xs) = go (p x) (many-le xs)
    where
      go : (t : Bool) → many p xs ≤ length xs → pick t (suc (many p xs)) (many p xs) ≤ suc (length xs)
      go true h = omega arith
      go false h = omega arith

-- ---- One element replaced

-- where what replaces an element is related to it, each element is related to what stands at its place
pub replaced-at : {A : Type 0} (R : A → A → Type 0) → ((x : A) → R x x) → (d : A) (xs : List A) (i : ℕ) (y : A) → R (get_or xs i d) y
    → (k : ℕ) → R (get_or xs k d) (get_or (set xs i y) k d)
replaced-at R same d [] i y h k = same d
replaced-at R same d (x ∷ xs) zero y h zero = h
replaced-at R same d (x ∷ xs) zero y h (suc k) = same (get_or xs k d)
replaced-at R same d (x ∷ xs) (suc i) y h zero = same x
replaced-at R same d (x ∷ xs) (suc i) y h (suc k) = replaced-at R same d xs i y h k

-- ---- Laying messages

-- the slot with a message in it
abbrev pub holding : Message → Slot
holding m = record { message = m }

laid_none : (slots : List Slot) → laid [] slots ≡ slots
unfolding laid
laid_none slots = refl

laid-nowhere : (ms : List Message) → laid ms [] ≡ []
unfolding laid
laid-nowhere [] = refl
laid-nowhere (m ∷ ms) = refl

module _ (m : Message) (ms : List Message) (s : Slot) (slots : List Slot) where
  -- a free slot takes the next message, a filled one none
  laid-free : is_free s ≡ true → laid (m ∷ ms) (s ∷ slots) ≡ holding m ∷ laid ms slots
  unfolding laid
  laid-free e = ap (λ (t : Bool). pick t (holding m ∷ laid ms slots) (s ∷ laid (m ∷ ms) slots)) e

  laid_filled : is_free s ≡ false → laid (m ∷ ms) (s ∷ slots) ≡ s ∷ laid (m ∷ ms) slots
  unfolding laid
  laid_filled e = ap (λ (t : Bool). pick t (holding m ∷ laid ms slots) (s ∷ laid (m ∷ ms) slots)) e

  -- what is shown of both is shown of the table
  laid-either : (P : List Slot → Type 0) → (is_free s ≡ true → P (holding m ∷ laid ms slots))
      → (is_free s ≡ false → P (s ∷ laid (m ∷ ms) slots)) → P (laid (m ∷ ms) (s ∷ slots))
  laid-either P free filled = go (is_free s) refl
    where
      go : (t : Bool) → is_free s ≡ t → P (laid (m ∷ ms) (s ∷ slots))
      go true e = rw (laid-free e) (free e)
      go false e = rw (laid_filled e) (filled e)

pub length-laid : (ms : List Message) (slots : List Slot) → length (laid ms slots) ≡ length slots
length-laid [] slots = ap length (laid_none slots)
length-laid (m ∷ ms) [] = ap length (laid-nowhere (m ∷ ms))
length-laid (m ∷ ms) (s ∷ slots) =
    laid-either m ms s slots (λ (r : List Slot). length r ≡ suc (length slots)) (λ e. ap suc (length-laid ms slots))
    (λ e. ap suc (length-laid (m ∷ ms) slots))

-- a filled slot stays as it is
pub laid-keeps : (ms : List Message) (slots : List Slot) (i : ℕ) → is_free (get_or slots i empty_slot) ≡ false
    → get_or (laid ms slots) i empty_slot ≡ get_or slots i empty_slot
laid-keeps [] slots i h = rw (laid_none slots)
laid-keeps (m ∷ ms) [] i h = rw (laid-nowhere (m ∷ ms))
laid-keeps (m ∷ ms) (s ∷ slots) zero h = rw (laid_filled m ms s slots h)
laid-keeps (m ∷ ms) (s ∷ slots) (suc i) h =
    laid-either m ms s slots (λ (r : List Slot). get_or r (suc i) empty_slot ≡ get_or slots i empty_slot) (λ e. laid-keeps ms slots i h)
    (λ e. laid-keeps (m ∷ ms) slots i h)

-- a slot that holds one of the messages
pub record OneOf (ms : List Message) (slot : Slot) : Type 0 where
  pub which : ℕ
  pub below : which < length ms
  pub same : slot ≡ holding (get_or ms which Empty)

one-of-more : (m : Message) {ms : List Message} {slot : Slot} → OneOf ms slot → OneOf (m ∷ ms) slot
one-of-more m o = record { which = suc o.which; below = omega (arith, o.below); same = o.same }

-- what stands in a slot stood there before or is one of the messages
pub laid-at : (ms : List Message) (slots : List Slot) (i : ℕ)
    → (get_or (laid ms slots) i empty_slot ≡ get_or slots i empty_slot) ⊎ OneOf ms (get_or (laid ms slots) i empty_slot)
laid-at [] slots i = inl (rw (laid_none slots))
laid-at (m ∷ ms) [] i = inl (rw (laid-nowhere (m ∷ ms)))
laid-at (m ∷ ms) (s ∷ slots) zero =
    laid-either m ms s slots (λ (r : List Slot). (get_or r 0 empty_slot ≡ s) ⊎ OneOf (m ∷ ms) (get_or r 0 empty_slot))
    (λ e. inr (record { which = 0; below = omega arith; same = refl }))
    (λ e. inl refl)
laid-at (m ∷ ms) (s ∷ slots) (suc i) =
    laid-either m ms s slots
    (λ (r : List Slot). (get_or r (suc i) empty_slot ≡ get_or slots i empty_slot) ⊎ OneOf (m ∷ ms) (get_or r (suc i) empty_slot))
    (λ e. ⊎_elim (λ q. inl q) (λ o. inr (one-of-more m o)) (laid-at ms slots i))
    (λ e. laid-at (m ∷ ms) slots i)

-- a free slot holds the empty message
free-empty : (m : Message) → is_empty m ≡ true → m ≡ Empty
free-empty Empty e = refl
free-empty (Request l) e = cc
free-empty (Answer l) e = cc
free-empty (Commit n) e = cc

-- a free slot takes the message whose number is how many free slots stand before it, and none where there are no more
pub laid-lowest : (ms : List Message) (slots : List Slot) (k : ℕ) → k < length slots → is_free (get_or slots k empty_slot) ≡ true
    → (get_or (laid ms slots) k empty_slot).message ≡ get_or ms (many is_free (take k slots)) Empty
unfolding many
laid-lowest [] slots k l e = rw (laid_none slots) (free-empty (get_or slots k empty_slot).message e)
laid-lowest (m ∷ ms) [] k l e = absurd (lt_irrefl 0 (omega arith))
laid-lowest (m ∷ ms) (s ∷ slots) zero l e = rw (laid-free m ms s slots e)
laid-lowest (m ∷ ms) (s ∷ slots) (suc k) l e =
    laid-either m ms s slots
    (λ (r : List Slot). (get_or r (suc k) empty_slot).message ≡ get_or (m ∷ ms) (many is_free (s ∷ take k slots)) Empty)
    (λ f. rw (many-yes is_free s (take k slots) f) (laid-lowest ms slots k (omega arith) e))
    (λ f. rw (many-no is_free s (take k slots) f) (laid-lowest (m ∷ ms) slots k (omega arith) e))

-- where there are free slots enough, every message takes one
pub laid-count : (ms : List Message) (slots : List Slot) → all (λ (m : Message). not (is_empty m)) ms ≡ true → length ms ≤ many is_free slots
    → many is_free (laid ms slots) + length ms ≡ many is_free slots
unfolding all
laid-count [] slots f h = rw (laid_none slots) (omega arith)
laid-count (m ∷ ms) [] f h = absurd (lt_irrefl 0 (omega (arith, many-le is_free [])))
laid-count (m ∷ ms) (s ∷ slots) f h =
    let filled = not-true (is_empty m) (both_left (not (is_empty m)) (all (λ (x : Message). not (is_empty x)) ms) f) in
    let others = both_right (not (is_empty m)) (all (λ (x : Message). not (is_empty x)) ms) f in
    laid-either m ms s slots (λ (r : List Slot). many is_free r + suc (length ms) ≡ many is_free (s ∷ slots))
    (λ e.
    let y = many-yes is_free s slots e in
    omega (arith, many-no is_free (holding m) (laid ms slots) filled, laid-count ms slots others (omega arith)))
    (λ e.
    let n = many-no is_free s slots e in
    omega (arith, many-no is_free s (laid (m ∷ ms) slots) e, laid-count (m ∷ ms) slots f (omega arith)))

-- ---- Laying messages in a pass over the slots by an index

-- the table whose slots before place i are done with, and whose others are to take the messages
abbrev pub laid_from : ℕ → List Message → List Slot → List Slot
laid_from i ms slots = take i slots ++ laid ms (drop i slots)

pub laid-from-none : (i : ℕ) (slots : List Slot) → laid_from i [] slots ≡ slots
laid-from-none i slots = rw (laid_none (drop i slots)) (take-append-drop i slots)

pub laid-from-end : (i : ℕ) (ms : List Message) (slots : List Slot) → length slots ≤ i → laid_from i ms slots ≡ slots
laid-from-end i ms slots h = rw (drop_of_length-le slots h, laid-nowhere ms, take_all i slots h) (append-nil slots)

module _ (m : Message) (ms : List Message) (slots : List Slot) (i : ℕ) (h : i < length slots) where
  laid-here : is_free (get_or slots i empty_slot) ≡ true → laid (m ∷ ms) (drop i slots) ≡ holding m ∷ laid ms (drop (i + 1) slots)
  laid-here e = rw (add-one i, drop-cons slots i empty_slot h) (laid-free m ms (get_or slots i empty_slot) (drop (suc i) slots) e)

  laid-past : is_free (get_or slots i empty_slot) ≡ false
      → laid (m ∷ ms) (drop i slots) ≡ get_or slots i empty_slot ∷ laid (m ∷ ms) (drop (i + 1) slots)
  laid-past e = rw (add-one i, drop-cons slots i empty_slot h) (laid_filled m ms (get_or slots i empty_slot) (drop (suc i) slots) e)

  -- the next message is stored in a free slot
  laid-store : is_free (get_or slots i empty_slot) ≡ true → laid_from (i + 1) ms (set slots i (holding m)) ≡ laid_from i (m ∷ ms) slots
  laid-store e =
      rw (laid-here e, add-one i, take-suc-set slots i (holding m) h, drop-set-lt (suc i) slots i (holding m) (omega arith))
      (append_snoc (take i slots) (holding m) (laid ms (drop (suc i) slots)))

  -- a filled slot is passed by
  laid-pass : is_free (get_or slots i empty_slot) ≡ false → laid_from (i + 1) (m ∷ ms) slots ≡ laid_from i (m ∷ ms) slots
  laid-pass e =
      rw (laid-past e, add-one i, take-suc slots i empty_slot h)
      (append_snoc (take i slots) (get_or slots i empty_slot) (laid (m ∷ ms) (drop (suc i) slots)))

-- the search for the first free slot from place i on
module _ (m : Message) (ms : List Message) (slots : List Slot) (i : ℕ) where
  abbrev first : ℕ
  first = position_or_len is_free (drop i slots)

  -- the filled slots before it are passed by
  passed-by : (k : ℕ) → k ≤ first → i + k ≤ length slots → laid_from (i + k) (m ∷ ms) slots ≡ laid_from i (m ∷ ms) slots
  passed-by zero h l = ap (λ (j : ℕ). laid_from j (m ∷ ms) slots) (add-zero i)
  passed-by (suc k) h l =
      let next : i + suc k ≡ i + k + 1 = omega arith in
      let filled = sym (ap is_free (get_or-drop i slots k empty_slot)) ∙ fails_before_first is_free (drop i slots) k empty_slot (omega arith) in
      ap (λ (j : ℕ). laid_from j (m ∷ ms) slots) next ∙ laid-pass m ms slots (i + k) (omega arith) filled
      ∙ passed-by k (omega arith) (omega arith)

  -- it takes the next message
  pub laid-first : (place : ℕ) → position is_free (drop i slots) ≡ Some place
      → (i + place < length slots) × (laid_from (i + place + 1) ms (set slots (i + place) (holding m)) ≡ laid_from i (m ∷ ms) slots)
  laid-first place e = go (ltb first (length (drop i slots))) refl e
    where
      go : (t : Bool) → ltb first (length (drop i slots)) ≡ t → cond t (Some first) None ≡ Some place
          → (i + place < length slots) × (laid_from (i + place + 1) ms (set slots (i + place) (holding m)) ≡ laid_from i (m ∷ ms) slots)
      go true l f =
          let q : first ≡ place = cc in
          let h = ltb-true first (length (drop i slots)) l in
          let below : i + place < length slots = omega (arith, length-drop i slots) in
          let free = sym (ap is_free (get_or-drop i slots first empty_slot)) ∙ passes_at_first is_free (drop i slots) empty_slot h in (
            below,
            laid-store m ms slots (i + place) below (ap (λ (j : ℕ). is_free (get_or slots (i + j) empty_slot)) (sym q) ∙ free)
                ∙ passed-by place (omega arith) (omega arith),
          )
      go false l f = cc

  -- where there is none, no message is laid
  pub laid-full : i ≤ length slots → position is_free (drop i slots) ≡ None → laid_from i (m ∷ ms) slots ≡ slots
  laid-full h e = go (ltb first (length (drop i slots))) refl e
    where
      go : (t : Bool) → ltb first (length (drop i slots)) ≡ t → cond t (Some first) None ≡ None → laid_from i (m ∷ ms) slots ≡ slots
      go true l f = cc
      go false l f =
          let n = ltb-false first (length (drop i slots)) l in
          let d = length-drop i slots in
          sym (passed-by (length slots - i) (omega arith) (omega arith)) ∙ laid-from-end (i + (length slots - i)) (m ∷ ms) slots (omega arith)
