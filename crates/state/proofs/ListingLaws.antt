-- What stays proper where one more change is listed: the list (`different-more`), and all that was proper with fewer (`fits_more` .. `message-more`).
use Prim.Native.Nat.{ℕ, ◌+◌, ◌^◌, ◌≤◌, ◌<◌}
use mathlib.Core.Bool.{Bool, true}
use mathlib.Core.Path.{◌≡◌, refl, sym, ap, ◌∙◌}
use mathlib.Core.Logic.{⊎_elim}
use native.Mathlib.Nat.{lt_of_lt_of_le, eq-or-lt_of_le}
use native.Mathlib.Omega.{arith}
use lib.ListN.{length}
use lib.Pow.{pow_mono}
use lib.Dec.{leb}
use Rattle.sets.specs.Choice.{both}
use Rattle.sets.proofs.BoundedLaws.{both_left, both_right, both-on}
use Rattle.books.specs.declared.Config.{Config}
use Rattle.books.specs.declared.Listed.{Listed}
use Rattle.books.specs.Queried.{change_at, with_change}
use Rattle.books.proofs.ListedLaws.{listed-before, listed-last}
use Rattle.devices.specs.declared.Phase.{Phase}
use Rattle.devices.specs.declared.Phase.TheVariants.{Idle, Asks}
use Rattle.devices.specs.declared.Tablet.{Tablet}
use Rattle.devices.specs.declared.Letter.{Letter}
use Rattle.devices.specs.declared.Message.{Message}
use Rattle.devices.specs.declared.Message.TheVariants.{Empty, Request, Answer, Commit}
use Rattle.state.specs.State.{names_listed, all_different, proper_phase, proper_tablet, proper_letter, proper_message, is_tablet, is_box}
use Rattle.state.proofs.StateLaws.{changes-differ, differ-changes, names-lt, lt-names}

-- a change that is none of the listed ones is listed behind them
pub different-more : (listed : Listed) (change : Config) → listed.count < length listed.changes → all_different listed ≡ true
    → ((k : ℕ) → k < listed.count → change_at listed k ≡ change → ⊥) → all_different (with_change listed change) ≡ true
unfolding with_change
different-more listed change room h new = differ-changes (with_change listed change) go
  where
    go : (i j : ℕ) → i < j → j < listed.count + 1 → change_at (with_change listed change) i ≡ change_at (with_change listed change) j → ⊥
    go i j l m e =
        let before = sym (listed-before listed change i (omega arith)) ∙ e in
        ⊎_elim (λ q. new i (omega arith) (before ∙ ap (change_at (with_change listed change)) q ∙ listed-last listed change room))
        (λ b. changes-differ listed h i j l b (before ∙ listed-before listed change j b))
        (eq-or-lt_of_le {n = j} {m = listed.count} (omega arith))

module _ {n k : ℕ} (more : n ≤ k) where
  pub fits_more : {t : ℕ} → t < 2 ^ n → t < 2 ^ k
  fits_more h = lt_of_lt_of_le h (pow_mono more)

  names_more : (t : ℕ) → names_listed n t ≡ true → names_listed k t ≡ true
  names_more t h = lt-names k t (fits_more (names-lt n t h))

  phase-more : (phase : Phase) → proper_phase n phase ≡ true → proper_phase k phase ≡ true
  phase-more Idle h = refl
  phase-more (Asks a) h = names_more a.t h

  pub tablet-more : (x : Tablet) → proper_tablet n x ≡ true → proper_tablet k x ≡ true
  tablet-more x h =
      both-on (leb x.round 1023) (proper_phase k x.phase) (both_left (leb x.round 1023) (proper_phase n x.phase) h)
      (phase-more x.phase (both_right (leb x.round 1023) (proper_phase n x.phase) h))

  -- what is told of a letter beside its sender and addressee
  letter-more : (ends : Bool) (l : Letter) → both ends (proper_letter n l) ≡ true → both ends (proper_letter k l) ≡ true
  letter-more ends l h =
      let p = both_right ends (proper_letter n l) h in
      both-on ends (proper_letter k l) (both_left ends (proper_letter n l) h)
      (both-on (leb l.round 1023) (names_listed k l.contents.t) (both_left (leb l.round 1023) (names_listed n l.contents.t) p)
      (names_more l.contents.t (both_right (leb l.round 1023) (names_listed n l.contents.t) p)))

  pub message-more : (m : Message) → proper_message n m ≡ true → proper_message k m ≡ true
  message-more Empty h = refl
  message-more (Request l) h = letter-more (both (is_tablet l.from) (is_box l.to)) l h
  message-more (Answer l) h = letter-more (both (is_box l.from) (is_tablet l.to)) l h
  message-more (Commit c) h = h
