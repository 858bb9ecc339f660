-- What holds of a tape that is played, beside what each call does: a contract settles its result, a word is refused by its number exactly
-- when it is no step, a step has one word, steps are on one tape only, and each word of an accepted tape is a step, which playing it takes. Proved in proofs/Statements.
use Rattle.std.specs.Prelude.{ℕ, ◌^◌, ◌<◌, true, List, map, ◌≡◌, length, get_or, Option, Some, Ok}
use Rattle.sets.specs.Choice.{pick}
use Rattle.sets.specs.Settles.{Settles}
use Rattle.devices.specs.declared.Step.{Step}
use Rattle.devices.specs.declared.Step.TheVariants.{Ask, Advance, Deliver, Lose, Repeat, Stop}
use Rattle.rules.specs.Table.{row, in_range}
use Rattle.state.specs.declared.Run.{Run}
use Rattle.state.specs.declared.Stepped.{Stepped}
use Rattle.parlour.specs.Steps.{taken}
use Rattle.tape.specs.Bits.{Bytes}
use Rattle.tape.specs.Edition.{first_edition}
use Rattle.tape.specs.Reading.{read_tape, first_boxes}
use Rattle.tape.specs.Writing.{is_step}
use Rattle.replay.specs.Replay.{step_of, decoded_number, played, PlayPromise}

-- "Show that two results meeting it are equal"
pub record Settled : Type 0 where
  pub decode : (word : ℕ) → Settles (λ (r : Option Step). r ≡ step_of word)
  pub play_word : (word : ℕ) (run : Run) → Settles (λ (r : Stepped). PlayPromise word run r)

-- a word is a step, and playing it is taking that step
pub record Plays (word : ℕ) : Type 0 where
  pub step : Step
  pub is : step_of word ≡ Some step
  pub takes : (r : Run) → played word r ≡ taken step r

-- the sets of a step are of sixteen
abbrev pub SetsFit : Step → Type 0
SetsFit (Ask tablet own pair) = (own < 2 ^ 16) × (pair.added < 2 ^ 16) × (pair.removed < 2 ^ 16)
SetsFit (Advance tablet) = Unit {0}
SetsFit (Deliver slot) = Unit {0}
SetsFit (Lose slot) = Unit {0}
SetsFit (Repeat slot) = Unit {0}
SetsFit (Stop device) = Unit {0}

-- a word that is the step
pub record HasWord (step : Step) : Type 0 where
  pub word : ℕ
  pub is : step_of word ≡ Some step

pub record Statements : Type 0 where
  pub settled : Settled
  -- "a step word that is none" is 14, and no other
  pub numbered : (word : ℕ) → decoded_number (step_of word) ≡ pick (is_step first_edition word) 0 14
  -- "there is one Ask, with 16 notes, any of them absent": each step that names what there is has a word
  pub has_word : (step : Step) → in_range (row step).names ≡ true → SetsFit step → HasWord step
  -- "A long Ask whose last eight notes are all absent is not a tape step": so no step has two
  pub one_word : (x y : ℕ) (step : Step) → step_of x ≡ Some step → step_of y ≡ Some step → x ≡ y
  -- and the same steps from the same first boxes are on one tape only
  pub one_tape : (a b xs ys : List ℕ) → Bytes a → Bytes b → read_tape a ≡ Ok xs → read_tape b ≡ Ok ys
      → first_boxes a ≡ first_boxes b → map step_of xs ≡ map step_of ys → a ≡ b
  -- each word of an accepted tape
  pub accepted : (tape words : List ℕ) → read_tape tape ≡ Ok words → (i : ℕ) → i < length words → Plays (get_or words i 0)
