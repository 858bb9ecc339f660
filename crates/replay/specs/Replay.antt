-- Which step a word of the reader's row is, and a word played (01, "The tape"; 02, [1]).
use Rattle.std.specs.Prelude.{ℕ, List, [], ◌∷◌, ◌≡◌, slice_get, Option, Some, None, Err}
use Rattle.sets.specs.Choice.{pick}
use Rattle.refusals.specs.declared.Refusal.TheVariants.{NoStep}
use Rattle.refusals.specs.Refusals.{number}
use Rattle.devices.specs.declared.Step.{Step}
use Rattle.devices.specs.declared.Step.TheVariants.{Ask, Advance, Deliver, Lose, Repeat, Stop}
use Rattle.devices.specs.Effects.{answer_of}
use Rattle.state.specs.declared.Run.{Run}
use Rattle.state.specs.declared.Stepped.{Stepped}
use Rattle.parlour.specs.Steps.{taken}
use Rattle.tape.specs.declared.Fields.{Fields}
use Rattle.tape.specs.Edition.{first_edition}
use Rattle.tape.specs.Layout.{fields_in}
use Rattle.tape.specs.Writing.{is_step}

-- "there is one Ask, with 16 notes": "The old Ask stays and means the first eight of the sixteen"
abbrev pub ask_of : Fields → Step
ask_of f = Ask f.first f.second (record { added = f.third; removed = f.fourth })

-- "each a 3-bit kind and its fields": the steps of these fields, from kind 0 on; kind 6 is "a long Ask"
abbrev pub kinds : Fields → List Step
kinds f =
    ask_of f
    ∷ Advance f.first
    ∷ Deliver f.first
    ∷ Lose f.first
    ∷ Repeat f.first
    ∷ Stop f.first
    ∷ ask_of f
    ∷ []

-- the step of a kind and its fields; none where no step has the kind
abbrev pub of_fields : Fields → Option Step
of_fields f = slice_get (kinds f) f.kind

-- the step that a word is
unfoldable pub step_of : ℕ → Option Step
step_of word = pick (is_step first_edition word) (of_fields (fields_in first_edition word)) None

-- the number that each case is: a step is no refusal, "a step word that is none" is one
abbrev pub decoded_number : Option Step → ℕ
decoded_number (Some step) = 0
decoded_number None = number NoStep

-- the step taken; a word that is none is refused, and "state and buffers stay as given"
abbrev pub played_by : Option Step → Run → Stepped
played_by (Some step) r = taken step r
played_by None r = record { outcome = Err NoStep; run = r }

unfoldable pub played : ℕ → Run → Stepped
played word r = played_by (step_of word) r

-- what playing a word promises: the whole result, and so the answer that the caller is told, which of a word that is none has its number
pub record PlayPromise (word : ℕ) (r : Run) (s : Stepped) : Type 0 where
  pub settled : s ≡ played word r
  pub told : answer_of s.outcome ≡ answer_of (played word r).outcome
  pub refused : step_of word ≡ None → (answer_of s.outcome).number ≡ decoded_number (step_of word)
