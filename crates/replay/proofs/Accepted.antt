-- A word that the tape takes for a step has one, which playing it takes (`word-plays`); the words of an accepted tape are such (`accepted-plays`).
use Rattle.std.specs.Prelude.{Option, Some, slice_get}
use mathlib.Core.Path.{◌≡◌, refl, sym}
use mathlib.Core.Logic.{◌≢◌}
use Prim.Native.Nat.{ℕ, zero, suc, ◌<◌}
use mathlib.Core.List.{List, [], ◌∷◌}
use mathlib.Core.Bool.{true}
use native.Mathlib.Omega.{arith}
use lib.ListN.{length, take, get_or}
use borrow.Author.Tests.{lt-ltb}
use Rattle.tape.specs.Bits.{bits, num}
use Rattle.tape.specs.Edition.{first_edition}
use Rattle.tape.specs.Layout.{width, fields_of, fields_in}
use Rattle.std.specs.Prelude.{Ok}
use Rattle.tape.specs.Reading.{read_tape}
use Rattle.tape.specs.Writing.{wide, all_steps}
use Rattle.tape.specs.declared.Fields.{Fields}
use Rattle.tape.proofs.StepLaws.{wide-none}
use Rattle.tape.proofs.WritingLaws.{all_cons}
use Rattle.tape.proofs.RoundTrip.{accepted-part}
use Rattle.devices.specs.declared.Step.{Step}
use Rattle.devices.specs.declared.Step.TheVariants.{Ask, Advance, Deliver, Lose, Repeat, Stop}
use Rattle.parlour.specs.Steps.{taken}
use Rattle.replay.specs.Replay.{kinds, step_of}
use Rattle.replay.specs.Statements.{Plays}
use Rattle.replay.proofs.Words.{step_is, played-step}

-- what a word decodes to is a step
record IsStep (d : Option Step) : Type 0 where
  step : Step
  is : d ≡ Some step

-- each kind that has a width has a step
of-wide : (f : Fields) (k : ℕ) → width first_edition k ≢ 0 → IsStep (slice_get (kinds f) k)
of-wide f zero h = record { step = Ask f.first f.second (record { added = f.third; removed = f.fourth }); is = refl }
of-wide f (suc zero) h = record { step = Advance f.first; is = refl }
of-wide f (suc (suc zero)) h = record { step = Deliver f.first; is = refl }
of-wide f (suc (suc (suc zero))) h = record { step = Lose f.first; is = refl }
of-wide f (suc (suc (suc (suc zero)))) h = record { step = Repeat f.first; is = refl }
of-wide f (suc (suc (suc (suc (suc zero))))) h = record { step = Stop f.first; is = refl }
of-wide f (suc (suc (suc (suc (suc (suc zero)))))) h = record { step = Ask f.first f.second (record { added = f.third; removed = f.fourth }); is = refl }
of-wide f (suc (suc (suc (suc (suc (suc (suc k))))))) h = absurd (h refl)

pub word-plays : (x : ℕ) → 0 < wide first_edition x → Plays x
unfolding fields_in fields_of
word-plays x h =
    let some : width first_edition (num (take 3 (bits 64 x))) ≢ 0 = λ e. omega (arith, wide-none first_edition x e) in
    let d = of-wide (fields_in first_edition x) (num (take 3 (bits 64 x))) some in
    let is : step_of x ≡ Some d.step = sym (step_is x (fields_in first_edition x) (Some d.step) (lt-ltb _ _ h) refl (sym d.is)) in
    record { step = d.step; is = is; takes = λ r. sym (played-step x r (step_of x) refl d.step (taken d.step r) is refl) }

each-wide : (xs : List ℕ) → all_steps first_edition xs ≡ true → (i : ℕ) → i < length xs → 0 < wide first_edition (get_or xs i 0)
each-wide [] h i l = absurd (omega arith)
each-wide (x ∷ xs) h zero l = (all_cons first_edition x xs h).0
each-wide (x ∷ xs) h (suc i) l = each-wide xs (all_cons first_edition x xs h).1 i (omega arith)

pub accepted-plays : (tape xs : List ℕ) → read_tape tape ≡ Ok xs → (i : ℕ) → i < length xs → Plays (get_or xs i 0)
accepted-plays tape xs e i h = word-plays (get_or xs i 0) (each-wide xs (accepted-part first_edition tape xs e).0 i h)
