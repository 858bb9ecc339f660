-- Words as steps: the fields of a word are small (`fields_small`), the cases of `step_of` and `played`.
use Rattle.std.specs.Prelude.{Option, Some, None}
use Prim.Native.Nat.{ℕ, zero, suc, ◌^◌, ◌≤◌, ◌<◌}
use mathlib.Core.Bool.{Bool, true, false}
use mathlib.Core.List.{List, [], ◌∷◌}
use mathlib.Core.Path.{◌≡◌, sym, ap, subst, ◌∙◌}
use native.Mathlib.Nat.{lt_of_lt_of_le}
use native.Mathlib.Omega.{arith}
use lib.ListN.{take, drop, get_or}
use lib.Pow.{pow_pos, pow_mono}
use Rattle.sets.specs.Choice.{pick}
use Rattle.tape.specs.Bits.{bits, num}
use Rattle.tape.specs.Edition.{Field, first_edition}
use Rattle.tape.specs.Layout.{fields, numbers, fields_of, fields_in, no_field}
use Rattle.tape.specs.Writing.{is_step}
use Rattle.tape.specs.declared.Fields.{Fields}
use Rattle.tape.proofs.BitLaws.{num-take-lt}
use Rattle.devices.specs.declared.Step.{Step}
use Rattle.state.specs.declared.Run.{Run}
use Rattle.state.specs.declared.Stepped.{Stepped}
use Rattle.parlour.specs.Steps.{taken}
use Rattle.replay.specs.Replay.{of_fields, step_of, played_by, played}
use Rattle.replay.specs.Working.{Small}

-- ---- The fields of a word

numbers-lt : (xs : List Field) (f : List Bool) (i n : ℕ) → (get_or xs i no_field).width ≤ n → get_or (numbers xs f) i 0 < 2 ^ n
unfolding numbers
numbers-lt [] f i n h = pow_pos n
numbers-lt (x ∷ xs) f zero n h = lt_of_lt_of_le (num-take-lt f x.width) (pow_mono h)
numbers-lt (x ∷ xs) f (suc i) n h = numbers-lt xs (drop x.width f) i n h

-- the widest fields of the table, by their place
abbrev Widths : List Field → Type 0
Widths xs =
    ((get_or xs 0 no_field).width ≤ 8) × ((get_or xs 1 no_field).width ≤ 16) × ((get_or xs 2 no_field).width ≤ 16) × ((get_or xs 3 no_field).width ≤ 16)

widths : (k : ℕ) → Widths (fields first_edition k)
widths zero = (omega arith, omega arith, omega arith, omega arith)
widths (suc zero) = (omega arith, omega arith, omega arith, omega arith)
widths (suc (suc zero)) = (omega arith, omega arith, omega arith, omega arith)
widths (suc (suc (suc zero))) = (omega arith, omega arith, omega arith, omega arith)
widths (suc (suc (suc (suc zero)))) = (omega arith, omega arith, omega arith, omega arith)
widths (suc (suc (suc (suc (suc zero))))) = (omega arith, omega arith, omega arith, omega arith)
widths (suc (suc (suc (suc (suc (suc zero)))))) = (omega arith, omega arith, omega arith, omega arith)
widths (suc (suc (suc (suc (suc (suc (suc k))))))) = (omega arith, omega arith, omega arith, omega arith)

pub fields_small : (x : ℕ) (f : Fields) → f ≡ fields_in first_edition x → Small f
unfolding fields_in fields_of
fields_small x f e =
    let k = num (take 3 (bits 64 x)) in
    let below = numbers-lt (fields first_edition k) (drop 3 (bits 64 x)) in
    let w = widths k in
    subst Small (sym e) (record { first = below 0 8 w.0; second = below 1 16 w.1; third = below 2 16 w.2; fourth = below 3 16 w.3 })

-- ---- The cases of a word

pub step_is : (x : ℕ) (f : Fields) (d : Option Step) → is_step first_edition x ≡ true → f ≡ fields_in first_edition x → d ≡ of_fields f → d ≡ step_of x
unfolding step_of
step_is x f d e g h = h ∙ ap of_fields g ∙ sym (ap (λ b. pick b (of_fields (fields_in first_edition x)) None) e)

pub step-none : (x : ℕ) → is_step first_edition x ≡ false → None ≡ step_of x
unfolding step_of
step-none x e = sym (ap (λ b. pick b (of_fields (fields_in first_edition x)) None) e)

module _ (x : ℕ) (r : Run) (d : Option Step) (decoded : d ≡ step_of x) where
  pub played-step : (step : Step) (s : Stepped) → d ≡ Some step → s ≡ taken step r → s ≡ played x r
  unfolding played
  played-step step s e g = g ∙ ap (λ d. played_by d r) (sym e ∙ decoded)
