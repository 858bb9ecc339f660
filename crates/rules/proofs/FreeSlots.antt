-- The number of free slots matters only to the steps that count it, as the table says (`effect-free`).
use Rattle.std.specs.Prelude.{ℕ, Bool, true, false, ◌≡◌, Result, Ok, Err}
use Rattle.std.proofs.Common.{refl, ap, ◌∙◌, true≢false}
use Rattle.sets.specs.Choice.{pick}
use Rattle.devices.specs.declared.Message.{Message}
use Rattle.devices.specs.declared.Message.TheVariants.{Empty, Request, Answer, Commit}
use Rattle.devices.specs.declared.Here.{Here}
use Rattle.devices.specs.declared.Effect.{Effect}
use Rattle.devices.specs.declared.Step.{Step}
use Rattle.devices.specs.declared.Step.TheVariants.{Ask, Advance, Deliver, Lose, Repeat, Stop}
use Rattle.refusals.specs.declared.Refusal.{Refusal}
use Rattle.refusals.specs.declared.Refusal.TheVariants.{NoState, OutOfRange}
use Rattle.devices.specs.Effects.{refuse}
use Rattle.rules.specs.Table.{row, in_range}
use Rattle.rules.specs.Rules.{deliver, lose, stop, ruled, ruled_if, or_refused, effect_of}

-- the same parts, with another number of free slots
abbrev pub with_free : ℕ → Here → Here
with_free free h = record { contents = h.contents; tablet = h.tablet; listed = h.listed; free = free; stopped = h.stopped }

deliver-free : (m : Message) (free : ℕ) (h : Here) → deliver m (with_free free h) ≡ deliver m h
unfolding deliver
deliver-free Empty free h = refl
deliver-free (Request l) free h = refl
deliver-free (Answer l) free h = refl
deliver-free (Commit n) free h = refl

ruled-free : (step : Step) (m : Message) (free : ℕ) (h : Here) → (row step).counts ≡ false → ruled step m (with_free free h) ≡ ruled step m h
unfolding ruled lose stop
ruled-free (Ask tablet own pair) m free h e = absurd (true≢false e)
ruled-free (Advance tablet) m free h e = absurd (true≢false e)
ruled-free (Deliver slot) m free h e = deliver-free m free h
ruled-free (Lose slot) m free h e = refl
ruled-free (Repeat slot) m free h e = absurd (true≢false e)
ruled-free (Stop device) m free h e = refl

refused-free : (free : ℕ) (h : Here) (x : Result Effect Refusal) → or_refused (with_free free h) x ≡ or_refused h x
unfolding refuse
refused-free free h (Ok e) = refl
refused-free free h (Err refusal) = refl

-- with the number of free slots where it counts, the effect is that of the parts
pub effect-free : (ok : Bool) (step : Step) (m : Message) (free : ℕ) (h : Here) → ((row step).counts ≡ true → free ≡ h.free)
    → effect_of ok step m (with_free free h) ≡ effect_of ok step m h
unfolding effect_of
effect-free ok step m free h p =
    refused-free free h (ruled_if ok step m (with_free free h)) ∙ ap (or_refused h) (go (row step).counts refl)
  where
    go : (b : Bool) → (row step).counts ≡ b → ruled_if ok step m (with_free free h) ≡ ruled_if ok step m h
    go true e = ap (λ (f : ℕ). ruled_if ok step m (with_free f h)) (p e)
    go false e =
        ap (λ (x : Result Effect Refusal). pick ok (pick (in_range (row step).names) x (Err OutOfRange)) (Err NoState)) (ruled-free step m free h e)
