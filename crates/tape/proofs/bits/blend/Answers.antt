-- `bits::blend` meets its contract: shifts and masks are quotients, products and remainders by powers of 2.
use native.Mathlib.Omega.{arith}
use mathlib.Core.Path.{◌≡◌, sym, ap₂, subst, ◌∙◌}
use Prim.Native.Nat.{ℕ, ◌+◌, ◌-◌, ◌*◌, ◌/◌, ◌%◌, ◌^◌, ◌≤◌, ◌<◌}
use native.Mathlib.Nat.{mod-lt, lt_of_le_of_lt}
use lib.Bits.{bit_and, bit_or}
use lib.Pow.{pow_pos, pow-add, shr_le}
use lib.Arith.{digits_lt}
use Rattle.tape.proofs.Shifts.{masked, push}
use Rattle.tape.proofs.bits.blend.Goals as goal

blended : (old w sh v : ℕ) → w + sh ≤ 24 → v < 2 ^ w → old < 2 ^ 24
    → bit_or (bit_or (old / 2 ^ (w + sh) * 2 ^ w % 2 ^ 64) v * 2 ^ sh % 2 ^ 64) (bit_and old ((1 * 2 ^ sh) % 2 ^ 64 - 1)) ≡ (old / 2 ^ (w + sh) * 2 ^ w + v) * 2 ^ sh + old % 2 ^ sh
blended old w sh v h hv ho =
    ap₂ (λ (x y : ℕ). bit_or (x * 2 ^ sh % 2 ^ 64) y) (push 24 w hh hv (omega arith)) (masked old sh (omega arith))
    ∙ push (24 + w) sh (subst (λ (x : ℕ). old / 2 ^ (w + sh) * 2 ^ w + v < x) (sym (pow-add 2 24 w)) (digits_lt hh hv)) (mod-lt old (pow_pos sh)) (omega arith)
  where
    hh : old / 2 ^ (w + sh) < 2 ^ 24
    hh = lt_of_le_of_lt (shr_le old (w + sh)) ho

pub returns : goal.returns
returns c = blended c.args.old c.args.width c.args.below c.args.value c.requires.0 c.requires.1 c.requires.2
