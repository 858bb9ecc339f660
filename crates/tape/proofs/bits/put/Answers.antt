-- `bits::put` meets its contract: the three bytes, read as one number of 24 bits, become the same bits with the field laid over them.
use native.Mathlib.Omega.{arith}
use mathlib.Core.Path.{◌≡◌, sym, ap, ap₂, subst, ◌∙◌}
use Prim.Native.Nat.{ℕ, ◌+◌, ◌-◌, ◌*◌, ◌/◌, ◌%◌, ◌^◌, ◌≤◌, ◌<◌}
use mathlib.Core.List.{List}
use lib.ListN.{length}
use Rattle.tape.specs.Bits.{num, bits, bits_of, window, overlaid}
use Rattle.tape.proofs.BitLaws.{length-bits, num-lt, num-bits-small}
use Rattle.tape.proofs.ByteLaws.{length-window, num-window-lt}
use Rattle.tape.proofs.LayLaws.{length-overlaid, num-overlaid, stored, stored-overlaid}
use Rattle.tape.proofs.bits.put.Goals as goal

within : (s : List ℕ) (p w v : ℕ) → w ≤ 16 → p % 8 + length (bits w v) ≤ length (window 3 s (p / 8))
within s p w v h = rw (length-bits, length-window) (omega arith)

-- what the three bytes become
filled : (s : List ℕ) (p w v old x : ℕ) → w ≤ 16 → v < 2 ^ w → old ≡ num (window 3 s (p / 8))
    → x ≡ (old / 2 ^ (w + (24 - p % 8 - w)) * 2 ^ w + v) * 2 ^ (24 - p % 8 - w) + old % 2 ^ (24 - p % 8 - w)
    → x ≡ num (overlaid (window 3 s (p / 8)) (p % 8) (bits w v))
filled s p w v old x h hv e k =
    k ∙ ap₂ (λ (a b : ℕ). (a / 2 ^ (w + (24 - p % 8 - w)) * 2 ^ w + b) * 2 ^ (24 - p % 8 - w) + a % 2 ^ (24 - p % 8 - w)) e (sym (num-bits-small w v hv))
    ∙ sym (num-overlaid (window 3 s (p / 8)) (p % 8) (bits w v) (within s p w v h) w (24 - p % 8 - w) (length-bits w v) (rw length-window (omega arith)))

num-24 : (s : List ℕ) (p w v : ℕ) → w ≤ 16 → num (overlaid (window 3 s (p / 8)) (p % 8) (bits w v)) < 2 ^ 24
num-24 s p w v h =
    subst (λ (k : ℕ). num (overlaid (window 3 s (p / 8)) (p % 8) (bits w v)) < 2 ^ k) (length-overlaid (window 3 s (p / 8)) (p % 8) (bits w v) (within s p w v h) ∙ length-window 3 s (p / 8))
    (num-lt (overlaid (window 3 s (p / 8)) (p % 8) (bits w v)))

-- what the buffer becomes
put_is : (s after : List ℕ) (p w v x : ℕ) → 1 ≤ w → w ≤ 16 → p + w ≤ 8 * length s → x ≡ num (overlaid (window 3 s (p / 8)) (p % 8) (bits w v)) → after ≡ stored s (p / 8) x
    → bits_of after ≡ overlaid (bits_of s) p (bits w v)
put_is s after p w v x l h k e f = ap bits_of f ∙ stored-overlaid s p (bits w v) x (rw length-bits (omega arith)) (rw length-bits l) (rw length-bits k) e

pub blend-number-requires : goal.blend-number-requires
blend-number-requires c =
    (omega arith, c.requires.2, subst (λ (x : ℕ). x < 2 ^ 24) (sym c.bytes_at-old.ensures) (num-window-lt 3 c.args.buffer.now (c.args.at / 8)))

pub store-requires : goal.store-requires
store-requires c = (
  omega (arith, c.requires.0, c.requires.3),
  subst (λ (x : ℕ). x < 2 ^ 24) (sym (filled c.args.buffer.now c.args.at c.args.width c.args.value c.bytes_at-old.result c.blend-number.result c.requires.1 c.requires.2 c.bytes_at-old.ensures c.blend-number.ensures))
      (num-24 c.args.buffer.now c.args.at c.args.width c.args.value c.requires.1),
)

pub returns : goal.returns
returns c =
    let a = c.args in
    put_is a.buffer.now c.store.new.buffer a.at a.width a.value c.blend-number.result c.requires.0 c.requires.1 c.requires.3
    (filled a.buffer.now a.at a.width a.value c.bytes_at-old.result c.blend-number.result c.requires.1 c.requires.2 c.bytes_at-old.ensures c.blend-number.ensures) c.store.ensures
