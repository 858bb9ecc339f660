-- `bits::eight_at` meets its contract: the number of eight bytes is that of their bits.
use native.Mathlib.Omega.{arith}
use mathlib.Core.Path.{◌≡◌, ◌∙◌}
use Prim.Native.Nat.{◌+◌, ◌-◌}
use lib.ListN.{take, drop}
use lib.Seq.{take-take}
use Rattle.tape.proofs.ByteLaws.{window-eight}
use Rattle.tape.proofs.bits.eight_at.Goals as goal

pub returns : goal.returns
returns c =
    let a = c.args in
    let front : take 8 (take (a.from + 8 - a.from) (drop a.from a.bytes.now)) ≡ take 8 (drop a.from a.bytes.now) = take-take 8 (a.from + 8 - a.from) (drop a.from a.bytes.now) (omega arith) in
    window-eight a.bytes.now c.in-Some.eight.now a.from c.from_be_bytes.result (λ k. omega (arith, c.type_inv.bytes k)) (c.in-Some.ensures.cases.same ∙ front) c.from_be_bytes.ensures
