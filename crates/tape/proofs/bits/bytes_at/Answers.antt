-- `bits::bytes_at` meets its contract: each byte is joined to the bits before it.
use native.Mathlib.Omega.{arith}
use mathlib.Core.Path.{refl}
use Prim.Native.Nat.{◌+◌}
use Rattle.tape.specs.Bits.{num, window}
use Rattle.tape.proofs.ByteLaws.{window-one, window-join}
use Rattle.tape.proofs.bits.bytes_at.Goals as goal

pub loop-k-init : goal.loop-k-init
unfolding num window
loop-k-init c = refl

pub loop-k-preserved : goal.loop-k-preserved
loop-k-preserved c =
    let l = c.loop-k in
    let a = c.args in
    let b = c.byte_at in
    window-join l.k 1 a.bytes.now a.from l.number b.result (omega arith) l.invariant (window-one a.bytes.now (a.from + l.k) b.result b.ensures.0 b.ensures.1)
