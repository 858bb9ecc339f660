-- After k bytes the number is that of their bits, joined.
use mathlib.Core.Path.{◌≡◌}
use Rattle.tape.specs.Bits.{num, window}
use Rattle.tape.proofs.bits.bytes_at.Given as goal

abbrev pub invariant-loop-k : goal.invariant-loop-k
invariant-loop-k l = l.number ≡ num (window l.k l.bytes l.from)
