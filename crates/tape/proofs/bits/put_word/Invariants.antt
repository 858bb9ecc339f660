-- After so many bits the first bits of the word lie over what was there from that bit on.
use mathlib.Core.Path.{◌≡◌}
use Prim.Native.Nat.{◌-◌, ◌≤◌}
use lib.ListN.{length, take}
use Rattle.tape.specs.Bits.{bits, bits_of, overlaid}
use Rattle.tape.proofs.bits.put_word.Given as goal

abbrev pub invariant-loop-from : goal.invariant-loop-from
invariant-loop-from l = (l.from ≤ l.width) × (length l.buffer ≡ length l.initial.buffer) × (bits_of l.buffer ≡ overlaid (bits_of l.initial.buffer) l.at (take l.from (bits 64 l.word)))

abbrev pub decreases-loop-from : goal.decreases-loop-from
decreases-loop-from l = l.width - l.from
