-- After n readings the whole part has the steps that the rest of it has after these, from bit p on.
use mathlib.Core.Path.{◌≡◌}
use Prim.Native.Nat.{suc, ◌-◌, ◌*◌, ◌≤◌}
use lib.ListN.{length}
use Rattle.tape.specs.Bits.{bits_of}
use Rattle.tape.specs.Edition.{edition_of}
use Rattle.tape.specs.Reading.{read_from, read_steps}
use Rattle.tape.specs.Promises.{counted}
use Rattle.tape.proofs.reading.Part.count_steps.Given as goal

abbrev pub invariant-loop-next : goal.invariant-loop-next
invariant-loop-next l =
    (l.at ≤ 8 * length l.self.bytes.now) × (l.steps ≤ l.at) × (counted 0 (read_steps (edition_of l.self.edition) (bits_of l.self.bytes.now)) ≡ counted l.steps (read_from (edition_of l.self.edition) (suc (length (bits_of l.self.bytes.now)) - l.steps) (bits_of l.self.bytes.now) l.at))

abbrev pub decreases-loop-next : goal.decreases-loop-next
decreases-loop-next l = 8 * length l.self.bytes.now - l.at
