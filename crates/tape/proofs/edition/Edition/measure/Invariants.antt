-- The words so far are steps, and the bits that they take are counted up to 40,000.
use mathlib.Core.Path.{◌≡◌}
use Prim.Native.Nat.{min}
use mathlib.Core.Bool.{true}
use lib.ListN.{length, take}
use Rattle.tape.specs.Edition.{edition_of}
use Rattle.tape.specs.Writing.{all_steps, body}
use Rattle.tape.proofs.edition.Edition.measure.Given as goal

abbrev pub invariant-loop-word : goal.invariant-loop-word
invariant-loop-word l = (all_steps (edition_of l.self) (take l.word-index l.words) ≡ true) × (l.total ≡ min (length (body (edition_of l.self) (take l.word-index l.words))) 40000)
