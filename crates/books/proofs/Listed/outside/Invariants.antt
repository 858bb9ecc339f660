use mathlib.Core.Path.{◌≡◌}
use Rattle.sets.specs.Bounded.{those}
use Rattle.books.proofs.Turns.{stayer}
use Rattle.books.proofs.Listed.outside.Given as goal

abbrev pub invariant-loop-k : goal.invariant-loop-k
invariant-loop-k l = l.out ≡ those l.k (stayer l.fn.self l.config l.t)
