use mathlib.Core.Path.{◌≡◌}
use Rattle.sets.specs.Bounded.{times}
use Rattle.books.specs.Queried.{join_change}
use Rattle.books.proofs.Listed.joined_with.Given as goal

abbrev pub invariant-loop-k : goal.invariant-loop-k
invariant-loop-k l = l.joined ≡ times (join_change l.fn.self l.t) l.k l.fn.config
