-- Each step hands back one book at most.
use Rattle.std.proofs.Common.{◌≤◌}
use Rattle.lines.proofs.shown.write_steps.Given as goal

abbrev pub invariant-loop-number : goal.invariant-loop-number
invariant-loop-number g l = l.books ≤ l.number
