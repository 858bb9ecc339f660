-- Counting is weighing with one for each.
use Rattle.std.proofs.Common.{arith}
use Rattle.sets.specs.Sets.{shared}
use Rattle.sets.specs.Majority.{majority, majority_of}
use Rattle.sets.proofs.CountLaws.{count-le, one-counts}
use Rattle.sets.proofs.majority.Goals as goal

pub overflow_mul-result : goal.overflow_mul-result
overflow_mul-result c =
    omega (arith, c.count_boxes-2.ensures, count-le 16 (shared c.members_of-boxes.result c.args.answered))

pub returns : goal.returns
unfolding majority_of majority
returns c = simp (one-counts, c.count_boxes.ensures, c.count_boxes-2.ensures, c.members_of-boxes.ensures)
