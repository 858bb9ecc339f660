use mathlib.Core.Path.{◌≡◌, ◌∙◌}
use native.Mathlib.Omega.{arith}
use borrow.Author.Tests.{eq-eqb, ne_eqb}
use Rattle.sets.proofs.BoundedLaws.{pick_true, pick-false, times_zero, times-on}
use Rattle.books.specs.Queried.{join_change, joined_with}
use Rattle.books.proofs.Listed.joined_with.Goals.{else-t-k-eq1, then-t-k-eq1}
use Rattle.books.proofs.Listed.joined_with.Goals as goal

pub loop-k-init : goal.loop-k-init
loop-k-init c = times_zero (join_change c.args.self c.args.t) _

pub loop-k-preserved : goal.loop-k-preserved
loop-k-preserved c =
    let l = c.loop-k in
    times-on (join_change c.args.self c.args.t) l.k _ l.invariant
    (elim c.if-t-k-eq1.branch [
      | then-t-k-eq1 w ↦ w.joined-is ∙ w.join-joined.ensures ∙ pick_true _ _ (eq-eqb _ _ w.if-t-k-eq1.true)
      | else-t-k-eq1 w ↦ w.joined-is ∙ pick-false _ _ (ne_eqb _ _ w.if-t-k-eq1.false)
    ])

pub returns : goal.returns
unfolding joined_with
returns c =
    let e : c.loop-k.k ≡ 6 = omega arith in
    rw e at c.loop-k.invariant
