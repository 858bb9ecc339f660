use mathlib.Core.Bool.{true, false, not}
use mathlib.Core.Path.{◌≡◌, sym, ap, ap₂, ◌∙◌}
use native.Mathlib.Omega.{arith}
use borrow.Author.Tests.{eq-eqb, ne_eqb}
use Rattle.sets.specs.Choice.{both}
use Rattle.sets.proofs.BoundedLaws.{both_false, those-zero, those-out}
use Rattle.books.specs.Queried.{outside}
use Rattle.books.proofs.Turns.{stayer, those-on}
use Rattle.books.proofs.Listed.outside.Goals.{then-t-k-eq1+then-not-is_inside, else-t-k-eq1, else-t-k-eq1-via-then-t-k-eq1+else-not-is_inside, else-t-k-eq1-via-else-t-k-eq1}
use Rattle.books.proofs.Listed.outside.Goals as goal

pub loop-k-init : goal.loop-k-init
loop-k-init c = those-zero (stayer c.args.self c.args.config c.args.t)

pub loop-k-preserved : goal.loop-k-preserved
loop-k-preserved c =
    let l = c.loop-k in
    let p = stayer c.args.self c.args.config c.args.t in
    elim c.if-t-k-eq1.branch [
      | then-t-k-eq1+then-not-is_inside w ↦ w.out-is ∙ those-on l.k p (omega arith) l.invariant (ap₂ both (eq-eqb _ _ w.if-t-k-eq1.true) (ap not {y = false} (grind (arith, w.is_inside.ensures, w.if-not-is_inside.true))))
      | else-t-k-eq1 w ↦
          w.out-is ∙ l.invariant
          ∙ those-out l.k p
          (elim w.else-t-k-eq1.branch [
            | else-t-k-eq1-via-then-t-k-eq1+else-not-is_inside w' ↦ ap₂ both (eq-eqb _ _ w'.if-t-k-eq1.true) (ap not {y = true} (grind (arith, w'.is_inside.ensures, w'.if-not-is_inside.false)))
            | else-t-k-eq1-via-else-t-k-eq1 w' ↦ sym (both_false _ (ne_eqb _ _ w'.if-t-k-eq1.false))
          ])
    ]

pub returns : goal.returns
unfolding outside
returns c =
    let e : c.loop-k.k ≡ 6 = omega arith in
    rw e at c.loop-k.invariant
