use Rattle.std.proofs.Common.{rules, ◌∙◌}
use borrow.Author.Tests.{tests}
use Rattle.std.proofs.lemmas.Iterator.{YieldsList-from_slice}
use Rattle.std.proofs.lemmas.Iterator.Consumers.{YieldsList-from_filter, count_from_yields_List}
use Rattle.sets.proofs.BoundedLaws.{pick_true}
use Rattle.state.specs.Slots.{is_free, many}
use Rattle.state.proofs.Chains.{many_counted}
use Rattle.parlour.proofs.counted.Goals as goal

pub returns-then-about_step : goal.returns-then-about_step
returns-then-about_step c =
    let slots = c.args.slots.now in
    count_from_yields_List c.filter.result _ c.count.ensures.ran
    (YieldsList-from_filter _ is_free (YieldsList-from_slice slots cc) c.filter.ensures.closure (λ x b q k. search (rules, tests)))
    ∙ many_counted is_free slots ∙ pick_true (many is_free slots) 0 (search rules)
