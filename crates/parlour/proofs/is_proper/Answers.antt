use Rattle.std.proofs.Common.{rules, ◌∙◌, ap₂}
use borrow.Author.Tests.{tests}
use Rattle.std.proofs.lemmas.Iterator.{YieldsList-from_slice}
use Rattle.sets.specs.Choice.{both}
use Rattle.state.proofs.Chains.{and_both, all_ran}
use Rattle.state.proofs.StateLaws.{up_to_slot, proper-by-messages}
use Rattle.parlour.proofs.is_proper.Goals as goal

pub returns : goal.returns
returns c =
    let run = c.args.run.now in
    and_both c.proper_desk.result c.all.result
    ∙ ap₂ both c.proper_desk.ensures
    (all_ran (up_to_slot run.listed.count) _ _ _ c.all.ensures.ran (YieldsList-from_slice run.slots cc) (λ x b q k. search (rules, tests)))
    ∙ proper-by-messages run
