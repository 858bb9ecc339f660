use Rattle.std.proofs.Common.{rules}
use borrow.Author.Tests.{tests}
use Rattle.std.proofs.lemmas.Iterator.{YieldsList-from_slice}
use Rattle.std.proofs.lemmas.Iterator.Search.{position_from_yields_List}
use Rattle.state.specs.Slots.{is_free}
use Rattle.parlour.proofs.first_free.Goals as goal

pub returns : goal.returns
returns c =
    position_from_yields_List is_free _ _ _ c.position.ensures.ran (YieldsList-from_slice c.args.slots.now cc) (λ x b q k. search (rules, tests))
