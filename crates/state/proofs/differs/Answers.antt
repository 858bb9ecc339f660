use mathlib.Core.Bool.{not}
use Rattle.std.proofs.Common.{rules, ◌∙◌, refl, take, arith}
use borrow.Author.Tests.{tests}
use Rattle.std.proofs.lemmas.Iterator.{YieldsList-from_slice}
use Rattle.std.proofs.lemmas.Iterator.Search.{all_from_yields_List}
use Rattle.books.specs.Books.{no_config, same_config}
use Rattle.books.specs.Queried.{change_at}
use Rattle.state.proofs.Chains.{list_each}
use Rattle.state.proofs.differs.Goals as goal

pub returns : goal.returns
returns c =
    let a = c.args in
    let changes = a.listed.changes in
    all_from_yields_List (λ earlier. not (same_config earlier (change_at a.listed a.later))) _ _ _ c.all.ensures.ran
    (YieldsList-from_slice (take a.later changes) cc)
    (λ x b q k. search (rules, tests))
    ∙ list_each _ no_config changes _ a.later (omega arith) (λ k l. refl)
