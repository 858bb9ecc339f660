use mathlib.Core.Path.{◌∙◌}
use native.Mathlib.Nat.{sub-zero}
use Rattle.std.proofs.Common.{rules}
use borrow.Author.Tests.{tests}
use Rattle.std.proofs.lemmas.Iterator.{YieldsList-from_range}
use Rattle.std.proofs.lemmas.Iterator.Search.{all_from_yields_List}
use Rattle.state.specs.State.{all_different}
use Rattle.state.proofs.StateLaws.{is_new}
use Rattle.state.proofs.Chains.{list_each-range}
use Rattle.state.proofs.all_differ.Goals as goal

pub returns : goal.returns
unfolding all_different
returns c =
    let listed = c.args.listed in
    all_from_yields_List (is_new listed) _ _ _ c.all.ensures.ran (YieldsList-from_range 0 listed.count listed.count (cc) (sub-zero listed.count)) (λ x b q k. search (rules, tests))
    ∙ list_each-range (is_new listed) listed.count
