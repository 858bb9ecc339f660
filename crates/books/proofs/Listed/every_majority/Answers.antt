use mathlib.Core.Path.{◌≡◌, ◌∙◌}
use Prim.Native.Nat.{ℕ, ◌+◌, min}
use native.Mathlib.Omega.{arith}
use borrow.Author.Rules.{rules}
use borrow.Author.Tests.{tests}
use Rattle.std.proofs.lemmas.Iterator.{YieldsList-from_range, YieldsList-from_map}
use Rattle.std.proofs.lemmas.Iterator.Consumers.{YieldsList-at, YieldsList-from_filter}
use Rattle.std.proofs.lemmas.Iterator.Search.{all_from_yields_List}
use Rattle.sets.specs.Sets.{inside}
use Rattle.books.specs.declared.Config.{Config}
use Rattle.books.specs.Books.{has_majority}
use Rattle.books.specs.Queried.{joined_with}
use Rattle.books.proofs.Turns.{walked-majorities}
use Rattle.books.proofs.Listed.every_majority.Goals as goal

pub returns : goal.returns
returns c =
    let end : c.min-end.result + 1 ≡ min c.args.t 63 + 1 = omega arith in
    all_from_yields_List (λ (queried : Config). has_majority queried c.args.answered) _ _ c.all.result c.all.ensures.ran
    (YieldsList-from_map _ (joined_with c.args.self c.args.config)
    (YieldsList-at c.map.ensures.source
    (YieldsList-from_filter _ (λ (subset : ℕ). inside subset c.args.t) (YieldsList-from_range 0 (min c.args.t 63 + 1) (min c.args.t 63 + 1) (cc) (omega arith))
    c.filter.ensures.closure (λ x b q k. search (rules, tests))))
    c.map.ensures.closure (λ x r q k. search (rules, tests)))
    (λ x b q k. search (rules, tests))
    ∙ walked-majorities c.args.self c.args.config c.args.t c.args.answered
