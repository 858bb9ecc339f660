use mathlib.Core.Path.{◌≡◌, ◌∙◌}
use Prim.Native.Nat.{ℕ, ◌+◌, min}
use native.Mathlib.Omega.{arith}
use borrow.Author.Rules.{rules}
use borrow.Author.Tests.{tests}
use Rattle.std.proofs.lemmas.Iterator.{YieldsList-from_range, YieldsList-from_map}
use Rattle.std.proofs.lemmas.Iterator.Consumers.{YieldsList-at, YieldsList-from_filter, fold_from_yields_List}
use Rattle.sets.specs.Sets.{inside, union}
use Rattle.books.specs.declared.Config.{Config}
use Rattle.books.specs.Books.{members_of}
use Rattle.books.specs.Queried.{joined_with}
use Rattle.books.proofs.Turns.{walked-boxes}
use Rattle.books.proofs.Listed.asked_boxes.Goals as goal

pub returns : goal.returns
returns c =
    let end : c.min-end.result + 1 ≡ min c.args.t 63 + 1 = omega arith in
    fold_from_yields_List _ (λ (boxes : ℕ) (queried : Config). union boxes (members_of queried)) 0 c.fold.result c.fold.ensures.ran
    (YieldsList-from_map _ (joined_with c.args.self c.args.config)
    (YieldsList-at c.map.ensures.source
    (YieldsList-from_filter _ (λ (subset : ℕ). inside subset c.args.t) (YieldsList-from_range 0 (min c.args.t 63 + 1) (min c.args.t 63 + 1) (cc) (omega arith))
    c.filter.ensures.closure (λ x b q k. search (rules, tests))))
    c.map.ensures.closure (λ x r q k. search (rules, tests)))
    (λ b x r q k. search (rules, tests))
    ∙ walked-boxes c.args.self c.args.config c.args.t
