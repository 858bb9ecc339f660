use mathlib.Core.Bool.{true, false}
use mathlib.Core.Path.{◌≡◌, sym, ap, ◌∙◌}
use lib.ListN.{take, length, length-take}
use native.Mathlib.Omega.{arith}
use borrow.Author.Rules.{rules}
use borrow.Author.Tests.{tests}
use Rattle.std.specs.Option.{unwrap_or}
use Rattle.std.proofs.lemmas.Iterator.{IsFirst-from_position, YieldsList-from_slice, YieldsList-from_take}
use Rattle.books.proofs.Turns.{length-mapped, first-found}
use Rattle.books.specs.Books.{same_config}
use Rattle.books.specs.Queried.{place_of}
use Rattle.books.proofs.Listed.place_of.Goals as goal

pub returns : goal.returns
unfolding place_of
returns c =
    let xs = take c.args.self.count c.args.self.changes in
    let p = same_config c.args.change in
    let six : length c.args.self.changes ≡ 6 = search (rules, length-mapped) in
    let long : length xs ≡ c.min.result = omega (arith, length-take c.args.self.count c.args.self.changes) in
    c.unwrap_or.ensures ∙ ap (unwrap_or c.position.result) (sym long)
    ∙ sym (first-found p xs c.position.result
    (IsFirst-from_position _ _ c.position.result (λ x. p x ≡ true) (λ x. p x ≡ false) c.position.ensures.ran
    (YieldsList-from_take c.args.self.count (YieldsList-from_slice c.args.self.changes cc) cc) (λ x q k. search (rules, tests)) (λ x q k. search (rules, tests))))
