use Rattle.std.proofs.Common.{rules, ◌≡◌}
use borrow.Author.Tests.{tests}
use Rattle.std.proofs.lemmas.Iterator.{YieldsList-from_slice}
use Rattle.state.specs.Slots.{all}
use Rattle.state.specs.State.{proper_contents, proper_tablet}
use Rattle.state.proofs.Chains.{all_ran}
use Rattle.state.proofs.StateLaws.{desk-up-to}
use Rattle.state.proofs.proper_desk.Goals as goal

pub returns : goal.returns
returns c =
    let a = c.args in
    let n = a.listed.count in
    let contents : c.all.result ≡ all (proper_contents n) a.devices =
    all_ran (proper_contents n) _ _ _ c.all.ensures.ran (YieldsList-from_slice a.devices cc) (λ x b q k. search (rules, tests)) in
    let rounds : c.all-2.result ≡ all (proper_tablet n) a.tablets =
    all_ran (proper_tablet n) _ _ _ c.all-2.ensures.ran (YieldsList-from_slice a.tablets cc) (λ x b q k. search (rules, tests)) in
    rw (c.all_differ.ensures, contents, rounds) (desk-up-to a.listed a.devices a.tablets c.if-n-gt6.false)
