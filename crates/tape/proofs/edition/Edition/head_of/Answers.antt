-- `Edition::head_of` meets its contract: each test of the code is the same test of `head_of`.
use native.Mathlib.Omega.{arith}
use mathlib.Core.Path.{◌≡◌, sym, ap, ◌∙◌}
use Prim.Native.Nat.{◌+◌, ◌/◌, ◌≤◌, ◌<◌}
use borrow.Author.Tests.{lt-ltb, le-ltb, eq-eqb, ne_eqb}
use lib.ListN.{length}
use Rattle.std.specs.Prelude.{Ok}
use Rattle.tape.specs.Edition.{edition_of}
use Rattle.tape.specs.Reading.{least_bytes, head_of}
use Rattle.tape.specs.declared.edition.Head.{Head}
use Rattle.tape.proofs.edition.Edition.head_of.Goals.{After-head, Else-tape-head}
use Rattle.tape.proofs.edition.Edition.head_of.Goals as goal

least : (c : After-head) → c.head.result.width / 8 + 1 ≡ least_bytes (edition_of c.args.self)
least c = ap (λ (h : Head). h.width / 8 + 1) c.head.ensures

enough : (c : Else-tape-head) → least_bytes (edition_of c.args.self) ≤ length c.args.tape.now
enough c = omega (arith, c.if-tape-head.false, least (goal.at.Else-tape-head c).After-head)

pub returns-then-tape-gt-MOST_BYTES : goal.returns-then-tape-gt-MOST_BYTES
unfolding head_of
returns-then-tape-gt-MOST_BYTES c = sym (simp (lt-ltb _ _ c.if-tape-gt-MOST_BYTES.true))

pub returns-then-tape-head : goal.returns-then-tape-head
unfolding head_of
returns-then-tape-head c =
    let few : length c.args.tape.now < least_bytes (edition_of c.args.self) = omega (arith, c.if-tape-head.true, least (goal.at.returns-then-tape-head c).After-head) in
    sym (simp (le-ltb _ _ c.if-tape-gt-MOST_BYTES.false, lt-ltb _ _ few))

pub returns-then-first-eq0 : goal.returns-then-first-eq0
unfolding head_of
returns-then-first-eq0 c =
    sym (simp (le-ltb _ _ c.if-tape-gt-MOST_BYTES.false, le-ltb _ _ (enough (goal.at.returns-then-first-eq0 c).Else-tape-head), eq-eqb _ _ (sym c.first_boxes-first.ensures ∙ c.if-first-eq0.true)))

pub returns : goal.returns
unfolding head_of
returns c =
    ap Ok c.first_boxes-first.ensures
    ∙ sym (simp (le-ltb _ _ c.if-tape-gt-MOST_BYTES.false, le-ltb _ _ (enough (goal.at.returns c).Else-tape-head), ne_eqb _ _ (λ z. c.if-first-eq0.false (c.first_boxes-first.ensures ∙ z))))
