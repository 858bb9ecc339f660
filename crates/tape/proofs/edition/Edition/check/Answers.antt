-- `Edition::check` meets its contract: behind a good head the steps are read from the third byte on.
use native.Mathlib.Omega.{arith}
use mathlib.Core.Path.{◌≡◌, sym, ap, ◌∙◌}
use Prim.Native.Nat.{ℕ}
use lib.ListN.{length-drop}
use Rattle.std.specs.Prelude.{Ok}
use Rattle.tape.specs.Edition.{edition_of}
use Rattle.tape.specs.Reading.{boxes_in, read_in}
use Rattle.tape.specs.Promises.{recorded, counted, recorded_as}
use Rattle.tape.proofs.LayLaws.{part-from}
use Rattle.tape.proofs.PromiseLaws.{handed-on, recorded-counted, recorded-refused}
use Rattle.tape.proofs.TapeLaws.{GoodHead, head-good, head-is, head-there, read-bad, part-reads}
use Rattle.tape.proofs.edition.Edition.check.Goals.{In_ok-first}
use Rattle.tape.proofs.edition.Edition.check.Goals as goal

good : (c : In_ok-first) → GoodHead (edition_of c.args.self) c.args.tape.now
good c = head-good (edition_of c.args.self) c.args.tape.now c.in_ok-first.first (sym c.in_ok-first.ensures)

pub returns-in_err-first : goal.returns-in_err-first
returns-in_err-first c =
    let ed = edition_of c.args.self in
    let s = c.args.tape.now in
    let e = c.in_err-first.field-0.0 in
    handed-on c.from_residual.result e c.from_residual.ensures.1 ∙ sym (ap (recorded_as (boxes_in ed s)) (read-bad ed s e (sym c.in_err-first.ensures)))

pub slice_bounds-part-count : goal.slice_bounds-part-count
slice_bounds-part-count c = (head-there (edition_of c.args.self) c.args.tape.now (good (goal.at.slice_bounds-part-count c).In_ok-first)).0

pub slice_bounds-part-start : goal.slice_bounds-part-start
slice_bounds-part-start c =
    let t = head-there (edition_of c.args.self) c.args.tape.now (good (goal.at.slice_bounds-part-start c).In_ok-first) in
    omega (arith, t.0)

pub invariant_of-part : goal.invariant_of-part
invariant_of-part c =
    let g = good (goal.at.invariant_of-part c).In_ok-first in
    let s = c.args.tape.now in
    record { short = rw (part-from 2 s, length-drop) (omega (arith, g.most)); begun = rw (part-from 2 s, length-drop) (head-there (edition_of c.args.self) s g).2 }

pub returns-in_err-steps : goal.returns-in_err-steps
returns-in_err-steps c =
    let ed = edition_of c.args.self in
    let s = c.args.tape.now in
    let g = good (goal.at.returns-in_err-steps c).In_ok-first in
    let e = c.in_err-steps.field-0.0 in
    handed-on c.from_residual-in_err-steps.result e c.from_residual-in_err-steps.ensures.1
    ∙ recorded-refused (boxes_in ed s) e (read_in ed s) (c.in_err-steps.ensures ∙ ap (counted 0) (part-reads ed s g))

pub returns : goal.returns
returns c =
    let ed = edition_of c.args.self in
    let s = c.args.tape.now in
    let g = good (goal.at.returns c).In_ok-first in
    let first : c.in_ok-first.first ≡ boxes_in ed s = let h = c.in_ok-first.ensures ∙ head-is ed s g in cc in
    ap (λ (b : ℕ). Ok (recorded b c.in_ok-steps.steps)) first
    ∙ recorded-counted (boxes_in ed s) c.in_ok-steps.steps (read_in ed s) (c.in_ok-steps.ensures ∙ ap (counted 0) (part-reads ed s g))
