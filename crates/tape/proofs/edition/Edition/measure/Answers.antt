-- `Edition::measure` meets its contract: a word of no width is no step, and the sum of the widths is the length of the bits.
use native.Mathlib.Omega.{arith}
use mathlib.Core.Path.{◌≡◌, refl, ap, subst, ◌∙◌}
use Prim.Native.Nat.{min}
use mathlib.Core.Bool.{true}
use lib.ListN.{length, take, get_or}
use lib.Seq.{take_all}
use Rattle.tape.specs.Edition.{edition_of}
use Rattle.tape.specs.Writing.{all_steps, body}
use Rattle.tape.proofs.StepLaws.{wide-most, width-some, width-missing}
use Rattle.tape.proofs.WritingLaws.{length-next, all-next, all-bad, measured-good, measured-bad}
use Rattle.tape.proofs.edition.Edition.measure.Goals as goal

pub loop-word-init : goal.loop-word-init
unfolding all_steps body
loop-word-init c = (refl, refl)

pub returns-in_err-step_width : goal.returns-in_err-step_width
returns-in_err-step_width c =
    let ed = edition_of c.args.self in
    let xs = c.args.words.now in
    let l = c.loop-word in
    c.from_residual.ensures ∙ measured-bad ed xs (all-bad ed xs l.word-index (omega arith) l.invariant.0 (width-missing ed (get_or xs l.word-index 0) c.in_err-step_width.ensures))

pub overflow_add-branch : goal.overflow_add-branch
overflow_add-branch c =
    let ed = edition_of c.args.self in
    let x = get_or c.args.words.now c.loop-word.word-index 0 in
    omega (arith, wide-most ed x, (width-some ed x c.in_ok-step_width.field-0 c.in_ok-step_width.ensures).0, c.loop-word.invariant.1)

pub loop-word-preserved : goal.loop-word-preserved
loop-word-preserved c =
    let ed = edition_of c.args.self in
    let xs = c.args.words.now in
    let l = c.loop-word in
    let w = width-some ed (get_or xs l.word-index 0) c.in_ok-step_width.field-0 c.in_ok-step_width.ensures in
    (all-next ed xs l.word-index (omega arith) l.invariant.0 w.1, omega (arith, l.invariant.1, w.0, c.min-total.ensures, length-next ed xs l.word-index (omega arith)))

pub returns : goal.returns
returns c =
    let l = c.loop-word in
    let ed = edition_of c.args.self in
    let xs = c.args.words.now in
    let e : take l.word-index xs ≡ xs = take_all l.word-index xs (omega arith) in
    measured-good ed xs l.total (subst (λ z. all_steps ed z ≡ true) e l.invariant.0) (l.invariant.1 ∙ ap (λ z. min (length (body ed z)) 40000) e)
