-- `bits::field` meets its contract: the two shifts cut the field from the word.
use native.Mathlib.Omega.{arith}
use mathlib.Core.Path.{sym}
use Rattle.tape.proofs.WordLaws.{field-outside, field-none, field-shifted}
use Rattle.tape.proofs.bits.field.Goals.{then-width-eq0-via-then-width-eq0, then-width-eq0-via-else-width-eq0+then-saturating_add-gt64}
use Rattle.tape.proofs.bits.field.Goals as goal

pub returns-then-width-eq0 : goal.returns-then-width-eq0
returns-then-width-eq0 c =
    let a = c.args in
    elim c.then-width-eq0.branch [
      | then-width-eq0-via-then-width-eq0 w ↦ sym (field-none a.word a.from a.width w.if-width-eq0.true)
      | then-width-eq0-via-else-width-eq0+then-saturating_add-gt64 w ↦ sym (field-outside a.word a.from a.width (omega (arith, w.if-saturating_add-gt64.true, w.saturating_add.ensures)))
    ]

pub returns : goal.returns
returns c =
    field-shifted c.args.word c.args.from c.args.width c.ranges.word.fits (omega arith)
