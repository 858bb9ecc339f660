-- `reading::tail` meets its contract: the bits behind the end mark are fewer than a byte, and are tested as a field.
use native.Mathlib.Omega.{arith}
use mathlib.Core.Path.{sym, ◌∙◌}
use lib.ListN.{take, drop, length-take, length-drop}
use Rattle.tape.specs.Bits.{bits}
use Rattle.tape.proofs.BitLaws.{length-bits}
use Rattle.tape.proofs.WordLaws.{field-inside}
use Rattle.tape.proofs.MarkLaws.{end-long, end-set, end-good}
use Rattle.tape.proofs.reading.tail.Goals as goal

pub returns-then-left-ge8 : goal.returns-then-left-ge8
returns-then-left-ge8 c =
    let a = c.args in
    sym (end-long (take a.left (drop a.mark (bits 64 a.word))) 0 (simp (length-take, length-drop, length-bits) (omega (arith, c.requires))))

pub returns-then-field-eq0 : goal.returns-then-field-eq0
returns-then-field-eq0 c =
    let a = c.args in
    sym (end-good (take a.left (drop a.mark (bits 64 a.word))) 0 (simp (length-take, length-drop, length-bits) (omega arith))
    (sym (field-inside a.word a.mark a.left (omega (arith, c.requires))) ∙ sym c.field.ensures ∙ c.if-field-eq0.true))

pub returns-else-field-eq0 : goal.returns-else-field-eq0
returns-else-field-eq0 c =
    let a = c.args in
    sym (end-set (take a.left (drop a.mark (bits 64 a.word))) 0 (λ e. c.if-field-eq0.false (c.field.ensures ∙ field-inside a.word a.mark a.left (omega (arith, c.requires)) ∙ e)))
