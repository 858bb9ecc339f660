-- `Edition::end_or` meets its contract: the code compares the kind and the bits behind it, which together are the end mark.
use native.Mathlib.Omega.{arith}
use mathlib.Core.Path.{◌≡◌, sym, ap, ◌∙◌}
use Prim.Native.Nat.{◌-◌}
use lib.ListN.{take, drop}
use mathlib.Core.Bool.{false}
use Rattle.tape.specs.Bits.{bits, field_at}
use Rattle.tape.specs.Edition.{edition_of}
use Rattle.tape.specs.Reading.{begins, end_at}
use Rattle.tape.specs.declared.edition.Mark.{Mark}
use Rattle.tape.proofs.MarkLaws.{mark-short, mark-other, mark-rest, mark-is}
use Rattle.tape.proofs.edition.Edition.end_or.Goals.{then-kind-mark-via-then-kind-mark, then-kind-mark-via-else-kind-mark+then-left-mark, then-kind-mark-via-else-kind-mark+else-left-mark+then-field-mark}
use Rattle.tape.proofs.edition.Edition.end_or.Goals as goal

pub returns-then-kind-mark : goal.returns-then-kind-mark
returns-then-kind-mark c =
    let a = c.args in
    let ed = edition_of a.self in
    let m = c.mark-mark.ensures in
    let kind = ap (λ (m : Mark). m.kind) m in
    let rest = ap (λ (m : Mark). m.rest) m in
    let width = ap (λ (m : Mark). m.width) m in
    let none : begins ed.mark (take a.left (bits 64 a.word)) ≡ false =
    elim c.then-kind-mark.branch [
      | then-kind-mark-via-then-kind-mark w ↦ mark-other ed.mark a.word a.left ed.mark_most ed.mark_least (λ e. w.if-kind-mark.true (c.requires ∙ e ∙ sym kind))
      | then-kind-mark-via-else-kind-mark+then-left-mark w ↦ mark-short ed.mark a.word a.left ed.mark_most (omega (arith, w.if-left-mark.true, width))
      | then-kind-mark-via-else-kind-mark+else-left-mark+then-field-mark w ↦
          mark-rest ed.mark a.word a.left ed.mark_most ed.mark_least (λ e. w.if-field-mark.true (w.field.ensures ∙ ap (λ n. field_at a.word 3 (n - 3)) width ∙ e ∙ sym rest))
    ] in
    sym (simp none)

pub returns : goal.returns
returns c =
    let a = c.args in
    let ed = edition_of a.self in
    let m = c.mark-mark.ensures in
    let kind = ap (λ (m : Mark). m.kind) m in
    let rest = ap (λ (m : Mark). m.rest) m in
    let width = ap (λ (m : Mark). m.width) m in
    let behind = sym (ap (λ n. field_at a.word 3 (n - 3)) width) ∙ sym c.field.ensures ∙ c.if-field-mark.false ∙ rest in
    let there = mark-is ed.mark a.word a.left ed.mark_most ed.mark_least (omega (arith, c.if-left-mark.false, width)) (sym c.requires ∙ c.if-kind-mark.false ∙ kind) behind in
    c.tail.ensures ∙ ap (λ n. end_at (take (a.left - n) (drop n (bits 64 a.word))) 0) width ∙ sym (simp there)
