-- `Edition::step_width` meets its contract: the word is read as the step of its kind, by the laws on `wide`.
use native.Mathlib.Omega.{arith}
use mathlib.Core.Path.{◌≡◌, refl, sym, ap, ◌∙◌}
use Prim.Native.Nat.{ℕ}
use lib.ListN.{take}
use Rattle.std.specs.Prelude.{Some}
use Rattle.tape.specs.Bits.{num, bits, word, field_at}
use Rattle.tape.specs.Edition.{edition_of, step_width as fields_width}
use Rattle.tape.specs.declared.edition.Edition.{Edition as InCode}
use Rattle.tape.specs.Layout.{fields, width, layout_of}
use Rattle.tape.proofs.WordLaws.{field_top}
use Rattle.tape.proofs.LayoutLaws.{LaidOut, laid-out, not-laid}
use Rattle.tape.proofs.ReadingLaws.{step-unmarked}
use Rattle.tape.proofs.StepLaws.{room, wide-none, wide-bad, wide_low, wide_good, width-good, width-none}
use Rattle.tape.proofs.edition.Edition.step_width.Goals.{After-top, In_ok-layout, else-top-word-via-then-top-word+else-allows, else-top-word-via-else-top-word}
use Rattle.tape.proofs.edition.Edition.step_width.Goals as goal

kind : ℕ → ℕ
kind x = num (take 3 (bits 64 x))

at-kind : (e : InCode) (x k : ℕ) → k ≡ field_at x 0 3 → layout_of (fields (edition_of e) k) ≡ layout_of (fields (edition_of e) (kind x))
unfolding kind
at-kind e x k h = ap (λ k. layout_of (fields (edition_of e) k)) (h ∙ field_top x 3 (omega arith))

found : (c : In_ok-layout) → LaidOut c.args.self (kind c.args.word) c.in_ok-layout.layout
found c = laid-out c.args.self (kind c.args.word) c.in_ok-layout.layout (c.in_ok-layout.ensures ∙ at-kind c.args.self c.args.word c.field.result c.field.ensures)

-- the bits at the top of the word
tops : (c : After-top) → c.top.result ≡ word (take (width (edition_of c.args.self) (kind c.args.word)) (bits 64 c.args.word))
tops c = c.top.ensures ∙ ap (λ w. word (take w (bits 64 c.args.word))) (found (goal.at.After-top c).In_ok-layout).wide

pub returns-in_err-layout : goal.returns-in_err-layout
unfolding kind
returns-in_err-layout c =
    let ed = edition_of c.args.self in
    let x = c.args.word in
    c.from_residual.ensures
    ∙ width-none ed x (wide-none ed x (ap fields_width (not-laid (fields ed (kind x)) (c.in_err-layout.ensures ∙ at-kind c.args.self x c.field.result c.field.ensures))))

pub returns-then-allows : goal.returns-then-allows
unfolding kind
returns-then-allows c =
    let at = goal.at.returns-then-allows c in
    let a = c.args in
    let ed = edition_of a.self in
    let x = a.word in
    let f = found at.In_ok-layout in
    let good = sym (f.judged x refl) ∙ sym c.allows.ensures ∙ c.if-allows.true in
    let w = wide_good ed x f.some (step-unmarked a.self (bits 64 x) 0 (kind x) refl f.some (room ed x f.some) good) good (sym (tops at.After-top) ∙ c.if-top-word.true) in
    ap Some f.wide ∙ width-good ed x f.some w

pub returns-else-top-word : goal.returns-else-top-word
unfolding kind
returns-else-top-word c =
    let at = goal.at.returns-else-top-word c in
    let a = c.args in
    let ed = edition_of a.self in
    let x = a.word in
    let f = found at.In_ok-layout in
    elim c.else-top-word.branch [
      | else-top-word-via-then-top-word+else-allows w ↦ width-none ed x (wide-bad ed x f.some (sym (f.judged x refl) ∙ sym w.allows.ensures ∙ w.if-allows.false))
      | else-top-word-via-else-top-word w ↦ width-none ed x (wide_low ed x f.some (λ h. w.if-top-word.false (tops at.After-top ∙ h)))
    ]
