-- `Part::read_step` meets its contract: where the bits at p are no end mark, the step of their kind is read, by the laws on `read_at`.
use borrow.Author.Rules.{rules}
use native.Mathlib.Omega.{arith}
use mathlib.Core.Path.{◌≡◌, sym, ap, ◌∙◌}
use Prim.Native.Nat.{ℕ, ◌+◌, ◌-◌, ◌*◌, ◌≤◌, ◌<◌}
use mathlib.Core.Bool.{false}
use mathlib.Core.List.{List}
use lib.ListN.{length, take, drop, length-drop}
use lib.Seq.{take-take, length-take-le}
use Rattle.tape.specs.Bits.{num, bits, bits_of, field_at, word, Ahead}
use Rattle.tape.specs.Edition.{edition_of, step_width}
use Rattle.tape.specs.Layout.{fields, legal}
use Rattle.tape.specs.Reading.{begins, end_or, step_at, read_at}
use Rattle.refusals.specs.declared.Refusal.{Refusal}
use Rattle.refusals.specs.declared.Refusal.TheVariants.{EndsTooSoon, NoStep}
use Rattle.tape.specs.declared.reading.Reading.TheVariants.{Step, Refused}
use Rattle.tape.proofs.ByteLaws.{length-bits_of}
use Rattle.tape.proofs.WordLaws.{field_top, take-word}
use Rattle.tape.proofs.LayoutLaws.{LaidOut, laid-out, not-laid, width-most, width-least}
use Rattle.tape.proofs.MarkLaws.{begins-short}
use Rattle.tape.proofs.ReadingLaws.{end-or, step-unmarked, read_short, read-kind, kind-step, kind-none, step-short, step-good, step-bad}
use Rattle.tape.proofs.reading.Part.read_step.Goals.{After-ahead-window, After-field-kind, After-allows, After-top-word, In-Some}
use Rattle.tape.proofs.reading.Part.read_step.Goals as goal

-- the kind, as the code cuts it from the bits ahead
kind-is : (s : List ℕ) (p x k : ℕ) → p + 3 ≤ 8 * length s → Ahead (bits_of s) p x → k ≡ field_at x 0 3 → num (take 3 (drop p (bits_of s))) ≡ k
kind-is s p x k h a e = sym (e ∙ field_top x 3 (omega arith) ∙ ap num (a 3 (omega arith) (rw length-bits_of h)))

-- the word of the w bits ahead
record Word (s : List ℕ) (p w y : ℕ) : Type 0 where
  is : y ≡ word (take w (drop p (bits_of s)))
  top : take w (bits 64 y) ≡ take w (drop p (bits_of s))

word_at : (s : List ℕ) (p w x y : ℕ) → w ≤ 54 → p + w ≤ 8 * length s → Ahead (bits_of s) p x → y ≡ word (take w (bits 64 x)) → Word s p w y
word_at s p w x y h l a e =
    let f = take w (drop p (bits_of s)) in
    let i : y ≡ word f = e ∙ ap word (a w (omega arith) (rw length-bits_of l)) in
    record { is = i; top = ap (λ z. take w (bits 64 z)) i ∙ take-word f w (length-take-le w (drop p (bits_of s)) (simp (length-drop, length-bits_of) (omega arith))) (omega arith) }

-- the end or a refusal, where reading comes to that refusal without the end mark
no_step : (c : After-ahead-window) (refusal : Refusal)
    → (begins (edition_of c.args.self.edition).mark (drop c.args.at (bits_of c.args.self.bytes.now)) ≡ false → read_at (edition_of c.args.self.edition) (bits_of c.args.self.bytes.now) c.args.at ≡ Refused refusal)
    → end_or (edition_of c.args.self.edition) c.ahead-window.result (8 * length c.args.self.bytes.now - c.args.at) refusal
    ≡ read_at (edition_of c.args.self.edition) (bits_of c.args.self.bytes.now) c.args.at
no_step c refusal h =
    let a = c.args in
    let s = a.self.bytes.now in
    end-or (edition_of a.self.edition) (bits_of s) a.at c.ahead-window.result (8 * length s - a.at) c.ahead-window.ensures (rw length-bits_of c.requires) (ap (λ n. n - a.at) (sym (length-bits_of s))) refusal h

kind : (c : After-field-kind) → num (take 3 (drop c.args.at (bits_of c.args.self.bytes.now))) ≡ c.field-kind.result
kind c =
    let a = c.args in
    kind-is a.self.bytes.now a.at c.ahead-window.result c.field-kind.result (search rules) c.ahead-window.ensures c.field-kind.ensures

cut : (c : After-field-kind) → c.field-kind.result ≡ num (take 3 (bits 64 c.ahead-window.result))
cut c = c.field-kind.ensures ∙ field_top c.ahead-window.result 3 (omega arith)

-- the layout of that kind
found : (c : In-Some) → LaidOut c.args.self.edition c.field-kind.result c.in-Some.layout
found c = laid-out c.args.self.edition c.field-kind.result c.in-Some.layout (sym c.in-Some.is ∙ c.layout.ensures)

least : (c : In-Some) → 6 ≤ c.in-Some.layout.width
least c = let f = found c in omega (arith, f.wide, width-least (edition_of c.args.self.edition) c.field-kind.result f.some)

most : (c : In-Some) → c.in-Some.layout.width ≤ 54
most c = omega (arith, (found c).wide, width-most (edition_of c.args.self.edition) c.field-kind.result)

-- without the end mark the step of that kind is read
stepped : (c : In-Some) → begins (edition_of c.args.self.edition).mark (drop c.args.at (bits_of c.args.self.bytes.now)) ≡ false
    → read_at (edition_of c.args.self.edition) (bits_of c.args.self.bytes.now) c.args.at
    ≡ step_at (edition_of c.args.self.edition) (bits_of c.args.self.bytes.now) c.args.at c.in-Some.layout.width
stepped c b =
    let at = goal.at.In-Some c in
    let a = c.args in
    let ed = edition_of a.self.edition in
    let t = bits_of a.self.bytes.now in
    let f = found c in
    read-kind ed t a.at c.field-kind.result b (simp length-bits_of (search rules)) (kind at.After-field-kind)
    ∙ kind-step ed t a.at c.field-kind.result f.some ∙ ap (step_at ed t a.at) (sym f.wide)

words : (c : After-top-word) → Word c.args.self.bytes.now c.args.at c.in-Some.layout.width c.top-word.result
words c =
    let a = c.args in
    word_at a.self.bytes.now a.at c.in-Some.layout.width c.ahead-window.result c.top-word.result (most (goal.at.After-top-word c).In-Some) (search rules) c.ahead-window.ensures c.top-word.ensures

judged : (c : After-allows) → legal (edition_of c.args.self.edition) (take c.in-Some.layout.width (drop c.args.at (bits_of c.args.self.bytes.now))) ≡ c.allows.result
judged c =
    let at = goal.at.After-allows c in
    let a = c.args in
    let ed = edition_of a.self.edition in
    let w = c.in-Some.layout.width in
    let y = c.top-word.result in
    let f = found at.In-Some in
    let top = (words at.After-top-word).top in
    let three : 3 ≤ w = omega (arith, least at.In-Some) in
    let k : c.field-kind.result ≡ num (take 3 (bits 64 y)) =
    sym (kind at.After-field-kind) ∙ ap num (sym (take-take 3 w (drop a.at (bits_of a.self.bytes.now)) three) ∙ ap (take 3) (sym top) ∙ take-take 3 w (bits 64 y) three) in
    ap (legal ed) (sym top) ∙ ap (λ n. legal ed (take n (bits 64 y))) f.wide ∙ sym (f.judged y k) ∙ sym c.allows.ensures

pub returns-then-left-lt3 : goal.returns-then-left-lt3
returns-then-left-lt3 c =
    let a = c.args in
    let ed = edition_of a.self.edition in
    let t = bits_of a.self.bytes.now in
    let few : length t < a.at + 3 = simp length-bits_of (search rules) in
    sym (read_short ed t a.at (begins-short ed.mark (drop a.at t) (rw length-drop (omega (arith, ed.mark_least)))) few)

pub end_or-requires : goal.end_or-requires
end_or-requires c = cut (goal.at.end_or-requires c).After-field-kind

pub returns-in_default : goal.returns-in_default
returns-in_default c =
    let at = goal.at.returns-in_default c in
    let a = c.args in
    let ed = edition_of a.self.edition in
    let t = bits_of a.self.bytes.now in
    let none = ap step_width (not-laid (fields ed c.field-kind.result) (sym c.in_default.is ∙ c.layout.ensures)) in
    c.end_or.ensures
    ∙ no_step at.After-ahead-window NoStep (λ b. read-kind ed t a.at c.field-kind.result b (simp length-bits_of (search rules)) (kind at.After-field-kind) ∙ kind-none ed t a.at c.field-kind.result none)

pub end_or-requires-then-left-layout : goal.end_or-requires-then-left-layout
end_or-requires-then-left-layout c = cut (goal.at.end_or-requires-then-left-layout c).After-field-kind

pub returns-then-left-layout : goal.returns-then-left-layout
returns-then-left-layout c =
    let at = goal.at.returns-then-left-layout c in
    let a = c.args in
    c.end_or-then-left-layout.ensures
    ∙ no_step at.After-ahead-window EndsTooSoon (λ b. stepped at.In-Some b ∙ step-short (edition_of a.self.edition) (bits_of a.self.bytes.now) a.at c.in-Some.layout.width (simp length-bits_of (search rules)))

pub returns-then-allows : goal.returns-then-allows
returns-then-allows c =
    let at = goal.at.returns-then-allows c in
    let a = c.args in
    let ed = edition_of a.self.edition in
    let t = bits_of a.self.bytes.now in
    let w = c.in-Some.layout.width in
    let f = found at.In-Some in
    let good = judged at.After-allows ∙ c.if-allows.true in
    let b = step-unmarked a.self.edition t a.at c.field-kind.result (kind at.After-field-kind) f.some (simp length-bits_of (omega (arith, f.wide, c.if-left-layout.false)))
    (ap (λ n. legal ed (take n (drop a.at t))) (sym f.wide) ∙ good) in
    ap (λ x. Step x (a.at + w)) (words at.After-top-word).is
    ∙ sym (stepped at.In-Some b ∙ step-good ed t a.at w (simp length-bits_of (search rules)) good)

pub end_or-requires-2 : goal.end_or-requires-2
end_or-requires-2 c = cut (goal.at.end_or-requires-2 c).After-field-kind

pub returns : goal.returns
returns c =
    let at = goal.at.returns c in
    let a = c.args in
    c.end_or-2.ensures
    ∙ no_step at.After-ahead-window NoStep (λ b. stepped at.In-Some b ∙ step-bad (edition_of a.self.edition) (bits_of a.self.bytes.now) a.at c.in-Some.layout.width (simp length-bits_of (search rules)) (judged at.After-allows ∙ c.if-allows.false))
