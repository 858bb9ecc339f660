-- `bits::put_word` meets its contract: fields laid one behind another are the word's bits laid as one.
use borrow.Author.Rules.{rules}
use native.Mathlib.Omega.{arith}
use mathlib.Core.Path.{◌≡◌, refl, sym, ap, ap₂, ◌∙◌}
use Prim.Native.Nat.{ℕ, ◌+◌, ◌*◌, ◌≤◌}
use mathlib.Core.List.{List}
use lib.ListN.{length, take, drop, length-drop}
use lib.Seq.{length-take-le, take-add}
use Rattle.tape.specs.Bits.{num, bits, bits_of, overlaid}
use Rattle.tape.proofs.BitLaws.{length-bits, bits-part}
use Rattle.tape.proofs.ByteLaws.{length-bits_of}
use Rattle.tape.proofs.WordLaws.{field-inside, field_lt}
use Rattle.tape.proofs.LayLaws.{overlaid-nil, overlaid-overlaid}
use Rattle.tape.proofs.bits.put_word.Goals.{After-put}
use Rattle.tape.proofs.bits.put_word.Goals as goal

further : (s : List ℕ) (p w x : ℕ) (b : List ℕ) (i k c : ℕ) → w ≤ 64 → i + k ≤ w → p + w ≤ 8 * length s → bits_of b ≡ overlaid (bits_of s) p (take i (bits 64 x)) → c ≡ num (take k (drop i (bits 64 x)))
    → overlaid (bits_of b) (p + i) (bits k c) ≡ overlaid (bits_of s) p (take (i + k) (bits 64 x))
further s p w x b i k c hw h hp e f =
    ap₂ (λ l g. overlaid l (p + i) g) e (ap (bits k) f ∙ bits-part k (take k (drop i (bits 64 x))) (length-take-le k (drop i (bits 64 x)) (simp (length-drop, length-bits) (omega arith))))
    ∙ ap (λ n. overlaid (overlaid (bits_of s) p (take i (bits 64 x))) (p + n) (take k (drop i (bits 64 x)))) (sym (length-take-le i (bits 64 x) (rw length-bits (omega arith))))
    ∙ overlaid-overlaid (bits_of s) p (take i (bits 64 x)) (take k (drop i (bits 64 x))) (rw length-bits_of (omega arith))
    ∙ ap (overlaid (bits_of s) p) (sym (take-add i k (bits 64 x)))

pub loop-from-init : goal.loop-from-init
loop-from-init c = (search rules, refl, sym (overlaid-nil (bits_of c.args.buffer.now) c.args.at))

pub put-requires : goal.put-requires
put-requires c =
    let k = c.min-count in
    (omega arith, omega arith, rw c.field.ensures (field_lt c.args.word c.loop-from.from k.result (omega arith)), omega arith, omega arith)

-- what one field more makes
laid : (c : After-put) → bits_of c.put.new.buffer ≡ overlaid (bits_of c.args.buffer.now) c.args.at (take (c.loop-from.from + c.min-count.result) (bits 64 c.args.word))
laid c =
    let a = c.args in
    let k = c.min-count in
    c.put.ensures ∙ further a.buffer.now a.at a.width a.word c.loop-from.buffer c.loop-from.from k.result c.field.result c.requires.0 (omega arith) c.requires.1 c.loop-from.invariant.2 (c.field.ensures ∙ field-inside a.word c.loop-from.from k.result (omega arith))

pub loop-from-preserved : goal.loop-from-preserved
loop-from-preserved c =
    let k : c.min-count.result ≡ 16 = omega arith in
    (omega arith, c.put.auto.buffer ∙ c.loop-from.invariant.1, laid (goal.at.loop-from-preserved c).After-put ∙ ap (λ n. overlaid (bits_of c.args.buffer.now) c.args.at (take (c.loop-from.from + n) (bits 64 c.args.word))) k)

pub returns-2 : goal.returns-2
returns-2 c =
    let e : c.loop-from.from + c.min-count.result ≡ c.args.width = omega arith in
    laid (goal.at.returns-2 c).After-put ∙ ap (λ n. overlaid (bits_of c.args.buffer.now) c.args.at (take n (bits 64 c.args.word))) e
