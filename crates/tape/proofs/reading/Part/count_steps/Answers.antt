-- `Part::count_steps` meets its contract: the whole part has the steps that the rest of it has after n steps.
use borrow.Author.Rules.{rules}
use native.Mathlib.Omega.{arith}
use mathlib.Core.Path.{◌≡◌, sym, ap, subst, ◌∙◌}
use native.Mathlib.Nat.{sub-zero}
use Prim.Native.Nat.{suc, ◌+◌, ◌-◌}
use lib.ListN.{length}
use Rattle.tape.specs.Bits.{bits_of}
use Rattle.tape.specs.Edition.{edition_of}
use Rattle.tape.specs.Reading.{onward, read_from, start, read_steps}
use Rattle.tape.specs.Promises.{counted}
use Rattle.tape.specs.declared.reading.Reading.TheVariants.{Step}
use Rattle.tape.proofs.ByteLaws.{length-bits_of}
use Rattle.tape.proofs.ReadingLaws.{Moves, moves, read-from, last-is, one_more}
use Rattle.tape.proofs.reading.Part.count_steps.Goals.{In-Step}
use Rattle.tape.proofs.reading.Part.count_steps.Goals as goal

-- where the next reading is
moved : (c : In-Step) → Moves (bits_of c.args.self.bytes.now) c.loop-next.at
    (Step c.in-Step.field-0 c.in-Step.next)
moved c =
    let t = bits_of c.args.self.bytes.now in
    let l = c.loop-next in
    subst (λ z. Moves t l.at z) (sym c.read_step-reading.ensures ∙ c.in-Step.is) (moves (edition_of c.args.self.edition) t l.at)

pub loop-next-init : goal.loop-next-init
unfolding read_steps
loop-next-init c =
    let e : c.start-at.result ≡ start (edition_of c.args.self.edition) = c.start-at.ensures in
    let t = bits_of c.args.self.bytes.now in
    (omega (arith, e, c.args.self.begun), search rules, rw sub-zero (ap (λ q. counted 0 (read_from (edition_of c.args.self.edition) (suc (length t)) t q)) (sym e)))

pub returns-in_default : goal.returns-in_default
returns-in_default c =
    let a = c.args in
    let ed = edition_of a.self.edition in
    let t = bits_of a.self.bytes.now in
    let l = c.loop-next in
    let r = c.read_step-reading in
    let rest = read_from ed (suc (length t) - (l.steps + 1)) t in
    c.ended.ensures
    ∙ last-is r.result l.steps rest c.in_default.not-Step
    ∙ ap (λ z. counted l.steps (onward z rest)) r.ensures
    ∙ ap (counted l.steps) (sym (read-from ed t l.at (suc (length t)) l.steps (omega (arith, length-bits_of a.self.bytes.now))))
    ∙ sym l.invariant.2

pub loop-next-smaller : goal.loop-next-smaller
loop-next-smaller c =
    let m = moved (goal.at.loop-next-smaller c).In-Step in
    let k = length-bits_of c.args.self.bytes.now in
    omega arith

pub loop-next-preserved : goal.loop-next-preserved
loop-next-preserved c =
    let a = c.args in
    let ed = edition_of a.self.edition in
    let t = bits_of a.self.bytes.now in
    let l = c.loop-next in
    let m = moved (goal.at.loop-next-preserved c).In-Step in
    let k = length-bits_of a.self.bytes.now in
    let rest = read_from ed (suc (length t) - (l.steps + 1)) t in (
      omega arith,
      omega arith,
      l.invariant.2
          ∙ ap (counted l.steps) (read-from ed t l.at (suc (length t)) l.steps (omega arith)
          ∙ ap (λ z. onward z rest) (sym c.read_step-reading.ensures ∙ c.in-Step.is))
          ∙ one_more l.steps c.in-Step.field-0 (rest c.in-Step.next),
    )
