-- `writing::lay_tape` meets its contract: the first boxes and the steps behind them, laid one after the other, lie as one.
use native.Mathlib.Omega.{arith}
use mathlib.Core.Path.{sym, ap, ap₂, ◌∙◌}
use Prim.Native.Nat.{◌+◌}
use lib.ListN.{length-drop}
use Rattle.tape.specs.Bits.{bits, bits_of, overlaid}
use Rattle.tape.specs.Edition.{first_edition}
use Rattle.tape.specs.Writing.{steps_part}
use Rattle.tape.proofs.BitLaws.{length-bits}
use Rattle.tape.proofs.LayLaws.{overlaid-overlaid, part-from, lay-part}
use Rattle.tape.proofs.WritingLaws.{size-bits}
use Rattle.tape.proofs.writing.lay_tape.Goals as goal

pub pack_steps-requires : goal.pack_steps-requires
pack_steps-requires c =
    let p = c.put in
    (c.requires.0, rw (part-from 2 p.new.buffer, length-drop) (omega (arith, p.auto.buffer, size-bits first_edition c.args.words.now, c.requires.1)))

pub returns : goal.returns
returns c =
    let p = c.put in
    let s = c.args.buffer.now in
    let f = c.args.first in
    lay-part p.new.buffer c.pack_steps.new.buffer (steps_part first_edition c.args.words.now) (omega (arith, p.auto.buffer, size-bits first_edition c.args.words.now, c.requires.1)) c.pack_steps.ensures
    ∙ ap₂ (λ l k. overlaid l (0 + k) (steps_part first_edition c.args.words.now)) (p.ensures ∙ ap (λ n. overlaid (bits_of s) 0 (bits 16 n)) c.from.ensures) (sym (length-bits 16 f))
    ∙ overlaid-overlaid (bits_of s) 0 (bits 16 f) (steps_part first_edition c.args.words.now) (omega arith)
