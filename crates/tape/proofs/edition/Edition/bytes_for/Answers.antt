-- `Edition::bytes_for` meets its contract: the mark's width and where the steps begin, as the code has them, are the edition's.
use mathlib.Core.Path.{ap, ap₂}
use Prim.Native.Nat.{◌+◌, ◌/◌}
use Rattle.tape.specs.Writing.{bytes_for}
use Rattle.tape.specs.declared.edition.Mark.{Mark}
use Rattle.tape.proofs.edition.Edition.bytes_for.Goals as goal

pub returns : goal.returns
unfolding bytes_for
returns c =
    let n = c.args.count in
    ap₂ (λ s w. (s + n + w + 7) / 8) c.start.ensures (ap (λ (m : Mark). m.width) c.mark.ensures)
