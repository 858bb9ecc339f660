-- `Edition::mark` meets its contract: the numbers of the mark are those of its bits.
use mathlib.Core.Path.{◌≡◌, refl}
use Rattle.tape.specs.Bits.{bit, num}
use Rattle.tape.specs.Edition.{edition_of, mark_in}
use Rattle.tape.specs.declared.edition.Edition.{Edition}
use Rattle.tape.specs.declared.edition.Edition.TheVariants.{First}
use Rattle.tape.proofs.edition.Edition.mark.Goals as goal

kind-7 : (e : Edition) → record { kind = 7; rest = 0; number = 7; width = 3 } ≡ mark_in (edition_of e)
unfolding bit num
kind-7 First = refl

pub returns : goal.returns
returns c = kind-7 c.args.self
