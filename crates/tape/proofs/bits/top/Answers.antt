-- `bits::top` meets its contract: shifted down and up again, a word keeps its first bits alone.
use Rattle.tape.proofs.WordLaws.{word-top}
use Rattle.tape.proofs.bits.top.Goals as goal

pub returns : goal.returns
returns c = word-top c.args.whole c.args.width c.ranges.whole.fits c.requires.1
