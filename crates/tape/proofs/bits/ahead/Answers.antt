-- `bits::ahead` meets its contract: the window of eight bytes, shifted, begins with the bits from p on.
use Rattle.tape.proofs.ByteLaws.{ahead-is}
use Rattle.tape.proofs.bits.ahead.Goals as goal

pub returns : goal.returns
returns c =
    let a = c.args in
    ahead-is a.bytes.now a.at c.eight_at.result c.eight_at.ensures
