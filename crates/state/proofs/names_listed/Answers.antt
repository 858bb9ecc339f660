-- From place 8 on no set of eight bits names anything.
use Rattle.std.proofs.Common.{◌<◌, ◌^◌, ◌∙◌, sym, arith}
use borrow.Author.Tests.{le-leb}
use Rattle.std.proofs.Math.Pow.{pow_mono}
use Rattle.state.proofs.StateLaws.{lt-names}
use Rattle.state.proofs.names_listed.Goals as goal

pub returns-then-n-ge8 : goal.returns-then-n-ge8
returns-then-n-ge8 c =
    let fits : c.args.t < 2 ^ c.args.n = omega (arith, c.ranges.t.fits, pow_mono c.if-n-ge8.true) in
    le-leb 8 c.args.n c.if-n-ge8.true ∙ sym (lt-names c.args.n c.args.t fits)
