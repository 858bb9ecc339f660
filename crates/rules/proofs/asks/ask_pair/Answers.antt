use Rattle.std.proofs.Common.{rules, ◌≡◌, length, arith}
use Rattle.books.proofs.Turns.{length-mapped}
use Rattle.books.proofs.ListedLaws.{place-le}
use Rattle.rules.proofs.asks.ask_pair.Goals as goal

pub only_change-requires : goal.only_change-requires
only_change-requires c =
    let n : length c.args.h.listed.changes ≡ 6 = search (rules, length-mapped) in
    omega (arith, n, c.place_of-place.ensures, (place-le c.args.h.listed c.args.pair).1)
