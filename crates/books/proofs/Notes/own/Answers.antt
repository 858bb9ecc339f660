use mathlib.Core.Path.{◌≡◌, ap₂, ◌∙◌}
use native.Mathlib.Omega.{arith}
use Rattle.books.proofs.NoteLaws.{own-none, own-low, own-high}
use Rattle.books.specs.Books.{no_notes}
use Rattle.books.proofs.Notes.own.Goals as goal

pub returns-in-0-to-3 : goal.returns-in-0-to-3
returns-in-0-to-3 c = own-low c.args.tablet c.args.own (omega arith) c.ranges.own.fits

pub returns-in-4-to-7 : goal.returns-in-4-to-7
returns-in-4-to-7 c = own-high c.args.tablet c.args.own (omega arith) (omega arith) c.ranges.own.fits

pub returns-in_default : goal.returns-in_default
returns-in_default c =
    let none : c.default.result ≡ no_notes = ap₂ (λ low high. record { low = low; high = high }) c.default.ensures.0 c.default.ensures.1 in
    none ∙ own-none c.args.tablet c.args.own (omega arith)
