-- The statements on the table of numbers.
use Rattle.sets.specs.Settles.{equation-settles}
use Rattle.refusals.specs.Statements.{Settled, Statements}
use Rattle.refusals.proofs.NumberLaws.{number-one, number-some}

pub statements : Statements
statements =
    record {
      settled = record { u8_from = λ refusal. equation-settles _ };
      one = number-one;
      some = number-some;
    }
