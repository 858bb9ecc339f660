-- What only the contract of a private function cites: no part of the rules.
use Rattle.std.specs.Prelude.{◌<◌}
use Rattle.tape.specs.declared.Fields.{Fields}

-- the fields fit into the numbers that a step names
pub record Small (f : Fields) : Type 0 where
  pub first : f.first < 256
  pub second : f.second < 65536
  pub third : f.third < 65536
  pub fourth : f.fourth < 65536
