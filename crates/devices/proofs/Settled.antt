-- Each contract is an equation, and settles its result by the one law.
use Rattle.sets.specs.Settles.{equation-settles}
use Rattle.devices.specs.Settled.{Settled}

pub settled : Settled
settled =
    record {
      number_of = λ outcome. equation-settles _;
      kept_after = λ outcome kept. equation-settles _;
      is_empty = λ m. equation-settles _;
      addressee = λ m. equation-settles _;
      addressed_to = λ m device. equation-settles _;
      none = equation-settles _;
      only_device = λ device. equation-settles _;
      box_of = λ device. equation-settles _;
      unchanged = λ outcome h. equation-settles _;
      refused = λ refusal h. equation-settles _;
      merge = λ listed mine theirs. equation-settles _;
    }
