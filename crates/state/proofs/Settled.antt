-- Each contract is an equation or holds one, and settles its result by the one law.
use Rattle.sets.specs.Settles.{equation-settles}
use Rattle.state.specs.State.{started}
use Rattle.state.specs.Settled.{Settled}

pub settled : Settled
settled =
    record {
      start = λ first x y a b. equation-settles (started first) x y a.settled b.settled;
      proper_desk = λ listed devices tablets. equation-settles _;
      proper_message = λ n m. equation-settles _;
    }
