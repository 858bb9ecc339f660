-- Each call of the tablet app is settled by its contract.
use Rattle.sets.specs.Settles.{equation-settles}
use Rattle.app.specs.Settled.{Settled}

pub settled : Settled
settled =
    record {
      parlour_majority = λ added removed answered. equation-settles _;
      parlour_tape_check = λ tape. equation-settles _;
    }
