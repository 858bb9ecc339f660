-- Each contract is an equation, and settles its result by the one law.
use Rattle.sets.specs.Settles.{equation-settles}
use Rattle.rules.specs.Settled.{Settled}

pub settled : Settled
settled = record { about_step = λ step. equation-settles _; effect_of = λ proper step m h. equation-settles _ }
