-- Each contract is an equation, and settles its result by the one law.
use Rattle.sets.specs.Settles.{equation-settles}
use Rattle.sets.specs.Settled.{Settled}

pub settled : Settled
settled =
    record {
      members_of = λ added removed. equation-settles _;
      count_boxes = λ boxes. equation-settles _;
      majority = λ added removed answered. equation-settles _;
      u8_join = λ self other. equation-settles _;
      u8_is_inside = λ self other. equation-settles _;
      u16_join = λ self other. equation-settles _;
      u16_is_inside = λ self other. equation-settles _;
      u64_join = λ self other. equation-settles _;
      u64_is_inside = λ self other. equation-settles _;
    }
