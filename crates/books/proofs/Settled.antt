-- Each contract is an equation, and settles its result by the one law.
use Rattle.sets.specs.Settles.{equation-settles}
use Rattle.books.specs.Settled.{Settled}

pub settled : Settled
settled =
    record {
      own = λ tablet own. equation-settles _;
      part = λ self k. equation-settles _;
      notes_join = λ self other. equation-settles _;
      notes_is_inside = λ self other. equation-settles _;
      notes_eq = λ self other. equation-settles _;
      members = λ self. equation-settles _;
      has_majority = λ self answered. equation-settles _;
      config_join = λ self other. equation-settles _;
      config_is_inside = λ self other. equation-settles _;
      config_eq = λ self other. equation-settles _;
      none = equation-settles _;
      book_join = λ self other. equation-settles _;
      book_is_inside = λ self other. equation-settles _;
      place_of = λ self change. equation-settles _;
      outside = λ self config t. equation-settles _;
      joined_with = λ self config t. equation-settles _;
      every_majority = λ self config t answered. equation-settles _;
      asked_boxes = λ self config t. equation-settles _;
    }
