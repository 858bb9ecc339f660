-- The promise is not empty: the tape that 01 prints, computed by the rules, hands back a book. A version that refuses all, hands back the first book,
-- does nothing, or merges on the first delivery only gives another history.
use Rattle.std.specs.Prelude.{Ok}
use mathlib.Core.Path.{◌≡◌, refl}
use mathlib.Core.Logic.{inl}
use mathlib.Core.List.{List, [], ◌∷◌}
use Rattle.sets.specs.Bounded.{times, each, unions, how_many, those}
use Rattle.sets.specs.Majority.{weigh, one, majority, majority_of}
use Rattle.books.specs.declared.Book.{Book}
use Rattle.books.specs.Books.{notes_of, own_notes, no_config}
use Rattle.books.specs.Queried.{first_place, place_of, outside, joined_with, every_majority, asked_boxes}
use Rattle.devices.specs.declared.Step.{Step}
use Rattle.devices.specs.declared.Step.TheVariants.{Ask, Advance, Deliver}
use Rattle.devices.specs.declared.Accepted.TheVariants.{Done, Committed}
use Rattle.devices.specs.Contents.{merged}
use Rattle.devices.specs.Effects.{Outcome, copies, refuse}
use Rattle.rules.specs.Rules.{begun, ask_with, ask_pair, ask, marked, deliver, decided, allowed, steady, commit, adopt_or, advance_from, advance, ruled, effect_of}
use Rattle.state.specs.Slots.{all, many, laid}
use Rattle.state.specs.State.{fresh, all_different, proper_desk, proper}
use Rattle.parlour.specs.Steps.{here_at, applied, taken_if, taken}
use Rattle.promise.specs.Promise.{Event, after, history, HandedBack}

-- the answers of a history, the latest first
unfoldable answers : List Event → List Outcome
answers [] = []
answers (event ∷ earlier) = event.answer ∷ answers earlier

-- the tape `00 07 00 04 00 00 00 01 00 40 50 04 04 8e`, its last step first
abbrev delivered : List Step
delivered = Deliver 1 ∷ Deliver 0 ∷ Deliver 1 ∷ Deliver 0 ∷ Ask 0 1 no_config ∷ []

abbrev printed : List Step
printed = Advance 0 ∷ delivered

-- "5 ADV 0 C 0000..0001 0007 0000", with 32 digits for the notes
abbrev book : Book
book = record { notes = notes_of 0x1; config = record { added = 0x7; removed = 0 } }

record Examples : Type 0 where
  printed_answers : answers (history 0x7 printed) ≡ Ok (Committed book) ∷ Ok Done ∷ Ok Done ∷ Ok Done ∷ Ok Done ∷ Ok Done ∷ []
  -- so there is a book that the promise speaks of
  printed_book : HandedBack (history 0x7 printed)

examples : Examples
unfolding answers history after taken taken_if applied here_at effect_of ruled ask ask_pair ask_with begun marked deliver decided allowed steady
    commit adopt_or advance_from advance refuse copies merged place_of first_place outside joined_with every_majority asked_boxes times each unions how_many those
    weigh one majority majority_of own_notes fresh all_different proper_desk proper all many laid
examples =
    record {
      printed_answers = refl;
      printed_book =
          record {
            book = book;
            event = record { step = Advance 0; answer = Ok (Committed book) };
            earlier = history 0x7 delivered;
            happened = inl (refl, refl);
            hands_back = inl refl;
          };
    }
