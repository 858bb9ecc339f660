-- Demand 3: what is promised of every run from a fresh start. It is proved in proofs/Promise; two runs are computed in proofs/Example.
--
-- A run is any first boxes and any list of steps. The rules (`taken`) answer each step and give the state after it; a refused step leaves
-- the state as it was. Lost, repeated and late messages and stopped devices are steps like any other, in any number and order, so no clause
-- has to speak of them. Nothing is assumed of the first boxes or of the numbers in a step: with no first box no run starts (12), and a step
-- with a number out of range is refused (2), but the promise holds of them too.
use Rattle.std.specs.Prelude.{ℕ, Bool, true, ◌≡◌, ◌⊎◌, List, [], ◌∷◌, eqb, Option, Some, None}
use Rattle.sets.specs.Choice.{pick, both}
use Rattle.sets.specs.Sets.{has}
use Rattle.books.specs.declared.Config.{Config}
use Rattle.books.specs.declared.Book.{Book}
use Rattle.books.specs.Books.{owner, has_note, own_notes, book_inside}
use Rattle.devices.specs.declared.Step.{Step}
use Rattle.devices.specs.declared.Step.TheVariants.{Ask, Advance}
use Rattle.devices.specs.Effects.{Outcome, answer_of, number_of}
use Rattle.rules.specs.Table.{row, is_ask_of}
use Rattle.state.specs.declared.Run.{Run}
use Rattle.state.specs.State.{fresh}
use Rattle.parlour.specs.Steps.{taken}

-- ---- A run and its history

-- a step, and the answer that it got
pub record Event : Type 0 where
  pub step : Step
  pub answer : Outcome

-- the state after some steps from a fresh start; the latest step stands first
unfoldable pub after : ℕ → List Step → Run
after first [] = fresh first
after first (step ∷ earlier) = (taken step (after first earlier)).run

-- each step with its answer; the latest stands first
unfoldable pub history : ℕ → List Step → List Event
history first [] = []
history first (step ∷ earlier) =
    record { step = step; answer = (taken step (after first earlier)).outcome } ∷ history first earlier

-- the event is in the history, and these came before it
abbrev pub Happened : Event → List Event → List Event → Type 0
Happened event earlier [] = ⊥
Happened event earlier (latest ∷ before) = ((event ≡ latest) × (earlier ≡ before)) ⊎ Happened event earlier before

-- ---- Books handed back

-- the answer hands back the book, committed or adopted
abbrev pub HandsBack : Outcome → Book → Type 0
HandsBack answer book = ((answer_of answer).committed ≡ Some book) ⊎ ((answer_of answer).adopted ≡ Some book)

-- a book handed back in a history: by which event, and what came before it
pub record HandedBack (h : List Event) : Type 0 where
  pub book : Book
  pub event : Event
  pub earlier : List Event
  pub happened : Happened event earlier h
  pub hands_back : HandsBack event.answer book

-- ---- Accepted asks

-- a step is accepted where its answer is no refusal: its number is 0, "done"
abbrev pub accepted : Outcome → Bool
accepted answer = eqb (number_of answer) 0

-- an accepted ask of a history
pub record AcceptedAsk (h : List Event) : Type 0 where
  pub tablet : ℕ
  pub own : ℕ
  pub pair : Config
  pub event : Event
  pub earlier : List Event
  pub happened : Happened event earlier h
  pub step : event.step ≡ Ask tablet own pair
  pub answer : accepted event.answer ≡ true

-- what a step brings: an ask its tablet's own notes and its pair, any other step nothing
abbrev pub brought : Step → Book
brought step = (row step).brings

-- the event is an accepted ask of the tablet
abbrev pub asked_by : ℕ → Event → Bool
asked_by t event = both (accepted event.answer) (is_ask_of t event.step)

-- what the last accepted ask of a tablet brought; none where there was none
unfoldable pub last_ask : ℕ → List Event → Option Book
last_ask t [] = None
last_ask t (event ∷ earlier) = pick (asked_by t event) (Some (brought event.step)) (last_ask t earlier)

-- ---- What is promised

-- a tablet's Advance handed back the book, and the book contains what the tablet's last accepted ask brought
pub record ContainsOwnAsk (event : Event) (earlier : List Event) (book : Book) : Type 0 where
  pub tablet : ℕ
  pub advance : event.step ≡ Advance tablet
  pub asked : Book
  pub last : last_ask tablet earlier ≡ Some asked
  pub contained : book_inside asked book ≡ true

-- the note was among the own notes of an accepted ask, and the ask was of the note's owner, tablet n / 16
pub record NoteAsked (note : ℕ) (h : List Event) : Type 0 where
  pub ask : AcceptedAsk h
  pub there : has_note note (own_notes ask.tablet ask.own) ≡ true
  pub by_owner : ask.tablet ≡ owner note

-- an accepted ask added the box, or removed it
pub record BoxAdded (box : ℕ) (h : List Event) : Type 0 where
  pub ask : AcceptedAsk h
  pub there : has box ask.pair.added ≡ true

pub record BoxRemoved (box : ℕ) (h : List Event) : Type 0 where
  pub ask : AcceptedAsk h
  pub there : has box ask.pair.removed ≡ true

pub record Promise (first : ℕ) (h : List Event) : Type 0 where
  -- Of any two books handed back one contains the other: notes, added and removed alike.
  pub one_contains_the_other : (a b : HandedBack h) → (book_inside a.book b.book ≡ true) ⊎ (book_inside b.book a.book ≡ true)
  -- Each book handed back contains what its own ask brought.
  pub own_ask : (a : HandedBack h) → ContainsOwnAsk a.event a.earlier a.book
  -- Every note in it came from an earlier accepted ask of its owner.
  pub notes_from_asks : (a : HandedBack h) (note : ℕ) → has_note note a.book.notes ≡ true → NoteAsked note a.earlier
  -- Every box added in it is a first box, or an earlier accepted ask added it.
  pub added_from_asks : (a : HandedBack h) (box : ℕ) → has box a.book.config.added ≡ true
      → (has box first ≡ true) ⊎ BoxAdded box a.earlier
  -- Every box removed in it was removed by an earlier accepted ask.
  pub removed_from_asks : (a : HandedBack h) (box : ℕ) → has box a.book.config.removed ≡ true → BoxRemoved box a.earlier

-- Every run keeps the promise.
abbrev pub Promised : Type 0
Promised = (first : ℕ) (steps : List Step) → Promise first (history first steps)
