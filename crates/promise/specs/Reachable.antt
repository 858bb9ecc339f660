-- What the run keeps, in every state of a run from a fresh start (01, "What each device keeps"). It is proved in proofs/Reachable.
use Rattle.std.specs.Prelude.{ℕ, List, [], ◌∷◌, ◌≡◌, Option, Some, None}
use Rattle.books.specs.declared.Book.{Book}
use Rattle.books.specs.Books.{join_books}
use Rattle.devices.specs.declared.Step.{Step}
use Rattle.devices.specs.Contents.{fresh_contents}
use Rattle.devices.specs.Effects.{Told, answer_of}
use Rattle.promise.specs.Promise.{Event, after, history}

-- a book joined with another, where there is one
abbrev pub joined_if : Book → Option Book → Book
joined_if book None = book
joined_if book (Some other) = join_books book other

-- a book joined with the one that a caller is told of, committed or adopted
abbrev pub joined_back : Book → Told → Book
joined_back book told = joined_if (joined_if book told.committed) told.adopted

-- "the join of all books handed back with the fresh book"
unfoldable pub all_handed_back : ℕ → List Event → Book
all_handed_back first [] = (fresh_contents first).v
all_handed_back first (event ∷ earlier) = joined_back (all_handed_back first earlier) (answer_of event.answer)

-- The run keeps "the join of all books handed back with the fresh book".
abbrev pub KeptJoin : Type 0
KeptJoin = (first : ℕ) (steps : List Step) → (after first steps).kept ≡ all_handed_back first (history first steps)
