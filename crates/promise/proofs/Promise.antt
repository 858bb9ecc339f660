-- The promise of specs/Promise, proved: the run follows the agreement argument, whose promises are read off for the parlour's books.
use Prim.Native.Nat.{ℕ}
use mathlib.Core.Bool.{true}
use mathlib.Core.Path.{◌≡◌}
use mathlib.Core.Logic.{◌⊎◌, inl, inr, ⊎_elim}
use mathlib.Core.List.{List}
use Rattle.sets.specs.Sets.{has}
use Rattle.sets.proofs.SetLaws.{has-digit, has-union, union-has}
use Rattle.sets.proofs.Single.{none_in_empty}
use Rattle.books.specs.Books.{has_note, book_inside}
use Rattle.books.proofs.NoteLaws.{note-in-join, note-stays, no_note, own-note}
use Rattle.devices.specs.declared.Step.{Step}
use Rattle.agreement.specs.Setting.{Contained}
use Rattle.agreement.specs.Agreement.{Promises}
use Rattle.agreement.proofs.Agreement.{agreement}
use Rattle.promise.specs.Promise.{after, history, HandedBack, ContainsOwnAsk, NoteAsked, BoxAdded, BoxRemoved, Promise, Promised}
use Rattle.promise.proofs.Reading.{parlour, of_book, contained-book}
use Rattle.promise.proofs.Likeness.{GotBack}
use Rattle.promise.proofs.Following.{Follows}
use Rattle.promise.proofs.StepFollows.{first_book, run-stands}
use Rattle.promise.proofs.FromAsks.{Held, comes-from}

-- ---- A note, a box added, a box removed

note-held : (note : ℕ) → Held (λ b. has_note note b.notes)
note-held note = record { in_a_side = λ a b. note-in-join note a.notes b.notes; in_the_join = λ a b. note-stays note a.notes b.notes }

added-held : (box : ℕ) → Held (λ b. has box b.configuration.added)
added-held box =
    record {
      in_a_side = λ a b. has-union box a.configuration.added b.configuration.added;
      in_the_join = λ a b. union-has box a.configuration.added b.configuration.added;
    }

removed-held : (box : ℕ) → Held (λ b. has box b.configuration.removed)
removed-held box =
    record {
      in_a_side = λ a b. has-union box a.configuration.removed b.configuration.removed;
      in_the_join = λ a b. union-has box a.configuration.removed b.configuration.removed;
    }

-- ---- The promise

module _ (first : ℕ) (steps : List Step) where
  follows : Follows (first_book first) (after first steps) (history first steps)
  follows = (run-stands first steps).follows

  promises : Promises (first_book first) follows.state
  promises = agreement parlour (first_book first) follows.state follows.run

  got : (b : HandedBack (history first steps)) → GotBack follows.state.handed b.event b.earlier b.book
  got b = follows.like.handed b

  inside : (a b : HandedBack (history first steps)) → Contained (got a).got.book (got b).got.book → book_inside a.book b.book ≡ true
  inside a b c = contained-book (rw ((got a).is, (got b).is) at c)

  own : (a : HandedBack (history first steps)) → ContainsOwnAsk a.event a.earlier a.book
  own a =
      let g = got a in
      record {
        tablet = g.tablet;
        advance = g.advance;
        asked = of_book g.got.asked;
        last = g.asked;
        contained = contained-book (rw g.is at (promises.own_ask g.got g.among));
      }

  note-asked : (a : HandedBack (history first steps)) (note : ℕ) → has_note note a.book.notes ≡ true → NoteAsked note a.earlier
  note-asked a note i =
      ⊎_elim (λ none. absurd (no_note note none))
      (λ q. record { ask = q.ask; there = q.there; by_owner = own-note q.ask.tablet q.ask.own note q.there })
      (comes-from (note-held note) first steps a i)

  box-added : (a : HandedBack (history first steps)) (box : ℕ) → has box a.book.config.added ≡ true
      → (has box first ≡ true) ⊎ BoxAdded box a.earlier
  box-added a box i = ⊎_elim inl (λ q. inr (record { ask = q.ask; there = q.there })) (comes-from (added-held box) first steps a i)

  box-removed : (a : HandedBack (history first steps)) (box : ℕ) → has box a.book.config.removed ≡ true → BoxRemoved box a.earlier
  box-removed a box i =
      ⊎_elim (λ none. absurd (none_in_empty box (has-digit box 0 none))) (λ q. record { ask = q.ask; there = q.there })
      (comes-from (removed-held box) first steps a i)

  kept : Promise first (history first steps)
  kept =
      record {
        one_contains_the_other =
            λ a b.
            ⊎_elim (λ c. inl (inside a b c)) (λ c. inr (inside b a c))
            (promises.comparable (got a).got (got b).got (got a).among (got b).among);
        own_ask = own;
        notes_from_asks = note-asked;
        added_from_asks = box-added;
        removed_from_asks = box-removed;
      }

pub promise : Promised
promise = kept
