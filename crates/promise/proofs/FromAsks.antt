-- What a book handed back holds was in the first book, or an earlier accepted ask brought it (`comes-from`).
-- Said once for the three things that a book may hold: a note, a box added, a box removed (`Held`).
use Prim.Native.Nat.{ℕ}
use mathlib.Core.Bool.{Bool, true}
use mathlib.Core.Path.{◌≡◌, refl, sym, ap, subst, ◌∙◌}
use mathlib.Core.Logic.{◌⊎◌, inl, inr}
use mathlib.Core.List.{List, [], ◌∷◌}
use native.Mathlib.Nat.{lt_irrefl}
use native.Mathlib.Omega.{arith}
use Rattle.books.specs.declared.Book.{Book}
use Rattle.books.specs.Books.{join_notes, join_configs}
use Rattle.devices.specs.declared.Step.{Step}
use Rattle.devices.specs.declared.Step.TheVariants.{Ask, Advance}
use Rattle.agreement.specs.Lattice.{Among}
use Rattle.agreement.specs.Setting.{Book as AbstractBook, Contained}
use Rattle.agreement.specs.State.{State}
use Rattle.agreement.proofs.Order.{at-most-join-left, at-most-join-right, contained-trans, contained-of-eq}
use Rattle.agreement.proofs.Agreement.{agreement}
use Rattle.promise.specs.Promise.{Event, after, history, Happened, HandsBack, HandedBack, AcceptedAsk, brought}
use Rattle.promise.proofs.Reading.{parlour, as_book}
use Rattle.promise.proofs.Likeness.{GotBack, AskedFor}
use Rattle.promise.proofs.Following.{Follows}
use Rattle.promise.proofs.StepFollows.{first_book, run-stands}

-- ---- Joining books

abbrev pub joined : AbstractBook parlour → AbstractBook parlour → AbstractBook parlour
joined a b = record { notes = join_notes a.notes b.notes; configuration = join_configs a.configuration b.configuration }

joined-left : (a b : AbstractBook parlour) → Contained a (joined a b)
joined-left a b =
    record { notes = at-most-join-left a.notes b.notes; configuration = at-most-join-left a.configuration b.configuration }

joined-right : (a b : AbstractBook parlour) → Contained b (joined a b)
joined-right a b =
    record { notes = at-most-join-right a.notes b.notes; configuration = at-most-join-right a.configuration b.configuration }

-- a book joined with all of a list
unfoldable joined_all : AbstractBook parlour → List (AbstractBook parlour) → AbstractBook parlour
joined_all first [] = first
joined_all first (b ∷ l) = joined b (joined_all first l)

all_first : (first : AbstractBook parlour) (l : List (AbstractBook parlour)) → Contained first (joined_all first l)
unfolding joined_all
all_first first [] = contained-of-eq refl
all_first first (b ∷ l) = contained-trans (all_first first l) (joined-right b (joined_all first l))

all-each : (first : AbstractBook parlour) (l : List (AbstractBook parlour)) (b : AbstractBook parlour) → Among b l → Contained b (joined_all first l)
unfolding joined_all
all-each first [] b i = absurd i
all-each first (x ∷ l) b (inl e) = contained-trans (contained-of-eq e) (joined-left x (joined_all first l))
all-each first (x ∷ l) b (inr i) = contained-trans (all-each first l b i) (joined-right x (joined_all first l))

-- ---- Something that a book may hold: a note, a box added, a box removed

-- a test that holds of a join where it holds of a side, and only there
pub record Held (test : AbstractBook parlour → Bool) : Type 0 where
  pub in_a_side : (a b : AbstractBook parlour) → test (joined a b) ≡ true → (test a ≡ true) ⊎ (test b ≡ true)
  pub in_the_join : (a b : AbstractBook parlour) → test a ≡ true → test (joined a b) ≡ true

module _ {test : AbstractBook parlour → Bool} (held : Held test) where
  -- what is in a book is in each that contains it
  in-contained : {a b : AbstractBook parlour} → Contained a b → test a ≡ true → test b ≡ true
  in-contained {a} {b} c h =
      let e : joined a b ≡ b = λ i. record { notes = c.notes.absorbed i; configuration = c.configuration.absorbed i } in
      sym (ap test e) ∙ held.in_the_join a b h

  -- a book of the list that has it
  record OneHas (l : List (AbstractBook parlour)) : Type 0 where
    which : AbstractBook parlour
    among : Among which l
    there : test which ≡ true

  in_all : (first : AbstractBook parlour) (l : List (AbstractBook parlour)) → test (joined_all first l) ≡ true → (test first ≡ true) ⊎ OneHas l
  unfolding joined_all
  in_all first [] h = inl h
  in_all first (b ∷ l) h = go (held.in_a_side b (joined_all first l) h) (in_all first l)
    where
      later : (test first ≡ true) ⊎ OneHas l → (test first ≡ true) ⊎ OneHas (b ∷ l)
      later (inl i) = inl i
      later (inr o) = inr (record { which = o.which; among = inr o.among; there = o.there })

      go : (test b ≡ true) ⊎ (test (joined_all first l) ≡ true) → (test (joined_all first l) ≡ true → (test first ≡ true) ⊎ OneHas l)
          → (test first ≡ true) ⊎ OneHas (b ∷ l)
      go (inl i) f = inr (record { which = b; among = inl refl; there = i })
      go (inr i) f = later (f i)

-- ---- The part of a run up to an event

-- what happened in a run happened as the latest event of some run
record UpTo (first : ℕ) (event : Event) (earlier : List Event) : Type 0 where
  steps : List Step
  is : history first steps ≡ event ∷ earlier

up_to : (first : ℕ) (steps : List Step) (event : Event) (earlier : List Event) → Happened event earlier (history first steps)
    → UpTo first event earlier
unfolding history
up_to first [] event earlier i = absurd i
up_to first (step ∷ before) event earlier (inl e) = record { steps = step ∷ before; is = λ i. sym e.0 i ∷ sym e.1 i }
up_to first (step ∷ before) event earlier (inr i) = up_to first before event earlier i

-- an accepted ask is none of the events that hand back a book
earlier-ask : {event : Event} {earlier : List Event} {tablet : ℕ} → event.step ≡ Advance tablet → (a : AcceptedAsk (event ∷ earlier))
    → Happened a.event a.earlier earlier
earlier-ask {event} {earlier} {tablet} e a = go a.happened
  where
    go : Happened a.event a.earlier (event ∷ earlier) → Happened a.event a.earlier earlier
    go (inl q) =
        let x : Ask a.tablet a.own a.pair ≡ Advance tablet = sym a.step ∙ ap (λ (w : Event). w.step) q.0 ∙ e in
        let z : ◌≡◌ {A = ℕ} 0 1 = cc in
        absurd (lt_irrefl 0 (omega arith))
    go (inr i) = i

-- ---- Where it comes from

-- an accepted ask that brought it
pub record BroughtBy (test : AbstractBook parlour → Bool) (h : List Event) : Type 0 where
  pub ask : AcceptedAsk h
  pub there : test (as_book (brought (Ask ask.tablet ask.own ask.pair))) ≡ true

module _ {test : AbstractBook parlour → Bool} (held : Held test) (first : ℕ) where
  -- of the latest book
  latest-from : (steps : List Step) (event : Event) (earlier : List Event) → history first steps ≡ event ∷ earlier
      → (book : Book) → HandsBack event.answer book → test (as_book book) ≡ true
      → (test (first_book first) ≡ true) ⊎ BroughtBy test earlier
  latest-from steps event earlier e book given i = go (in_all held (first_book first) s.asks (in-contained held within (rw g.is i)))
    where
      follows : Follows (first_book first) (after first steps) (event ∷ earlier)
      follows = subst (λ (h : List Event). Follows (first_book first) (after first steps) h) e (run-stands first steps).follows

      s : State parlour
      s = follows.state

      g : GotBack s.handed event earlier book
      g = follows.like.handed (record { book = book; event = event; earlier = earlier; happened = inl (refl, refl); hands_back = given })

      within : Contained g.got.book (joined_all (first_book first) s.asks)
      within =
          (agreement parlour (first_book first) s follows.run).from_asks (joined_all (first_book first) s.asks) (all_first (first_book first) s.asks)
          (all-each (first_book first) s.asks) g.got g.among

      from-ask : (b : AbstractBook parlour) → test b ≡ true → AskedFor (event ∷ earlier) b → BroughtBy test earlier
      from-ask b there a =
          record {
            ask =
                record {
                  tablet = a.ask.tablet;
                  own = a.ask.own;
                  pair = a.ask.pair;
                  event = a.ask.event;
                  earlier = a.ask.earlier;
                  happened = earlier-ask g.advance a.ask;
                  step = a.ask.step;
                  answer = a.ask.answer;
                };
            there = subst (λ (w : Step). test (as_book (brought w)) ≡ true) a.ask.step (rw a.brings at there);
          }

      go : (test (first_book first) ≡ true) ⊎ OneHas held s.asks → (test (first_book first) ≡ true) ⊎ BroughtBy test earlier
      go (inl j) = inl j
      go (inr o) = inr (from-ask o.which o.there (follows.like.asks o.which o.among))

  pub comes-from : (steps : List Step) (b : HandedBack (history first steps)) → test (as_book b.book) ≡ true
      → (test (first_book first) ≡ true) ⊎ BroughtBy test b.earlier
  comes-from steps b i =
      let u = up_to first steps b.event b.earlier b.happened in
      latest-from u.steps b.event b.earlier u.is b.book b.hands_back i
