-- Histories: what one event more makes of the last ask, of the accepted asks and of the books handed back.
use Rattle.std.specs.Prelude.{Ok, Err, Some}
use Prim.Native.Nat.{ℕ}
use mathlib.Core.Bool.{Bool, true, false}
use mathlib.Core.Path.{◌≡◌, ap}
use mathlib.Core.Logic.{inl, inr}
use mathlib.Core.List.{List, [], ◌∷◌}
use native.Mathlib.Omega.{arith}
use Rattle.sets.specs.Choice.{pick}
use Rattle.books.specs.declared.Book.{Book}
use Rattle.refusals.specs.declared.Refusal.{Refusal}
use Rattle.devices.specs.Effects.{Outcome}
use Rattle.devices.specs.declared.Accepted.TheVariants.{Done, Round, Committed, Adopted}
use Rattle.promise.specs.Promise.{Event, HandsBack, AcceptedAsk, asked_by, last_ask, brought}

-- ---- The last ask

-- the history before a tablet's last accepted ask
unfoldable pub before_ask : ℕ → List Event → List Event
before_ask t [] = []
before_ask t (event ∷ earlier) = pick (asked_by t event) earlier (before_ask t earlier)

module _ (t : ℕ) (event : Event) (earlier : List Event) where
  pub last-stays : asked_by t event ≡ false → last_ask t (event ∷ earlier) ≡ last_ask t earlier
  unfolding last_ask
  last-stays e = ap (λ (b : Bool). pick b (Some (brought event.step)) (last_ask t earlier)) e

  pub before-stays : asked_by t event ≡ false → before_ask t (event ∷ earlier) ≡ before_ask t earlier
  unfolding before_ask
  before-stays e = ap (λ (b : Bool). pick b earlier (before_ask t earlier)) e

  pub last-new : asked_by t event ≡ true → last_ask t (event ∷ earlier) ≡ Some (brought event.step)
  unfolding last_ask
  last-new e = ap (λ (b : Bool). pick b (Some (brought event.step)) (last_ask t earlier)) e

  pub before-new : asked_by t event ≡ true → before_ask t (event ∷ earlier) ≡ earlier
  unfolding before_ask
  before-new e = ap (λ (b : Bool). pick b earlier (before_ask t earlier)) e

-- ---- Accepted asks, and books handed back

abbrev pub ask_stays : {event : Event} {h : List Event} → AcceptedAsk h → AcceptedAsk (event ∷ h)
ask_stays a =
    record {
      tablet = a.tablet;
      own = a.own;
      pair = a.pair;
      event = a.event;
      earlier = a.earlier;
      happened = inr a.happened;
      step = a.step;
      answer = a.answer;
    }

-- an answer that hands back no book
abbrev pub Silent : Outcome → Type 0
Silent answer = (b : Book) → HandsBack answer b → ⊥

pub silent-done : Silent (Ok Done)
silent-done b (inl e) = let z : ◌≡◌ {A = ℕ} 0 1 = cc in omega arith
silent-done b (inr e) = let z : ◌≡◌ {A = ℕ} 0 1 = cc in omega arith

pub silent-round : (n : ℕ) → Silent (Ok (Round n))
silent-round n b (inl e) = let z : ◌≡◌ {A = ℕ} 0 1 = cc in omega arith
silent-round n b (inr e) = let z : ◌≡◌ {A = ℕ} 0 1 = cc in omega arith

pub silent-refused : (refusal : Refusal) → Silent (Err refusal)
silent-refused refusal b (inl e) = let z : ◌≡◌ {A = ℕ} 0 1 = cc in omega arith
silent-refused refusal b (inr e) = let z : ◌≡◌ {A = ℕ} 0 1 = cc in omega arith

pub handed-committed : (a b : Book) → HandsBack (Ok (Committed a)) b → b ≡ a
handed-committed a b (inl e) = cc
handed-committed a b (inr e) = cc

pub handed-adopted : (a b : Book) → HandsBack (Ok (Adopted a)) b → b ≡ a
handed-adopted a b (inl e) = cc
handed-adopted a b (inr e) = cc
