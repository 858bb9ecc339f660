-- An Advance is a new round (`round-follows`), a commit (`commit-follows`) or an adoption (`adopt-follows`) of the agreement argument.
use Rattle.std.specs.Prelude.{Option, Some, None, Ok}
use Prim.Native.Nat.{ℕ, suc, ◌+◌, ◌≤◌}
use mathlib.Core.Bool.{true, false≢true}
use mathlib.Core.Path.{◌≡◌, refl, sym, ap, subst, ◌∙◌}
use mathlib.Core.Logic.{inl, inr}
use mathlib.Core.List.{List, ◌∷◌}
use native.Mathlib.Numerals.{add-one}
use native.Mathlib.Omega.{arith}
use borrow.Author.Tests.{eqb-true}
use Rattle.sets.proofs.BoundedLaws.{both_left, both_right, pick_true}
use Rattle.books.specs.declared.Config.{Config}
use Rattle.books.specs.declared.Book.{Book}
use Rattle.books.specs.Queried.{every_majority}
use Rattle.books.proofs.NoteLaws.{notes-decided}
use Rattle.books.proofs.BookLaws.{configs-decided}
use Rattle.devices.specs.declared.Asking.{Asking}
use Rattle.devices.specs.declared.Tablet.{Tablet}
use Rattle.devices.specs.declared.Phase.{Phase}
use Rattle.devices.specs.declared.Phase.TheVariants.{Idle, Asks}
use Rattle.devices.specs.declared.Accepted.TheVariants.{Round, Committed, Adopted}
use Rattle.devices.specs.declared.Here.{Here}
use Rattle.devices.specs.declared.Effect.{Effect}
use Rattle.devices.specs.declared.Step.TheVariants.{Advance}
use Rattle.devices.specs.Effects.{Outcome, no_sending}
use Rattle.rules.specs.Rules.{asking as asking-now, decided, allowed, steady, same_candidates, floor_inside, hands_back}
use Rattle.state.specs.declared.Run.{Run}
use Rattle.parlour.specs.Steps.{within, here_at, applied}
use Rattle.agreement.specs.Setting.{Book as AbstractBook, Contents as AbstractContents, decide}
use Rattle.agreement.specs.State.{idle, asking, TabletState, Request as AbstractRequest, Network, State}
use Rattle.agreement.specs.Steps.{Steady, Allowed, with_request, with_commit, goes_on, gets, Floored as AbstractFloored, stays, set, NextRound, Commits, Adopts, next_round, commits, adopts, next}
use Rattle.promise.specs.Promise.{Event, last_ask}
use Rattle.sets.proofs.Single.{none_in_empty}
use Rattle.parlour.proofs.Acts.{begins, to_all, Floored, as_saved, now_set}
use Rattle.parlour.specs.Statements.{device_at, tablet_at}
use Rattle.promise.proofs.Reading.{parlour, as_book, as_changes, as_contents, as_floor, book-contained}
use Rattle.promise.proofs.Changes.{joined_as, allowed-as}
use Rattle.promise.proofs.History.{before_ask, last-stays, before-stays, silent-round, handed-committed, handed-adopted}
use Rattle.promise.proofs.Likeness.{PhaseLike, TabletLike, GotBack, AsksLike, is-asking, same-list, no_more}
use Rattle.promise.proofs.Following.{Follows, Standing, replaced, moves-tablet, tablet_here, tablet-is, asks-after, after-tablet}

-- ---- What the tests of lines 9 to 12 say of the saved values, whichever side of an equality they stand on

module _ (a : Asking) (h : Here) where
  saved-config : steady a h ≡ true → a.config ≡ h.contents.v.config
  unfolding steady
  saved-config e = search (both_left, configs-decided.same_eq, sym)

  saved-changes : steady a h ≡ true → a.t ≡ h.contents.t
  unfolding steady
  saved-changes e = search (both_right, eqb-true, sym)

  saved-candidates : same_candidates a h ≡ true → a.candidates ≡ h.contents.candidates
  saved-candidates e = search (notes-decided.same_eq, sym)

  -- what the rules see, were the configuration of v another
  abbrev under : Config → Here
  under c =
      record {
        contents =
            record { v = record { notes = h.contents.v.notes; config = c }; candidates = h.contents.candidates; t = h.contents.t };
        tablet = h.tablet;
        listed = h.listed;
        free = h.free;
        stopped = h.stopped;
      }

  saved-majorities : allowed a h ≡ true → steady a h ≡ true → every_majority h.listed a.config a.t a.answered ≡ true
  unfolding allowed
  saved-majorities e q =
      pick_true _ _ (configs-decided.eq_same a.config a.config refl) ∙ subst (λ (c : Config). allowed a (under c) ≡ true) (sym (saved-config q)) e

module _ {first : AbstractBook parlour} {r : Run} {h : List Event} (now : Standing first r h) (slot d : ℕ) (tablet : ℕ) (a : Asking)
    (at : tablet ≡ d) (l : tablet ≤ 7) (asks : (here_at d r).tablet.phase ≡ Asks a) where
  -- ---- The acting tablet

  abbrev s : State parlour
  s = now.follows.state

  -- its own part, and what it keeps as the argument reads it
  abbrev own : Tablet
  own = tablet_at (within 8 d) r

  abbrev x : AbstractContents parlour
  x = as_contents r.listed (device_at d r)

  mine : TabletLike r.listed (last_ask d h) (before_ask d h) (device_at d r) own (s.tablets d)
  mine = tablet_here now d (omega arith)

  alike : AsksLike r.listed (last_ask d h) (before_ask d h) a (s.tablets d).phase
  unfolding here_at
  alike = is-asking (s.tablets d).phase (subst (λ (w : Phase). PhaseLike r.listed (last_ask d h) (before_ask d h) w (s.tablets d).phase) asks mine.phase)

  was : s.tablets d ≡ record { contents = x; round = (s.tablets d).round; phase = asking alike.pending }
  was = tablet-is mine.contents refl alike.is

  -- ---- The tests of lines 9 to 12

  steady-as : steady a (here_at d r) ≡ true → Steady alike.pending.saved x
  unfolding here_at
  steady-as e =
      record { configuration = alike.like.config ∙ saved-config a (here_at d r) e; to = λ u i. rw same at i; back = λ u i. rw same i }
    where
      same : alike.pending.saved.changes ≡ as_changes r.listed (device_at d r).t
      same = alike.like.changes ∙ ap (as_changes r.listed) (saved-changes a (here_at d r) e)

  allowed-here : allowed a (here_at d r) ≡ true → steady a (here_at d r) ≡ true → Allowed alike.pending.saved alike.pending.answered
  unfolding here_at
  allowed-here e q =
      rw alike.like.answered (allowed-as r.listed a.t a.answered alike.pending.saved alike.like.changes
      (rw alike.like.config (saved-majorities a (here_at d r) e q)))

  -- the candidates with v's configuration joined with T
  decided-as : decide x ≡ as_book (decided (here_at d r))
  unfolding decided here_at
  decided-as =
      λ i. record { notes = (device_at d r).candidates; configuration = joined_as r.listed (device_at d r).v.config (device_at d r).t i }

  floored-as : {floor : Option Book} → Floored a (here_at d r) floor → AbstractFloored x alike.pending (as_floor floor)
  floored-as (as_saved floor e) =
      subst (λ (w : Option (AbstractBook parlour)). AbstractFloored x alike.pending w) (alike.like.floor ∙ ap as_floor e) stays
  floored-as (now_set e p q) =
      subst (λ (w : AbstractBook parlour). AbstractFloored x alike.pending (Some w)) decided-as
      (set (alike.like.floor ∙ ap as_floor e) (steady-as q) (allowed-here p q))

  -- ---- A new round (line 15, and lines 4 to 8)

  module _ (floor : Option Book) where
    abbrev begins_round : Effect
    begins_round = begins tablet (Round ((here_at d r).tablet.round + 1)) floor r.listed (device_at d r) (here_at d r)

    abbrev event : Event
    event = record { step = Advance tablet; answer = Ok (Round ((here_at d r).tablet.round + 1)) }

    -- the tablet, the request and the state of the argument
    abbrev t : TabletState parlour
    t = record { contents = x; round = suc (s.tablets d).round; phase = asking (goes_on alike.pending x 0 (as_floor floor)) }

    abbrev request : AbstractRequest parlour
    request = record { tablet = d; round = suc (s.tablets d).round; contents = x }

    abbrev s' : State parlour
    s' = record { tablets = replaced d t s.tablets; network = with_request s.network request; handed = s.handed; asks = s.asks }

    round_is : suc (s.tablets d).round ≡ own.round + 1
    round_is = ap suc mine.round ∙ sym (add-one own.round)

    sent : ◌≡◌ {A = AbstractRequest parlour} (record { tablet = tablet; round = own.round + 1; contents = x }) request
    sent = λ k. record { tablet = at k; round = sym round_is k; contents = x }

    mine-after : TabletLike r.listed (last_ask d (event ∷ h)) (before_ask d (event ∷ h)) (device_at d r)
        (record { round = own.round + 1; phase = asking-now (device_at d r) floor }) t
    mine-after =
        rw (last-stays d event h refl, before-stays d event h refl) (record {
          contents = refl;
          round = round_is;
          phase =
              record {
                config = refl;
                candidates = refl;
                changes = refl;
                answered = refl;
                floor = refl;
                asked = alike.like.asked;
                shown = alike.like.shown;
              };
        })

    step : Floored a (here_at d r) floor → NextRound s s'
    step f =
        record {
          tablet = d;
          round = (s.tablets d).round;
          pending = alike.pending;
          contents = x;
          floor = as_floor floor;
          floored = floored-as f;
          answered = 0;
          none_answered = none_in_empty;
          moves = moves-tablet s d _ t s'.network s.handed s.asks was;
          network = refl;
          handed = refl;
          asks = refl;
        }

    pub round-follows : Floored a (here_at d r) floor → Follows first (applied slot d begins_round r).run (event ∷ h)
    unfolding here_at
    round-follows f =
        record {
          state = s';
          run = next now.follows.run (next_round (step f));
          like =
              after-tablet now (Advance tablet) slot d begins_round same-list (omega arith) (λ q j. refl) t s'.network s.handed s.asks mine-after
              (λ q. refl) (record { requests = λ q j. inr j; answers = λ q j. j; commits = λ q j. j }) (λ j u k. inl sent) (λ g j. j)
              (λ b j. absurd (silent-round (own.round + 1) b j)) (asks-after now (Advance tablet) slot d begins_round same-list);
        }

  -- ---- A book handed back (lines 13 to 15)

  -- the tablet becomes idle and gets its book
  abbrev idle_now : TabletState parlour
  idle_now = record { contents = x; round = (s.tablets d).round; phase = idle }

  abbrev gives : Network parlour → AbstractBook parlour → State parlour
  gives n b = record { tablets = replaced d idle_now s.tablets; network = n; handed = gets alike.pending b ∷ s.handed; asks = s.asks }

  idle-like : (answer : Outcome) → TabletLike r.listed (last_ask d (record { step = Advance tablet; answer = answer } ∷ h))
      (before_ask d (record { step = Advance tablet; answer = answer } ∷ h)) (device_at d r) (record { round = own.round; phase = Idle }) idle_now
  idle-like answer = record { contents = refl; round = mine.round; phase = tt }

  gets_back : (b : AbstractBook parlour) (book : Book) (answer : Outcome) → b ≡ as_book book
      → GotBack (gets alike.pending b ∷ s.handed) (record { step = Advance tablet; answer = answer }) h book
  gets_back b book answer e =
      record {
        tablet = d;
        advance = ap Advance at;
        got = gets alike.pending b;
        among = inl refl;
        is = e;
        asked = alike.like.asked;
        shown = alike.like.shown;
      }

  abbrev commits_book : Effect
  commits_book = hands_back (Committed (decided (here_at d r))) (to_all tablet (decided (here_at d r))) (here_at d r)

  commit-step : allowed a (here_at d r) ≡ true → steady a (here_at d r) ≡ true → same_candidates a (here_at d r) ≡ true
      → Commits s (gives (with_commit s.network (decide x)) (decide x))
  unfolding here_at
  commit-step enough same candidates =
      record {
        tablet = d;
        round = (s.tablets d).round;
        pending = alike.pending;
        contents = x;
        allowed = allowed-here enough same;
        steady = steady-as same;
        candidates = alike.like.candidates ∙ saved-candidates a (here_at d r) candidates;
        moves = moves-tablet s d _ idle_now (with_commit s.network (decide x)) (gets alike.pending (decide x) ∷ s.handed) s.asks was;
        network = refl;
        handed = refl;
        asks = refl;
      }

  pub commit-follows : allowed a (here_at d r) ≡ true → steady a (here_at d r) ≡ true
      → same_candidates a (here_at d r) ≡ true
      → Follows first (applied slot d commits_book r).run (record { step = Advance tablet; answer = Ok (Committed (decided (here_at d r))) } ∷ h)
  unfolding here_at
  commit-follows enough same candidates =
      let b = decided (here_at d r) in
      record {
        state = gives (with_commit s.network (decide x)) (decide x);
        run = next now.follows.run (commits (commit-step enough same candidates));
        like =
            after-tablet now (Advance tablet) slot d commits_book same-list (omega arith) (λ q j. refl) idle_now (with_commit s.network (decide x))
            (gets alike.pending (decide x) ∷ s.handed) s.asks (idle-like (Ok (Committed b))) (λ q. refl)
            (record { requests = λ q j. j; answers = λ q j. j; commits = λ q j. inr j }) (λ j u k. inl (sym decided-as)) (λ g j. inr j)
            (λ q j. gets_back (decide x) q (Ok (Committed b)) (decided-as ∙ ap as_book (sym (handed-committed b q j))))
            (asks-after now (Advance tablet) slot d commits_book same-list);
      }

  abbrev adopts_book : Effect
  adopts_book = hands_back (Adopted (here_at d r).contents.v) no_sending (here_at d r)

  adopt-step : (floor : Book) → Floored a (here_at d r) (Some floor) → floor_inside (Some floor) (device_at d r).v ≡ true
      → Adopts s (gives s.network (as_book (device_at d r).v))
  adopt-step floor f e =
      record {
        tablet = d;
        round = (s.tablets d).round;
        pending = alike.pending;
        contents = x;
        floor = as_book floor;
        floored = floored-as f;
        reached = book-contained floor (device_at d r).v e;
        moves = moves-tablet s d _ idle_now s.network (gets alike.pending (as_book (device_at d r).v) ∷ s.handed) s.asks was;
        network = refl;
        handed = refl;
        asks = refl;
      }

  pub adopt-follows : (floor : Option Book) → Floored a (here_at d r) floor → floor_inside floor (here_at d r).contents.v ≡ true
      → Follows first (applied slot d adopts_book r).run (record { step = Advance tablet; answer = Ok (Adopted (here_at d r).contents.v) } ∷ h)
  unfolding here_at
  adopt-follows None f e = absurd (false≢true e)
  adopt-follows (Some floor) f e =
      let v = (device_at d r).v in
      record {
        state = gives s.network (as_book v);
        run = next now.follows.run (adopts (adopt-step floor f e));
        like =
            after-tablet now (Advance tablet) slot d adopts_book same-list (omega arith) (λ q j. refl) idle_now s.network
            (gets alike.pending (as_book v) ∷ s.handed) s.asks (idle-like (Ok (Adopted v))) (λ q. refl) no_more (λ j u k. tt) (λ g j. inr j)
            (λ q j. gets_back (as_book v) q (Ok (Adopted v)) (ap as_book (sym (handed-adopted v q j))))
            (asks-after now (Advance tablet) slot d adopts_book same-list);
      }
