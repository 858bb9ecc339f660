-- An accepted Ask of the rules is an Ask of the agreement argument (`ask-follows`).
use Rattle.std.specs.Prelude.{None, Ok}
use Prim.Native.Nat.{ℕ, suc, ◌+◌, ◌<◌, ◌≤◌}
use mathlib.Core.Bool.{true}
use mathlib.Core.Path.{◌≡◌, refl, sym, ap, subst, ◌∙◌}
use mathlib.Core.Logic.{◌⊎◌, inl, inr}
use mathlib.Core.List.{List, [], ◌∷◌}
use native.Mathlib.Numerals.{add-one}
use native.Mathlib.Omega.{arith}
use borrow.Author.Tests.{eq-eqb, ne_eqb}
use Rattle.sets.specs.Sets.{has}
use Rattle.books.specs.declared.Config.{Config}
use Rattle.books.specs.declared.Listed.{Listed}
use Rattle.books.specs.Books.{own_notes, config_inside}
use Rattle.books.specs.Queried.{change_at}
use Rattle.devices.specs.declared.Contents.{Contents}
use Rattle.devices.specs.declared.Phase.{Phase}
use Rattle.devices.specs.declared.Phase.TheVariants.{Idle}
use Rattle.devices.specs.declared.Accepted.TheVariants.{Done}
use Rattle.devices.specs.declared.Effect.{Effect}
use Rattle.devices.specs.declared.Step.TheVariants.{Ask}
use Rattle.rules.specs.Rules.{asking as asking-now}
use Rattle.state.specs.declared.Run.{Run}
use Rattle.parlour.specs.Steps.{within, here_at, applied}
use Rattle.agreement.specs.Lattice.{Among}
use Rattle.agreement.specs.Setting.{Book as AbstractBook}
use Rattle.agreement.specs.State.{idle, asking, TabletState, Request as AbstractRequest, Handed, State, books}
use Rattle.agreement.specs.Steps.{Ask as AbstractAsk, with_request, began, ask, next}
use Rattle.promise.specs.Promise.{Event, HandedBack, last_ask, brought}
use Rattle.sets.proofs.Single.{none_in_empty}
use Rattle.parlour.proofs.Acts.{begins, took_in, Naming}
use Rattle.parlour.proofs.Naming.{naming-same, naming-only, naming-known}
use Rattle.parlour.specs.Statements.{device_at, tablet_at}
use Rattle.promise.proofs.Reading.{parlour, as_book, as_changes, as_contents}
use Rattle.promise.proofs.Changes.{named_in}
use Rattle.promise.proofs.Merges.{asked-as}
use Rattle.promise.proofs.History.{before_ask, last-new, before-new, ask_stays, silent-done}
use Rattle.promise.proofs.Likeness.{PhaseLike, TabletLike, AskedFor, Like, is-idle, Grows, contents-stay}
use Rattle.promise.proofs.Following.{Follows, Standing, replaced, moves-tablet, tablet_here, tablet-is, after-tablet}

-- ---- What was handed back before an ask

books-among : (g : Handed parlour) (handed : List (Handed parlour)) → Among g handed → Among g.book (books handed)
books-among g [] i = absurd i
books-among g (x ∷ handed) (inl e) = inl (ap (λ (y : Handed parlour). y.book) e)
books-among g (x ∷ handed) (inr i) = inr (books-among g handed i)

-- the books of the history are among those handed back
books-shown : {r : Run} {h : List Event} {s : State parlour} → Like r h s → (b : HandedBack h) → Among (as_book b.book) (books s.handed)
books-shown {s = s} like b =
    let g = like.handed b in
    rw (← g.is) (books-among g.got s.handed g.among)

-- ---- The ask

module _ {first : AbstractBook parlour} {r : Run} {h : List Event} (now : Standing first r h) (slot d : ℕ) (tablet own : ℕ) (pair : Config)
    (listed : Listed) (named : ℕ) (at : tablet ≡ d) (l : tablet ≤ 7) (free : (here_at d r).tablet.phase ≡ Idle)
    (naming : Naming (here_at d r).contents.v.config pair r.listed listed named) where
  abbrev s : State parlour
  s = now.follows.state

  abbrev event : Event
  event = record { step = Ask tablet own pair; answer = Ok Done }

  -- what the tablet keeps after it, and the whole effect
  abbrev c : Contents
  c = took_in tablet own named listed (here_at d r)

  abbrev effect : Effect
  effect = begins tablet Done None listed c (here_at d r)

  -- the argument's book, tablet, request and state after it
  abbrev b : AbstractBook parlour
  b = as_book (brought (Ask tablet own pair))

  abbrev round : ℕ
  round = (s.tablets d).round

  abbrev t : TabletState parlour
  t = record {
    contents = as_contents listed c;
    round = suc round;
    phase = asking (began (as_contents listed c) 0 b (suc round) (books s.handed));
  }

  abbrev request : AbstractRequest parlour
  request = record { tablet = d; round = suc round; contents = as_contents listed c }

  abbrev s' : State parlour
  s' = record { tablets = replaced d t s.tablets; network = with_request s.network request; handed = s.handed; asks = b ∷ s.asks }

  mine : TabletLike r.listed (last_ask d h) (before_ask d h) (device_at d r) (tablet_at (within 8 d) r) (s.tablets d)
  mine = tablet_here now d (omega arith)

  grows : Grows r.listed.count r.listed listed
  grows = record { same = naming-same naming }

  round_is : suc round ≡ (tablet_at (within 8 d) r).round + 1
  round_is = ap suc mine.round ∙ sym (add-one (tablet_at (within 8 d) r).round)

  sent : ◌≡◌ {A = AbstractRequest parlour}
      (record { tablet = tablet; round = (tablet_at (within 8 d) r).round + 1; contents = as_contents listed c }) request
  sent = λ k. record { tablet = at k; round = sym round_is k; contents = as_contents listed c }

  mine-after : TabletLike listed (last_ask d (event ∷ h)) (before_ask d (event ∷ h)) c
      (record { round = (tablet_at (within 8 d) r).round + 1; phase = asking-now c None }) t
  mine-after =
      record {
        contents = refl;
        round = round_is;
        phase =
            record {
              config = refl;
              candidates = refl;
              changes = refl;
              answered = refl;
              floor = refl;
              asked = last-new d event h (eq-eqb tablet d at);
              shown =
                  subst (λ (w : List Event). (x : HandedBack w) → Among (as_book x.book) (books s.handed))
                  (sym (before-new d event h (eq-eqb tablet d at))) (books-shown now.follows.like);
            };
      }

  asks-after : (x : AbstractBook parlour) → Among x (b ∷ s.asks) → AskedFor (event ∷ h) x
  asks-after x (inl e) =
      record {
        ask =
            record {
              tablet = tablet;
              own = own;
              pair = pair;
              event = event;
              earlier = h;
              happened = inl (refl, refl);
              step = refl;
              answer = refl;
            };
        brings = e;
      }
  asks-after x (inr j) = let a = now.follows.like.asks x j in record { ask = ask_stays a.ask; brings = a.brings }

  -- the pair is contained in v, or named
  known : (config_inside pair (device_at d r).v.config ≡ true) ⊎ Among pair (as_changes listed named)
  unfolding here_at
  known = go (naming-known naming now.sized.changes now.parts.few)
    where
      go : (config_inside pair (device_at d r).v.config ≡ true) ⊎ ((k : ℕ) × (k < 6) × (has k named ≡ true) × (change_at listed k ≡ pair))
          → (config_inside pair (device_at d r).v.config ≡ true) ⊎ Among pair (as_changes listed named)
      go (inl e) = inl e
      go (inr k) = inr (named_in listed named pair 6 k.0 k.1 k.2 (sym k.3))

  was : s.tablets d ≡ record { contents = as_contents listed (device_at d r); round = round; phase = idle }
  unfolding here_at
  was =
      tablet-is (mine.contents ∙ contents-stay grows (device_at d r) (now.parts.devices d)) refl
      (is-idle r.listed (last_ask d h) (before_ask d h) (s.tablets d).phase
      (subst (λ (x : Phase). PhaseLike r.listed (last_ask d h) (before_ask d h) x (s.tablets d).phase) free mine.phase))

  step : AbstractAsk s s'
  unfolding here_at
  step =
      record {
        tablet = d;
        round = round;
        before = as_contents listed (device_at d r);
        brought = b;
        after = as_contents listed c;
        merge = asked-as listed (device_at d r) (own_notes tablet own) pair named (naming-only naming now.sized.changes now.parts.few) known;
        answered = 0;
        none_answered = none_in_empty;
        moves = moves-tablet s d _ t s'.network s.handed s'.asks was;
        network = refl;
        handed = refl;
        asks = refl;
      }

  pub ask-follows : Follows first (applied slot d effect r).run (event ∷ h)
  unfolding here_at
  ask-follows =
      record {
        state = s';
        run = next now.follows.run (ask step);
        like =
            after-tablet now (Ask tablet own pair) slot d effect grows (omega arith) (λ q j. ne_eqb tablet q (λ e. j (sym e ∙ at))) t s'.network
            s.handed s'.asks mine-after (λ q. refl) (record { requests = λ q j. inr j; answers = λ q j. j; commits = λ q j. j })
            (λ j u k. inl sent) (λ g j. j) (λ q j. absurd (silent-done q j)) asks-after;
      }
