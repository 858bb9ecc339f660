-- A delivery to a tablet is a tablet of the agreement argument that hears an answer or a commit, and counts the answer if it is of its own
-- round (`answer-follows`, `tablet-commit-follows`).
use Rattle.std.specs.Prelude.{Ok}
use Prim.Native.Nat.{ℕ, ◌-◌, ◌^◌, ◌<◌}
use mathlib.Core.Bool.{Bool, true, false}
use mathlib.Core.Path.{◌≡◌, refl, sym, ap, subst, ◌∙◌}
use mathlib.Core.Logic.{◌⊎◌, inl, inr}
use mathlib.Core.List.{List, ◌∷◌}
use native.Mathlib.Omega.{arith}
use lib.Dec.{ltb, leb}
use borrow.Author.Tests.{eqb-true, leb-true, ltb-true}
use Rattle.sets.specs.Choice.{pick, both}
use Rattle.sets.specs.Sets.{digit, union}
use Rattle.sets.proofs.SetLaws.{in-union}
use Rattle.devices.specs.declared.Contents.{Contents}
use Rattle.devices.specs.declared.Asking.{Asking}
use Rattle.devices.specs.declared.Tablet.{Tablet}
use Rattle.devices.specs.declared.Phase.{Phase}
use Rattle.devices.specs.declared.Phase.TheVariants.{Idle, Asks}
use Rattle.devices.specs.declared.Letter.{Letter}
use Rattle.devices.specs.declared.Notice.{Notice}
use Rattle.devices.specs.declared.Message.TheVariants.{Answer, Commit}
use Rattle.devices.specs.declared.Accepted.TheVariants.{Done}
use Rattle.devices.specs.declared.Effect.{Effect}
use Rattle.devices.specs.declared.Step.TheVariants.{Deliver}
use Rattle.devices.specs.Contents.{merged, brought_by}
use Rattle.devices.specs.Effects.{box_of, no_sending}
use Rattle.rules.specs.Rules.{heard, marked_in, of_its_round, marked}
use Rattle.state.specs.declared.Run.{Run}
use Rattle.parlour.specs.Steps.{within, here_at, applied}
use Rattle.agreement.specs.Setting.{Book as AbstractBook, Contents as AbstractContents}
use Rattle.agreement.specs.State.{asking, TabletState, State}
use Rattle.agreement.specs.Steps.{goes_on, Heard, an_answer, a_commit, TabletCounts, tablet_hears, tablet_counts, next}
use Rattle.promise.specs.Promise.{Event, last_ask}
use Rattle.sets.proofs.Single.{none_in_empty, in-single}
use Rattle.parlour.specs.Statements.{device_at, tablet_at}
use Rattle.promise.proofs.Reading.{parlour, as_book, as_contents}
use Rattle.promise.proofs.Merges.{merged-as, told-as}
use Rattle.promise.proofs.History.{before_ask, last-stays, before-stays, silent-done}
use Rattle.promise.proofs.Likeness.{AskingLike, PhaseLike, TabletLike, Sent, Like, AsksLike, is-asking, same-list, no_more}
use Rattle.promise.proofs.Following.{Follows, Standing, replaced, moves-tablet, tablet_here, tablet-is, asks-after, after-tablet}

-- what is counted is of the tablet's own round
round-is-own : (l : Letter) (x : Tablet) → of_its_round l x ≡ true → l.round ≡ x.round
round-is-own l x e = omega (arith, eqb-true, leb-true, ltb-true)

module _ {first : AbstractBook parlour} {r : Run} {h : List Event} (now : Standing first r h) (slot d k : ℕ) (low : d < 8) where
  abbrev s : State parlour
  s = now.follows.state

  abbrev event : Event
  event = record { step = Deliver k; answer = Ok Done }

  -- the tablet's own part, as the rules see it
  abbrev own : Tablet
  own = tablet_at (within 8 d) r

  -- what the tablet keeps once it heard y, and the effect, its own part becoming x
  abbrev keeps : Contents → Contents
  keeps y = merged r.listed (device_at d r) y

  abbrev hears : Contents → Tablet → Effect
  hears y x = heard (keeps y) x no_sending (here_at d r)

  mine : TabletLike r.listed (last_ask d h) (before_ask d h) (device_at d r) own (s.tablets d)
  mine = tablet_here now d low

  -- the state once the tablet's is t, which is like its parts
  abbrev moved : TabletState parlour → State parlour
  moved t = record { tablets = replaced d t s.tablets; network = s.network; handed = s.handed; asks = s.asks }

  moved-like : (y : Contents) (x : Tablet) (t : TabletState parlour)
      → TabletLike r.listed (last_ask d h) (before_ask d h) (keeps y) x t → Like (applied slot d (hears y x) r).run (event ∷ h) (moved t)
  unfolding here_at
  moved-like y x t alike =
      after-tablet now (Deliver k) slot d (hears y x) same-list low (λ q j. refl) t s.network s.handed s.asks
      (rw (last-stays d event h refl, before-stays d event h refl) alike) (λ q. refl) no_more (λ j u i. tt) (λ g j. j)
      (λ b j. absurd (silent-done b j)) (asks-after now (Deliver k) slot d (hears y x) same-list)

  -- ---- It merges, and counts nothing

  hears-follows : (y : Contents) (x : Tablet) → x ≡ own → Heard s (as_contents r.listed y)
      → Follows first (applied slot d (hears y x) r).run (event ∷ h)
  hears-follows y x same was =
      record {
        state = moved t;
        run =
            next now.follows.run (tablet_hears (record {
              tablet = d;
              round = (s.tablets d).round;
              phase = (s.tablets d).phase;
              before = as_contents r.listed (device_at d r);
              incoming = as_contents r.listed y;
              heard = was;
              after = as_contents r.listed (keeps y);
              merge = merged-as r.listed (device_at d r) y;
              moves = moves-tablet s d _ t s.network s.handed s.asks (tablet-is mine.contents refl refl);
              network = refl;
              handed = refl;
              asks = refl;
            }));
        like = moved-like y x t (rw same (record { contents = refl; round = mine.round; phase = mine.phase }));
      }
    where
      t : TabletState parlour
      t = record { contents = as_contents r.listed (keeps y); round = (s.tablets d).round; phase = (s.tablets d).phase }

  -- ---- It merges, and marks the box that answered its round

  module _ (l : Letter) (a : Asking) (at : d ≡ l.to) (current : l.round ≡ own.round) (asks : own.phase ≡ Asks a)
      (was : Sent r.listed s.network (Answer l)) where
    alike : AsksLike r.listed (last_ask d h) (before_ask d h) a (s.tablets d).phase
    alike = is-asking (s.tablets d).phase (subst (λ (w : Phase). PhaseLike r.listed (last_ask d h) (before_ask d h) w (s.tablets d).phase) asks mine.phase)

    abbrev answered : ℕ
    answered = union a.answered (box_of l.from)

    abbrev marks_it : TabletState parlour
    marks_it = record {
      contents = as_contents r.listed (keeps l.contents);
      round = (s.tablets d).round;
      phase = asking (goes_on alike.pending alike.pending.saved answered alike.pending.floor);
    }

    box-is : (b : Bool) (q : ℕ) → digit q (pick b (2 ^ (l.from - 8)) 0) ≡ 1 → q ≡ l.from - 8
    box-is true q i = in-single (l.from - 8) q i
    box-is false q i = absurd (none_in_empty q i)

    marks : (q : ℕ) → digit q answered ≡ 1 → (digit q alike.pending.answered ≡ 1) ⊎ (q ≡ l.from - 8)
    marks q i = go (in-union q a.answered (box_of l.from) i)
      where
        go : (digit q a.answered ≡ 1) ⊎ (digit q (box_of l.from) ≡ 1) → (digit q alike.pending.answered ≡ 1) ⊎ (q ≡ l.from - 8)
        go (inl j) = inl (rw alike.like.answered j)
        go (inr j) = inr (box-is (both (leb 8 l.from) (ltb l.from 24)) q j)

    step : TabletCounts s (moved marks_it)
    step =
        record {
          tablet = d;
          round = (s.tablets d).round;
          pending = alike.pending;
          before = as_contents r.listed (device_at d r);
          answer = record { box = l.from - 8; tablet = l.to; round = l.round; contents = as_contents r.listed l.contents };
          sent = was;
          own = sym at;
          current = current ∙ sym mine.round;
          after = as_contents r.listed (keeps l.contents);
          merge = merged-as r.listed (device_at d r) l.contents;
          answered = answered;
          marks = marks;
          moves = moves-tablet s d _ marks_it s.network s.handed s.asks (tablet-is mine.contents refl alike.is);
          network = refl;
          handed = refl;
          asks = refl;
        }

    marked-like : AskingLike r.listed (last_ask d h) (before_ask d h)
        (record { config = a.config; t = a.t; candidates = a.candidates; answered = answered; floor = a.floor })
        (goes_on alike.pending alike.pending.saved answered alike.pending.floor)
    marked-like =
        let w = alike.like in
        record { config = w.config; candidates = w.candidates; changes = w.changes; answered = refl; floor = w.floor; asked = w.asked; shown = w.shown }

    counts-follows : (x : Tablet) → x ≡ record { round = own.round; phase = marked_in (box_of l.from) (Asks a) }
        → Follows first (applied slot d (hears l.contents x) r).run (event ∷ h)
    counts-follows x is =
        record {
          state = moved marks_it;
          run = next now.follows.run (tablet_counts step);
          like = moved-like l.contents x marks_it (rw is (record { contents = refl; round = mine.round; phase = marked-like }));
        }

  -- ---- The two deliveries

  pub tablet-commit-follows : (c : Notice) → Sent r.listed s.network (Commit c)
      → Follows first (applied slot d (hears (brought_by c.book) (here_at d r).tablet) r).run (event ∷ h)
  unfolding here_at
  tablet-commit-follows c was =
      hears-follows (brought_by c.book) own refl
      (subst (λ (y : AbstractContents parlour). Heard s y) (sym (told-as r.listed c.book)) (a_commit (as_book c.book) was))

  pub answer-follows : (l : Letter) → d ≡ l.to → Sent r.listed s.network (Answer l)
      → Follows first (applied slot d (hears l.contents (marked l (here_at d r).tablet)) r).run (event ∷ h)
  unfolding here_at marked
  answer-follows l at was = go (of_its_round l own) refl own.phase refl
    where
      answer : Heard s (as_contents r.listed l.contents)
      answer = an_answer (record { box = l.from - 8; tablet = l.to; round = l.round; contents = as_contents r.listed l.contents }) was

      marking : Phase → Tablet
      marking w = record { round = own.round; phase = marked_in (box_of l.from) w }

      go : (b : Bool) → of_its_round l own ≡ b → (phase : Phase) → own.phase ≡ phase
          → Follows first (applied slot d (hears l.contents (pick b (marking own.phase) own)) r).run (event ∷ h)
      go false e phase i = hears-follows l.contents own refl answer
      go true e Idle i =
          let same : own ≡ record { round = own.round; phase = Idle } = λ j. record { round = own.round; phase = i j } in
          hears-follows l.contents (marking own.phase) (ap marking i ∙ sym same) answer
      go true e (Asks a) i = counts-follows l a at (round-is-own l own e) i was (marking own.phase) (ap marking i)
