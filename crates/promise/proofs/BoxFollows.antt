-- A delivery to a box is a box of the agreement argument that hears a request (`request-follows`) or a commit (`box-commit-follows`).
use Rattle.std.specs.Prelude.{Ok}
use Prim.Native.Nat.{ℕ, ◌+◌, ◌-◌, ◌<◌, ◌≤◌}
use mathlib.Core.Bool.{true}
use mathlib.Core.Path.{◌≡◌, refl, ap}
use mathlib.Core.Logic.{inl, inr}
use mathlib.Core.List.{List, ◌∷◌}
use native.Mathlib.Omega.{arith}
use Rattle.sets.specs.Sets.{has}
use Rattle.devices.specs.declared.Contents.{Contents}
use Rattle.devices.specs.declared.Letter.{Letter}
use Rattle.devices.specs.declared.Notice.{Notice}
use Rattle.devices.specs.declared.Message.TheVariants.{Request, Commit}
use Rattle.devices.specs.declared.Accepted.TheVariants.{Done}
use Rattle.devices.specs.declared.Sending.{Sending}
use Rattle.devices.specs.declared.Effect.{Effect}
use Rattle.devices.specs.declared.Step.TheVariants.{Deliver}
use Rattle.devices.specs.Contents.{merged, brought_by}
use Rattle.devices.specs.Effects.{only, no_sending}
use Rattle.rules.specs.Rules.{heard, answer_to}
use Rattle.state.specs.declared.Run.{Run}
use Rattle.parlour.specs.Steps.{here_at, applied}
use Rattle.agreement.specs.Setting.{Book as AbstractBook, Contents as AbstractContents}
use Rattle.agreement.specs.State.{Answer as AbstractAnswer, Network, State}
use Rattle.agreement.specs.Steps.{Merged, with_answer, with_boxes, box_hears_request, box_hears_commit, next}
use Rattle.promise.specs.Promise.{Event}
use Rattle.parlour.specs.Statements.{device_at}
use Rattle.parlour.proofs.ProperEffect.{to-only}
use Rattle.promise.proofs.Reading.{parlour, as_book, as_contents}
use Rattle.promise.proofs.Merges.{merged-as, told-as}
use Rattle.promise.proofs.History.{silent-done}
use Rattle.promise.proofs.Likeness.{Sent, same-list}
use Rattle.promise.proofs.Following.{Follows, Standing, replaced, moves-box, after-box}

module _ {first : AbstractBook parlour} {r : Run} {h : List Event} (now : Standing first r h) (slot d k : ℕ) (low : 8 ≤ d) (high : d < 24) where
  abbrev s : State parlour
  s = now.follows.state

  abbrev event : Event
  event = record { step = Deliver k; answer = Ok Done }

  -- what the box keeps once it heard y, the effect, and the boxes of the argument
  abbrev keeps : Contents → Contents
  keeps y = merged r.listed (device_at d r) y

  abbrev hears : Contents → Sending → Effect
  hears y sending = heard (keeps y) (here_at d r).tablet sending (here_at d r)

  abbrev boxes_after : Contents → ℕ → AbstractContents parlour
  boxes_after y = replaced (d - 8) (as_contents r.listed (keeps y)) s.network.boxes

  box-merged : (y : Contents) → Merged (s.network.boxes (d - 8)) (as_contents r.listed y) (as_contents r.listed (keeps y))
  box-merged y =
      let e : 8 + (d - 8) ≡ d = omega arith in
      let was : s.network.boxes (d - 8) ≡ as_contents r.listed (device_at d r) = rw e at (now.follows.like.boxes (d - 8) (omega arith)) in
      rw was (merged-as r.listed (device_at d r) y)

  pub request-follows : (l : Letter) → d ≡ l.to → Sent r.listed s.network (Request l)
      → Follows first (applied slot d (hears l.contents (answer_to l (keeps l.contents))) r).run (event ∷ h)
  unfolding here_at
  request-follows l at was =
      record {
        state = record { tablets = s.tablets; network = n; handed = s.handed; asks = s.asks };
        run =
            next now.follows.run (box_hears_request (record {
              box = d - 8;
              request = record { tablet = l.from; round = l.round; contents = as_contents r.listed l.contents };
              sent = was;
              after = x;
              merge = box-merged l.contents;
              boxes' = boxes_after l.contents;
              boxes = moves-box s.network.boxes (d - 8) x;
              network = refl;
              tablets = λ q. refl;
              handed = refl;
              asks = refl;
            }));
        like =
            after-box now (Deliver k) slot d (hears l.contents (answer_to l (keeps l.contents))) same-list (d - 8) (omega arith) (omega arith) (λ q. refl)
            silent-done refl x n refl refl (record { requests = λ q j. j; answers = λ q j. inr j; commits = λ q j. j }) (λ j u i. inl (answers-to j i));
      }
    where
      x : AbstractContents parlour
      x = as_contents r.listed (keeps l.contents)

      answer : ℕ → ℕ → AbstractAnswer parlour
      answer box tablet = record { box = box - 8; tablet = tablet; round = l.round; contents = x }

      n : Network parlour
      n = with_answer (with_boxes s.network (boxes_after l.contents)) (answer d l.from)

      answers-to : (j : ℕ) → has j (only l.from) ≡ true → answer l.to j ≡ answer d l.from
      answers-to j i = rw (← at) (ap (answer d) (to-only l.from j i))

  pub box-commit-follows : (c : Notice) → Sent r.listed s.network (Commit c)
      → Follows first (applied slot d (hears (brought_by c.book) no_sending) r).run (event ∷ h)
  unfolding here_at
  box-commit-follows c was =
      record {
        state = record { tablets = s.tablets; network = n; handed = s.handed; asks = s.asks };
        run =
            next now.follows.run (box_hears_commit (record {
              box = d - 8;
              book = as_book c.book;
              sent = was;
              after = x;
              merge = rw (told-as r.listed c.book) at (box-merged (brought_by c.book));
              boxes' = boxes_after (brought_by c.book);
              boxes = moves-box s.network.boxes (d - 8) x;
              network = refl;
              tablets = λ q. refl;
              handed = refl;
              asks = refl;
            }));
        like =
            after-box now (Deliver k) slot d (hears (brought_by c.book) no_sending) same-list (d - 8) (omega arith) (omega arith) (λ q. refl) silent-done refl
            x n refl refl (record { requests = λ q j. j; answers = λ q j. j; commits = λ q j. j }) (λ j u i. tt);
      }
    where
      x : AbstractContents parlour
      x = as_contents r.listed (keeps (brought_by c.book))

      n : Network parlour
      n = with_boxes s.network (boxes_after (brought_by c.book))
