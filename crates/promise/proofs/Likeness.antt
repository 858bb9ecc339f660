-- A run of the parlour and its history are like a state of the agreement argument (`Like`): tablets and boxes keep the same, every message in
-- a slot was sent, every book of the history was handed back, every ask was accepted in it. And what one event more leaves alike.
use Rattle.std.specs.Prelude.{Option, Some}
use Prim.Native.Nat.{ℕ, ◌+◌, ◌-◌, ◌^◌, ◌<◌}
use mathlib.Core.Bool.{Bool, true, false}
use mathlib.Core.Path.{◌≡◌, refl, ◌∙◌}
use mathlib.Core.List.{List}
use native.Mathlib.Nat.{lt_irrefl}
use native.Mathlib.Omega.{arith}
use lib.Dec.{ltb, leb}
use borrow.Author.Tests.{ltb-true, ltb-false}
use Rattle.sets.specs.Choice.{both}
use Rattle.sets.specs.Sets.{has}
use Rattle.sets.proofs.SetLaws.{has-digit, digit-high}
use Rattle.sets.proofs.BoundedLaws.{both_right}
use Rattle.books.specs.declared.Book.{Book}
use Rattle.books.specs.declared.Listed.{Listed}
use Rattle.books.specs.Queried.{change_at}
use Rattle.devices.specs.declared.Contents.{Contents}
use Rattle.devices.specs.declared.Asking.{Asking}
use Rattle.devices.specs.declared.Phase.{Phase}
use Rattle.devices.specs.declared.Phase.TheVariants.{Idle, Asks}
use Rattle.devices.specs.declared.Tablet.{Tablet}
use Rattle.devices.specs.declared.Message.{Message}
use Rattle.devices.specs.declared.Message.TheVariants.{Empty, Request, Answer, Commit}
use Rattle.devices.specs.declared.Step.TheVariants.{Advance}
use Rattle.state.specs.declared.Run.{Run}
use Rattle.state.specs.State.{proper_phase, proper_tablet, proper_message, is_tablet, is_box}
use Rattle.parlour.specs.Steps.{message_at}
use Rattle.agreement.specs.Lattice.{Among}
use Rattle.agreement.specs.Setting.{Book as AbstractBook}
use Rattle.agreement.specs.State.{Asking as AbstractAsking, Phase as AbstractPhase, idle, asking, TabletState, Request as AbstractRequest, Answer as AbstractAnswer, Network, Handed, State}
use Rattle.promise.specs.Promise.{Event, HandedBack, AcceptedAsk, last_ask, brought}
use Rattle.promise.proofs.Reading.{parlour, as_book, of_book, as_changes, as_contents, as_floor}
use Rattle.promise.proofs.Changes.{changes-same}
use Rattle.state.proofs.StateLaws.{names-lt, letter-fits}
use Rattle.parlour.specs.Statements.{device_at, tablet_at}
use Rattle.promise.proofs.History.{before_ask}

-- ---- The likeness

-- an asking tablet whose last accepted ask brought `last`, after the history `before`
pub record AskingLike (listed : Listed) (last : Option Book) (before : List Event) (a : Asking) (x : AbstractAsking parlour) : Type 0 where
  pub config : x.saved.committed.configuration ≡ a.config
  pub candidates : x.saved.candidates ≡ a.candidates
  pub changes : x.saved.changes ≡ as_changes listed a.t
  pub answered : x.answered ≡ a.answered
  pub floor : x.floor ≡ as_floor a.floor
  pub asked : last ≡ Some (of_book x.asked)
  pub shown : (b : HandedBack before) → Among (as_book b.book) x.shown

abbrev pub PhaseLike : Listed → Option Book → List Event → Phase → AbstractPhase parlour → Type 0
PhaseLike listed last before Idle idle = Unit {0}
PhaseLike listed last before Idle (asking x) = ⊥
PhaseLike listed last before (Asks a) idle = ⊥
PhaseLike listed last before (Asks a) (asking x) = AskingLike listed last before a x

pub record TabletLike (listed : Listed) (last : Option Book) (before : List Event) (c : Contents) (x : Tablet) (s : TabletState parlour) : Type 0 where
  pub contents : s.contents ≡ as_contents listed c
  pub round : s.round ≡ x.round
  pub phase : PhaseLike listed last before x.phase s.phase

-- a message that lies in a slot is one that was sent
abbrev pub Sent : Listed → Network parlour → Message → Type 0
Sent listed n Empty = Unit {0}
Sent listed n (Request l) =
    Among (record { tablet = l.from; round = l.round; contents = as_contents listed l.contents }) n.requests
Sent listed n (Answer l) =
    Among (record { box = l.from - 8; tablet = l.to; round = l.round; contents = as_contents listed l.contents }) n.answers
Sent listed n (Commit c) = Among (as_book c.book) n.commits

-- the book that an event hands back is among those handed back, with what its ask brought and what was shown before it
pub record GotBack (handed : List (Handed parlour)) (event : Event) (earlier : List Event) (book : Book) : Type 0 where
  pub tablet : ℕ
  pub advance : event.step ≡ Advance tablet
  pub got : Handed parlour
  pub among : Among got handed
  pub is : got.book ≡ as_book book
  pub asked : last_ask tablet earlier ≡ Some (of_book got.asked)
  pub shown : (b : HandedBack (before_ask tablet earlier)) → Among (as_book b.book) got.shown

-- an accepted ask brought the book
pub record AskedFor (h : List Event) (b : AbstractBook parlour) : Type 0 where
  pub ask : AcceptedAsk h
  pub brings : b ≡ as_book (brought ask.event.step)

pub record Like (r : Run) (h : List Event) (s : State parlour) : Type 0 where
  pub tablets : (t : ℕ) → t < 8 → TabletLike r.listed (last_ask t h) (before_ask t h) (device_at t r) (tablet_at t r) (s.tablets t)
  pub boxes : (b : ℕ) → b < 16 → s.network.boxes b ≡ as_contents r.listed (device_at (8 + b) r)
  pub slots : (k : ℕ) → Sent r.listed s.network (message_at k r)
  pub handed : (b : HandedBack h) → GotBack s.handed b.event b.earlier b.book
  pub asks : (b : AbstractBook parlour) → Among b s.asks → AskedFor h b

-- ---- The phase of a tablet

pub is-idle : (listed : Listed) (last : Option Book) (before : List Event) (x : AbstractPhase parlour) → PhaseLike listed last before Idle x → x ≡ idle
is-idle listed last before idle h = refl
is-idle listed last before (asking a) h = absurd h

-- an asking tablet asks in the argument too
pub record AsksLike (listed : Listed) (last : Option Book) (before : List Event) (a : Asking) (x : AbstractPhase parlour) : Type 0 where
  pub pending : AbstractAsking parlour
  pub is : x ≡ asking pending
  pub like : AskingLike listed last before a pending

pub is-asking : {listed : Listed} {last : Option Book} {before : List Event} {a : Asking} (x : AbstractPhase parlour)
    → PhaseLike listed last before (Asks a) x → AsksLike listed last before a x
is-asking idle h = absurd h
is-asking (asking a) h = record { pending = a; is = refl; like = h }

-- ---- Further changes are listed

-- the first n changes are the same in both lists
pub record Grows (n : ℕ) (before after : Listed) : Type 0 where
  pub same : (k : ℕ) → k < n → change_at before k ≡ change_at after k

pub same-list : {n : ℕ} {listed : Listed} → Grows n listed listed
same-list = record { same = λ k l. refl }

module _ {n : ℕ} {before after : Listed} (g : Grows n before after) where
  -- a set that names none but the first n reads the same
  changes-stay : (t : ℕ) → t < 2 ^ n → as_changes before t ≡ as_changes after t
  changes-stay t h = changes-same before after t 6 (λ k l i. g.same k (go k (ltb k n) refl i))
    where
      go : (k : ℕ) (b : Bool) → ltb k n ≡ b → has k t ≡ true → k < n
      go k true e i = ltb-true k n e
      go k false e i = absurd (lt_irrefl 0 (omega (arith, has-digit k t i, digit-high n k t h (ltb-false k n e))))

  pub contents-stay : (c : Contents) → c.t < 2 ^ n → as_contents before c ≡ as_contents after c
  contents-stay c h =
      λ i. record { committed = as_book c.v; candidates = c.candidates; changes = changes-stay c.t h i }

  phase-stays : (last : Option Book) (earlier : List Event) (phase : Phase) (x : AbstractPhase parlour) → proper_phase n phase ≡ true
      → PhaseLike before last earlier phase x → PhaseLike after last earlier phase x
  phase-stays last earlier Idle idle p h = tt
  phase-stays last earlier Idle (asking x) p h = absurd h
  phase-stays last earlier (Asks a) idle p h = absurd h
  phase-stays last earlier (Asks a) (asking x) p h =
      record {
        config = h.config;
        candidates = h.candidates;
        changes = h.changes ∙ changes-stay a.t (names-lt n a.t p);
        answered = h.answered;
        floor = h.floor;
        asked = h.asked;
        shown = h.shown;
      }

  pub tablet-stays : {last : Option Book} {earlier : List Event} {c : Contents} {x : Tablet} {s : TabletState parlour} → c.t < 2 ^ n
      → proper_tablet n x ≡ true → TabletLike before last earlier c x s → TabletLike after last earlier c x s
  tablet-stays {last} {earlier} {c} {x} {s} f p h =
      record {
        contents = h.contents ∙ contents-stay c f;
        round = h.round;
        phase = phase-stays last earlier x.phase s.phase (both_right (leb x.round 1023) (proper_phase n x.phase) p) h.phase;
      }

-- ---- What was sent stays sent

pub record More (n n' : Network parlour) : Type 0 where
  pub requests : (q : AbstractRequest parlour) → Among q n.requests → Among q n'.requests
  pub answers : (a : AbstractAnswer parlour) → Among a n.answers → Among a n'.answers
  pub commits : (b : AbstractBook parlour) → Among b n.commits → Among b n'.commits

pub no_more : {n : Network parlour} → More n n
no_more = record { requests = λ q i. i; answers = λ a i. i; commits = λ b i. i }

pub sent-stays : {n : ℕ} {before after : Listed} {net net' : Network parlour} → Grows n before after → More net net' → (m : Message)
    → proper_message n m ≡ true → Sent before net m → Sent after net' m
sent-stays g more Empty p h = tt
sent-stays {n} g more (Request l) p h =
    more.requests _ (rw (contents-stay g l.contents (letter-fits n (both (is_tablet l.from) (is_box l.to)) l p)) at h)
sent-stays {n} g more (Answer l) p h =
    more.answers _ (rw (contents-stay g l.contents (letter-fits n (both (is_box l.from) (is_tablet l.to)) l p)) at h)
sent-stays g more (Commit c) p h = more.commits _ h
