-- A run that follows the agreement argument, and what is left to show of a step: that the acting device's parts are alike and that what it
-- sends was sent (`after-tablet`, `after-box`, `after-quiet`). Everything else is as before.
use Prim.Native.Nat.{ℕ, ◌+◌, ◌<◌}
use mathlib.Core.Bool.{Bool, true, false}
use mathlib.Core.Path.{◌≡◌, refl, sym, ap, subst, ◌∙◌}
use mathlib.Core.Logic.{◌⊎◌, inl, inr}
use mathlib.Core.List.{List, ◌∷◌}
use native.Mathlib.Decide.{ℕ_discrete}
use native.Mathlib.Nat.{lt_irrefl}
use native.Mathlib.Omega.{arith}
use lib.Dec.{eqb}
use borrow.Author.Tests.{eq-eqb, ne_eqb}
use Rattle.sets.specs.Choice.{pick}
use Rattle.sets.specs.Sets.{has}
use Rattle.books.specs.declared.Book.{Book}
use Rattle.devices.specs.declared.Message.{Message}
use Rattle.devices.specs.declared.Effect.{Effect}
use Rattle.devices.specs.declared.Step.{Step}
use Rattle.devices.specs.Effects.{addressed}
use Rattle.state.specs.declared.Run.{Run}
use Rattle.parlour.specs.Steps.{within, message_at, applied}
use Rattle.agreement.specs.Lattice.{Among}
use Rattle.agreement.specs.Setting.{Book as AbstractBook, Contents as AbstractContents}
use Rattle.agreement.specs.State.{Phase as AbstractPhase, TabletState, Network, Handed, State}
use Rattle.agreement.specs.Steps.{OnTablet, OnBox, Run as AbstractRun}
use Rattle.promise.specs.Promise.{Event, Happened, HandsBack, HandedBack, asked_by, last_ask}
use Rattle.promise.proofs.Reading.{parlour, as_contents}
use Rattle.state.proofs.StateLaws.{Sized, Proper}
use Rattle.parlour.specs.Statements.{device_at, tablet_at}
use Rattle.parlour.proofs.Places.{within_in}
use Rattle.parlour.proofs.Frame.{device-now, device-other, tablet-now, tablet-other, Source, none, stayed, sent, message-from}
use Rattle.promise.proofs.History.{before_ask, last-stays, before-stays, ask_stays, Silent}
use Rattle.promise.proofs.Likeness.{TabletLike, Sent, GotBack, AskedFor, Like, Grows, contents-stay, tablet-stays, More, no_more, sent-stays}

-- the run and its history are like a state that a run of the argument reaches
pub record Follows (first : AbstractBook parlour) (r : Run) (h : List Event) : Type 0 where
  pub state : State parlour
  pub run : AbstractRun first state
  pub like : Like r h state

-- a run that is as it should be, and follows the argument
pub record Standing (first : AbstractBook parlour) (r : Run) (h : List Event) : Type 0 where
  pub sized : Sized r
  pub parts : Proper r
  pub follows : Follows first r h

-- ---- One place replaced

abbrev pub replaced : {A : Type 0} → ℕ → A → (ℕ → A) → ℕ → A
replaced p new old q = pick (eqb q p) new (old q)

module _ {A : Type 0} (p : ℕ) (new : A) (old : ℕ → A) where
  replaced-here : replaced p new old p ≡ new
  replaced-here = ap (λ (b : Bool). pick b new (old p)) (eq-eqb p p refl)

  replaced-other : (q : ℕ) → (q ≡ p → ⊥) → replaced p new old q ≡ old q
  replaced-other q n = ap (λ (b : Bool). pick b new (old q)) (ne_eqb q p n)

-- only the tablet moves
pub moves-tablet : (s : State parlour) (p : ℕ) (t t' : TabletState parlour) (n : Network parlour) (handed : List (Handed parlour)) (asks : List (AbstractBook parlour))
    → s.tablets p ≡ t → OnTablet s (record { tablets = replaced p t' s.tablets; network = n; handed = handed; asks = asks }) p t t'
moves-tablet s p t t' n handed asks e =
    record { was = e; now = replaced-here p t' s.tablets; others = λ q. go q (ℕ_discrete q p) }
  where
    go : (q : ℕ) → Dec (q ≡ p) → (q ≡ p) ⊎ ((¬ (q ≡ p)) × (replaced p t' s.tablets q ≡ s.tablets q))
    go q (yes i) = inl i
    go q (no i) = inr (i, replaced-other p t' s.tablets q i)

-- only the box moves
pub moves-box : (boxes : ℕ → AbstractContents parlour) (b : ℕ) (x : AbstractContents parlour) → OnBox {𝓢 = parlour} boxes (replaced b x boxes) b x
moves-box boxes b x = record { now = replaced-here b x boxes; others = λ q. go q (ℕ_discrete q b) }
  where
    go : (q : ℕ) → Dec (q ≡ b) → (q ≡ b) ⊎ (replaced b x boxes q ≡ boxes q)
    go q (yes i) = inl i
    go q (no i) = inr (replaced-other b x boxes q i)

-- ---- The acting tablet, as the rules see it

pub tablet_here : {first : AbstractBook parlour} {r : Run} {h : List Event} (now : Standing first r h) (d : ℕ) → d < 8
    → TabletLike r.listed (last_ask d h) (before_ask d h) (device_at d r) (tablet_at (within 8 d) r) (now.follows.state.tablets d)
tablet_here now d l = rw (sym (within_in 8 d l)) (now.follows.like.tablets d l)

pub tablet-is : {t : TabletState parlour} {c : AbstractContents parlour} {round : ℕ} {phase : AbstractPhase parlour} → t.contents ≡ c
    → t.round ≡ round → t.phase ≡ phase → t ≡ record { contents = c; round = round; phase = phase }
tablet-is c r p = λ i. record { contents = c i; round = r i; phase = p i }

-- ---- What a step leaves alike

module _ {first : AbstractBook parlour} {r : Run} {h : List Event} (now : Standing first r h) (step : Step) (slot d : ℕ) (e : Effect)
    (grows : Grows r.listed.count r.listed e.listed) where
  abbrev s : State parlour
  s = now.follows.state

  like : Like r h s
  like = now.follows.like

  abbrev event : Event
  event = record { step = step; answer = e.outcome }

  abbrev after : Run
  after = (applied slot d e r).run

  -- what lies in the slots was sent, if what the step sends was
  slots-after : (n : Network parlour) → More s.network n
      → ((j : ℕ) → j < 24 → has j e.sending.to ≡ true → Sent e.listed n (addressed e.sending.message j))
      → (k : ℕ) → Sent e.listed n (message_at k after)
  slots-after n more f k = go (message-from slot d e r k)
    where
      go : {m : Message} → Source r e.sending m → Sent e.listed n m
      go none = tt
      go (stayed k) = sent-stays grows more (message_at k r) (now.parts.messages k) (like.slots k)
      go (sent j l i) = f j l i

  -- the books of the history were handed back, if the one that the step hands back was
  handed-after : (handed : List (Handed parlour)) → ((g : Handed parlour) → Among g s.handed → Among g handed)
      → ((b : Book) → HandsBack e.outcome b → GotBack handed event h b)
      → (b : HandedBack (event ∷ h)) → GotBack handed b.event b.earlier b.book
  handed-after handed more f b = go b.happened
    where
      go : Happened b.event b.earlier (event ∷ h) → GotBack handed b.event b.earlier b.book
      go (inl q) =
          subst (λ (x : Event). GotBack handed x b.earlier b.book) (sym q.0)
          (subst (λ (x : List Event). GotBack handed event x b.book) (sym q.1)
          (f b.book (subst (λ (x : Event). HandsBack x.answer b.book) q.0 b.hands_back)))
      go (inr i) =
          let g = like.handed (record { book = b.book; event = b.event; earlier = b.earlier; happened = i; hands_back = b.hands_back }) in
          record { tablet = g.tablet; advance = g.advance; got = g.got; among = more g.got g.among; is = g.is; asked = g.asked; shown = g.shown }

  pub asks-after : (b : AbstractBook parlour) → Among b s.asks → AskedFor (event ∷ h) b
  asks-after b i = let a = like.asks b i in record { ask = ask_stays a.ask; brings = a.brings }

  -- a tablet that neither acts nor asks
  other-tablet : (q : ℕ) → q < 8 → device_at q after ≡ device_at q r → tablet_at q after ≡ tablet_at q r → asked_by q event ≡ false
      → TabletLike e.listed (last_ask q (event ∷ h)) (before_ask q (event ∷ h)) (device_at q after) (tablet_at q after) (s.tablets q)
  other-tablet q l c x a =
      rw (c, x, last-stays q event h a, before-stays q event h a) (tablet-stays grows (now.parts.devices q) (now.parts.tablets q) (like.tablets q l))

  other-box : (b : ℕ) → b < 16 → device_at (8 + b) after ≡ device_at (8 + b) r
      → s.network.boxes b ≡ as_contents e.listed (device_at (8 + b) after)
  other-box b l c = rw c (like.boxes b l ∙ contents-stay grows (device_at (8 + b) r) (now.parts.devices (8 + b)))

  -- the effect gives the tablet's part back: no tablet changes
  same-tablets : e.tablet ≡ tablet_at (within 8 d) r → (q : ℕ) → tablet_at q after ≡ tablet_at q r
  same-tablets x q = go (ℕ_discrete q (within 8 d))
    where
      go : Dec (q ≡ within 8 d) → tablet_at q after ≡ tablet_at q r
      go (yes i) = rw i (tablet-now slot d e r now.sized ∙ x)
      go (no i) = tablet-other slot d e r q i

  -- a tablet acts: its own state t is alike, nobody else asks, and the boxes are left alone
  pub after-tablet : d < 8 → ((q : ℕ) → (q ≡ d → ⊥) → asked_by q event ≡ false)
      → (t : TabletState parlour) (n : Network parlour) (handed : List (Handed parlour)) (asks : List (AbstractBook parlour))
      → TabletLike e.listed (last_ask d (event ∷ h)) (before_ask d (event ∷ h)) e.contents e.tablet t
      → ((b : ℕ) → n.boxes b ≡ s.network.boxes b) → More s.network n
      → ((j : ℕ) → j < 24 → has j e.sending.to ≡ true → Sent e.listed n (addressed e.sending.message j))
      → ((g : Handed parlour) → Among g s.handed → Among g handed)
      → ((b : Book) → HandsBack e.outcome b → GotBack handed event h b)
      → ((b : AbstractBook parlour) → Among b asks → AskedFor (event ∷ h) b)
      → Like after (event ∷ h) (record { tablets = replaced d t s.tablets; network = n; handed = handed; asks = asks })
  unfolding applied
  after-tablet l quiet t n handed asks here boxes more f kept g a =
      record {
        tablets = λ q u. tablet q u (ℕ_discrete q d);
        boxes = λ b u. boxes b ∙ other-box b u (device-other slot d e r (8 + b) (λ i. lt_irrefl 0 (omega arith)));
        slots = slots-after n more f;
        handed = handed-after handed kept g;
        asks = a;
      }
    where
      tablet : (q : ℕ) → q < 8 → Dec (q ≡ d)
          → TabletLike e.listed (last_ask q (event ∷ h)) (before_ask q (event ∷ h)) (device_at q after) (tablet_at q after) (replaced d t s.tablets q)
      tablet q u (yes i) =
          let x : tablet_at d after ≡ e.tablet = ap (λ (k : ℕ). tablet_at k after) (within_in 8 d l) ∙ tablet-now slot d e r now.sized in
          rw (i, replaced-here d t s.tablets, device-now slot d e r now.sized (omega arith), x) here
      tablet q u (no i) =
          rw (replaced-other d t s.tablets q i)
          (other-tablet q u (device-other slot d e r q i) (tablet-other slot d e r q (λ j. i (j ∙ sym (within_in 8 d l)))) (quiet q i))

  -- a box acts: its contents x are alike, and the tablets are left alone
  pub after-box : (b : ℕ) → b < 16 → d ≡ 8 + b → ((q : ℕ) → asked_by q event ≡ false) → Silent e.outcome
      → e.tablet ≡ tablet_at (within 8 d) r → (x : AbstractContents parlour) (n : Network parlour) → x ≡ as_contents e.listed e.contents
      → n.boxes ≡ replaced b x s.network.boxes → More s.network n
      → ((j : ℕ) → j < 24 → has j e.sending.to ≡ true → Sent e.listed n (addressed e.sending.message j))
      → Like after (event ∷ h) (record { tablets = s.tablets; network = n; handed = s.handed; asks = s.asks })
  unfolding applied
  after-box b l i quiet silent same x n here boxes more f =
      record {
        tablets = λ q u. other-tablet q u (device-other slot d e r q (λ j. lt_irrefl 0 (omega arith))) (same-tablets same q) (quiet q);
        boxes = λ c u. ap (λ (w : ℕ → AbstractContents parlour). w c) boxes ∙ box c u (ℕ_discrete c b);
        slots = slots-after n more f;
        handed = handed-after s.handed (λ g j. j) (λ c j. absurd (silent c j));
        asks = asks-after;
      }
    where
      box : (c : ℕ) → c < 16 → Dec (c ≡ b) → replaced b x s.network.boxes c ≡ as_contents e.listed (device_at (8 + c) after)
      box c u (yes j) =
          let y : device_at (8 + b) after ≡ e.contents = ap (λ (k : ℕ). device_at k after) (sym i) ∙ device-now slot d e r now.sized (omega arith) in
          rw (j, replaced-here b x s.network.boxes, y) here
      box c u (no j) =
          replaced-other b x s.network.boxes c j ∙ other-box c u (device-other slot d e r (8 + c) (λ k. j (omega arith)))

  -- no device changes
  pub after-quiet : d < 24 → ((q : ℕ) → asked_by q event ≡ false) → Silent e.outcome → e.contents ≡ device_at d r
      → e.tablet ≡ tablet_at (within 8 d) r
      → ((j : ℕ) → j < 24 → has j e.sending.to ≡ true → Sent e.listed s.network (addressed e.sending.message j))
      → Like after (event ∷ h) s
  unfolding applied
  after-quiet l quiet silent same-c same-x f =
      record {
        tablets = λ q u. other-tablet q u (device q) (same-tablets same-x q) (quiet q);
        boxes = λ b u. other-box b u (device (8 + b));
        slots = slots-after s.network no_more f;
        handed = handed-after s.handed (λ g j. j) (λ b i. absurd (silent b i));
        asks = asks-after;
      }
    where
      device : (q : ℕ) → device_at q after ≡ device_at q r
      device q = go (ℕ_discrete q d)
        where
          go : Dec (q ≡ d) → device_at q after ≡ device_at q r
          go (yes i) = rw i (device-now slot d e r now.sized l ∙ same-c)
          go (no i) = device-other slot d e r q i
