-- What the rules let a step do: a refusal, or one of eight effects, each with the tests that led to it (`Acts`, `acts`, and of a run `acts-for`).
-- Who proves something of all steps goes by these cases, and need not unfold the rules.
use Prim.Native.Nat.{ℕ, ◌+◌, ◌-◌, ◌^◌, ◌<◌, ◌≤◌}
use mathlib.Core.Bool.{Bool, true, false, true≢false}
use mathlib.Core.Logic.{◌⊎◌, inl, inr}
use mathlib.Core.Path.{◌≡◌, refl, sym, ◌∙◌}
use native.Mathlib.Omega.{arith}
use lib.Dec.{ltb}
use borrow.Author.Tests.{ltb-true, ltb-false, leb-true}
use Rattle.sets.specs.Choice.{pick}
use Rattle.std.specs.Prelude.{Option, Some, None, Result, Ok, Err}
use Rattle.refusals.specs.declared.Refusal.{Refusal}
use Rattle.refusals.specs.declared.Refusal.TheVariants.{NoState, OutOfRange, Stopped, NotAllowed, EmptySlot, SeventhChange, LastRound, NoRoom}
use Rattle.refusals.specs.Refusals.{number}
use Rattle.books.specs.declared.Config.{Config}
use Rattle.books.specs.declared.Book.{Book}
use Rattle.books.specs.declared.Listed.{Listed}
use Rattle.books.specs.Books.{own_notes, config_inside}
use Rattle.books.specs.Queried.{place_of, with_change, asked_boxes}
use Rattle.devices.specs.declared.Contents.{Contents}
use Rattle.devices.specs.declared.Asking.{Asking}
use Rattle.devices.specs.declared.Phase.{Phase}
use Rattle.devices.specs.declared.Phase.TheVariants.{Idle, Asks}
use Rattle.devices.specs.declared.Letter.{Letter}
use Rattle.devices.specs.declared.Notice.{Notice}
use Rattle.devices.specs.declared.Message.{Message}
use Rattle.devices.specs.declared.Message.TheVariants.{Empty, Request, Answer, Commit}
use Rattle.devices.specs.declared.Accepted.{Accepted}
use Rattle.devices.specs.declared.Accepted.TheVariants.{Done, Round, Committed, Adopted}
use Rattle.devices.specs.declared.Sending.{Sending}
use Rattle.devices.specs.declared.Here.{Here}
use Rattle.devices.specs.declared.Effect.{Effect}
use Rattle.devices.specs.declared.Step.{Step}
use Rattle.devices.specs.declared.Step.TheVariants.{Ask, Advance, Deliver, Lose, Repeat, Stop}
use Rattle.devices.specs.Contents.{merged, brought_by}
use Rattle.devices.specs.Effects.{only, addressee, is_empty, no_sending, refuse}
use Rattle.rules.specs.Table.{row, in_range}
use Rattle.rules.specs.Rules.{asking, requests, begun, ask_with, ask_pair, ask_in, ask, heard, answer_to, marked, deliver, decided, allowed, steady, same_candidates, or_set, hands_back, commit, floor_inside, adopt_or, advance_from, advance_in, advance, leaves, lose, again, stop, ruled, or_refused, effect_of}
use Rattle.state.specs.declared.Run.{Run}
use Rattle.state.specs.State.{proper}
use Rattle.parlour.specs.Steps.{slot_of, device_of, message_at, here_at}

-- ---- The effects

-- a round that begins with these contents, floor and listed changes
abbrev pub begins : ℕ → Accepted → Option Book → Listed → Contents → Here → Effect
begins tablet answer floor listed c h =
    record {
      outcome = Ok answer;
      contents = c;
      tablet = record { round = h.tablet.round + 1; phase = asking c floor };
      listed = listed;
      frees = false;
      stops = false;
      sending = requests tablet (h.tablet.round + 1) c (asked_boxes listed c.v.config c.t);
    }

-- what a tablet keeps once it took in what an ask brings, the pair given as a set of listed changes
abbrev pub took_in : ℕ → ℕ → ℕ → Listed → Here → Contents
took_in tablet own named listed h =
    merged listed h.contents (record { v = h.contents.v; candidates = own_notes tablet own; t = named })

-- the commit of a book to all devices
abbrev pub to_all : ℕ → Book → Sending
to_all tablet b = record { message = Commit (record { from = tablet; to = 0; book = b }); to = 2 ^ 24 - 1 }

-- ---- The cases

-- how an ask names its pair, by a tablet whose v has this configuration: the listed changes after it, and the set of places
pub data Naming (config pair : Config) (before : Listed) : Listed → ℕ → Type 0 where
  -- v contains the pair
  contained : config_inside pair config ≡ true → Naming config pair before before 0
  -- the pair is listed already
  listed_already : place_of before pair < before.count → Naming config pair before before (2 ^ place_of before pair)
  -- "is listed, behind the others"
  listed_now : before.count ≤ place_of before pair → before.count ≤ 5
      → Naming config pair before (with_change before pair) (2 ^ before.count)

-- what Advance makes of the floor
pub data Floored (a : Asking) (h : Here) : Option Book → Type 0 where
  as_saved : (floor : Option Book) → a.floor ≡ floor → Floored a h floor
  now_set : a.floor ≡ None → allowed a h ≡ true → steady a h ≡ true → Floored a h (Some (decided h))

-- what a step sends that changes no device: nothing, or a copy of its slot's message
pub data Resends (m : Message) : Sending → Type 0 where
  sends_nothing : Resends m no_sending
  sends_again : Resends m (record { message = m; to = only (addressee m) })

-- a step, with the message of the slot that it names, may have this effect where the device stands so
pub data Acts (proper : Bool) (h : Here) : Step → Message → Effect → Type 0 where
  -- by 1 only where the state is none
  refused : (step : Step) (m : Message) (refusal : Refusal) → (proper ≡ true → 2 ≤ number refusal) → Acts proper h step m (refuse refusal h)
  asks : (tablet own : ℕ) (pair : Config) (m : Message) (listed : Listed) (named : ℕ) → tablet ≤ 7 → h.tablet.phase ≡ Idle
      → h.tablet.round ≤ 1022 → Naming h.contents.v.config pair h.listed listed named
      → Acts proper h (Ask tablet own pair) m (begins tablet Done None listed (took_in tablet own named listed h) h)
  hears_request : (slot : ℕ) (l : Letter) → Acts proper h (Deliver slot) (Request l)
      (heard (merged h.listed h.contents l.contents) h.tablet (answer_to l (merged h.listed h.contents l.contents)) h)
  hears_answer : (slot : ℕ) (l : Letter) → Acts proper h (Deliver slot) (Answer l)
      (heard (merged h.listed h.contents l.contents) (marked l h.tablet) no_sending h)
  hears_commit : (slot : ℕ) (n : Notice) → Acts proper h (Deliver slot) (Commit n)
      (heard (merged h.listed h.contents (brought_by n.book)) h.tablet no_sending h)
  goes_on : (tablet : ℕ) (m : Message) (a : Asking) (floor : Option Book) → tablet ≤ 7 → h.tablet.phase ≡ Asks a → h.tablet.round ≤ 1022
      → Floored a h floor → Acts proper h (Advance tablet) m (begins tablet (Round (h.tablet.round + 1)) floor h.listed h.contents h)
  commits : (tablet : ℕ) (m : Message) (a : Asking) → tablet ≤ 7 → h.tablet.phase ≡ Asks a → allowed a h ≡ true → steady a h ≡ true
      → same_candidates a h ≡ true
      → Acts proper h (Advance tablet) m (hands_back (Committed (decided h)) (to_all tablet (decided h)) h)
  adopts : (tablet : ℕ) (m : Message) (a : Asking) (floor : Option Book) → tablet ≤ 7 → h.tablet.phase ≡ Asks a → Floored a h floor
      → floor_inside floor h.contents.v ≡ true
      → Acts proper h (Advance tablet) m (hands_back (Adopted h.contents.v) no_sending h)
  changes_none : (step : Step) (m : Message) (frees stops : Bool) (sending : Sending) → (row step).asks ≡ false
      → (frees ≡ false) ⊎ ((row step).frees ≡ true) → (stops ≡ false) ⊎ ((row step).stops ≡ true) → Resends m sending
      → Acts proper h step m (leaves frees stops sending h)

-- ---- Every step is one of them

-- of a choice holds what holds of both sides
either : {A : Type 0} (P : A → Type 0) (t : Bool) (a b : A) → (t ≡ true → P a) → (t ≡ false → P b) → P (pick t a b)
either P true a b f g = f refl
either P false a b f g = g refl

-- begin a round: 9, 10 or the round
begun-either : (P : Result Effect Refusal → Type 0) (tablet : ℕ) (answer : Accepted) (floor : Option Book) (listed : Listed) (c : Contents) (h : Here)
    → ((refusal : Refusal) → 2 ≤ number refusal → P (Err refusal)) → (h.tablet.round ≤ 1022 → P (Ok (begins tablet answer floor listed c h)))
    → P (begun tablet answer floor listed c h)
unfolding begun
begun-either P tablet answer floor listed c h r f =
    either P (ltb 1022 h.tablet.round) _ _ (λ e. r LastRound (omega arith))
    (λ e. either P (ltb h.free _) _ _ (λ d. r NoRoom (omega arith)) (λ d. f (ltb-false 1022 h.tablet.round e)))

module _ (proper : Bool) (m : Message) (h : Here) where
  ask-acts : (tablet own : ℕ) (pair : Config) → tablet ≤ 7 → Acts proper h (Ask tablet own pair) m (or_refused h (ask tablet own pair h))
  unfolding ask ask_pair ask_with
  ask-acts tablet own pair l =
      either P h.stopped _ _ (λ e. refused _ m Stopped (λ p. omega arith)) (λ e. in-phase h.tablet.phase refl)
    where
      P : Result Effect Refusal → Type 0
      P x = Acts proper h (Ask tablet own pair) m (or_refused h x)

      with-naming : (listed : Listed) (named : ℕ) → h.tablet.phase ≡ Idle → Naming h.contents.v.config pair h.listed listed named
          → P (ask_with tablet own named listed h)
      with-naming listed named i n =
          begun-either P tablet Done None listed (took_in tablet own named listed h) h (λ n l. refused _ m n (λ p. l))
          (λ r. asks tablet own pair m listed named l i r n)

      in-phase : (phase : Phase) → h.tablet.phase ≡ phase → P (ask_in tablet own pair phase h)
      in-phase (Asks a) i = refused _ m Refusal.Asking (λ p. omega arith)
      in-phase Idle i =
          either P (config_inside pair h.contents.v.config) _ _ (λ e. with-naming h.listed 0 i (contained e))
          (λ e. either P (ltb (place_of h.listed pair) h.listed.count) _ _
          (λ d. with-naming h.listed _ i (listed_already (ltb-true _ _ d)))
          (λ d. either P (ltb 5 h.listed.count) _ _ (λ c. refused _ m SeventhChange (λ p. omega arith))
          (λ c. with-naming (with_change h.listed pair) _ i (listed_now (ltb-false _ _ d) (ltb-false _ _ c)))))

  advance-acts : (tablet : ℕ) → tablet ≤ 7 → Acts proper h (Advance tablet) m (or_refused h (advance tablet h))
  unfolding advance advance_from commit adopt_or
  advance-acts tablet l =
      either P h.stopped _ _ (λ e. refused _ m Stopped (λ p. omega arith)) (λ e. in-phase h.tablet.phase refl)
    where
      P : Result Effect Refusal → Type 0
      P x = Acts proper h (Advance tablet) m (or_refused h x)

      adopt-or : (a : Asking) → h.tablet.phase ≡ Asks a → (floor : Option Book) → Floored a h floor → P (adopt_or tablet floor h)
      adopt-or a i floor f =
          either P (floor_inside floor h.contents.v) _ _ (λ e. adopts tablet m a floor l i f e)
          (λ e. begun-either P tablet (Round (h.tablet.round + 1)) floor h.listed h.contents h (λ n l. refused _ m n (λ p. l))
          (λ r. goes_on tablet m a floor l i r f))

      or_set_lem : (a : Asking) → allowed a h ≡ true → steady a h ≡ true → (floor : Option Book) → a.floor ≡ floor → Floored a h (or_set floor (decided h))
      or_set_lem a p q None e = now_set e p q
      or_set_lem a p q (Some b) e = as_saved (Some b) e

      in-phase : (phase : Phase) → h.tablet.phase ≡ phase → P (advance_in tablet phase h)
      in-phase Idle i = refused _ m Refusal.Idle (λ p. omega arith)
      in-phase (Asks a) i =
          either P (allowed a h) _ _
          (λ p. either P (steady a h) _ _
          (λ q. either P (same_candidates a h) _ _
          (λ c. either P (ltb h.free 24) _ _ (λ d. refused _ m NoRoom (λ p. omega arith)) (λ d. commits tablet m a l i p q c))
          (λ c. adopt-or a i _ (or_set_lem a p q a.floor refl)))
          (λ q. adopt-or a i a.floor (as_saved a.floor refl)))
          (λ p. refused _ m NotAllowed (λ p. omega arith))

deliver-acts : (proper : Bool) (slot : ℕ) (m : Message) (h : Here) → Acts proper h (Deliver slot) m (or_refused h (deliver m h))
unfolding deliver
deliver-acts proper slot Empty h = refused _ Empty EmptySlot (λ p. omega arith)
deliver-acts proper slot (Request l) h =
    either (λ x. Acts proper h (Deliver slot) (Request l) (or_refused h x)) h.stopped _ _ (λ e. refused _ (Request l) Stopped (λ p. omega arith)) (λ e. hears_request slot l)
deliver-acts proper slot (Answer l) h =
    either (λ x. Acts proper h (Deliver slot) (Answer l) (or_refused h x)) h.stopped _ _ (λ e. refused _ (Answer l) Stopped (λ p. omega arith)) (λ e. hears_answer slot l)
deliver-acts proper slot (Commit n) h =
    either (λ x. Acts proper h (Deliver slot) (Commit n) (or_refused h x)) h.stopped _ _ (λ e. refused _ (Commit n) Stopped (λ p. omega arith)) (λ e. hears_commit slot n)

ruled-acts : (proper : Bool) (step : Step) (m : Message) (h : Here) → in_range (row step).names ≡ true → Acts proper h step m (or_refused h (ruled step m h))
unfolding ruled lose again stop
ruled-acts proper (Ask tablet own pair) m h e = ask-acts proper m h tablet own pair (leb-true tablet 7 e)
ruled-acts proper (Advance tablet) m h e = advance-acts proper m h tablet (leb-true tablet 7 e)
ruled-acts proper (Deliver slot) m h e = deliver-acts proper slot m h
ruled-acts proper (Lose slot) m h e =
    either (λ x. Acts proper h (Lose slot) m (or_refused h x)) (is_empty m) _ _ (λ d. refused _ m EmptySlot (λ p. omega arith))
    (λ d. changes_none _ m true false no_sending refl (inr refl) (inl refl) sends_nothing)
ruled-acts proper (Repeat slot) m h e =
    either (λ x. Acts proper h (Repeat slot) m (or_refused h x)) (is_empty m) _ _ (λ d. refused _ m EmptySlot (λ p. omega arith))
    (λ d. either (λ x. Acts proper h (Repeat slot) m (or_refused h x)) (ltb h.free 1) _ _ (λ c. refused _ m NoRoom (λ p. omega arith))
    (λ c. changes_none _ m false false _ refl (inl refl) (inl refl) sends_again))
ruled-acts proper (Stop device) m h e =
    either (λ x. Acts proper h (Stop device) m (or_refused h x)) h.stopped _ _ (λ d. refused _ m Stopped (λ p. omega arith))
    (λ d. changes_none _ m false true no_sending refl (inl refl) (inr refl) sends_nothing)

pub acts : (proper : Bool) (step : Step) (m : Message) (h : Here) → Acts proper h step m (effect_of proper step m h)
unfolding effect_of
acts proper step m h =
    either (λ x. Acts proper h step m (or_refused h x)) proper _ _
    (λ e. either (λ x. Acts proper h step m (or_refused h x)) (in_range (row step).names) _ _ (ruled-acts proper step m h) (λ d. refused step m OutOfRange (λ p. omega arith)))
    (λ e. refused step m NoState (λ p. absurd (true≢false (sym p ∙ e))))

-- ---- A step of a run

module _ (step : Step) (r : Run) where
  -- the message of the slot that the step names, the device that it is about, what the rules see there, and what they do
  abbrev pub message_for : Message
  message_for = message_at (slot_of step) r

  abbrev pub device_for : ℕ
  device_for = device_of step message_for

  abbrev pub here_for : Here
  here_for = here_at device_for r

  abbrev pub effect_for : Effect
  effect_for = effect_of (proper r) step message_for here_for

  pub acts-for : Acts (proper r) here_for step message_for effect_for
  acts-for = acts (proper r) step message_for here_for
