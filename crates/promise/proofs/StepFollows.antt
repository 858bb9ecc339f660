-- Every step of the rules is a step of the agreement argument, or none: refused, lost, repeated and stopped leave the argument where it is.
-- So every run from a fresh start follows the argument (`run-stands`).
use Rattle.std.specs.Prelude.{Ok, Err}
use Prim.Native.Nat.{ℕ, zero, suc, ◌+◌, ◌<◌, ◌≤◌}
use mathlib.Core.Bool.{Bool, true, false}
use mathlib.Core.Path.{◌≡◌, refl, sym, ap, subst, ◌∙◌}
use mathlib.Core.List.{List, [], ◌∷◌}
use native.Mathlib.Nat.{lt_irrefl}
use native.Mathlib.Omega.{arith}
use lib.Dec.{ltb}
use lib.ListN.{get_or, replicate, get_or-replicate}
use borrow.Author.Tests.{ltb-true, ltb-false, ne_eqb}
use Rattle.sets.specs.Choice.{both}
use Rattle.sets.specs.Sets.{has}
use Rattle.devices.specs.declared.Notice.{Notice}
use Rattle.devices.specs.declared.Message.{Message}
use Rattle.devices.specs.declared.Message.TheVariants.{Commit}
use Rattle.devices.specs.declared.Accepted.TheVariants.{Done}
use Rattle.devices.specs.declared.Sending.{Sending}
use Rattle.devices.specs.declared.Effect.{Effect}
use Rattle.devices.specs.declared.Step.{Step}
use Rattle.devices.specs.declared.Step.TheVariants.{Deliver}
use Rattle.devices.specs.Contents.{fresh_contents, fresh_tablet, brought_by, merged}
use Rattle.refusals.specs.declared.Refusal.{Refusal}
use Rattle.refusals.specs.Refusals.{number}
use Rattle.devices.specs.Effects.{Outcome, addressed, addressee, only, no_sending, refuse}
use Rattle.rules.specs.Table.{row, device_named, names_tablet, is_ask_of}
use Rattle.rules.specs.Rules.{heard}
use Rattle.state.specs.declared.Run.{Run}
use Rattle.state.specs.Slots.{empty_slot}
use Rattle.state.specs.State.{fresh, proper_message, proper}
use Rattle.parlour.specs.Steps.{within, slot_of, device_of, message_at, here_at, applied, taken_if, taken}
use Rattle.agreement.specs.Setting.{Book as AbstractBook}
use Rattle.agreement.specs.State.{idle, State, told}
use Rattle.agreement.specs.Steps.{start}
use Rattle.promise.specs.Promise.{Event, asked_by, after, history}
use Rattle.promise.proofs.Reading.{parlour, as_book, changes_below}
use Rattle.parlour.proofs.Acts.{Acts, refused, asks, hears_request, hears_answer, hears_commit, goes_on, commits, adopts, changes_none, Resends, sends_nothing, sends_again, acts}
use Rattle.state.proofs.StateLaws.{sized_fresh, proper-parts, parts-proper, fresh-proper, request-to, answer-to}
use Rattle.parlour.specs.Statements.{device_at}
use Rattle.parlour.proofs.Places.{within_in, within-lt}
use Rattle.parlour.proofs.ProperEffect.{to-only, addressed-same}
use Rattle.parlour.proofs.ProperStays.{proper_stays, sized-stays}
use Rattle.promise.proofs.History.{Silent, silent-done, silent-refused}
use Rattle.promise.proofs.Likeness.{Sent, same-list}
use Rattle.promise.proofs.Following.{Follows, Standing, after-quiet}
use Rattle.promise.proofs.AskFollows.{ask-follows}
use Rattle.promise.proofs.BoxFollows.{request-follows, box-commit-follows}
use Rattle.promise.proofs.TabletFollows.{tablet-commit-follows, answer-follows}
use Rattle.promise.proofs.AdvanceFollows.{round-follows, commit-follows, adopt-follows}

module _ {first : AbstractBook parlour} {r : Run} {h : List Event} (now : Standing first r h) (slot d : ℕ) (low : d < 24) where
  abbrev s : State parlour
  s = now.follows.state

  -- ---- Steps that touch no device

  -- the effect gives the device's parts back
  abbrev untouched : Outcome → Bool → Bool → Sending → Effect
  untouched outcome frees halts sending =
      record {
        outcome = outcome;
        contents = (here_at d r).contents;
        tablet = (here_at d r).tablet;
        listed = r.listed;
        frees = frees;
        stops = halts;
        sending = sending;
      }

  quiet-follows : (step : Step) (outcome : Outcome) (frees halts : Bool) (sending : Sending)
      → ((q : ℕ) → asked_by q (record { step = step; answer = outcome }) ≡ false) → Silent outcome
      → ((j : ℕ) → j < 24 → has j sending.to ≡ true → Sent r.listed s.network (addressed sending.message j))
      → Follows first (applied slot d (untouched outcome frees halts sending) r).run (record { step = step; answer = outcome } ∷ h)
  unfolding here_at
  quiet-follows step outcome frees halts sending quiet silent f =
      record {
        state = s;
        run = now.follows.run;
        like = after-quiet now step slot d (untouched outcome frees halts sending) same-list low quiet silent refl refl f;
      }

  -- a repeated message was sent before
  repeated : (m : Message) → Sent r.listed s.network m → (j : ℕ) → has j (only (addressee m)) ≡ true
      → Sent r.listed s.network (addressed m j)
  repeated m was j i =
      subst (λ (x : Message). Sent r.listed s.network x) (sym (ap (addressed m) (to-only (addressee m) j i) ∙ addressed-same m)) was

  resent-follows : {m : Message} {sending : Sending} → Resends m sending → Sent r.listed s.network m → (j : ℕ) → j < 24
      → has j sending.to ≡ true → Sent r.listed s.network (addressed sending.message j)
  resent-follows sends_nothing was j u i = tt
  resent-follows {m} sends_again was j u i = repeated m was j i

  -- ---- Every case

  commit-heard : (k : ℕ) (c : Notice) → Sent r.listed s.network (Commit c)
      → Follows first (applied slot d (heard (merged r.listed (device_at d r) (brought_by c.book)) (here_at d r).tablet no_sending (here_at d r)) r).run
      (record { step = Deliver k; answer = Ok Done } ∷ h)
  commit-heard k c was = go (ltb d 8) refl
    where
      go : (b : Bool) → ltb d 8 ≡ b
          → Follows first (applied slot d (heard (merged r.listed (device_at d r) (brought_by c.book)) (here_at d r).tablet no_sending (here_at d r)) r).run
          (record { step = Deliver k; answer = Ok Done } ∷ h)
      go true e = tablet-commit-follows now slot d k (ltb-true d 8 e) c was
      go false e = box-commit-follows now slot d k (ltb-false d 8 e) low c was

  -- the device that a step names is the acting one, where there is such a device
  named_here : {n : ℕ} → d ≡ within 24 n → n < 24 → n ≡ d
  named_here {n} e l = within_in 24 n l ∙ sym e

  -- what is refused by a number from 2 on is no accepted ask
  refused-quiet : (step : Step) (refusal : Refusal) → 2 ≤ number refusal → (q : ℕ) → asked_by q (record { step = step; answer = Err refusal }) ≡ false
  refused-quiet step refusal l q = ap (λ (b : Bool). both b (is_ask_of q step)) (ne_eqb (number refusal) 0 (λ e. lt_irrefl 0 (omega arith)))

  acts-follow : {known : Bool} {step : Step} {m : Message} {e : Effect} → Acts known (here_at d r) step m e → known ≡ true → d ≡ device_of step m
      → proper_message r.listed.count m ≡ true → Sent r.listed s.network m
      → Follows first (applied slot d e r).run (record { step = step; answer = e.outcome } ∷ h)
  unfolding here_at refuse
  acts-follow (refused step m n b) is at q was = quiet-follows step (Err n) false false no_sending (refused-quiet step n (b is)) (silent-refused n) (λ j u i. tt)
  acts-follow (asks tablet own pair m listed named l i x naming) is at q was =
      ask-follows now slot d tablet own pair listed named (named_here at (omega arith)) l i naming
  acts-follow (hears_request k l) is at q was =
      let to = request-to r.listed.count l q in
      let e : l.to ≡ d = named_here at to.1 in
      request-follows now slot d k (omega arith) low l (sym e) was
  acts-follow (hears_answer k l) is at q was =
      let to = answer-to r.listed.count l q in
      let e : l.to ≡ d = named_here at (omega arith) in
      answer-follows now slot d k (omega arith) l (sym e) was
  acts-follow (hears_commit k c) is at q was = commit-heard k c was
  acts-follow (goes_on tablet m a floor l i x f) is at q was = round-follows now slot d tablet a (named_here at (omega arith)) l i floor f
  acts-follow (commits tablet m a l i enough same candidates) is at q was =
      commit-follows now slot d tablet a (named_here at (omega arith)) l i enough same candidates
  acts-follow (adopts tablet m a floor l i f e) is at q was = adopt-follows now slot d tablet a (named_here at (omega arith)) l i floor f e
  acts-follow (changes_none step m frees halts sending none f g resent) is at q was =
      quiet-follows step (Ok Done) frees halts sending (λ j. ap (λ (b : Bool). both b (names_tablet j (row step).names)) none) silent-done (resent-follows resent was)

-- ---- The step

step_follows : {first : AbstractBook parlour} {r : Run} {h : List Event} (step : Step) → Standing first r h
    → Follows first (taken step r).run (record { step = step; answer = (taken step r).outcome } ∷ h)
unfolding taken taken_if applied
step_follows {r = r} step now =
    let m = message_at (slot_of step) r in
    let d = device_of step m in
    acts-follow now (slot_of step) d (within-lt 24 (device_named (row step).names m) (omega arith)) (acts (proper r) step m (here_at d r))
    (parts-proper r now.parts) refl (now.parts.messages (slot_of step)) (now.follows.like.slots (slot_of step))

-- ---- The run

-- at each place of a list of the same is the same
same-everywhere : {A : Type 0} (a : A) (n k : ℕ) → get_or (replicate n a) k a ≡ a
same-everywhere a zero k = refl
same-everywhere a (suc n) zero = refl
same-everywhere a (suc n) (suc k) = same-everywhere a n k

-- the book that every device starts with
abbrev pub first_book : ℕ → AbstractBook parlour
first_book first = as_book (fresh_contents first).v

fresh-follows : (first : ℕ) → Follows (first_book first) (fresh first) []
unfolding fresh changes_below
fresh-follows first =
    record {
      state =
          record {
            tablets = λ t. record { contents = told (first_book first); round = 0; phase = idle };
            network = record { boxes = λ b. told (first_book first); requests = []; answers = []; commits = [] };
            handed = [];
            asks = [];
          };
      run =
          start (record {
            tablets = λ t. refl;
            boxes = λ b. refl;
            no_requests = refl;
            no_answers = refl;
            no_commits = refl;
            no_handed = refl;
            no_asks = refl;
          });
      like =
          record {
            tablets =
                λ t l.
                rw (get_or-replicate 24 t (fresh_contents first) (fresh_contents 0) (omega arith), same-everywhere fresh_tablet 8 t)
                (record { contents = refl; round = refl; phase = tt });
            boxes = λ b l. rw (get_or-replicate 24 (8 + b) (fresh_contents first) (fresh_contents 0) (omega arith));
            slots = λ k. rw (same-everywhere empty_slot 128 k) tt;
            handed = λ b. absurd b.happened;
            asks = λ b i. absurd i;
          };
    }

pub run-stands : (first : ℕ) (steps : List Step) → Standing (first_book first) (after first steps) (history first steps)
unfolding after history
run-stands first [] = record { sized = sized_fresh first; parts = proper-parts (fresh first) (fresh-proper first); follows = fresh-follows first }
run-stands first (step ∷ earlier) =
    let now = run-stands first earlier in
    record {
      sized = sized-stays step (after first earlier) now.sized;
      parts = proper-parts _ (proper_stays step (after first earlier) now.sized.changes (parts-proper (after first earlier) now.parts));
      follows = step_follows step now;
    }
