-- What an effect must give so that a run stays proper (`ProperEffect`, `proper-applied`), and that the parts from which the rules make effects
-- give it: merges, marks, and the messages that are sent.
use Prim.Native.Nat.{ℕ, ◌+◌, ◌*◌, ◌^◌, ◌<◌, ◌≤◌}
use mathlib.Core.Bool.{Bool, true, false}
use mathlib.Core.Path.{◌≡◌, refl, sym, ap, ◌∙◌}
use native.Mathlib.Nat.{lt_of_le_of_lt}
use native.Mathlib.Omega.{arith}
use lib.Dec.{ltb, leb}
use borrow.Author.Tests.{lt-ltb, le-leb}
use Rattle.std.specs.Prelude.{Option}
use Rattle.sets.specs.Choice.{pick, both}
use Rattle.sets.specs.Sets.{has, union}
use Rattle.sets.proofs.SetLaws.{has-digit, union-lt, inside-le}
use Rattle.sets.proofs.BoundedLaws.{both_left, both_right, both-on}
use Rattle.books.specs.declared.Book.{Book}
use Rattle.books.specs.declared.Listed.{Listed}
use Rattle.books.specs.Books.{join_configs}
use Rattle.books.specs.Queried.{asked_boxes}
use Rattle.books.proofs.QueriedLaws.{outside-inside}
use Rattle.devices.specs.declared.Contents.{Contents}
use Rattle.devices.specs.declared.Tablet.{Tablet}
use Rattle.devices.specs.declared.Phase.{Phase}
use Rattle.devices.specs.declared.Phase.TheVariants.{Idle, Asks}
use Rattle.devices.specs.declared.Letter.{Letter}
use Rattle.devices.specs.declared.Message.{Message}
use Rattle.devices.specs.declared.Message.TheVariants.{Empty, Request, Answer, Commit}
use Rattle.devices.specs.declared.Accepted.{Accepted}
use Rattle.devices.specs.declared.Sending.{Sending}
use Rattle.devices.specs.declared.Here.{Here}
use Rattle.devices.specs.declared.Effect.{Effect}
use Rattle.devices.specs.Contents.{fresh_contents, fresh_tablet, merged}
use Rattle.devices.specs.Effects.{addressed, addressee, only, box_of}
use Rattle.rules.specs.Rules.{of_its_round, marked, marked_in}
use Rattle.state.specs.declared.Run.{Run}
use Rattle.state.specs.State.{names_listed, all_different, proper_phase, proper_tablet, is_tablet, is_box, proper_letter, proper_message}
use Rattle.state.proofs.SlotLaws.{replaced-at}
use Rattle.state.proofs.StateLaws.{lt-names, Proper}
use Rattle.state.proofs.ListingLaws.{fits_more, tablet-more, message-more}
use Rattle.parlour.specs.Steps.{within, message_at, applied}
use Rattle.sets.proofs.Single.{none_in_empty, above-move, in-single}
use Rattle.parlour.proofs.Acts.{begins, Resends, sends_nothing, sends_again}
use Rattle.parlour.proofs.Frame.{Source, none, stayed, sent, message-from}

-- ---- An effect on a run

-- what an effect must give for the run to stay proper, where n changes were listed
pub record ProperEffect (n : ℕ) (e : Effect) : Type 0 where
  pub more : n ≤ e.listed.count
  pub few : e.listed.count ≤ 6
  pub different : all_different e.listed ≡ true
  pub contents : e.contents.t < 2 ^ e.listed.count
  pub tablet : proper_tablet e.listed.count e.tablet ≡ true
  pub messages : (d : ℕ) → d < 24 → has d e.sending.to ≡ true
      → proper_message e.listed.count (addressed e.sending.message d) ≡ true

pub proper-applied : (slot d : ℕ) (e : Effect) (r : Run) → Proper r → ProperEffect r.listed.count e → Proper (applied slot d e r).run
unfolding applied
proper-applied slot d e r h p =
    record {
      few = p.few;
      different = p.different;
      devices =
          λ q.
          replaced-at (λ (a b : Contents). a.t < 2 ^ r.listed.count → b.t < 2 ^ e.listed.count) (λ c. fits_more p.more) (fresh_contents 0) r.devices d
          e.contents (λ i. p.contents) q (h.devices q);
      tablets =
          λ t.
          replaced-at (λ (a b : Tablet). proper_tablet r.listed.count a ≡ true → proper_tablet e.listed.count b ≡ true) (tablet-more p.more) fresh_tablet
          r.tablets (within 8 d) e.tablet (λ i. p.tablet) t (h.tablets t);
      messages = λ k. message (message-from slot d e r k);
    }
  where
    message : {m : Message} → Source r e.sending m → proper_message e.listed.count m ≡ true
    message none = refl
    message (stayed k) = message-more p.more (message_at k r) (h.messages k)
    message (sent q u i) = p.messages q u i

-- ---- What a device keeps

-- a merge names no further change
pub merged-fits : (n : ℕ) (listed : Listed) (mine theirs : Contents) → mine.t < 2 ^ n → theirs.t < 2 ^ n
    → (merged listed mine theirs).t < 2 ^ n
unfolding merged
merged-fits n listed mine theirs p q =
    let config = join_configs mine.v.config theirs.v.config in
    lt_of_le_of_lt (inside-le _ _ (outside-inside listed config (union mine.t theirs.t))) (union-lt n mine.t theirs.t p q)

-- marking a box changes neither the round nor what was saved
pub marked-proper : (n : ℕ) (l : Letter) (x : Tablet) → proper_tablet n x ≡ true → proper_tablet n (marked l x) ≡ true
unfolding marked
marked-proper n l x h = go (of_its_round l x)
  where
    same : (box : ℕ) (phase : Phase) → proper_phase n phase ≡ proper_phase n (marked_in box phase)
    same box Idle = refl
    same box (Asks a) = refl

    go : (b : Bool) → proper_tablet n (pick b (record { round = x.round; phase = marked_in (box_of l.from) x.phase }) x) ≡ true
    go true = ap (both (leb x.round 1023)) (sym (same (box_of l.from) x.phase)) ∙ h
    go false = h

-- a tablet that hands back a book becomes idle in its round
pub idle-proper : (n : ℕ) (x : Tablet) → proper_tablet n x ≡ true → proper_tablet n (record { round = x.round; phase = Idle }) ≡ true
idle-proper n x h = both-on (leb x.round 1023) true (both_left (leb x.round 1023) (proper_phase n x.phase) h) refl

-- ---- What is sent

-- a message to one device goes to it and to no other
pub to-only : (device d : ℕ) → has d (only device) ≡ true → d ≡ device
to-only device d h = go (ltb device 24) h
  where
    go : (b : Bool) → has d (pick b (2 ^ device) 0) ≡ true → d ≡ device
    go true i = in-single device d (has-digit d (2 ^ device) i)
    go false i = absurd (none_in_empty d (has-digit d 0 i))

pub addressed-same : (m : Message) → addressed m (addressee m) ≡ m
addressed-same Empty = refl
addressed-same (Request l) = refl
addressed-same (Answer l) = refl
addressed-same (Commit n) = refl

repeated-proper : (n : ℕ) (m : Message) → proper_message n m ≡ true → (d : ℕ) → has d (only (addressee m)) ≡ true
    → proper_message n (addressed m d) ≡ true
repeated-proper n m h d i = ap (λ (x : ℕ). proper_message n (addressed m x)) (to-only (addressee m) d i) ∙ ap (proper_message n) (addressed-same m) ∙ h

pub resends-proper : (n : ℕ) {m : Message} {sending : Sending} → proper_message n m ≡ true → Resends m sending → (d : ℕ) → d < 24
    → has d sending.to ≡ true → proper_message n (addressed sending.message d) ≡ true
resends-proper n h sends_nothing d u i = refl
resends-proper n {m} h sends_again d u i = repeated-proper n m h d i

-- a round that begins sends requests from a tablet to boxes
pub begins-proper : (tablet : ℕ) (answer : Accepted) (floor : Option Book) (listed : Listed) (c : Contents) (h : Here) → tablet ≤ 7
    → h.tablet.round ≤ 1022 → h.listed.count ≤ listed.count → listed.count ≤ 6 → all_different listed ≡ true
    → c.t < 2 ^ listed.count → ProperEffect h.listed.count (begins tablet answer floor listed c h)
begins-proper tablet answer floor listed c h l r more few different fits =
    record {
      more = more;
      few = few;
      different = different;
      contents = fits;
      tablet = both-on (leb (h.tablet.round + 1) 1023) (names_listed listed.count c.t) round-le names;
      messages =
          λ d u i.
          both-on (both (is_tablet tablet) (is_box d)) _
          (both-on (is_tablet tablet) (is_box d) (lt-ltb tablet 8 (omega arith))
          (both-on (leb 8 d) (ltb d 24) (le-leb 8 d (above-move 8 boxes d (has-digit d (boxes * 2 ^ 8) i))) (lt-ltb d 24 u)))
          (both-on (leb (h.tablet.round + 1) 1023) (names_listed listed.count c.t) round-le names);
    }
  where
    boxes : ℕ
    boxes = asked_boxes listed c.v.config c.t

    round-le : leb (h.tablet.round + 1) 1023 ≡ true
    round-le = le-leb (h.tablet.round + 1) 1023 (omega arith)

    names : names_listed listed.count c.t ≡ true
    names = lt-names listed.count c.t fits

-- a box answers the tablet that asked it
pub answer-proper : (n : ℕ) (l : Letter) (c : Contents) → proper_message n (Request l) ≡ true → c.t < 2 ^ n → (d : ℕ)
    → has d (only l.from) ≡ true → proper_message n (Answer (record { from = l.to; to = d; round = l.round; contents = c })) ≡ true
answer-proper n l c h fits d i =
    both-on (both (is_box l.to) (is_tablet d)) _
    (both-on (is_box l.to) (is_tablet d) (both_right (is_tablet l.from) (is_box l.to) kinds)
    (ap is_tablet (to-only l.from d i) ∙ both_left (is_tablet l.from) (is_box l.to) kinds))
    (both-on (leb l.round 1023) (names_listed n c.t) (both_left (leb l.round 1023) (names_listed n l.contents.t) letter)
    (lt-names n c.t fits))
  where
    kinds : both (is_tablet l.from) (is_box l.to) ≡ true
    kinds = both_left (both (is_tablet l.from) (is_box l.to)) (proper_letter n l) h

    letter : proper_letter n l ≡ true
    letter = both_right (both (is_tablet l.from) (is_box l.to)) (proper_letter n l) h
