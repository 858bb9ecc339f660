-- The useless versions that 01 names ("How far a contract must reach"): what meets the contract of a step is none of them.
-- A version is what it makes of a step and a state. Four are met on the tape that 01 prints: first boxes 0, 1, 2; tablet 0 asks note 0. The last
-- is shut out by what holds of every step.
use Rattle.std.specs.Prelude.{ℕ, Bool, true, false, List, [], ◌∷◌, ◌≡◌, refl, get_or, Ok}
use Rattle.std.proofs.Common.{true≢false, inl, sym, ap, subst, ◌∙◌, lt_irrefl, arith}
use Rattle.sets.specs.Bounded.{times, each, unions, how_many, those}
use Rattle.sets.specs.Majority.{weigh, one, majority, majority_of}
use Rattle.books.specs.declared.Book.{Book}
use Rattle.books.specs.Books.{has_note, notes_of, own_notes, no_config}
use Rattle.books.specs.Queried.{first_place, place_of, with_change, outside, joined_with, every_majority, asked_boxes}
use Rattle.devices.specs.declared.Step.{Step}
use Rattle.devices.specs.declared.Step.TheVariants.{Ask, Advance, Deliver}
use Rattle.devices.specs.declared.Contents.{Contents}
use Rattle.devices.specs.declared.Accepted.TheVariants.{Committed}
use Rattle.devices.specs.Contents.{fresh_contents, merged}
use Rattle.devices.specs.Effects.{Outcome, answer_of, copies, refuse}
use Rattle.rules.specs.Rules.{begun, ask_with, ask_pair, ask, marked, deliver, decided, allowed, steady, commit, adopt_or, advance_from, advance, ruled, effect_of}
use Rattle.state.specs.declared.Run.{Run}
use Rattle.state.specs.declared.Stepped.{Stepped}
use Rattle.state.specs.Slots.{all, many, laid}
use Rattle.state.specs.State.{fresh, all_different, proper_desk, proper}
use Rattle.parlour.specs.Steps.{here_at, applied, taken_if, taken, StepPromise}
use Rattle.parlour.specs.Statements.{tablet_at, RoundMoves}
use Rattle.parlour.proofs.Statements.{statements}
use Rattle.promise.specs.Promise.{after, HandsBack, accepted}

-- what a version makes of a step and a state; it meets the contract where each result does
abbrev pub Version : Type 0
Version = Step → Run → Stepped

abbrev pub Meets : Version → Type 0
Meets version = (step : Step) (r : Run) → StepPromise step r (version step r)

-- ---- The states of that tape

abbrev pub asks : Step
asks = Ask 0 1 no_config

abbrev pub fresh7 : Run
fresh7 = fresh 0x0007

-- the ask is accepted, box 0 heard it; and then box 1 too, and tablet 0 heard both answers
abbrev pub one_heard : Run
one_heard = after 0x0007 (Deliver 0 ∷ asks ∷ [])

abbrev pub answered : Run
answered = after 0x0007 (Deliver 1 ∷ Deliver 0 ∷ Deliver 1 ∷ Deliver 0 ∷ asks ∷ [])

-- the book that its Advance hands back: note 0, which tablet 0 asked, and the first boxes
abbrev pub its_book : Book
its_book = record { notes = notes_of 0x1; config = record { added = 0x0007; removed = 0x0000 } }

-- box 1, device 9, has note 0 among its candidates
abbrev pub box_one_has_it : List Contents → Bool
box_one_has_it devices = has_note 0 (get_or devices 9 (fresh_contents 0)).candidates

-- ---- The useless versions, as what is said of one

-- refuses all
abbrev pub RefusesAll : Version → Type 0
RefusesAll version = (step : Step) (r : Run) → accepted (version step r).outcome ≡ false

-- always hands back the first book: whatever book an answer hands back, committed or adopted, is the first
abbrev pub HandsBackTheFirst : Version → Type 0
HandsBackTheFirst version =
    (step : Step) (r : Run) (book : Book) → HandsBack (version step r).outcome book → book ≡ (fresh_contents r.first).v

-- does nothing
abbrev pub DoesNothing : Version → Type 0
DoesNothing version = (step : Step) (r : Run) → (version step r).run ≡ r

-- merges on the first delivery and then only frees slots: after a delivery, the next leaves every device as it is
abbrev pub OnlyFrees : Version → Type 0
OnlyFrees version = (slot : ℕ) → (version (Deliver slot) one_heard).run.devices ≡ one_heard.devices

-- invents round numbers: after some step a tablet's round is neither the old one nor the old one plus 1, begun by that step
abbrev pub InventsRounds : Version → Type 0
InventsRounds version =
    ((step : Step) (r : Run) (q : ℕ)
    → RoundMoves step (version step r).outcome q (tablet_at q r).round (tablet_at q (version step r).run).round) → ⊥

-- ---- What the rules do there

record Facts : Type 0 where
  accepts : accepted (taken asks fresh7).outcome ≡ true
  commits : (taken (Advance 0) answered).outcome ≡ Ok (Committed its_book)
  has_its_note : has_note 0 its_book.notes ≡ true
  first_has_not : has_note 0 (fresh_contents answered.first).v.notes ≡ false
  begun_at_one : (tablet_at 0 (taken asks fresh7).run).round ≡ 1
  fresh_at_none : (tablet_at 0 fresh7).round ≡ 0
  heard_by_box_one : box_one_has_it (taken (Deliver 1) one_heard).run.devices ≡ true
  not_before : box_one_has_it one_heard.devices ≡ false

facts : Facts
unfolding after taken taken_if applied here_at effect_of ruled ask ask_pair ask_with begun marked deliver decided allowed steady commit adopt_or
    advance_from advance refuse copies merged first_place place_of with_change outside joined_with every_majority asked_boxes times each unions how_many those weigh one majority
    majority_of own_notes fresh all_different proper_desk proper all many laid
facts =
    record {
      accepts = refl;
      commits = refl;
      has_its_note = refl;
      first_has_not = refl;
      begun_at_one = refl;
      fresh_at_none = refl;
      heard_by_box_one = refl;
      not_before = refl;
    }

-- ---- Demand 2 shuts out each: no version that meets the contract is one of them

pub record ShutOut (version : Version) : Type 0 where
  pub refuses_all : RefusesAll version → ⊥
  pub hands_back_the_first : HandsBackTheFirst version → ⊥
  pub does_nothing : DoesNothing version → ⊥
  pub only_frees : OnlyFrees version → ⊥
  pub invents_rounds : InventsRounds version → ⊥

pub shut_out : (version : Version) → Meets version → ShutOut version
shut_out version meets =
    record {
      refuses_all = λ h. true≢false (sym facts.accepts ∙ sym (ap (λ (s : Stepped). accepted s.outcome) (meets asks fresh7).settled) ∙ h asks fresh7);
      hands_back_the_first = λ h. not-the-first (h (Advance 0) answered its_book commits);
      does_nothing =
          λ h.
          lt_irrefl 0 (omega (
            arith,
            facts.fresh_at_none,
            facts.begun_at_one,
            sym (ap (λ (r : Run). (tablet_at 0 r).round) (h asks fresh7)) ∙ ap (λ (s : Stepped). (tablet_at 0 s.run).round) (meets asks fresh7).settled,
          ));
      only_frees =
          λ h.
          true≢false (sym facts.heard_by_box_one ∙ ap (λ (s : Stepped). box_one_has_it s.run.devices) (sym (meets (Deliver 1) one_heard).settled)
          ∙ ap box_one_has_it (h 1) ∙ facts.not_before);
      invents_rounds = λ h. h rounds;
    }
  where
    commits : HandsBack (version (Advance 0) answered).outcome its_book
    commits =
        inl (ap (λ (s : Stepped). (answer_of s.outcome).committed) (meets (Advance 0) answered).settled
        ∙ ap (λ (o : Outcome). (answer_of o).committed) facts.commits)

    -- the first book has not the note
    not-the-first : its_book ≡ (fresh_contents answered.first).v → ⊥
    not-the-first e = true≢false (sym facts.has_its_note ∙ ap (λ (b : Book). has_note 0 b.notes) e ∙ facts.first_has_not)

    rounds : (step : Step) (r : Run) (q : ℕ)
        → RoundMoves step (version step r).outcome q (tablet_at q r).round (tablet_at q (version step r).run).round
    rounds step r q =
        subst (λ (s : Stepped). RoundMoves step s.outcome q (tablet_at q r).round (tablet_at q s.run).round) (sym (meets step r).settled)
        (statements.rounds_move step r q)
