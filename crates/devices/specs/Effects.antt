-- What a step does: to the acting device's parts, to the list of changes, and which messages go out.
use Rattle.std.specs.Prelude.{ℕ, zero, suc, ◌-◌, ◌^◌, Bool, true, false, List, [], ◌∷◌, ltb, leb, Result, Ok, Err, Option, Some, None}
use Rattle.sets.specs.Choice.{pick, both}
use Rattle.sets.specs.Sets.{has}
use Rattle.refusals.specs.declared.Refusal.{Refusal}
use Rattle.refusals.specs.Refusals.{number}
use Rattle.books.specs.declared.Book.{Book}
use Rattle.books.specs.Books.{join_books}
use Rattle.devices.specs.declared.Accepted.{Accepted}
use Rattle.devices.specs.declared.Accepted.TheVariants.{Done, Round, Committed, Adopted}
use Rattle.devices.specs.declared.Letter.{Letter}
use Rattle.devices.specs.declared.Message.{Message}
use Rattle.devices.specs.declared.Message.TheVariants.{Empty, Request, Answer, Commit}
use Rattle.devices.specs.declared.Sending.{Sending}
use Rattle.devices.specs.declared.Here.{Here}
use Rattle.devices.specs.declared.Effect.{Effect}

-- what a step answers: accepted or refused
abbrev pub Outcome : Type 0
Outcome = Result Accepted Refusal

-- what a caller is told ("Numbers a caller gets back"): the number, and the values that come with it, a new round or a book handed back
pub record Told : Type 0 where
  pub number : ℕ
  pub round : Option ℕ
  pub committed : Option Book
  pub adopted : Option Book

-- the answer that each case of an outcome is; "A refusal carries no book"
abbrev pub answer_of : Outcome → Told
answer_of (Ok Done) = record { number = 0; round = None; committed = None; adopted = None }
answer_of (Ok (Round n)) = record { number = 0; round = Some n; committed = None; adopted = None }
answer_of (Ok (Committed b)) = record { number = 0; round = None; committed = Some b; adopted = None }
answer_of (Ok (Adopted b)) = record { number = 0; round = None; committed = None; adopted = Some b }
answer_of (Err refusal) = record { number = number refusal; round = None; committed = None; adopted = None }

-- its number
abbrev pub number_of : Outcome → ℕ
number_of o = (answer_of o).number

-- "the join of all books handed back": what it becomes by an outcome
abbrev pub kept_after : Outcome → Book → Book
kept_after (Ok Done) kept = kept
kept_after (Ok (Round n)) kept = kept
kept_after (Ok (Committed b)) kept = join_books kept b
kept_after (Ok (Adopted b)) kept = join_books kept b
kept_after (Err refusal) kept = kept

-- the set of one device; of none where there is no such device
abbrev pub only : ℕ → ℕ
only device = pick (ltb device 24) (2 ^ device) 0

-- the set of the one box that a device is; of none where it is no box ("16 boxes (0 to 15, devices 8 to 23)")
abbrev pub box_of : ℕ → ℕ
box_of device = pick (both (leb 8 device) (ltb device 24)) (2 ^ (device - 8)) 0

-- whom a message goes to
abbrev pub addressee : Message → ℕ
addressee Empty = 0
addressee (Request l) = l.to
addressee (Answer l) = l.to
addressee (Commit n) = n.to

-- the same letter, and the same message, to a device
abbrev pub letter_to : Letter → ℕ → Letter
letter_to l d = record { from = l.from; to = d; round = l.round; contents = l.contents }

abbrev pub addressed : Message → ℕ → Message
addressed Empty d = Empty
addressed (Request l) d = Request (letter_to l d)
addressed (Answer l) d = Answer (letter_to l d)
addressed (Commit n) d = Commit (record { from = n.from; to = d; book = n.book })

-- no message is in a slot
abbrev pub is_empty : Message → Bool
is_empty Empty = true
is_empty (Request l) = false
is_empty (Answer l) = false
is_empty (Commit n) = false

-- the message to each device of a set, from device d on, k devices in order
unfoldable pub copies : Message → ℕ → ℕ → ℕ → List Message
copies m set d zero = []
copies m set d (suc k) = pick (has d set) (addressed m d ∷ copies m set (suc d) k) (copies m set (suc d) k)

-- the messages of a sending, "in order"
abbrev pub messages_of : Sending → List Message
messages_of s = copies s.message s.to 0 24

-- nothing is sent
abbrev pub no_sending : Sending
no_sending = record { message = Empty; to = 0 }

-- the parts as they came, with an outcome: nothing is freed, stopped or sent
abbrev pub unchanged : Outcome → Here → Effect
unchanged outcome h =
    record {
      outcome = outcome;
      contents = h.contents;
      tablet = h.tablet;
      listed = h.listed;
      frees = false;
      stops = false;
      sending = no_sending;
    }

-- "state .. stay as given": a refusal
unfoldable pub refuse : Refusal → Here → Effect
refuse refusal h = unchanged (Err refusal) h
