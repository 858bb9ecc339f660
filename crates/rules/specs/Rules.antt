-- The rules of the steps on the parts of the acting device, in the order of 01, "The steps", with the lines of Figure 2.
-- A rule gives an effect or a refusal. Refusals stand in the order of 01, "Order for steps": what is tested first is refused first.
use Rattle.std.specs.Prelude.{ℕ, ◌+◌, ◌-◌, ◌*◌, ◌^◌, Bool, true, false, ltb, eqb, Option, Some, None, Result, Ok, Err}
use Rattle.sets.specs.Choice.{pick, both}
use Rattle.sets.specs.Sets.{union}
use Rattle.sets.specs.Bounded.{how_many}
use Rattle.refusals.specs.declared.Refusal.{Refusal}
use Rattle.refusals.specs.declared.Refusal.TheVariants.{NoState, OutOfRange, Stopped, NotAllowed, EmptySlot, SeventhChange, LastRound, NoRoom}
use Rattle.books.specs.declared.Config.{Config}
use Rattle.books.specs.declared.Book.{Book}
use Rattle.books.specs.declared.Listed.{Listed}
use Rattle.books.specs.Books.{own_notes, config_inside, book_inside, same_notes, same_config}
use Rattle.books.specs.Queried.{place_of, with_change, joined_with, every_majority, asked_boxes}
use Rattle.devices.specs.declared.Contents.{Contents}
use Rattle.devices.specs.declared.Tablet.{Tablet}
use Rattle.devices.specs.declared.Asking.{Asking}
use Rattle.devices.specs.declared.Phase.{Phase}
use Rattle.devices.specs.declared.Phase.TheVariants.{Idle, Asks}
use Rattle.devices.specs.declared.Letter.{Letter}
use Rattle.devices.specs.declared.Message.{Message}
use Rattle.devices.specs.declared.Message.TheVariants.{Empty, Request, Answer, Commit}
use Rattle.devices.specs.declared.Accepted.{Accepted}
use Rattle.devices.specs.declared.Accepted.TheVariants.{Done, Round, Committed, Adopted}
use Rattle.devices.specs.declared.Sending.{Sending}
use Rattle.devices.specs.declared.Here.{Here}
use Rattle.devices.specs.declared.Effect.{Effect}
use Rattle.devices.specs.declared.Step.{Step}
use Rattle.devices.specs.declared.Step.TheVariants.{Ask, Advance, Deliver, Lose, Repeat, Stop}
use Rattle.devices.specs.Contents.{merged, brought_by}
use Rattle.devices.specs.Effects.{only, box_of, addressee, is_empty, no_sending, refuse}
use Rattle.rules.specs.Table.{row, in_range}

-- ---- Begin a round (Figure 2, lines 4 to 8)

-- "save; clear the answered boxes" (lines 5 and 6)
abbrev pub asking : Contents → Option Book → Phase
asking c floor =
    Asks (record { config = c.v.config; t = c.t; candidates = c.candidates; answered = 0; floor = floor })

-- "One request goes to each box that is a member of any of them, in box order" (line 8): box b is device b + 8
abbrev pub requests : ℕ → ℕ → Contents → ℕ → Sending
requests tablet round c boxes =
    record { message = Request (record { from = tablet; to = 0; round = round; contents = c }); to = boxes * 2 ^ 8 }

-- "Round plus 1; save; clear the answered boxes", with these contents, floor and listed changes: 9 after round 1,023; 10 where the slots are too few
abbrev pub begun_with : ℕ → Accepted → Option Book → Listed → Contents → ℕ → Here → Result Effect Refusal
begun_with tablet answer floor listed c boxes h =
    pick (ltb 1022 h.tablet.round) (Err LastRound)
    (pick (ltb h.free (how_many 16 boxes)) (Err NoRoom)
    (Ok (record {
      outcome = Ok answer;
      contents = c;
      tablet = record { round = h.tablet.round + 1; phase = asking c floor };
      listed = listed;
      frees = false;
      stops = false;
      sending = requests tablet (h.tablet.round + 1) c boxes;
    })))

-- the same, with the boxes of the queried configurations (line 7)
unfoldable pub begun : ℕ → Accepted → Option Book → Listed → Contents → Here → Result Effect Refusal
begun tablet answer floor listed c h =
    begun_with tablet answer floor listed c (asked_boxes listed c.v.config c.t) h

-- ---- Ask (lines 1 and 2)

-- "Merge the notes and the pair into the tablet, floor unset, begin a round", the pair given as a set of listed changes
unfoldable pub ask_with : ℕ → ℕ → ℕ → Listed → Here → Result Effect Refusal
ask_with tablet own pair listed h =
    begun tablet Done None listed
    (merged listed h.contents (record { v = h.contents.v; candidates = own_notes tablet own; t = pair }))
    h

-- "A pair not contained in the tablet's v and not listed yet is listed, behind the others": 8 for a seventh
unfoldable pub ask_pair : ℕ → ℕ → Config → Here → Result Effect Refusal
ask_pair tablet own pair h =
    pick (config_inside pair h.contents.v.config) (ask_with tablet own 0 h.listed h)
    (pick (ltb (place_of h.listed pair) h.listed.count) (ask_with tablet own (2 ^ place_of h.listed pair) h.listed h)
    (pick (ltb 5 h.listed.count) (Err SeventhChange)
    (ask_with tablet own (2 ^ h.listed.count) (with_change h.listed pair) h)))

-- "4: Ask while asking"
abbrev pub ask_in : ℕ → ℕ → Config → Phase → Here → Result Effect Refusal
ask_in tablet own pair Idle h = ask_pair tablet own pair h
ask_in tablet own pair (Asks a) h = Err Refusal.Asking

-- Ask: 3, 4, 8, 9, 10
unfoldable pub ask : ℕ → ℕ → Config → Here → Result Effect Refusal
ask tablet own pair h = pick h.stopped (Err Stopped) (ask_in tablet own pair h.tablet.phase h)

-- ---- Deliver (lines 16 and 17)

-- what a delivery leaves: "The slot is freed, the addressee merges"
abbrev pub heard : Contents → Tablet → Sending → Here → Effect
heard c tablet sending h =
    record { outcome = Ok Done; contents = c; tablet = tablet; listed = h.listed; frees = true; stops = false; sending = sending }

-- "sends its sender an answer with the box's new contents and the request's round" (line 17)
abbrev pub answer_to : Letter → Contents → Sending
answer_to l c =
    record { message = Answer (record { from = l.to; to = l.from; round = l.round; contents = c }); to = only l.from }

-- "A tablet that is asking marks the box"
abbrev pub marked_in : ℕ → Phase → Phase
marked_in box Idle = Idle
marked_in box (Asks a) =
    Asks (record { config = a.config; t = a.t; candidates = a.candidates; answered = union a.answered box; floor = a.floor })

-- "if the answer's round is its own" (line 9: the responses carry the round of the requests)
abbrev pub of_its_round : Letter → Tablet → Bool
of_its_round l x = eqb l.round x.round

unfoldable pub marked : Letter → Tablet → Tablet
marked l x = pick (of_its_round l x) (record { round = x.round; phase = marked_in (box_of l.from) x.phase }) x

-- Deliver, by what the slot holds: 7, then 3; "a commit is not answered"
unfoldable pub deliver : Message → Here → Result Effect Refusal
deliver Empty h = Err EmptySlot
deliver (Request l) h =
    pick h.stopped (Err Stopped)
    (Ok (heard (merged h.listed h.contents l.contents) h.tablet
    (answer_to l (merged h.listed h.contents l.contents)) h))
deliver (Answer l) h =
    pick h.stopped (Err Stopped) (Ok (heard (merged h.listed h.contents l.contents) (marked l h.tablet) no_sending h))
deliver (Commit n) h =
    pick h.stopped (Err Stopped) (Ok (heard (merged h.listed h.contents (brought_by n.book)) h.tablet no_sending h))

-- ---- Advance (lines 9 to 15)

-- "the candidates with v's configuration joined with T" (lines 11, 13 and 14)
unfoldable pub decided : Here → Book
decided h =
    record { notes = h.contents.candidates; config = joined_with h.listed h.contents.v.config h.contents.t }

-- "Allowed when v's configuration differs from the saved one, or every queried configuration of the saved values has a majority" (line 9)
unfoldable pub allowed : Asking → Here → Bool
allowed a h =
    pick (same_config h.contents.v.config a.config) (every_majority h.listed a.config a.t a.answered) true

-- "If configuration and T equal the saved" (line 10)
unfoldable pub steady : Asking → Here → Bool
steady a h = both (same_config h.contents.v.config a.config) (eqb h.contents.t a.t)

-- "if candidates equal the saved" (line 12)
abbrev pub same_candidates : Asking → Here → Bool
same_candidates a h = same_notes h.contents.candidates a.candidates

-- "set the floor, if unset" (line 11)
abbrev pub or_set : Option Book → Book → Option Book
or_set None b = Some b
or_set (Some f) b = Some f

-- the tablet becomes idle and hands back a book
abbrev pub hands_back : Accepted → Sending → Here → Effect
hands_back answer sending h =
    record {
      outcome = Ok answer;
      contents = h.contents;
      tablet = record { round = h.tablet.round; phase = Idle };
      listed = h.listed;
      frees = false;
      stops = false;
      sending = sending;
    }

-- "as a commit to all 24 devices in order, become idle and hand it back (committed)" (lines 13 and 14): 10 with fewer than 24 free slots
unfoldable pub commit : ℕ → Book → Here → Result Effect Refusal
commit tablet b h =
    pick (ltb h.free 24) (Err NoRoom)
    (Ok (hands_back (Committed b) (record { message = Commit (record { from = tablet; to = 0; book = b }); to = 2 ^ 24 - 1 }) h))

-- "a set floor is contained in v" (line 15)
abbrev pub floor_inside : Option Book → Book → Bool
floor_inside None v = false
floor_inside (Some b) v = book_inside b v

-- "become idle and hand back v (adopted). Otherwise begin a round." (line 15)
unfoldable pub adopt_or : ℕ → Option Book → Here → Result Effect Refusal
adopt_or tablet floor h =
    pick (floor_inside floor h.contents.v) (Ok (hands_back (Adopted h.contents.v) no_sending h))
    (begun tablet (Round (h.tablet.round + 1)) floor h.listed h.contents h)

-- what Advance does where it is allowed: lines 10 to 14 where configuration and T are steady, else line 15 at once
unfoldable pub advance_from : ℕ → Asking → Here → Result Effect Refusal
advance_from tablet a h =
    pick (steady a h)
    (pick (same_candidates a h) (commit tablet (decided h) h) (adopt_or tablet (or_set a.floor (decided h)) h))
    (adopt_or tablet a.floor h)

-- "5: Advance while idle", "6: Advance not allowed yet"
abbrev pub advance_in : ℕ → Phase → Here → Result Effect Refusal
advance_in tablet Idle h = Err Refusal.Idle
advance_in tablet (Asks a) h = pick (allowed a h) (advance_from tablet a h) (Err NotAllowed)

-- Advance: 3, 5, 6, 9, 10
unfoldable pub advance : ℕ → Here → Result Effect Refusal
advance tablet h = pick h.stopped (Err Stopped) (advance_in tablet h.tablet.phase h)

-- ---- Lose, Repeat, Stop

-- what a step leaves that touches no device: the slot freed or not, a device stopped or not, a message sent or not
abbrev pub leaves : Bool → Bool → Sending → Here → Effect
leaves frees stops sending h =
    record {
      outcome = Ok Done;
      contents = h.contents;
      tablet = h.tablet;
      listed = h.listed;
      frees = frees;
      stops = stops;
      sending = sending;
    }

-- "Lose (slot) frees it."
unfoldable pub lose : Message → Here → Result Effect Refusal
lose m h = pick (is_empty m) (Err EmptySlot) (Ok (leaves true false no_sending h))

-- "Repeat (slot) copies it."
unfoldable pub again : Message → Here → Result Effect Refusal
again m h =
    pick (is_empty m) (Err EmptySlot)
    (pick (ltb h.free 1) (Err NoRoom) (Ok (leaves false false (record { message = m; to = only (addressee m) }) h)))

-- "Stop (device): for good."
unfoldable pub stop : Here → Result Effect Refusal
stop h = pick h.stopped (Err Stopped) (Ok (leaves false true no_sending h))

-- ---- One step, with the message of the slot that it names

-- the rule of each step
unfoldable pub ruled : Step → Message → Here → Result Effect Refusal
ruled (Ask tablet own pair) m h = ask tablet own pair h
ruled (Advance tablet) m h = advance tablet h
ruled (Deliver slot) m h = deliver m h
ruled (Lose slot) m h = lose m h
ruled (Repeat slot) m h = again m h
ruled (Stop device) m h = stop h

-- "Order for steps: 1, 2, then ..": proper says that the state is one; 2 where the step names a number out of range
abbrev pub ruled_if : Bool → Step → Message → Here → Result Effect Refusal
ruled_if proper step m h = pick proper (pick (in_range (row step).names) (ruled step m h) (Err OutOfRange)) (Err NoState)

-- the effect of a rule; where it refuses, the parts as they came
abbrev pub or_refused : Here → Result Effect Refusal → Effect
or_refused h (Ok effect) = effect
or_refused h (Err refusal) = refuse refusal h

unfoldable pub effect_of : Bool → Step → Message → Here → Effect
effect_of proper step m h = or_refused h (ruled_if proper step m h)
