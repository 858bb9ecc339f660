-- 01, "On both sides of each edge": the edges marked P, the case of "R 2", and the edges of request [1], in one table under one statement
-- (`edges-hold`), each seen by computing the rules themselves.
use Rattle.std.specs.Prelude.{ℕ, ◌+◌, ◌*◌, ◌^◌, Bool, true, false, List, [], ◌∷◌, ◌≡◌, refl, Option, Some, None, Result, Ok, Err}
use Rattle.refusals.specs.declared.Refusal.{Refusal}
use Rattle.refusals.specs.Refusals.{number}
use Rattle.sets.specs.Choice.{pick}
use Rattle.sets.specs.Sets.{inside}
use Rattle.sets.specs.Bounded.{times, each, unions, how_many, those}
use Rattle.sets.specs.Majority.{weigh, one, majority, majority_of}
use Rattle.books.specs.declared.Book.{Book}
use Rattle.books.specs.declared.Config.{Config}
use Rattle.books.specs.declared.Listed.{Listed}
use Rattle.books.specs.declared.Notes.{Notes}
use Rattle.books.specs.Books.{notes_of, own_notes, no_config, members_of, has_majority}
use Rattle.books.specs.Queried.{first_place, place_of, with_change, outside, joined_with, every_majority, asked_boxes}
use Rattle.devices.specs.declared.Accepted.{Accepted}
use Rattle.devices.specs.declared.Accepted.TheVariants.{Round}
use Rattle.devices.specs.declared.Phase.{Phase}
use Rattle.devices.specs.declared.Phase.TheVariants.{Idle, Asks}
use Rattle.devices.specs.declared.Step.{Step}
use Rattle.devices.specs.declared.Step.TheVariants.{Ask, Advance, Deliver}
use Rattle.devices.specs.Contents.{merged}
use Rattle.devices.specs.Effects.{only, copies, refuse}
use Rattle.rules.specs.Rules.{begun, ask_with, ask_pair, ask, marked, deliver, decided, allowed, steady, commit, adopt_or, advance_from, advance, stop, ruled, effect_of}
use Rattle.state.specs.declared.Run.{Run}
use Rattle.state.specs.Slots.{all, many, laid}
use Rattle.state.specs.State.{fresh, all_different, proper_desk, proper}
use Rattle.parlour.specs.Steps.{here_at, applied, taken_if, taken}
use Rattle.parlour.specs.Statements.{device_at, tablet_at}
use Rattle.promise.specs.Promise.{after}
use Rattle.tape.specs.Bits.{bit, odd, bits, num, bits_of, word}
use Rattle.tape.specs.Layout.{fields_allowed, legal, numbers, fields_of, fields_in}
use Rattle.tape.specs.Printed.{stops_box15}
use Rattle.tape.specs.Reading.{begins, step_at, end_at, kind_at, read_at, behind, words_of, read_from, read_steps, boxes_in, first_boxes, head_of, read_in, read_tape}
use Rattle.tape.specs.Writing.{wide}
use Rattle.replay.specs.Replay.{step_of, played}

-- ---- What the rows speak of

-- the words of a tape played one after the other
unfoldable pub played_all : List ℕ → Run → Run
played_all [] r = r
played_all (word ∷ later) r = played_all later (played word r).run

-- the state after the steps of a tape, from a fresh start with its first boxes
abbrev pub state_after : List ℕ → Run
state_after tape = played_all (words_of (read_tape tape)) (fresh (first_boxes tape))

-- a configuration that an asking tablet queries: the boxes that answered, the configuration, its members, and whether it has its majority
pub record Query : Type 0 where
  pub answered : ℕ
  pub config : Config
  pub members : ℕ
  pub majority : Bool

abbrev pub query_of : ℕ → Config → Query
query_of answered config =
    record { answered = answered; config = config; members = members_of config; majority = has_majority config answered }

-- the saved configuration joined with a set of changes, where the tablet is asking and they are of the saved T
abbrev pub queried : Listed → ℕ → Phase → Option Query
queried listed changes Idle = None
queried listed changes (Asks a) =
    pick (inside changes a.t) (Some (query_of a.answered (joined_with listed a.config changes))) None

-- the floor of an asking tablet
abbrev pub floor_of : Phase → Option Book
floor_of Idle = None
floor_of (Asks a) = a.floor

-- what is given, or the number of the refusal
abbrev pub told : {A : Type 0} → Result A Refusal → Result A ℕ
told (Ok given) = Ok given
told (Err refusal) = Err (number refusal)

-- ---- The table

-- a row: boxes added, removed and answered, with the majority's yes or no; a tape, with what reading it gives, or its number; a tape, with the one device that
-- its steps leave stopped; a tape and a device, with the device's candidates then; first boxes, steps, the latest first, a tablet and
-- a set of changes, with what the tablet then queries; the same without changes, with the tablet's floor;
-- or first boxes, a step and the steps before it, the latest first, with what the step gives, or its number
pub data Edge : Type 0 where
  a_majority : ℕ → ℕ → ℕ → Bool → Edge
  a_tape : List ℕ → Result (List ℕ) ℕ → Edge
  a_stop : List ℕ → ℕ → Edge
  a_candidates : List ℕ → ℕ → Notes → Edge
  a_query : ℕ → List Step → ℕ → ℕ → Query → Edge
  a_floor : ℕ → List Step → ℕ → Option Book → Edge
  a_run : ℕ → Step → List Step → Result Accepted ℕ → Edge

-- what a row says
abbrev pub Says : Edge → Type 0
Says (a_majority added removed answered holds) = majority_of added removed answered ≡ holds
Says (a_tape tape outcome) = told (read_tape tape) ≡ outcome
Says (a_stop tape device) = (state_after tape).stopped ≡ only device
Says (a_candidates tape device notes) = (device_at device (state_after tape)).candidates ≡ notes
Says (a_query boxes steps tablet changes query) =
    queried (after boxes steps).listed changes (tablet_at tablet (after boxes steps)).phase ≡ Some query
Says (a_floor boxes steps tablet floor) = floor_of (tablet_at tablet (after boxes steps)).phase ≡ floor
Says (a_run boxes step earlier outcome) = told (taken step (after boxes earlier)).outcome ≡ outcome

-- an ask of tablet 0 that removes box 0 of the one first box, its request heard by the box, and the answer by the tablet
abbrev pub only_box_removed : List Step
only_box_removed = Deliver 0 ∷ Deliver 0 ∷ Ask 0 0 (record { added = 0x0000; removed = 0x0001 }) ∷ []

-- v's own configuration: box 0 answered, and is its majority
abbrev pub own_config : Query
own_config = record { answered = 0x0001; config = record { added = 0x0001; removed = 0x0000 }; members = 0x0001; majority = true }

-- the same with the one listed change: no members, and so no majority
abbrev pub with_removal : Query
with_removal = record { answered = 0x0001; config = record { added = 0x0001; removed = 0x0001 }; members = 0x0000; majority = false }

-- "Tablet 0 asks note 0, tablet 1 asks note 16. Box 0 hears tablet 0 first, and tablet 1 has answers from 0 and 1"
abbrev pub both_asked : List Step
both_asked = Deliver 4 ∷ Deliver 3 ∷ Deliver 4 ∷ Deliver 3 ∷ Deliver 0 ∷ Ask 1 0x0001 no_config ∷ Ask 0 0x0001 no_config ∷ []

-- "the floor holds notes 0 and 16"
abbrev pub both_notes : Book
both_notes = record { notes = notes_of (2 ^ 0 + 2 ^ 16); config = record { added = 0x0007; removed = 0x0000 } }

-- tablet 7 asks its first eight notes by a short Ask; its highest note by a long one
abbrev pub first_eight_asked : List ℕ
first_eight_asked = 0x00 ∷ 0x07 ∷ 0x1f ∷ 0xfc ∷ 0x00 ∷ 0x00 ∷ 0x00 ∷ 0x03 ∷ 0x80 ∷ []

abbrev pub highest_asked : List ℕ
highest_asked = 0x00 ∷ 0x07 ∷ 0xde ∷ 0x00 ∷ 0x00 ∷ 0x00 ∷ 0x00 ∷ 0x00 ∷ 0x03 ∷ 0x80 ∷ []

abbrev pub edges : List Edge
edges =
    -- "1 of 2 members is no majority, 2 of 3 is, 0 of 0 is not"
    a_majority 0x0003 0x0000 0x0001 false
    ∷ a_majority 0x0007 0x0000 0x0005 true
    ∷ a_majority 0x0000 0x0000 0xffff false
    -- "tape `00 07 e0` has no steps; `00 00 e0` is 12; `00 07` is 13; `00 07 e1` and `00 07 e0 00` are 15; `00 07 c0` becomes 13"
    ∷ a_tape (0x00 ∷ 0x07 ∷ 0xe0 ∷ []) (Ok [])
    ∷ a_tape (0x00 ∷ 0x00 ∷ 0xe0 ∷ []) (Err 12)
    ∷ a_tape (0x00 ∷ 0x07 ∷ []) (Err 13)
    ∷ a_tape (0x00 ∷ 0x07 ∷ 0xe1 ∷ []) (Err 15)
    ∷ a_tape (0x00 ∷ 0x07 ∷ 0xe0 ∷ 0x00 ∷ []) (Err 15)
    ∷ a_tape (0x00 ∷ 0x07 ∷ 0xc0 ∷ []) (Err 13)
    -- "`00 07 b7 e0` stops box 15; `00 07 b8 e0` is 14; `00 07 a0` is 13"
    ∷ a_tape (0x00 ∷ 0x07 ∷ 0xb7 ∷ 0xe0 ∷ []) (Ok (stops_box15 ∷ []))
    ∷ a_stop (0x00 ∷ 0x07 ∷ 0xb7 ∷ 0xe0 ∷ []) 23
    ∷ a_tape (0x00 ∷ 0x07 ∷ 0xb8 ∷ 0xe0 ∷ []) (Err 14)
    ∷ a_tape (0x00 ∷ 0x07 ∷ 0xa0 ∷ []) (Err 13)
    -- "A long Ask whose last eight notes are all absent is not a tape step": tablet 0 with own notes 0x0100, and with 0x00ff
    ∷ a_tape (0x00 ∷ 0x07 ∷ 0xc0 ∷ 0x04 ∷ 0x00 ∷ 0x00 ∷ 0x00 ∷ 0x00 ∷ 0x03 ∷ 0x80 ∷ []) (Ok (0xc004000000000000 ∷ []))
    ∷ a_tape (0x00 ∷ 0x07 ∷ 0xc0 ∷ 0x03 ∷ 0xfc ∷ 0x00 ∷ 0x00 ∷ 0x00 ∷ 0x03 ∷ 0x80 ∷ []) (Err 14)
    -- too few bits come first, though the last eight notes are seen to be absent
    ∷ a_tape (0x00 ∷ 0x07 ∷ 0xc0 ∷ 0x03 ∷ 0xfc ∷ 0x00 ∷ 0x00 ∷ 0x00 ∷ []) (Err 13)
    -- "The old Ask stays and means the first eight of the sixteen": notes 112 to 119 of tablet 7
    ∷ a_candidates first_eight_asked 7 (notes_of (0xff * 2 ^ 112))
    -- "Tablet t is to own 16t to 16t+15": note 127 is the highest of tablet 7
    ∷ a_candidates highest_asked 7 (notes_of (2 ^ 127))
    -- "first box 0 only, an ask removing box 0, box 0 answers: Advance is 6, as one queried configuration has no members"
    ∷ a_query 0x0001 only_box_removed 0 0 own_config
    ∷ a_query 0x0001 only_box_removed 0 (2 ^ 0) with_removal
    ∷ a_run 0x0001 (Advance 0) only_box_removed (Err 6)
    -- "its Advance gives R 2", and "the floor holds notes 0 and 16"
    ∷ a_run 0x0007 (Advance 1) both_asked (Ok (Round 2))
    ∷ a_floor 0x0007 (Advance 1 ∷ both_asked) 1 (Some both_notes)
    ∷ []

-- every row holds
abbrev pub Hold : List Edge → Type 0
Hold [] = Unit {0}
Hold (row ∷ rows) = Says row × Hold rows

pub edges-hold : Hold edges
unfolding after taken taken_if applied here_at effect_of ruled ask ask_pair ask_with begun marked deliver decided allowed steady commit adopt_or
    advance_from advance refuse copies merged first_place place_of with_change outside joined_with every_majority asked_boxes times each unions how_many those weigh one majority
    majority_of own_notes fresh all_different proper_desk proper all many laid bit odd bits num bits_of word fields_allowed legal begins step_at end_at
    kind_at read_at read_from read_steps boxes_in head_of read_in played_all played step_of wide numbers fields_of fields_in stop
edges-hold = (refl, (refl, (refl, (refl, (refl, (refl, (refl, (refl, (refl, (refl, (refl, (refl, (refl, (refl, (refl, (refl, (refl, (refl, (refl, (refl, (refl, (refl, (refl, tt)))))))))))))))))))))))
