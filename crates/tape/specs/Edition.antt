-- What an edition of the tape is, in one value: the fields of each kind of step, the end mark, and the head (01, "The tape"; 02, [1]).
-- Reading, writing and the round trip are stated over any edition. A further edition is one more value here, and a case of `edition_of`.
use Rattle.std.specs.Prelude.{ℕ, ◌+◌, ◌≤◌, ◌≡◌, refl, List, [], ◌∷◌, Bool, true, false, cond, length, take, drop, leb, eqb}
use Rattle.std.proofs.Common.{arith}
use Rattle.tape.specs.Bits.{num}
use Rattle.tape.specs.declared.edition.Mark.{Mark}
use Rattle.tape.specs.declared.edition.Head.{Head}
use Rattle.tape.specs.declared.edition.Edition.{Edition as InCode}
use Rattle.tape.specs.declared.edition.Edition.TheVariants as E

-- a field: how many bits it has, and the numbers it may hold
pub record Field : Type 0 where
  pub width : ℕ
  pub least : ℕ
  pub most : ℕ

abbrev pub field : ℕ → ℕ → ℕ → Field
field w a b = record { width = w; least = a; most = b }

-- the bits of some fields
abbrev pub span : List Field → ℕ
span [] = 0
span (x ∷ xs) = x.width + span xs

-- "each a 3-bit kind and its fields": the bits of a step with its kind; 0 for no step
abbrev pub step_width : List Field → ℕ
step_width [] = 0
step_width (x ∷ xs) = 3 + span (x ∷ xs)

-- a step takes 6 to 54 bits, so that the reader's window of eight bytes holds it wherever it stands
abbrev pub fits : List Field → Bool
fits xs = cond (eqb (step_width xs) 0) true (cond (leb 6 (step_width xs)) (leb (step_width xs) 54) false)

-- a test that every row of a table passes
abbrev pub every : (List Field → Bool) → List (List Field) → Bool
every test [] = true
every test (x ∷ xs) = cond (test x) (every test xs) false

pub record Edition : Type 0 where
  -- the fields of the steps of each kind, from kind 0 on
  pub rows : List (List Field)
  -- the bits that end a tape: a kind, and in some editions more
  pub mark : List Bool
  -- the bit at which the 16-bit set of first boxes begins
  pub boxes_at : ℕ
  -- how many bits stand before the steps
  pub head : ℕ
  -- what the reader and the writer need of them
  pub rows_fit : every fits rows ≡ true
  pub mark_least : 3 ≤ length mark
  pub mark_most : length mark ≤ 6
  pub boxes_inside : boxes_at + 16 ≤ head
  pub head_most : head ≤ 80

-- ---- The first edition

-- "tablet 3": 0 to 7
abbrev tablet : Field
tablet = field 3 0 7

-- "own notes 8", which are "the first eight of the sixteen"
abbrev first_eight : Field
first_eight = field 8 0 255

-- "16 notes": "A long Ask whose last eight notes are all absent", which makes a number below 256, "is not a tape step"
abbrev sixteen : Field
sixteen = field 16 256 65535

-- "added 16", "removed 16"
abbrev boxes : Field
boxes = field 16 0 65535

-- "slot 7": 0 to 127
abbrev slot : Field
slot = field 7 0 127

-- "device 5": 0 to 23; "device 24 to 31" is 14
abbrev device : Field
device = field 5 0 23

-- Ask, Advance, Deliver, Lose, Repeat, Stop, and as kind 6 "a long Ask of 54 bits with 16 notes"; "Kind 7 ends it";
-- "First the 16-bit set of first boxes, then steps"
abbrev pub first_edition : Edition
first_edition = record {
  rows =
      (tablet ∷ first_eight ∷ boxes ∷ boxes ∷ [])
      ∷ (tablet ∷ [])
      ∷ (slot ∷ [])
      ∷ (slot ∷ [])
      ∷ (slot ∷ [])
      ∷ (device ∷ [])
      ∷ (tablet ∷ sixteen ∷ boxes ∷ boxes ∷ [])
      ∷ [];
  mark = true ∷ true ∷ true ∷ [];
  boxes_at = 0;
  head = 16;
  rows_fit = refl;
  mark_least = omega arith;
  mark_most = omega arith;
  boxes_inside = omega arith;
  head_most = omega arith;
}

-- ---- As the code has it

-- the edition of each case of the code's enum
abbrev pub edition_of : InCode → Edition
edition_of E.First = first_edition

-- the end mark: its kind, the bits behind that, and the whole of it
abbrev pub mark_in : Edition → Mark
mark_in ed = record { kind = num (take 3 ed.mark); rest = num (drop 3 ed.mark); number = num ed.mark; width = length ed.mark }

-- where the first boxes stand, and where the steps begin
abbrev pub head_in : Edition → Head
head_in ed = record { boxes = ed.boxes_at; width = ed.head }
