-- Small cases of 01 and of request [1], computed: one table under one statement.
use Rattle.std.specs.Prelude.{ℕ, ◌-◌, ◌^◌, true, false, ◌≡◌, refl, replicate}
use Rattle.sets.specs.Bounded.{times, each, unions, those}
use Rattle.sets.specs.Majority.{weigh, one, majority, majority_of}
use Rattle.books.specs.declared.Notes.{Notes}
use Rattle.books.specs.declared.Config.{Config}
use Rattle.books.specs.declared.Book.{Book}
use Rattle.books.specs.declared.Listed.{Listed}
use Rattle.books.specs.Books.{has_note, notes_of, no_notes, own_notes, no_config, members_of, book_inside, join_notes, join_books}
use Rattle.books.specs.Queried.{first_place, place_of, with_change, outside, joined_with, every_majority, asked_boxes}

-- own notes of tablets 0 and 1, a configuration, and a book
abbrev noted : ℕ → ℕ → Notes
noted by-0 by-1 = join_notes (own_notes 0 by-0) (own_notes 1 by-1)

abbrev config : ℕ → ℕ → Config
config added removed = record { added = added; removed = removed }

abbrev book : Notes → ℕ → ℕ → Book
book notes added removed = record { notes = notes; config = config added removed }

-- no change is listed; one is: box 0 goes; then a second: box 1 comes and box 0 goes
abbrev none : Listed
none = record { changes = replicate 6 no_config; count = 0 }

unfoldable goes : Listed
goes = with_change none (config 0 0x1)

unfoldable comes : Listed
comes = with_change goes (config 0x2 0x1)

pub record Cases : Type 0 where
  -- "Tablet t is to own 16t to 16t+15": the highest note of tablet 3 and the lowest of tablet 4, on both sides of the parts' edge;
  -- note 127, the highest of tablet 7; a tablet over 7 owns none
  highest_of_3 : own_notes 3 0x8000 ≡ notes_of (2 ^ 63)
  lowest_of_4 : own_notes 4 0x0001 ≡ notes_of (2 ^ 64)
  highest_note : own_notes 7 0x8000 ≡ notes_of (2 ^ 127)
  no_tablet : own_notes 8 0xffff ≡ no_notes
  -- "note n having weight 2^n": note 127 is in the set of 2^127, note 63 is not, and there is no note 128
  has_highest : has_note 127 (notes_of (2 ^ 127)) ≡ true
  has_not : has_note 63 (notes_of (2 ^ 127)) ≡ false
  no_further : has_note 128 (notes_of (2 ^ 128 - 1)) ≡ false
  -- "Members are those added and not removed.": boxes 0, 1, 2 added and box 1 removed
  members_left : members_of (config 0x7 0x2) ≡ 0x5
  -- "Once removed, a number never returns.": box 1 added again
  never_returns : members_of (config 0x2 0x2) ≡ 0
  -- "One contains another when each of the three sets does": each set in its turn is too large, and all are contained
  notes_larger : book_inside (book (noted 0x3 0) 0x7 0) (book (noted 0x1 0x1) 0x7 0x1) ≡ false
  added_larger : book_inside (book (noted 0x1 0) 0xf 0) (book (noted 0x1 0x1) 0x7 0x1) ≡ false
  removed_larger : book_inside (book (noted 0x1 0) 0x7 0x2) (book (noted 0x1 0x1) 0x7 0x1) ≡ false
  contained : book_inside (book (noted 0x1 0) 0x7 0) (book (noted 0x1 0x1) 0x7 0x1) ≡ true
  -- "Joining is union, set by set."
  joined : join_books (book (noted 0x1 0) 0x7 0) (book (noted 0 0x1) 0x8 0x1) ≡ book (noted 0x1 0x1) 0xf 0x1
  -- "is listed, behind the others": the two listed changes are at places 0 and 1, a third is new
  first_place : place_of comes (config 0 0x1) ≡ 0
  second_place : place_of comes (config 0x2 0x1) ≡ 1
  new_place : place_of comes (config 0x4 0) ≡ 2
  -- "T becomes all of both sets not contained in the new v's configuration": box 0 is gone, box 1 has not come
  trimmed : outside comes (config 0x1 0x1) 0x3 ≡ 0x2
  -- "v's joined with every subset of T": with both changes box 1 is the only member
  both_changes : members_of (joined_with comes (config 0x1 0) 0x3) ≡ 0x2
  -- "each box that is a member of any of them": box 0 of v's configuration, box 1 of the one with the second change
  asked : asked_boxes comes (config 0x1 0) 0x2 ≡ 0x3
  -- "first box 0 only, an ask removing box 0, box 0 answers": one queried configuration has no members
  no_members : every_majority goes (config 0x1 0) 0x1 0x1 ≡ false
  -- with no change box 0 is a majority; with the second change box 1 must answer too
  alone : every_majority none (config 0x1 0) 0 0x1 ≡ true
  newest_only : every_majority comes (config 0x1 0) 0x2 0x2 ≡ false
  every_one : every_majority comes (config 0x1 0) 0x2 0x3 ≡ true

pub cases : Cases
unfolding own_notes goes comes with_change place_of first_place outside those joined_with times asked_boxes unions every_majority each majority_of majority weigh one
cases =
    record {
      highest_of_3 = refl;
      lowest_of_4 = refl;
      highest_note = refl;
      no_tablet = refl;
      has_highest = refl;
      has_not = refl;
      no_further = refl;
      members_left = refl;
      never_returns = refl;
      notes_larger = refl;
      added_larger = refl;
      removed_larger = refl;
      contained = refl;
      joined = refl;
      first_place = refl;
      second_place = refl;
      new_place = refl;
      trimmed = refl;
      both_changes = refl;
      asked = refl;
      no_members = refl;
      alone = refl;
      newest_only = refl;
      every_one = refl;
    }
