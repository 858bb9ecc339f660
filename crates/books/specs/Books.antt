-- Notes, configurations and books: 01, "Books, boxes and containment", sentence by sentence, with the notes of request [1].
use Rattle.std.specs.Prelude.{ℕ, ◌*◌, ◌/◌, ◌%◌, ◌^◌, Bool, eqb, ltb}
use Rattle.sets.specs.Choice.{pick, both}
use Rattle.sets.specs.Sets.{has, union, inside, members}
use Rattle.sets.specs.Majority.{majority_of}
use Rattle.books.specs.declared.Notes.{Notes}
use Rattle.books.specs.declared.Config.{Config}
use Rattle.books.specs.declared.Book.{Book}

-- "Tablet t is to own 16t to 16t+15"; "owner as number divided by 16, rounded down"
abbrev pub owner : ℕ → ℕ
owner note = note / 16

-- the notes 64 k to 64 k + 63 as a set, the lowest of them having weight 1; none beyond the last
abbrev pub notes_part : Notes → ℕ → ℕ
notes_part notes k = pick (eqb k 0) notes.low (pick (eqb k 1) notes.high 0)

-- "a book holds 128", "note n having weight 2^n": the note is among them
abbrev pub has_note : ℕ → Notes → Bool
has_note note notes = has (note % 64) (notes_part notes (note / 64))

-- the notes of a set of 128 bits
abbrev pub notes_of : ℕ → Notes
notes_of set = record { low = set % 2 ^ 64; high = set / 2 ^ 64 }

-- no notes
abbrev pub no_notes : Notes
no_notes = record { low = 0; high = 0 }

-- the tablet's own notes, own bits of which its lowest number has weight 1, at their places among all; a tablet over 7 owns none
unfoldable pub own_notes : ℕ → ℕ → Notes
own_notes tablet own = notes_of (pick (ltb 7 tablet) 0 (own % 2 ^ 16 * 2 ^ (16 * tablet)))

-- "A configuration is two sets of boxes, added and removed": no boxes at all
abbrev pub no_config : Config
no_config = record { added = 0; removed = 0 }

-- "Members are those added and not removed."
abbrev pub members_of : Config → ℕ
members_of c = members c.added c.removed

-- "A book is notes and a configuration": the book of no notes and no boxes
abbrev pub no_book : Book
no_book = record { notes = no_notes; config = no_config }

-- "One contains another when each of the three sets does": a is contained in b, for notes, configurations, books
abbrev pub notes_inside : Notes → Notes → Bool
notes_inside a b = both (inside a.low b.low) (inside a.high b.high)

abbrev pub config_inside : Config → Config → Bool
config_inside a b = both (inside a.added b.added) (inside a.removed b.removed)

abbrev pub book_inside : Book → Book → Bool
book_inside a b = both (notes_inside a.notes b.notes) (config_inside a.config b.config)

-- "Joining is union, set by set": of notes, configurations, books
abbrev pub join_notes : Notes → Notes → Notes
join_notes a b = record { low = union a.low b.low; high = union a.high b.high }

abbrev pub join_configs : Config → Config → Config
join_configs a b = record { added = union a.added b.added; removed = union a.removed b.removed }

abbrev pub join_books : Book → Book → Book
join_books a b = record { notes = join_notes a.notes b.notes; config = join_configs a.config b.config }

-- the same notes, the same configuration
abbrev pub same_notes : Notes → Notes → Bool
same_notes a b = both (eqb a.low b.low) (eqb a.high b.high)

abbrev pub same_config : Config → Config → Bool
same_config a b = both (eqb a.added b.added) (eqb a.removed b.removed)

-- "A majority of a configuration": of its members, these answered
abbrev pub has_majority : Config → ℕ → Bool
has_majority c answered = majority_of c.added c.removed answered
