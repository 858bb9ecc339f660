-- What 01, "Books, boxes and containment", and request [1] say of notes and configurations beside what they are.
use Rattle.std.specs.Prelude.{ℕ, ◌+◌, ◌*◌, ◌^◌, ◌≤◌, ◌<◌, true, false, ◌≡◌}
use Rattle.sets.specs.Choice.{pick}
use Rattle.sets.specs.Sets.{has, shared}
use Rattle.books.specs.declared.Notes.{Notes}
use Rattle.books.specs.declared.Config.{Config}
use Rattle.books.specs.Books.{owner, has_note, notes_of, own_notes, notes_inside, join_notes, members_of, join_configs, has_majority}

-- notes as the code has them: two words of 64
pub record InWords (notes : Notes) : Type 0 where
  pub low : notes.low < 2 ^ 64
  pub high : notes.high < 2 ^ 64

pub record Statements : Type 0 where
  -- "a book holds 128", "note n having weight 2^n": the notes of a set are those in it
  pub weights : (set note : ℕ) → set < 2 ^ 128 → has_note note (notes_of set) ≡ has note set
  -- "Joining is union": a note of joined notes is in one of the two
  pub joined : (note : ℕ) (a b : Notes) → has_note note (join_notes a b) ≡ pick (has_note note a) true (has_note note b)
  -- notes are contained in others exactly where each of them is there
  pub contained : (a b : Notes) → notes_inside a b ≡ true → (note : ℕ) → has_note note a ≡ true → has_note note b ≡ true
  pub each_contained : (a b : Notes) → InWords a → ((note : ℕ) → has_note note a ≡ true → has_note note b ≡ true) → notes_inside a b ≡ true
  -- "Tablet t is to own 16t to 16t+15", its lowest number having weight 1: of its own notes bit k is note 16t + k
  pub own_notes_lem : (tablet own k : ℕ) → tablet ≤ 7 → k < 16 → has_note (16 * tablet + k) (own_notes tablet own) ≡ has k own
  -- and each note among them is the tablet's: "owner as number divided by 16, rounded down"
  pub owned : (tablet own note : ℕ) → has_note note (own_notes tablet own) ≡ true → tablet ≡ owner note
  -- "Once removed, a number never returns": it is no member of whatever the configuration is joined with
  pub never_returns : (c d : Config) (box : ℕ) → has box c.removed ≡ true → has box (members_of (join_configs c d)) ≡ false
  -- "With no members there is never a majority."
  pub no_members : (c : Config) (answered : ℕ) → members_of c ≡ 0 → has_majority c answered ≡ false
  -- "Boxes that answered and are no members count for nothing"
  pub only_members : (c : Config) (answered : ℕ) → has_majority c answered ≡ has_majority c (shared (members_of c) answered)
