-- How the parlour reads as a setting of the agreement argument (`parlour`): notes and configurations joined by union, a majority of the
-- members as quorum, a set of places in the list of changes as the list of the changes that stand there (`as_changes`).
-- A tablet is its device number; a box is its number, that is the device's less 8.
use Prim.Native.Nat.{ℕ, zero, suc}
use mathlib.Core.Bool.{Bool, true, false, true≢false}
use mathlib.Core.Path.{◌≡◌, refl, sym, ◌∙◌}
use mathlib.Core.List.{List, [], ◌∷◌}
use Rattle.std.specs.Prelude.{Option, Some, None}
use Rattle.sets.specs.Choice.{pick}
use Rattle.sets.specs.Sets.{digit, has}
use Rattle.books.specs.declared.Notes.{Notes}
use Rattle.books.specs.declared.Config.{Config}
use Rattle.books.specs.declared.Book.{Book}
use Rattle.books.specs.declared.Listed.{Listed}
use Rattle.books.specs.Books.{config_inside, join_notes, join_configs, notes_inside, book_inside, has_majority}
use Rattle.books.specs.Queried.{change_at}
use Rattle.books.proofs.NoteLaws.{notes-joined}
use Rattle.books.proofs.BookLaws.{configs-joined, majorities-share, book-parts-inside, parts-book-inside}
use Rattle.devices.specs.declared.Contents.{Contents}
use Rattle.agreement.specs.Lattice.{Semilattice, AtMost}
use Rattle.agreement.specs.Setting.{Setting, Contained, Book as AbstractBook, Contents as AbstractContents}
use Rattle.agreement.proofs.Changes.{Parts, setting}

-- ---- The setting

abbrev pub joined_notes : Semilattice Notes
joined_notes = record { join = join_notes; associative = notes-joined.assoc; commutative = notes-joined.comm; idempotent = notes-joined.idem }

abbrev pub joined_configs : Semilattice Config
joined_configs =
    record { join = join_configs; associative = configs-joined.assoc; commutative = configs-joined.comm; idempotent = configs-joined.idem }

-- containment, as a test and as the order of the argument
notes-at-most : {a b : Notes} → notes_inside a b ≡ true → AtMost joined_notes a b
notes-at-most {a} {b} h = record { absorbed = notes-joined.inside_eq a b h }

at-most-notes : {a b : Notes} → AtMost joined_notes a b → notes_inside a b ≡ true
at-most-notes {a} {b} h = notes-joined.eq_inside a b h.absorbed

pub config-at-most : {a b : Config} → config_inside a b ≡ true → AtMost joined_configs a b
config-at-most {a} {b} h = record { absorbed = configs-joined.inside_eq a b h }

at-most-config : {a b : Config} → AtMost joined_configs a b → config_inside a b ≡ true
at-most-config {a} {b} h = configs-joined.eq_inside a b h.absorbed

pub at-most? : (a b : Config) → Dec (AtMost joined_configs a b)
at-most? a b = go (config_inside a b) refl
  where
    go : (t : Bool) → config_inside a b ≡ t → Dec (AtMost joined_configs a b)
    go true e = yes (config-at-most e)
    go false e = no (λ h. true≢false (sym (at-most-config h) ∙ e))

abbrev pub parts : Parts
parts =
    record {
      Tablet = ℕ;
      Box = ℕ;
      Notes = Notes;
      notes = joined_notes;
      Configuration = Config;
      configurations = joined_configs;
      at-most? = at-most?;
      Boxes = ℕ;
      BoxIn = λ box boxes. digit box boxes ≡ 1;
      Quorum = λ c answered. has_majority c answered ≡ true;
      quorums_meet = λ c a b p q. let m = majorities-share c a b p q in (m.box, m.left, m.right);
    }

abbrev pub parlour : Setting
parlour = setting parts

-- ---- What a device keeps

abbrev pub as_book : Book → AbstractBook parlour
as_book b = record { notes = b.notes; configuration = b.config }

abbrev pub of_book : AbstractBook parlour → Book
of_book b = record { notes = b.notes; config = b.configuration }

-- the changes at the places below k that a set names
unfoldable pub changes_below : Listed → ℕ → ℕ → List Config
changes_below listed t zero = []
changes_below listed t (suc k) = pick (has k t) (change_at listed k ∷ changes_below listed t k) (changes_below listed t k)

abbrev pub as_changes : Listed → ℕ → List Config
as_changes listed t = changes_below listed t 6

abbrev pub as_contents : Listed → Contents → AbstractContents parlour
as_contents listed c = record { committed = as_book c.v; candidates = c.candidates; changes = as_changes listed c.t }

abbrev pub as_floor : Option Book → Option (AbstractBook parlour)
as_floor None = None
as_floor (Some b) = Some (as_book b)

-- ---- Containment of books

pub book-contained : (a b : Book) → book_inside a b ≡ true → Contained (as_book a) (as_book b)
book-contained a b h =
    let p = book-parts-inside a b h in
    record { notes = notes-at-most p.0; configuration = config-at-most p.1 }

pub contained-book : {a b : AbstractBook parlour} → Contained a b → book_inside (of_book a) (of_book b) ≡ true
contained-book {a} {b} h = parts-book-inside (of_book a) (of_book b) (at-most-notes h.notes) (at-most-config h.configuration)
